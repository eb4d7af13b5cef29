-- The cells of values drive the wires of their piece in order, each one once.
use Rattle.std.proofs.Common.{◌≡◌, ℕ, zero, suc, ◌+◌, ◌-◌, ◌^◌, min, Bool, arith, List, [], ◌∷◌, ◌++◌, length, refl, sym, ap, ◌∙◌, length-append}
use Rattle.std.specs.Prelude.{flat_map}
use Rattle.std.proofs.lemmas.Grind.{flat_map-append}
use Rattle.chw_base.specs.declared.index.WireId.{WireId}
use Rattle.chw_types.specs.declared.kind.Scalar.{Scalar}
use Rattle.chw_types.specs.declared.kind.Scalar.TheVariants.{U, S, B}
use Rattle.chw_types.specs.TypeTree.{TypeTree}
use Rattle.chw_prims.specs.declared.prim.Primitive.{Primitive as Prim}
use Rattle.chw_prims.specs.declared.prim.Primitive.TheVariants.{AddU, AddS, SubU, SubS, MulU, MulS, XaddU, XaddS, XmulU, XmulS, AndU, AndS, AndB, OrU, OrS, OrB, XorU, XorS, XorB, NotU, NotS, NotB, ShlU, ShlS, ShlB, ShrU, ShrS, ShrB, EqU, EqS, EqB, LtU as PrimLtU, LtS as PrimLtS, ExtU, ExtS, ExtB, TruncU, TruncS, TruncB, Slice, Join as PrimJoin, RedAnd as PrimRedAnd, RedOr as PrimRedOr, RedXor as PrimRedXor, PackU, PackS, UnpackU, UnpackS}
use Rattle.chw_terms.specs.TermTree.{TermTree, var}
use Rattle.chw_layout.specs.Measured.{closed_value}
use Rattle.netlist.specs.Wires.{driven}
use Rattle.netlist.specs.declared.net.Cell.{Cell}
use Rattle.netlist.specs.declared.net.Op1.{Op1}
use Rattle.netlist.specs.declared.net.Op1.TheVariants.{RedAnd, RedOr, RedXor}
use Rattle.netlist.specs.declared.net.Op2.{Op2}
use Rattle.netlist.specs.declared.net.Op2.TheVariants.{Add, Sub, Mul, And, Or, Xor, Eq, LtU, LtS, Shl, Shr, Sar}
use Rattle.net_built.specs.Bodies.{ValueCells, value_variable, value_literal, value_constructor, value_vector, value_primitive, value_element, value_element_at, value_call}
use Rattle.net_built.specs.Circuits.{Ground, used}
use Rattle.net_built.specs.Data.{constructed, test, tests, choices}
use Rattle.net_built.specs.InOrder.{DrivesInOrder}
use Rattle.net_built.specs.Terms.{Variable, wires_at}
use Rattle.net_built.specs.Vectors.{element, elements, words_from, element_at}
use Rattle.net_built.specs.Wires.{wire, wires_from, wire_count, Piece, nothing, one, ◌▸◌, after, copy_cells, copies}
use Rattle.net_built.specs.Words.{binary, compared, shifted, reduced, extended, widened, word_cells}

-- as a record, so that pieces are found from their proofs
record Ordered (n : ℕ) (p : Piece) : Type 0 where
  pub drives : DrivesInOrder n p

none_ordered : {n : ℕ} → Ordered n nothing
none_ordered = record { drives = refl }

wires_more : (n a b : ℕ) → wires_from n (a + b) ≡ wires_from n a ++ wires_from (n + a) b
wires_more n zero b = let e : n ≡ n + 0 = omega arith in let f : 0 + b ≡ b = omega arith in λ i. wires_from (e i) (f i)
wires_more n (suc a) b =
    let e : suc a + b ≡ suc (a + b) = omega arith in
    let f : n + 1 + a ≡ n + suc a = omega arith in
    ap (λ k. wires_from n k) e ∙ ap (λ ws. wire n ∷ ws) (wires_more (n + 1) a b ∙ ap (λ k. wires_from (n + 1) a ++ wires_from k b) f)

then_ordered : (n : ℕ) (p q : Piece) → Ordered n p → Ordered (after n p) q → Ordered n (p ▸ q)
then_ordered n p q h k = record {
  drives =
      flat_map-append driven p.cells q.cells ∙ (λ i. h.drives i ++ k.drives i) ∙ sym (wires_more n (length p.widths) (length q.widths)) ∙ ap (λ k. wires_from n k) (sym (length-append p.widths q.widths));
}

one_ordered : (n w : ℕ) (cell : Cell) → driven cell ≡ wire n ∷ [] → Ordered n (one w cell)
one_ordered n zero cell h = record { drives = refl }
one_ordered n (suc w) cell h = record { drives = ap (λ ws. ws ++ []) h }

binary_ordered : (op : Op2) (n at : ℕ) (a b : List WireId) → Ordered at (binary op n at a b)
binary_ordered op n at a b = one_ordered at n _ refl

compared_ordered : (op : Op2) (n at : ℕ) (a b : List WireId) → Ordered at (compared op n at a b)
compared_ordered op zero at a b = one_ordered at 1 _ refl
compared_ordered op (suc n) at a b = one_ordered at 1 _ refl

shifted_ordered : (op : Op2) (n k at : ℕ) (a b : List WireId) → Ordered at (shifted op n k at a b)
shifted_ordered op n zero at a b = one_ordered at n _ refl
shifted_ordered op n (suc k) at a b = one_ordered at n _ refl

reduced_ordered : (op : Op1) (n at : ℕ) (a : List WireId) → Ordered at (reduced op n at a)
reduced_ordered op zero at a = one_ordered at 1 _ refl
reduced_ordered op (suc n) at a = one_ordered at 1 _ refl

extended_ordered : (x : Scalar) (n m at : ℕ) (a : List WireId) → Ordered at (extended x n m at a)
extended_ordered x n zero at a = one_ordered at n _ refl
extended_ordered x zero (suc m) at a = one_ordered at (suc m) _ refl
extended_ordered U (suc n) (suc m) at a = then_ordered at _ _ (one_ordered at (suc m) _ refl) (one_ordered (at + 1) (suc n + suc m) _ refl)
extended_ordered S (suc n) (suc m) at a = then_ordered at _ _ (one_ordered at 1 _ refl) (one_ordered (at + 1) (suc n + suc m) _ refl)
extended_ordered B (suc n) (suc m) at a = then_ordered at _ _ (one_ordered at (suc m) _ refl) (one_ordered (at + 1) (suc n + suc m) _ refl)

widened_ordered : (x : Scalar) (op : Op2) (w n k at : ℕ) (a b : List WireId) → Ordered at (widened x op w n k at a b)
widened_ordered x op w n k at a b =
    let p : Piece = extended x n (w - n) at a in
    let q : Piece = extended x k (w - k) (after at p) b in
    then_ordered at p _ (extended_ordered x n (w - n) at a) (then_ordered (after at p) q _ (extended_ordered x k (w - k) (after at p) b) (one_ordered (after (after at p) q) w _ refl))

words_ordered : (p : Prim) (n m at : ℕ) (a b : List WireId) → Ordered at (word_cells p n m at a b)
words_ordered AddU n m at a b = binary_ordered Add n at a b
words_ordered AddS n m at a b = binary_ordered Add n at a b
words_ordered SubU n m at a b = binary_ordered Sub n at a b
words_ordered SubS n m at a b = binary_ordered Sub n at a b
words_ordered MulU n m at a b = binary_ordered Mul n at a b
words_ordered MulS n m at a b = binary_ordered Mul n at a b
words_ordered XaddU n m at a b = widened_ordered U Add (n + 1) n n at a b
words_ordered XaddS n m at a b = widened_ordered S Add (n + 1) n n at a b
words_ordered XmulU n m at a b = widened_ordered U Mul (n + m) n m at a b
words_ordered XmulS n m at a b = widened_ordered S Mul (n + m) n m at a b
words_ordered AndU n m at a b = binary_ordered And n at a b
words_ordered AndS n m at a b = binary_ordered And n at a b
words_ordered AndB n m at a b = binary_ordered And n at a b
words_ordered OrU n m at a b = binary_ordered Or n at a b
words_ordered OrS n m at a b = binary_ordered Or n at a b
words_ordered OrB n m at a b = binary_ordered Or n at a b
words_ordered XorU n m at a b = binary_ordered Xor n at a b
words_ordered XorS n m at a b = binary_ordered Xor n at a b
words_ordered XorB n m at a b = binary_ordered Xor n at a b
words_ordered NotU n m at a b = one_ordered at n _ refl
words_ordered NotS n m at a b = one_ordered at n _ refl
words_ordered NotB n m at a b = one_ordered at n _ refl
words_ordered ShlU n m at a b = shifted_ordered Shl n m at a b
words_ordered ShlS n m at a b = shifted_ordered Shl n m at a b
words_ordered ShlB n m at a b = shifted_ordered Shl n m at a b
words_ordered ShrU n m at a b = shifted_ordered Shr n m at a b
words_ordered ShrS n m at a b = shifted_ordered Sar n m at a b
words_ordered ShrB n m at a b = shifted_ordered Shr n m at a b
words_ordered EqU n m at a b = compared_ordered Eq n at a b
words_ordered EqS n m at a b = compared_ordered Eq n at a b
words_ordered EqB n m at a b = compared_ordered Eq n at a b
words_ordered PrimLtU n m at a b = compared_ordered LtU n at a b
words_ordered PrimLtS n m at a b = compared_ordered LtS n at a b
words_ordered ExtU n m at a b = extended_ordered U n m at a
words_ordered ExtS n m at a b = extended_ordered S n m at a
words_ordered ExtB n m at a b = extended_ordered B n m at a
words_ordered TruncU n m at a b = one_ordered at n _ refl
words_ordered TruncS n m at a b = one_ordered at n _ refl
words_ordered TruncB n m at a b = one_ordered at n _ refl
words_ordered Slice l n at a b = one_ordered at n _ refl
words_ordered PrimJoin n m at a b = one_ordered at (n + m) _ refl
words_ordered PrimRedAnd n m at a b = reduced_ordered RedAnd n at a
words_ordered PrimRedOr n m at a b = reduced_ordered RedOr n at a
words_ordered PrimRedXor n m at a b = reduced_ordered RedXor n at a
words_ordered PackU n m at a b = one_ordered at n _ refl
words_ordered PackS n m at a b = one_ordered at n _ refl
words_ordered UnpackU n m at a b = one_ordered at n _ refl
words_ordered UnpackS n m at a b = one_ordered at n _ refl
words_ordered _ n m at a b = none_ordered

constructed_ordered : (tag number fields w at : ℕ) (wires : List WireId) → Ordered at (constructed tag number fields w at wires)
constructed_ordered tag number fields w at wires =
    then_ordered at _ _ (one_ordered at tag _ refl) (then_ordered _ _ _ (one_ordered _ (w - (tag + fields)) _ refl) (one_ordered _ w _ refl))

elements_ordered : (w count at : ℕ) (v : List WireId) → Ordered at (elements w count at v)
elements_ordered w zero at v = none_ordered
elements_ordered w (suc behind) at v = then_ordered at (element w behind at v) _ (one_ordered at w _ refl) (elements_ordered w behind (after at (element w behind at v)) v)

test_ordered : (k : ℕ) (a : List WireId) (bits : List Bool) (at : ℕ) → Ordered at (test k a bits at)
test_ordered zero a bits at = one_ordered at 1 _ refl
test_ordered (suc k) a bits at = then_ordered at _ _ (one_ordered at (suc k) _ refl) (one_ordered (at + 1) 1 _ refl)

tests_ordered : (k : ℕ) (a : List WireId) (words : List (List Bool)) (at : ℕ) → Ordered at (tests k a words at)
tests_ordered k a [] at = none_ordered
tests_ordered k a (bits ∷ more) at = then_ordered at (test k a bits at) _ (test_ordered k a bits at) (tests_ordered k a more (after at (test k a bits at)))

nothing_ordered : (xs : List (WireId × WireId)) (other : WireId) (at n : ℕ) → flat_map driven (choices zero xs other at).cells ≡ wires_from n (length (choices zero xs other at).widths)
nothing_ordered [] other at n = refl
nothing_ordered (x ∷ xs) other at n = nothing_ordered xs (wire at) (at + 1) n

choices_ordered : (w : ℕ) (xs : List (WireId × WireId)) (other : WireId) (at : ℕ) → Ordered at (choices w xs other at)
choices_ordered w [] other at = none_ordered
choices_ordered zero (x ∷ xs) other at = record { drives = nothing_ordered xs (wire at) (at + 1) at }
choices_ordered (suc w) (x ∷ xs) other at = then_ordered at _ _ (one_ordered at (suc w) _ refl) (choices_ordered (suc w) xs (wire at) (at + 1))

element_at_ordered : (w n k at : ℕ) (v i : List WireId) → Ordered at (element_at w n k at v i)
element_at_ordered w n k at v i =
    let words : List (List Bool) = words_from k 0 (min n (2 ^ k)) in
    let p : Piece = elements w (n + 1) at v in
    let q : Piece = tests k i words (after at p) in
    then_ordered at p _ (elements_ordered w (n + 1) at v) (then_ordered (after at p) q _ (tests_ordered k i words (after at p)) (choices_ordered w _ _ (after (after at p) q)))

append_nothing : {A : Type 0} (xs : List A) → xs ++ [] ≡ xs
append_nothing [] = refl
append_nothing (x ∷ xs) = ap (λ ys. x ∷ ys) (append_nothing xs)

used_ordered : (ground : Ground) (m at : ℕ) (reads : List WireId) (widths : List ℕ) → Ordered at (used ground m at reads widths)
used_ordered ground m at reads [] = record { drives = refl }
used_ordered ground m at reads (zero ∷ widths) = record { drives = (used_ordered ground m at reads widths).drives }
used_ordered ground m at reads (suc w ∷ widths) = record { drives = append_nothing (wires_from at (wire_count (suc w ∷ widths))) }

copy_cells_drive : (n : ℕ) (wires : List WireId) → flat_map driven (copy_cells n wires) ≡ wires_from n (length wires)
copy_cells_drive n [] = refl
copy_cells_drive n (a ∷ wires) = ap (λ ws. wire n ∷ ws) (copy_cells_drive (n + 1) wires)

copies_ordered : (n : ℕ) (wires : List WireId) (widths : List ℕ) → length wires ≡ wire_count widths → Ordered n (copies n wires widths)
copies_ordered n wires widths e = record { drives = copy_cells_drive n wires ∙ ap (λ k. wires_from n k) e }

value_cells_ordered : {ground : Ground} {scope : List Variable} {n w : ℕ} {h : TermTree} {ts : List TypeTree} {es : List TermTree} {p : Piece} → ((x : ℕ) → h ≡ var x → length (wires_at scope x) ≡ wire_count (w ∷ [])) → ValueCells ground scope n w h ts es p → Ordered n p
value_cells_ordered {scope = scope} {n = n} {w = w} fits (value_variable {x = x}) = copies_ordered n (wires_at scope x) (w ∷ []) (fits x refl)
value_cells_ordered {n = n} {w = w} fits value_literal = one_ordered n w _ refl
value_cells_ordered {n = n} {w = w} fits (value_constructor i f) = constructed_ordered _ _ _ w n _
value_cells_ordered {n = n} {w = w} fits value_vector = one_ordered n w _ refl
value_cells_ordered {n = n} fits (value_primitive {p = p} k) = words_ordered p _ _ n _ _
value_cells_ordered {n = n} {w = w} fits value_element = one_ordered n w _ refl
value_cells_ordered {n = n} {w = w} fits (value_element_at {m = m} {k = k}) = element_at_ordered w (closed_value m) (closed_value k) n _ _
value_cells_ordered {ground = ground} {n = n} {w = w} fits (value_call {m = m}) = used_ordered ground m n _ (w ∷ [])

pub value_ordered : {ground : Ground} {scope : List Variable} {n w : ℕ} {h : TermTree} {ts : List TypeTree} {es : List TermTree} {p : Piece} → ((x : ℕ) → h ≡ var x → length (wires_at scope x) ≡ wire_count (w ∷ [])) → ValueCells ground scope n w h ts es p → DrivesInOrder n p
value_ordered fits cells = (value_cells_ordered fits cells).drives
