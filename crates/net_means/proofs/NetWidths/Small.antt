-- The widths of the wires of pieces are within the limit.
use Rattle.std.specs.Prelude.{nat_lt, if◌then◌else◌}
use Rattle.std.proofs.Common.{ℕ, zero, suc, ◌+◌, ◌-◌, ◌≤◌, ◌==◌, ◌^◌, min, arith, Bool, true, false, List, [], ◌∷◌, ◌++◌}
use Rattle.std.specs.List.{AllByRecursion}
use Rattle.chw_base.specs.declared.index.DomId.{DomId}
use Rattle.chw_base.specs.declared.index.WireId.{WireId}
use Rattle.chw_base.specs.declared.limits.TheConstants.{ADDRESS_BITS, WIRE_BITS}
use Rattle.chw_types.specs.declared.kind.Scalar.{Scalar}
use Rattle.chw_types.specs.declared.kind.Scalar.TheVariants.{U, S, B}
use Rattle.chw_prims.specs.declared.prim.Primitive.{Primitive as Prim}
use Rattle.chw_prims.specs.declared.prim.Primitive.TheVariants.{AddU, AddS, SubU, SubS, MulU, MulS, XaddU, XaddS, XmulU, XmulS, AndU, AndS, AndB, OrU, OrS, OrB, XorU, XorS, XorB, NotU, NotS, NotB, ShlU, ShlS, ShlB, ShrU, ShrS, ShrB, EqU, EqS, EqB, LtU as PrimLtU, LtS as PrimLtS, ExtU, ExtS, ExtB, TruncU, TruncS, TruncB, Slice, Join as PrimJoin, RedAnd as PrimRedAnd, RedOr as PrimRedOr, RedXor as PrimRedXor, PackU, PackS, UnpackU, UnpackS}
use Rattle.chw_prims.specs.Schemas.{row_of}
use Rattle.rewriting.specs.Spots.{IsOnWords}
use Rattle.netlist.specs.Sound.{IsWireWidth}
use Rattle.netlist.specs.declared.net.Op1.{Op1}
use Rattle.netlist.specs.declared.net.Op1.TheVariants.{RedAnd, RedOr, RedXor}
use Rattle.netlist.specs.declared.net.Op2.{Op2}
use Rattle.netlist.specs.declared.net.Op2.TheVariants.{Add, Mul, Eq, LtU, LtS, Shl, Shr, Sar}
use Rattle.net_built.specs.Data.{constructed, field_cuts, test, tests, test_wires, choices, chosen}
use Rattle.net_built.specs.Memories.{address, filled_up, narrowed, memory}
use Rattle.net_built.specs.Vectors.{element, elements, element_wires, words_from, element_at}
use Rattle.net_built.specs.Wires.{wire, present, wire_count, Piece, nothing, after}
use Rattle.net_built.specs.Words.{compared, shifted, reduced, extended, widened, word_cells}
use Rattle.net_means.proofs.NetFits.Reading.{all_append}
use Rattle.net_means.proofs.NetFits.Rows.{given_width}

-- a part may be so wide
abbrev pub IsPart : ℕ → Type 0
IsPart w = w ≤ WIRE_BITS

-- wires may have these widths; as a record, so that they are found from their proofs
pub record Small (ws : List ℕ) : Type 0 where
  pub each : AllByRecursion IsWireWidth ws

pub none_small : Small []
none_small = record { each = tt }

pub then_small : (xs ys : List ℕ) → Small xs → Small ys → Small (xs ++ ys)
then_small xs ys h k = record { each = all_append IsWireWidth xs ys h.each k.each }

pub parts_small : (ws : List ℕ) → AllByRecursion IsPart ws → Small (present ws)
parts_small [] h = none_small
parts_small (zero ∷ ws) h = parts_small ws h.1
parts_small (suc w ∷ ws) h = record { each = ((omega arith, h.0), (parts_small ws h.1).each) }

pub one_small : (w : ℕ) → IsPart w → Small (present (w ∷ []))
one_small w l = parts_small (w ∷ []) (l, tt)

compared_small : (op : Op2) (n at : ℕ) (a b : List WireId) → Small (compared op n at a b).widths
compared_small op zero at a b = one_small 1 (omega arith)
compared_small op (suc n) at a b = one_small 1 (omega arith)

shifted_small : (op : Op2) (n k at : ℕ) (a b : List WireId) → IsPart n → Small (shifted op n k at a b).widths
shifted_small op n zero at a b l = one_small n l
shifted_small op n (suc k) at a b l = one_small n l

reduced_small : (op : Op1) (n at : ℕ) (a : List WireId) → Small (reduced op n at a).widths
reduced_small op zero at a = one_small 1 (omega arith)
reduced_small op (suc n) at a = one_small 1 (omega arith)

extended_small : (x : Scalar) (n m at : ℕ) (a : List WireId) → IsPart (n + m) → Small (extended x n m at a).widths
extended_small x n zero at a l = one_small n (omega (arith, l))
extended_small x zero (suc m) at a l = one_small (suc m) (omega (arith, l))
extended_small U (suc n) (suc m) at a l = then_small (suc m ∷ []) (present ((suc n + suc m) ∷ [])) (one_small (suc m) (omega (arith, l))) (one_small (suc n + suc m) l)
extended_small B (suc n) (suc m) at a l = then_small (suc m ∷ []) (present ((suc n + suc m) ∷ [])) (one_small (suc m) (omega (arith, l))) (one_small (suc n + suc m) l)
extended_small S (suc n) (suc m) at a l = then_small (1 ∷ []) (present ((suc n + suc m) ∷ [])) (one_small 1 (omega arith)) (one_small (suc n + suc m) l)

widened_small : (x : Scalar) (op : Op2) (w n k at : ℕ) (a b : List WireId) → n ≤ w → k ≤ w → IsPart w → Small (widened x op w n k at a b).widths
widened_small x op w n k at a b nl kl l =
    let p : Piece = extended x n (w - n) at a in
    let q : Piece = extended x k (w - k) (after at p) b in
    then_small p.widths (q.widths ++ present (w ∷ [])) (extended_small x n (w - n) at a (omega (arith, nl, l)))
    (then_small q.widths (present (w ∷ [])) (extended_small x k (w - k) (after at p) b (omega (arith, kl, l))) (one_small w l))

-- a primitive's, where its result may be so wide
pub words_small : (q : Prim) → IsOnWords q → (n m at : ℕ) (a b : List WireId) → IsPart (given_width (row_of q) n m) → Small (word_cells q n m at a b).widths
words_small AddU on n m at a b l = one_small n l
words_small AddS on n m at a b l = one_small n l
words_small SubU on n m at a b l = one_small n l
words_small SubS on n m at a b l = one_small n l
words_small MulU on n m at a b l = one_small n l
words_small MulS on n m at a b l = one_small n l
words_small XaddU on n m at a b l = widened_small U Add (n + 1) n n at a b (omega arith) (omega arith) l
words_small XaddS on n m at a b l = widened_small S Add (n + 1) n n at a b (omega arith) (omega arith) l
words_small XmulU on n m at a b l = widened_small U Mul (n + m) n m at a b (omega arith) (omega arith) l
words_small XmulS on n m at a b l = widened_small S Mul (n + m) n m at a b (omega arith) (omega arith) l
words_small AndU on n m at a b l = one_small n l
words_small AndS on n m at a b l = one_small n l
words_small AndB on n m at a b l = one_small n l
words_small OrU on n m at a b l = one_small n l
words_small OrS on n m at a b l = one_small n l
words_small OrB on n m at a b l = one_small n l
words_small XorU on n m at a b l = one_small n l
words_small XorS on n m at a b l = one_small n l
words_small XorB on n m at a b l = one_small n l
words_small NotU on n m at a b l = one_small n l
words_small NotS on n m at a b l = one_small n l
words_small NotB on n m at a b l = one_small n l
words_small ShlU on n m at a b l = shifted_small Shl n m at a b l
words_small ShlS on n m at a b l = shifted_small Shl n m at a b l
words_small ShlB on n m at a b l = shifted_small Shl n m at a b l
words_small ShrU on n m at a b l = shifted_small Shr n m at a b l
words_small ShrS on n m at a b l = shifted_small Sar n m at a b l
words_small ShrB on n m at a b l = shifted_small Shr n m at a b l
words_small EqU on n m at a b l = compared_small Eq n at a b
words_small EqS on n m at a b l = compared_small Eq n at a b
words_small EqB on n m at a b l = compared_small Eq n at a b
words_small PrimLtU on n m at a b l = compared_small LtU n at a b
words_small PrimLtS on n m at a b l = compared_small LtS n at a b
words_small ExtU on n m at a b l = extended_small U n m at a l
words_small ExtS on n m at a b l = extended_small S n m at a l
words_small ExtB on n m at a b l = extended_small B n m at a l
words_small TruncU on n m at a b l = one_small n l
words_small TruncS on n m at a b l = one_small n l
words_small TruncB on n m at a b l = one_small n l
words_small Slice on n m at a b l = one_small m l
words_small PrimJoin on n m at a b l = one_small (n + m) l
words_small PrimRedAnd on n m at a b l = reduced_small RedAnd n at a
words_small PrimRedOr on n m at a b l = reduced_small RedOr n at a
words_small PrimRedXor on n m at a b l = reduced_small RedXor n at a
words_small PackU on n m at a b l = one_small n l
words_small PackS on n m at a b l = one_small n l
words_small UnpackU on n m at a b l = one_small n l
words_small UnpackS on n m at a b l = one_small n l
words_small _ on n m at a b l = absurd on

pub constructed_small : (tag number fields w at : ℕ) (wires : List WireId) → tag + fields ≤ w → IsPart w → Small (constructed tag number fields w at wires).widths
constructed_small tag number fields w at wires room l =
    let padding : ℕ = w - (tag + fields) in
    then_small (present (tag ∷ [])) (present (padding ∷ []) ++ present (w ∷ [])) (one_small tag (omega (arith, room, l)))
    (then_small (present (padding ∷ [])) (present (w ∷ [])) (one_small padding (omega (arith, l))) (one_small w l))

pub cuts_small : (ws : List ℕ) (below at : ℕ) (a : List WireId) → AllByRecursion IsPart ws → Small (field_cuts below a ws at).widths
cuts_small [] below at a h = none_small
cuts_small (w ∷ ws) below at a h =
    then_small (present (w ∷ [])) (field_cuts (below - w) a ws (at + wire_count (w ∷ []))).widths (one_small w h.0) (cuts_small ws (below - w) (at + wire_count (w ∷ [])) a h.1)

test_small : (k : ℕ) (a : List WireId) (bits : List Bool) (at : ℕ) → IsPart k → Small (test k a bits at).widths
test_small zero a bits at l = one_small 1 (omega arith)
test_small (suc k) a bits at l = then_small (suc k ∷ []) (1 ∷ []) (one_small (suc k) l) (one_small 1 (omega arith))

pub tests_small : (k : ℕ) (a : List WireId) (words : List (List Bool)) (at : ℕ) → IsPart k → Small (tests k a words at).widths
tests_small k a [] at l = none_small
tests_small k a (bits ∷ more) at l =
    let p : Piece = test k a bits at in then_small p.widths (tests k a more (after at p)).widths (test_small k a bits at l) (tests_small k a more (after at p) l)

choices_small : (w : ℕ) (xs : List (WireId × WireId)) (other : WireId) (at : ℕ) → IsPart w → Small (choices w xs other at).widths
choices_small w [] other at l = none_small
choices_small w (x ∷ xs) other at l = then_small (present (w ∷ [])) (choices w xs (wire at) (at + 1)).widths (one_small w l) (choices_small w xs (wire at) (at + 1) l)

pub chosen_small : (w : ℕ) (tested : List WireId) (results : List (List WireId)) (at : ℕ) → IsPart w → Small (chosen w tested results at).widths
chosen_small w tested results at l = choices_small w _ _ at l

pub elements_small : (w count at : ℕ) (v : List WireId) → IsPart w → Small (elements w count at v).widths
elements_small w zero at v l = none_small
elements_small w (suc behind) at v l =
    let p : Piece = element w behind at v in then_small (present (w ∷ [])) (elements w behind (after at p) v).widths (one_small w l) (elements_small w behind (after at p) v l)

pub element_at_small : (w n k at : ℕ) (v i : List WireId) → IsPart w → IsPart k → Small (element_at w n k at v i).widths
element_at_small w n k at v i l h =
    let words : List (List Bool) = words_from k 0 (min n (2 ^ k)) in
    let p : Piece = elements w (n + 1) at v in
    let q : Piece = tests k i words (after at p) in
    let d : Piece = chosen w (test_wires k i words (after at p)) (element_wires w (n + 1) at) (after (after at p) q) in
    then_small p.widths (q.widths ++ d.widths) (elements_small w (n + 1) at v l)
    (then_small q.widths d.widths (tests_small k i words (after at p) h) (chosen_small w (test_wires k i words (after at p)) (element_wires w (n + 1) at) (after (after at p) q) l))

twelve : Small (present (ADDRESS_BITS ∷ []))
twelve = one_small ADDRESS_BITS (omega arith)

narrowed_small : (k at : ℕ) (a : List WireId) → IsPart k → Small (narrowed k at a).widths
narrowed_small k at a l =
    let end : List ℕ = present (ADDRESS_BITS ∷ []) in
    then_small (present (k ∷ [])) (present (1 ∷ []) ++ end ++ end ++ end) (one_small k l)
    (then_small (present (1 ∷ [])) (end ++ end ++ end) (one_small 1 (omega arith)) (then_small end (end ++ end) twelve (then_small end end twelve twelve)))

filled_small : (k at : ℕ) (a : List WireId) → Small (filled_up k at a).widths
filled_small k at a = then_small (present ((ADDRESS_BITS - k) ∷ [])) (present (ADDRESS_BITS ∷ [])) (one_small (ADDRESS_BITS - k) (omega arith)) twelve

by_width : (k at : ℕ) (a : List WireId) (is less : Bool) → IsPart k → Small (if is then nothing else (if less then filled_up k at a else narrowed k at a)).widths
by_width k at a true less l = none_small
by_width k at a false true l = filled_small k at a
by_width k at a false false l = narrowed_small k at a l

address_small : (k at : ℕ) (a : List WireId) → IsPart k → Small (address k at a).widths
address_small zero at a l = twelve
address_small (suc k) at a l = by_width (suc k) at a (suc k == ADDRESS_BITS) (nat_lt (suc k) ADDRESS_BITS) l

pub memory_small : (w k at : ℕ) (d : DomId) (words : List (List Bool)) (read write : List WireId) → IsPart w → IsPart k → Small (memory w k at d words read write).widths
memory_small zero k at d words read write l h = none_small
memory_small (suc w) k at d words read write l h =
    then_small _ _ (then_small _ _ (then_small (present (1 ∷ [])) (present (k ∷ [])) (one_small 1 (omega arith)) (one_small k h)) (one_small (suc w) l))
    (then_small _ _ (address_small k _ read h) (then_small _ _ (address_small k _ _ h) (one_small (suc w) l)))
