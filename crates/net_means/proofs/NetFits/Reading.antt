-- Cells that read wires of their module alone, if the wires that they are given are such.
use Rattle.std.proofs.Common.{◌≡◌, ℕ, zero, suc, ◌+◌, ◌-◌, ◌<◌, ◌≤◌, arith, Bool, true, false, List, [], ◌∷◌, ◌++◌, length, reverse, map, take, refl, sym, subst, length-append}
use Rattle.std.specs.Prelude.{◌^◌, min, replicate, zip, drop, nat_lt, ◌==◌, if◌then◌else◌}
use Rattle.std.specs.List.{AllByRecursion}
use Rattle.std.proofs.lemmas.Bool.{ltb-true}
use Rattle.chw_base.specs.declared.index.DomId.{DomId}
use Rattle.chw_base.specs.declared.index.WireId.{WireId}
use Rattle.chw_base.specs.declared.limits.TheConstants.{ADDRESS_BITS}
use Rattle.chw_bits.specs.Bits.{bits_of}
use Rattle.chw_types.specs.declared.declarations.Data.{Data}
use Rattle.chw_types.specs.declared.kind.Scalar.{Scalar}
use Rattle.chw_types.specs.declared.kind.Scalar.TheVariants.{U, S, B}
use Rattle.chw_types.specs.TypeTree.{TypeTree, data_of}
use Rattle.chw_prims.specs.declared.prim.Primitive.{Primitive as Prim}
use Rattle.chw_prims.specs.declared.prim.Primitive.TheVariants.{AddU, AddS, SubU, SubS, MulU, MulS, XaddU, XaddS, XmulU, XmulS, AndU, AndS, AndB, OrU, OrS, OrB, XorU, XorS, XorB, NotU, NotS, NotB, ShlU, ShlS, ShlB, ShrU, ShrS, ShrB, EqU, EqS, EqB, LtU as PrimLtU, LtS as PrimLtS, ExtU, ExtS, ExtB, TruncU, TruncS, TruncB, Slice, Join as PrimJoin, RedAnd as PrimRedAnd, RedOr as PrimRedOr, RedXor as PrimRedXor, PackU, PackS, UnpackU, UnpackS}
use Rattle.chw_terms.specs.TermTree.{Alts}
use Rattle.netlist.specs.Wires.{driven, read_by}
use Rattle.netlist.specs.declared.net.Cell.{Cell}
use Rattle.netlist.specs.declared.net.Cell.TheVariants.{Const, Copy, Join, Cut, Bin, Mux, Reg, Ram, Use}
use Rattle.netlist.specs.declared.net.RamIn.{RamIn}
use Rattle.netlist.specs.declared.net.Op1.{Op1}
use Rattle.netlist.specs.declared.net.Op1.TheVariants.{RedAnd, RedOr, RedXor}
use Rattle.netlist.specs.declared.net.Op2.{Op2}
use Rattle.netlist.specs.declared.net.Op2.TheVariants.{Add, Sub, Mul, And, Or, Xor, Eq, LtU, LtS, Shl, Shr, Sar}
use Rattle.net_built.specs.Circuits.{Ground, module_of, used, field_wires}
use Rattle.net_built.specs.Data.{constructed, field_cuts, Tested, tested_of, test, tests, test_wires, choices, chosen, case_cells, words_of, last_of}
use Rattle.net_built.specs.Memories.{past_all, address, address_wire, filled_up, narrowed, memory}
use Rattle.net_built.specs.Vectors.{element, elements, element_wires, words_from, element_at}
use Rattle.net_built.specs.Wires.{wire, wires_from, wire_count, new_wires, present, Piece, nothing, one, ◌▸◌, after, last_wire, copy_cells, copies}
use Rattle.net_built.specs.Words.{zeros, only, binary, compared, shifted, reduced, extended, widened, word_cells}
use Rattle.net_means.proofs.Lists.{reverse_cons}

-- these are wires, of so many
abbrev pub Under : ℕ → List WireId → Type 0
Under total ws = AllByRecursion (λ (w : WireId). w.number < total) ws

-- the cell drives a wire; if there are wires, it reads wires; and this holds of it besides
abbrev pub ReadsWires : (Cell → Type 0) → ℕ → Cell → Type 0
ReadsWires A total cell =
    (1 ≤ length (driven cell)) × ((1 ≤ total → Under total (read_by cell)) × A cell)

-- as a record, so that pieces are found from their proofs
pub record Reads (A : Cell → Type 0) (total : ℕ) (p : Piece) : Type 0 where
  pub cells : AllByRecursion (λ cell. ReadsWires A total cell) p.cells

-- the cell keeps nothing from event to event, and is no use
abbrev pub IsPlain : Cell → Type 0
IsPlain (Reg w domain initial a) = ⊥
IsPlain (Ram w domain words inputs) = ⊥
IsPlain (Use m reads drives) = ⊥
IsPlain _ = Unit {0}

plain_drives : (cell : Cell) → IsPlain cell → length (driven cell) ≡ 1
plain_drives (Reg w domain initial a) is = absurd is
plain_drives (Ram w domain words inputs) is = absurd is
plain_drives (Use m reads drives) is = absurd is
plain_drives _ is = refl

pub all_append : {A : Type 0} (P : A → Type 0) (xs ys : List A) → AllByRecursion P xs → AllByRecursion P ys → AllByRecursion P (xs ++ ys)
all_append P [] ys h k = k
all_append P (x ∷ xs) ys h k = (h.0, all_append P xs ys h.1 k)

pub all_reverse : {A : Type 0} (P : A → Type 0) (xs : List A) → AllByRecursion P xs → AllByRecursion P (reverse xs)
all_reverse P [] h = tt
all_reverse P (x ∷ xs) h = subst (AllByRecursion P) (sym (reverse_cons x xs)) (all_append P (reverse xs) (x ∷ []) (all_reverse P xs h.1) (h.0, tt))

abbrev pub BothUnder : ℕ → WireId × WireId → Type 0
BothUnder total x = (x.0.number < total) × (x.1.number < total)

-- so each of several lists of wires
abbrev pub EachUnder : ℕ → List (List WireId) → Type 0
EachUnder total rs = AllByRecursion (λ (r : List WireId). Under total r) rs

module _ (total : ℕ) where
  pub under_append : (xs ys : List WireId) → Under total xs → Under total ys → Under total (xs ++ ys)
  under_append xs ys h k = all_append (λ (w : WireId). w.number < total) xs ys h k

  pub under_from : (n c : ℕ) → n + c ≤ total → Under total (wires_from n c)
  under_from n zero l = tt
  under_from n (suc c) l =
      let here : n < total = omega (arith, l) in
      let rest : n + 1 + c ≤ total = omega (arith, l) in
      (here, under_from (n + 1) c rest)

  under_copies : (count : ℕ) (w : WireId) → w.number < total → Under total (replicate count w)
  under_copies zero w l = tt
  under_copies (suc count) w l = (l, under_copies count w l)

  pub only_below : (ws : List WireId) → 1 ≤ total → Under total ws → (only ws).number < total
  only_below [] l h = l
  only_below (w ∷ ws) l h = h.0

  pub under_take : (c : ℕ) (ws : List WireId) → Under total ws → Under total (take c ws)
  under_take zero ws h = tt
  under_take (suc c) [] h = tt
  under_take (suc c) (w ∷ ws) h = (h.0, under_take c ws h.1)

  pub under_drop : (c : ℕ) (ws : List WireId) → Under total ws → Under total (drop c ws)
  under_drop zero ws h = h
  under_drop (suc c) [] h = tt
  under_drop (suc c) (w ∷ ws) h = under_drop c ws h.1

  pub under_field : (i : ℕ) (parts : List (List ℕ)) (ws : List WireId) → Under total ws → Under total (field_wires i parts ws)
  under_field i [] ws h = tt
  under_field zero (widths ∷ more) ws h = under_take (wire_count widths) ws h
  under_field (suc i) (widths ∷ more) ws h = under_field i more (drop (wire_count widths) ws) (under_drop (wire_count widths) ws h)

  some : (at : ℕ) → at < total → 1 ≤ total
  some at l = omega (arith, l)

  pub last_below : (at : ℕ) (p : Piece) → after at p ≤ total → 1 ≤ total → (last_wire at p).number < total
  last_below at p room l =
      let r : at + length p.widths ≤ total = room in
      let is : at + length p.widths - 1 < total = omega (arith, r, l) in is

  pub tested_under : (datas : List Data) (t : TypeTree) (width at : ℕ) (a : List WireId) → (1 ≤ total → Under total a) → after at (tested_of datas t width at a).cells ≤ total → 1 ≤ total → Under total (tested_of datas t width at a).wires
  tested_under datas (data_of d ts) width at a h room l = under_from at _ room
  tested_under datas _ width at a h room l = h l

  pub tests_under : (k : ℕ) (a : List WireId) (words : List (List Bool)) (at : ℕ) → 1 ≤ total → after at (tests k a words at) ≤ total → Under total (test_wires k a words at)
  tests_under k a [] at l room = tt
  tests_under k a (bits ∷ more) at l room =
      let p : Piece = test k a bits at in
      let q : Piece = tests k a more (after at p) in
      let e : length (p.widths ++ q.widths) ≡ length p.widths + length q.widths = length-append p.widths q.widths in
      let r : at + length (p.widths ++ q.widths) ≤ total = room in
      let here : at + length p.widths ≤ total = omega (arith, r, e) in
      let there : at + length p.widths + length q.widths ≤ total = omega (arith, r, e) in
      (last_below at p here l, tests_under k a more (after at p) l there)

  zip_under : (xs ys : List WireId) → Under total xs → Under total ys → AllByRecursion (BothUnder total) (zip xs ys)
  zip_under [] ys h k = tt
  zip_under (x ∷ xs) [] h k = tt
  zip_under (x ∷ xs) (y ∷ ys) h k = ((h.0, k.0), zip_under xs ys h.1 k.1)

  onlies_under : (rs : List (List WireId)) → 1 ≤ total → EachUnder total rs → Under total (map only rs)
  onlies_under [] l h = tt
  onlies_under (r ∷ rs) l h = (only_below r l h.0, onlies_under rs l h.1)

  pub last_under : (rs : List (List WireId)) → EachUnder total rs → Under total (last_of rs)
  last_under [] h = tt
  last_under (r ∷ []) h = h.0
  last_under (r ∷ x ∷ rs) h = last_under (x ∷ rs) h.1

  elements_under : (w count at : ℕ) (v : List WireId) → after at (elements w count at v) ≤ total → EachUnder total (element_wires w count at)
  elements_under w zero at v room = tt
  elements_under w (suc behind) at v room =
      let p : Piece = element w behind at v in
      let q : Piece = elements w behind (after at p) v in
      let e : length (p.widths ++ q.widths) ≡ length p.widths + length q.widths = length-append p.widths q.widths in
      let r : at + length (p.widths ++ q.widths) ≤ total = room in
      let here : at + length p.widths ≤ total = omega (arith, r, e) in
      let there : at + length p.widths + length q.widths ≤ total = omega (arith, r, e) in
      (under_from at (wire_count (w ∷ [])) here, elements_under w behind (after at p) v there)

  chosen_below : (is : Bool) (a b : WireId) → a.number < total → b.number < total → (if is then a else b).number < total
  chosen_below true a b h k = h
  chosen_below false a b h k = k

  address_below : (k at : ℕ) (a : List WireId) → 1 ≤ total → Under total a → after at (address k at a) ≤ total → (address_wire k at a).number < total
  address_below k at a l h room = chosen_below (k == ADDRESS_BITS) (only a) (last_wire at (address k at a)) (only_below a l h) (last_below at (address k at a) room l)

-- of all cells that keep nothing and are no uses this holds besides
module _ (A : Cell → Type 0) (plain : (cell : Cell) → IsPlain cell → A cell) (total : ℕ) where
  pub none_reads : Reads A total nothing
  none_reads = record { cells = tt }

  pub then_reads : (at : ℕ) (p q : Piece) → after at (p ▸ q) ≤ total → (after at p ≤ total → Reads A total p) → (after (after at p) q ≤ total → Reads A total q) → Reads A total (p ▸ q)
  then_reads at p q room h k =
      let e : length (p.widths ++ q.widths) ≡ length p.widths + length q.widths = length-append p.widths q.widths in
      let r : at + length (p.widths ++ q.widths) ≤ total = room in
      let first : at + length p.widths ≤ total = omega (arith, r, e) in
      let second : at + length p.widths + length q.widths ≤ total = omega (arith, r, e) in
      record { cells = all_append (λ cell. ReadsWires A total cell) p.cells q.cells (h first).cells (k second).cells }

  -- one cell that reads wires
  pub kept_reads : (at w : ℕ) (cell : Cell) → length (driven cell) ≡ 1 → A cell → after at (one w cell) ≤ total → (at < total → Under total (read_by cell)) → Reads A total (one w cell)
  kept_reads at zero cell e a room h = record { cells = tt }
  kept_reads at (suc w) cell e a room h =
      let r : at + 1 ≤ total = room in
      let here : at < total = omega (arith, r) in
      record { cells = ((omega (arith, e), (λ l. h here, a)), tt) }

  pub one_reads : (at w : ℕ) (cell : Cell) → IsPlain cell → after at (one w cell) ≤ total → (at < total → Under total (read_by cell)) → Reads A total (one w cell)
  one_reads at w cell is room h = kept_reads at w cell (plain_drives cell is) (plain cell is) room h

  -- a constant reads nothing
  pub const_reads : (at w : ℕ) (bits : List Bool) → after at (one w (Const (wire at) bits)) ≤ total → Reads A total (one w (Const (wire at) bits))
  const_reads at w bits room = one_reads at w _ tt room (λ l. tt)

  module _ (a b : List WireId) (ha : 1 ≤ total → Under total a) (hb : 1 ≤ total → Under total b) where
    first : (at : ℕ) → at < total → (only a).number < total
    first at l = only_below total a (some total at l) (ha (some total at l))

    second : (at : ℕ) → at < total → (only b).number < total
    second at l = only_below total b (some total at l) (hb (some total at l))

    binary_reads : (op : Op2) (n at : ℕ) → after at (binary op n at a b) ≤ total → Reads A total (binary op n at a b)
    binary_reads op n at room = one_reads at n _ tt room (λ l. (first at l, (second at l, tt)))

    compared_reads : (op : Op2) (n at : ℕ) → after at (compared op n at a b) ≤ total → Reads A total (compared op n at a b)
    compared_reads op zero at room = one_reads at 1 _ tt room (λ l. tt)
    compared_reads op (suc n) at room = one_reads at 1 _ tt room (λ l. (first at l, (second at l, tt)))

    shifted_reads : (op : Op2) (n k at : ℕ) → after at (shifted op n k at a b) ≤ total → Reads A total (shifted op n k at a b)
    shifted_reads op n zero at room = one_reads at n _ tt room (λ l. (first at l, tt))
    shifted_reads op n (suc k) at room = one_reads at n _ tt room (λ l. (first at l, (second at l, tt)))

  pub unary_reads : (at w : ℕ) (a : List WireId) (cell : Cell) → (1 ≤ total → Under total a) → IsPlain cell → read_by cell ≡ only a ∷ [] → after at (one w cell) ≤ total → Reads A total (one w cell)
  unary_reads at w a cell h e f room =
      one_reads at w cell e room (λ l. subst (Under total) (sym f) (only_below total a (some total at l) (h (some total at l)), tt))

  reduced_reads : (op : Op1) (n at : ℕ) (a : List WireId) → (1 ≤ total → Under total a) → after at (reduced op n at a) ≤ total → Reads A total (reduced op n at a)
  reduced_reads op zero at a h room = one_reads at 1 _ tt room (λ l. tt)
  reduced_reads op (suc n) at a h room = unary_reads at 1 a _ h tt refl room

  -- a wire of zeros or of signs, and behind it what is extended
  before_reads : (at m w : ℕ) (bits : List Bool) (a : List WireId) → (1 ≤ total → Under total a)
      → after at (one (suc m) (Const (wire at) bits) ▸ one w (Join (wire (at + 1)) (wire at ∷ a))) ≤ total → Reads A total (one (suc m) (Const (wire at) bits) ▸ one w (Join (wire (at + 1)) (wire at ∷ a)))
  before_reads at m w bits a h room =
      then_reads at (one (suc m) (Const (wire at) bits)) (one w (Join (wire (at + 1)) (wire at ∷ a))) room (λ r. const_reads at (suc m) bits r)
      (λ r. one_reads (at + 1) w _ tt r (λ l. let here : at < total = omega (arith, l) in (here, h (some total at here))))

  extended_reads : (x : Scalar) (n m at : ℕ) (a : List WireId) → (1 ≤ total → Under total a) → after at (extended x n m at a) ≤ total → Reads A total (extended x n m at a)
  extended_reads x n zero at a h room = unary_reads at n a _ h tt refl room
  extended_reads x zero (suc m) at a h room = const_reads at (suc m) _ room
  extended_reads U (suc n) (suc m) at a h room = before_reads at m (suc n + suc m) (zeros (suc m)) a h room
  extended_reads S (suc n) (suc m) at a h room =
      then_reads at (one 1 (Cut (wire at) (only a) n n)) (one (suc n + suc m) (Join (wire (at + 1)) (replicate (suc m) (wire at) ++ a))) room
      (λ r. unary_reads at 1 a _ h tt refl r)
      (λ r. one_reads (at + 1) (suc n + suc m) _ tt r (λ l.
      let here : at < total = omega (arith, l) in
      under_append total (replicate (suc m) (wire at)) a (under_copies total (suc m) (wire at) here) (h (some total at here))))
  extended_reads B (suc n) (suc m) at a h room = before_reads at m (suc n + suc m) (zeros (suc m)) a h room

  widened_reads : (x : Scalar) (op : Op2) (w n k at : ℕ) (a b : List WireId) → (1 ≤ total → Under total a) → (1 ≤ total → Under total b) → after at (widened x op w n k at a b) ≤ total → Reads A total (widened x op w n k at a b)
  widened_reads x op w n k at a b ha hb room =
      let p : Piece = extended x n (w - n) at a in
      let q : Piece = extended x k (w - k) (after at p) b in
      let cell : Cell = Bin (wire (after (after at p) q)) op (last_wire at p) (last_wire (after at p) q) in
      then_reads at p (q ▸ one w cell) room (λ r. extended_reads x n (w - n) at a ha r)
      (λ r. then_reads (after at p) q (one w cell) r (λ r. extended_reads x k (w - k) (after at p) b hb r)
      (λ r. one_reads (after (after at p) q) w cell tt r (λ l.
      let place : at + length p.widths + length q.widths < total = l in
      let here : at + length p.widths ≤ total = omega (arith, place) in
      let there : at + length p.widths + length q.widths ≤ total = omega (arith, place) in
      let much : 1 ≤ total = omega (arith, place) in
      (last_below total at p here much, (last_below total (after at p) q there much, tt)))))

  -- the primitives on words
  pub words_read : (p : Prim) (n m at : ℕ) (a b : List WireId) → (1 ≤ total → Under total a) → (1 ≤ total → Under total b) → after at (word_cells p n m at a b) ≤ total → Reads A total (word_cells p n m at a b)
  words_read AddU n m at a b ha hb room = binary_reads a b ha hb Add n at room
  words_read AddS n m at a b ha hb room = binary_reads a b ha hb Add n at room
  words_read SubU n m at a b ha hb room = binary_reads a b ha hb Sub n at room
  words_read SubS n m at a b ha hb room = binary_reads a b ha hb Sub n at room
  words_read MulU n m at a b ha hb room = binary_reads a b ha hb Mul n at room
  words_read MulS n m at a b ha hb room = binary_reads a b ha hb Mul n at room
  words_read XaddU n m at a b ha hb room = widened_reads U Add (n + 1) n n at a b ha hb room
  words_read XaddS n m at a b ha hb room = widened_reads S Add (n + 1) n n at a b ha hb room
  words_read XmulU n m at a b ha hb room = widened_reads U Mul (n + m) n m at a b ha hb room
  words_read XmulS n m at a b ha hb room = widened_reads S Mul (n + m) n m at a b ha hb room
  words_read AndU n m at a b ha hb room = binary_reads a b ha hb And n at room
  words_read AndS n m at a b ha hb room = binary_reads a b ha hb And n at room
  words_read AndB n m at a b ha hb room = binary_reads a b ha hb And n at room
  words_read OrU n m at a b ha hb room = binary_reads a b ha hb Or n at room
  words_read OrS n m at a b ha hb room = binary_reads a b ha hb Or n at room
  words_read OrB n m at a b ha hb room = binary_reads a b ha hb Or n at room
  words_read XorU n m at a b ha hb room = binary_reads a b ha hb Xor n at room
  words_read XorS n m at a b ha hb room = binary_reads a b ha hb Xor n at room
  words_read XorB n m at a b ha hb room = binary_reads a b ha hb Xor n at room
  words_read NotU n m at a b ha hb room = unary_reads at n a _ ha tt refl room
  words_read NotS n m at a b ha hb room = unary_reads at n a _ ha tt refl room
  words_read NotB n m at a b ha hb room = unary_reads at n a _ ha tt refl room
  words_read ShlU n m at a b ha hb room = shifted_reads a b ha hb Shl n m at room
  words_read ShlS n m at a b ha hb room = shifted_reads a b ha hb Shl n m at room
  words_read ShlB n m at a b ha hb room = shifted_reads a b ha hb Shl n m at room
  words_read ShrU n m at a b ha hb room = shifted_reads a b ha hb Shr n m at room
  words_read ShrS n m at a b ha hb room = shifted_reads a b ha hb Sar n m at room
  words_read ShrB n m at a b ha hb room = shifted_reads a b ha hb Shr n m at room
  words_read EqU n m at a b ha hb room = compared_reads a b ha hb Eq n at room
  words_read EqS n m at a b ha hb room = compared_reads a b ha hb Eq n at room
  words_read EqB n m at a b ha hb room = compared_reads a b ha hb Eq n at room
  words_read PrimLtU n m at a b ha hb room = compared_reads a b ha hb LtU n at room
  words_read PrimLtS n m at a b ha hb room = compared_reads a b ha hb LtS n at room
  words_read ExtU n m at a b ha hb room = extended_reads U n m at a ha room
  words_read ExtS n m at a b ha hb room = extended_reads S n m at a ha room
  words_read ExtB n m at a b ha hb room = extended_reads B n m at a ha room
  words_read TruncU n m at a b ha hb room = unary_reads at n a _ ha tt refl room
  words_read TruncS n m at a b ha hb room = unary_reads at n a _ ha tt refl room
  words_read TruncB n m at a b ha hb room = unary_reads at n a _ ha tt refl room
  words_read Slice l n at a b ha hb room = unary_reads at n a _ ha tt refl room
  words_read PrimJoin n m at a b ha hb room = one_reads at (n + m) _ tt room (λ l. under_append total a b (ha (some total at l)) (hb (some total at l)))
  words_read PrimRedAnd n m at a b ha hb room = reduced_reads RedAnd n at a ha room
  words_read PrimRedOr n m at a b ha hb room = reduced_reads RedOr n at a ha room
  words_read PrimRedXor n m at a b ha hb room = reduced_reads RedXor n at a ha room
  words_read PackU n m at a b ha hb room = unary_reads at n a _ ha tt refl room
  words_read PackS n m at a b ha hb room = unary_reads at n a _ ha tt refl room
  words_read UnpackU n m at a b ha hb room = unary_reads at n a _ ha tt refl room
  words_read UnpackS n m at a b ha hb room = unary_reads at n a _ ha tt refl room
  words_read _ n m at a b ha hb room = record { cells = tt }

  pub constructed_reads : (tag number fields width at : ℕ) (wires : List WireId) → (1 ≤ total → Under total wires) → after at (constructed tag number fields width at wires) ≤ total → Reads A total (constructed tag number fields width at wires)
  constructed_reads tag number fields width at wires h room =
      let padding : ℕ = width - (tag + fields) in
      let p : Piece = one tag (Const (wire at) (bits_of tag number)) in
      let q : Piece = one padding (Const (wire (after at p)) (zeros padding)) in
      let cell : Cell = Join (wire (after (after at p) q)) (new_wires at (tag ∷ []) ++ wires ++ new_wires (after at p) (padding ∷ [])) in
      then_reads at p (q ▸ one width cell) room (λ r. const_reads at tag _ r)
      (λ r. then_reads (after at p) q (one width cell) r (λ r. const_reads (after at p) padding _ r)
      (λ r. one_reads (after (after at p) q) width cell tt r (λ l.
      let place : at + wire_count (tag ∷ []) + wire_count (padding ∷ []) < total = l in
      let here : at + wire_count (tag ∷ []) ≤ total = omega (arith, place) in
      let there : at + wire_count (tag ∷ []) + wire_count (padding ∷ []) ≤ total = omega (arith, place) in
      let much : 1 ≤ total = omega (arith, place) in
      under_append total (new_wires at (tag ∷ []) ++ wires) (new_wires (after at p) (padding ∷ []))
      (under_append total (new_wires at (tag ∷ [])) wires (under_from total at (wire_count (tag ∷ [])) here) (h much))
      (under_from total (after at p) (wire_count (padding ∷ [])) there))))

  pub cuts_read : (below : ℕ) (a : List WireId) (widths : List ℕ) (at : ℕ) → (1 ≤ total → Under total a) → after at (field_cuts below a widths at) ≤ total → Reads A total (field_cuts below a widths at)
  cuts_read below a [] at h room = none_reads
  cuts_read below a (w ∷ widths) at h room =
      then_reads at _ _ room (λ r. unary_reads at w a _ h tt refl r) (λ r. cuts_read (below - w) a widths _ h r)

  pub tested_reads : (datas : List Data) (t : TypeTree) (width at : ℕ) (a : List WireId) → (1 ≤ total → Under total a) → after at (tested_of datas t width at a).cells ≤ total → Reads A total (tested_of datas t width at a).cells
  tested_reads datas (data_of d ts) width at a h room = unary_reads at _ a _ h tt refl room
  tested_reads datas _ width at a h room = none_reads

  test_reads : (k : ℕ) (a : List WireId) (bits : List Bool) (at : ℕ) → (1 ≤ total → Under total a) → after at (test k a bits at) ≤ total → Reads A total (test k a bits at)
  test_reads zero a bits at h room = const_reads at 1 _ room
  test_reads (suc k) a bits at h room =
      then_reads at (one (suc k) (Const (wire at) bits)) (one 1 (Bin (wire (at + 1)) Eq (only a) (wire at))) room (λ r. const_reads at (suc k) bits r)
      (λ r. one_reads (at + 1) 1 _ tt r (λ l.
      let here : at < total = omega (arith, l) in
      (only_below total a (some total at here) (h (some total at here)), (here, tt))))

  pub tests_read : (k : ℕ) (a : List WireId) (words : List (List Bool)) (at : ℕ) → (1 ≤ total → Under total a) → after at (tests k a words at) ≤ total → Reads A total (tests k a words at)
  tests_read k a [] at h room = none_reads
  tests_read k a (bits ∷ more) at h room =
      then_reads at (test k a bits at) _ room (λ r. test_reads k a bits at h r) (λ r. tests_read k a more (after at (test k a bits at)) h r)

  nothing_reads : (xs : List (WireId × WireId)) (other : WireId) (at : ℕ) → Reads A total (choices zero xs other at)
  nothing_reads [] other at = none_reads
  nothing_reads (x ∷ xs) other at = record { cells = (nothing_reads xs (wire at) (at + 1)).cells }

  choices_read : (w : ℕ) (xs : List (WireId × WireId)) (other : WireId) (at : ℕ) → (1 ≤ total → AllByRecursion (BothUnder total) xs) → (1 ≤ total → other.number < total) → after at (choices w xs other at) ≤ total → Reads A total (choices w xs other at)
  choices_read zero xs other at h k room = nothing_reads xs other at
  choices_read (suc w) [] other at h k room = none_reads
  choices_read (suc w) (x ∷ xs) other at h k room =
      let whole : at + suc (length (choices (suc w) xs (wire at) (at + 1)).widths) ≤ total = room in
      let here : at < total = omega (arith, whole) in
      then_reads at (one (suc w) (Mux (wire at) x.0 x.1 other)) (choices (suc w) xs (wire at) (at + 1)) room
      (λ r. one_reads at (suc w) _ tt r (λ l. let all = h (some total at l) in (all.0.0, (all.0.1, (k (some total at l), tt)))))
      (λ r. choices_read (suc w) xs (wire at) (at + 1) (λ l. (h l).1) (λ l. here) r)

  pub chosen_reads : (w : ℕ) (tested : List WireId) (rs : List (List WireId)) (at : ℕ) → (1 ≤ total → Under total tested) → (1 ≤ total → EachUnder total rs) → after at (chosen w tested rs at) ≤ total → Reads A total (chosen w tested rs at)
  chosen_reads w tested rs at h k room =
      choices_read w (reverse (zip tested (map only rs))) (only (last_of rs)) at
      (λ l. all_reverse (BothUnder total) (zip tested (map only rs)) (zip_under total tested (map only rs) (h l) (onlies_under total rs l (k l))))
      (λ l. only_below total (last_of rs) l (last_under total rs (k l))) room

  -- a case, if its alternatives do
  pub case_reads : (on : Tested) (alts : Alts) (width n : ℕ) (p : Piece) (rs : List (List WireId)) → (after n on.cells ≤ total → Reads A total on.cells) → (after n on.cells ≤ total → 1 ≤ total → Under total on.wires) → (after (after n on.cells) p ≤ total → Reads A total p) → (after (after n on.cells) p ≤ total → 1 ≤ total → EachUnder total rs) → after n (case_cells on alts width n p rs) ≤ total → Reads A total (case_cells on alts width n p rs)
  case_reads on alts width n p rs tested wires alternatives results room =
      let words : List (List Bool) = words_of on.bits on.first alts in
      let m : ℕ = after (after n on.cells) p in
      let q : Piece = tests on.bits on.wires words m in
      let c : Piece = chosen width (test_wires on.bits on.wires words m) rs (after m q) in
      then_reads n on.cells (p ▸ q ▸ c) room tested
      (λ r. then_reads (after n on.cells) p (q ▸ c) r alternatives
      (λ r.
      let s : n + length on.cells.widths + length p.widths + length (q.widths ++ c.widths) ≤ total = r in
      let here : n + length on.cells.widths ≤ total = omega (arith, s) in
      let there : n + length on.cells.widths + length p.widths ≤ total = omega (arith, s) in
      then_reads m q c r (λ r. tests_read on.bits on.wires words m (wires here) r)
      (λ r.
      let t : m + length q.widths + length c.widths ≤ total = r in
      let behind : m + length q.widths ≤ total = omega (arith, t) in
      chosen_reads width (test_wires on.bits on.wires words m) rs (after m q) (λ l. tests_under total on.bits on.wires words m l behind) (results there) r)))

  pub element_reads : (w behind at : ℕ) (v : List WireId) → (1 ≤ total → Under total v) → after at (element w behind at v) ≤ total → Reads A total (element w behind at v)
  element_reads w behind at v h room = unary_reads at w v _ h tt refl room

  elements_read : (w count at : ℕ) (v : List WireId) → (1 ≤ total → Under total v) → after at (elements w count at v) ≤ total → Reads A total (elements w count at v)
  elements_read w zero at v h room = none_reads
  elements_read w (suc behind) at v h room =
      then_reads at (element w behind at v) _ room (λ r. element_reads w behind at v h r) (λ r. elements_read w behind _ v h r)

  pub element_at_reads : (w n k at : ℕ) (v i : List WireId) → (1 ≤ total → Under total v) → (1 ≤ total → Under total i) → after at (element_at w n k at v i) ≤ total → Reads A total (element_at w n k at v i)
  element_at_reads w n k at v i hv hi room =
      let words : List (List Bool) = words_from k 0 (min n (2 ^ k)) in
      let p : Piece = elements w (n + 1) at v in
      let q : Piece = tests k i words (after at p) in
      let c : Piece = chosen w (test_wires k i words (after at p)) (element_wires w (n + 1) at) (after (after at p) q) in
      then_reads at p (q ▸ c) room (λ r. elements_read w (n + 1) at v hv r)
      (λ r. then_reads (after at p) q c r (λ r. tests_read k i words (after at p) hi r)
      (λ r.
      let t : at + length p.widths + length q.widths + length c.widths ≤ total = r in
      let here : at + length p.widths ≤ total = omega (arith, t) in
      let there : at + length p.widths + length q.widths ≤ total = omega (arith, t) in
      chosen_reads w (test_wires k i words (after at p)) (element_wires w (n + 1) at) (after (after at p) q)
      (λ l. tests_under total k i words (after at p) l there) (λ l. elements_under total w (n + 1) at v here) r))

  copy_cells_read : (n : ℕ) (wires : List WireId) → (1 ≤ total → Under total wires) → AllByRecursion (λ cell. ReadsWires A total cell) (copy_cells n wires)
  copy_cells_read n [] h = tt
  copy_cells_read n (a ∷ wires) h = ((omega arith, (λ l. ((h l).0, tt), plain (Copy (wire n) a) tt)), copy_cells_read (n + 1) wires (λ l. (h l).1))

  pub copies_read : (n : ℕ) (wires : List WireId) (widths : List ℕ) → (1 ≤ total → Under total wires) → Reads A total (copies n wires widths)
  copies_read n wires widths h = record { cells = copy_cells_read n wires h }

  -- a use, which is there where a part has a wire
  pub used_reads : (ground : Ground) (m at : ℕ) (reads : List WireId) (widths : List ℕ) → (1 ≤ total → Under total reads) → (1 ≤ wire_count widths → A (Use (module_of ground m) reads (new_wires at widths))) → Reads A total (used ground m at reads widths)
  used_reads ground m at reads [] h a = record { cells = tt }
  used_reads ground m at reads (zero ∷ widths) h a = record { cells = (used_reads ground m at reads widths h a).cells }
  used_reads ground m at reads (suc w ∷ widths) h a = record { cells = ((omega arith, (h, a (omega arith))), tt) }

  filled_reads : (m at : ℕ) (a : List WireId) → 1 ≤ m → (1 ≤ total → Under total a) → after at (one m (Const (wire at) (zeros m)) ▸ one ADDRESS_BITS (Join (wire (at + 1)) (wire at ∷ a))) ≤ total → Reads A total (one m (Const (wire at) (zeros m)) ▸ one ADDRESS_BITS (Join (wire (at + 1)) (wire at ∷ a)))
  filled_reads zero at a l h room = absurd (omega (arith, l))
  filled_reads (suc m) at a l h room = before_reads at m ADDRESS_BITS (zeros (suc m)) a h room

  narrowed_reads : (k at : ℕ) (a : List WireId) → (1 ≤ total → Under total a) → after at (narrowed (suc k) at a) ≤ total → Reads A total (narrowed (suc k) at a)
  narrowed_reads k at a h room =
      let p : Piece = one (suc k) (Const (wire at) (bits_of (suc k) (past_all - 1))) in
      let q : Piece = one 1 (Bin (wire (at + 1)) LtU (wire at) (only a)) in
      let r : Piece = one ADDRESS_BITS (Const (wire (at + 2)) (bits_of ADDRESS_BITS past_all)) in
      let s : Piece = one ADDRESS_BITS (Cut (wire (at + 3)) (only a) (ADDRESS_BITS - 1) 0) in
      let t : Piece = one ADDRESS_BITS (Mux (wire (at + 4)) (wire (at + 1)) (wire (at + 2)) (wire (at + 3))) in
      let whole : at + 5 ≤ total = room in
      let much : 1 ≤ total = omega (arith, whole) in
      let zeroth : at < total = omega (arith, whole) in
      let first : at + 1 < total = omega (arith, whole) in
      let second : at + 2 < total = omega (arith, whole) in
      let third : at + 3 < total = omega (arith, whole) in
      let given : (only a).number < total = only_below total a much (h much) in
      then_reads at p (q ▸ r ▸ s ▸ t) room (λ l. one_reads at (suc k) _ tt l (λ l. tt))
      (λ l. then_reads (at + 1) q (r ▸ s ▸ t) l (λ l. one_reads (at + 1) 1 _ tt l (λ l. (zeroth, (given, tt))))
      (λ l. then_reads (at + 1 + 1) r (s ▸ t) l (λ l. one_reads (at + 1 + 1) ADDRESS_BITS _ tt l (λ l. tt))
      (λ l. then_reads (at + 1 + 1 + 1) s t l (λ l. one_reads (at + 1 + 1 + 1) ADDRESS_BITS _ tt l (λ l. (given, tt)))
      (λ l. one_reads (at + 1 + 1 + 1 + 1) ADDRESS_BITS _ tt l (λ l. (first, (second, (third, tt))))))))

  by_width : (k at : ℕ) (a : List WireId) (is less : Bool) → (less ≡ true → 1 ≤ ADDRESS_BITS - suc k) → (1 ≤ total → Under total a) → after at (if is then nothing else (if less then filled_up (suc k) at a else narrowed (suc k) at a)) ≤ total → Reads A total (if is then nothing else (if less then filled_up (suc k) at a else narrowed (suc k) at a))
  by_width k at a true less l h room = none_reads
  by_width k at a false true l h room = filled_reads (ADDRESS_BITS - suc k) at a (l refl) h room
  by_width k at a false false l h room = narrowed_reads k at a h room

  address_reads : (k at : ℕ) (a : List WireId) → (1 ≤ total → Under total a) → after at (address k at a) ≤ total → Reads A total (address k at a)
  address_reads zero at a h room = one_reads at ADDRESS_BITS _ tt room (λ l. tt)
  address_reads (suc k) at a h room =
      by_width k at a (suc k == ADDRESS_BITS) (nat_lt (suc k) ADDRESS_BITS) (λ h. let l = ltb-true (suc k) ADDRESS_BITS h in omega (arith, l)) h room

  pub memory_reads : (w k at : ℕ) (d : DomId) (words : List (List Bool)) (read write : List WireId) → ((w : WireId) (inputs : RamIn) → A (Ram w d words inputs)) → (1 ≤ total → Under total read) → (1 ≤ total → Under total write) → after at (memory w k at d words read write) ≤ total → Reads A total (memory w k at d words read write)
  memory_reads zero k at d words read write allowed hr hw room = none_reads
  memory_reads (suc w) k at d words read write allowed hr hw room =
      let width : ℕ = suc w in
      let p1 : Piece = one 1 (Cut (wire at) (only write) (k + width) (k + width)) in
      let p2 : Piece = one k (Cut (wire (at + 1)) (only write) (k + width - 1) width) in
      let p : Piece = p1 ▸ p2 in
      let v : Piece = one width (Cut (wire (after at p)) (only write) (width - 1) 0) in
      let q : Piece = p ▸ v in
      let place : List WireId = new_wires (at + 1) (k ∷ []) in
      let n : ℕ = after at q in
      let r : Piece = address k n read in
      let s : Piece = address k (after n r) place in
      let cell : Cell =
      Ram (wire (after (after n r) s)) d words
      (record {
        read = address_wire k n read;
        enable = wire at;
        place = address_wire k (after n r) place;
        value = last_wire at q;
      }) in
      let count : length ((1 ∷ present (k ∷ [])) ++ (width ∷ [])) ≡ suc (wire_count (k ∷ [])) + 1 = length-append (1 ∷ present (k ∷ [])) (width ∷ []) in
      then_reads at q (r ▸ s ▸ one width cell) room
      (λ l. then_reads at p v l
      (λ l. then_reads at p1 p2 l (λ l. unary_reads at 1 write _ hw tt refl l) (λ l. unary_reads (at + 1) k write _ hw tt refl l))
      (λ l. unary_reads (after at p) width write _ hw tt refl l))
      (λ l.
      let whole : at + length ((1 ∷ present (k ∷ [])) ++ (width ∷ [])) + length (r.widths ++ (s.widths ++ (width ∷ []))) ≤ total = l in
      let fits : at + 1 + wire_count (k ∷ []) ≤ total = omega (arith, whole, count) in
      let place_under : Under total place = under_from total (at + 1) (wire_count (k ∷ [])) fits in
      then_reads n r (s ▸ one width cell) l (λ l. address_reads k n read hr l)
      (λ l. then_reads (after n r) s (one width cell) l (λ l. address_reads k (after n r) place (λ m. place_under) l)
      (λ l. kept_reads (after (after n r) s) width cell refl (allowed (wire (after (after n r) s)) _) l (λ l.
      let here : n + length r.widths + length s.widths < total = l in
      let start : at + length ((1 ∷ present (k ∷ [])) ++ (width ∷ [])) + length r.widths + length s.widths < total = l in
      let much : 1 ≤ total = omega (arith, here) in
      let behind_q : at + length ((1 ∷ present (k ∷ [])) ++ (width ∷ [])) ≤ total = omega (arith, start) in
      let enabled : at < total = omega (arith, start, count) in
      let behind_r : n + length r.widths ≤ total = omega (arith, here) in
      let behind_s : n + length r.widths + length s.widths ≤ total = omega (arith, here) in
      (address_below total k n read much (hr much) behind_r, (enabled, (address_below total k (after n r) place much place_under behind_s, (last_below total at q behind_q much, tt))))))))
