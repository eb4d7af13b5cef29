-- Wires that have a width in a table: they are there, and their bits have it.
use Rattle.std.proofs.Common.{◌≡◌, ℕ, zero, suc, ◌+◌, ◌<◌, ◌≤◌, Bool, List, [], ◌∷◌, ◌++◌, length, map, get_or, take, drop, Some, slice_get, refl, sym, ap, subst, ◌∙◌, arith, length-append}
use Rattle.std.specs.Prelude.{flat_map, fold, slice_index}
use Rattle.std.specs.List.{AllByRecursion}
use Rattle.std.proofs.lemmas.List.{get_or-map, length-map, map-append, take-append-drop}
use Rattle.std.proofs.lemmas.List.Concat.{flat_map-append, length-flat_map}
use Rattle.std.proofs.lemmas.Option.{get_or_from_slice_get, slice_get-get_or, slice_get_within}
use Rattle.chw_base.specs.declared.index.WireId.{WireId}
use Rattle.net_sim.specs.Operands.{IsArithmetic, Suit}
use Rattle.net_sim.specs.Tables.{value_in, values_in}
use Rattle.netlist.proofs.Places.{all_at}
use Rattle.netlist.specs.Sound.{AreArithmetic, Fits1, Fits2, HasWidth, IsWire, IsWireWidth, width_of_all}
use Rattle.netlist.specs.declared.net.Op1.{Op1}
use Rattle.netlist.specs.declared.net.Op1.TheVariants.{Not, RedAnd, RedOr, RedXor}
use Rattle.netlist.specs.declared.net.Op2.{Op2}
use Rattle.netlist.specs.declared.net.Op2.TheVariants.{Add, Sub, Mul, And, Or, Xor, Eq, LtU, LtS, Shl, Shr, Sar}

-- a wire with a width is there
pub is_wire : (widths : List ℕ) (w : WireId) (n : ℕ) → HasWidth widths w n → IsWire widths w
is_wire widths w n wide = slice_get_within widths w.number n wide

-- it is a place of the table
pub wire_within : (table : List (List Bool)) (w : WireId) → IsWire (map length table) w → w.number < length table
wire_within table w is = omega (arith, length-map table length, is)

-- its bits have this width
pub wire_width : (table : List (List Bool)) (w : WireId) (n : ℕ) → HasWidth (map length table) w n → length (value_in table w.number) ≡ n
wire_width table w n wide =
    let there = wire_within table w (is_wire (map length table) w n wide) in
    sym (get_or-map length table w.number [] 0 there) ∙ get_or_from_slice_get (map length table) w.number n 0 wide

-- the width that a table has at a place, which is none past its end
pub width_at : (table : List (List Bool)) (i : ℕ) → slice_index (map length table) i ≡ length (value_in table i)
width_at [] i = refl
width_at (bits ∷ table) zero = refl
width_at (bits ∷ table) (suc i) = width_at table i

sums : (table : List (List Bool)) (parts : List WireId) (k : ℕ)
    → fold (λ a (w : WireId). a + slice_index (map length table) w.number) k parts
    ≡ fold (λ a (bits : List Bool). a + length bits) k (values_in table parts)
sums table [] k = refl
sums table (w ∷ parts) k =
    ap (λ n. fold (λ a (v : WireId). a + slice_index (map length table) v.number) (k + n) parts) (width_at table w.number)
    ∙ sums table parts (k + length (value_in table w.number))

-- wires side by side have as many bits as all together
pub joined_width : (table : List (List Bool)) (parts : List WireId)
    → length (flat_map (λ bits. bits) (values_in table parts)) ≡ width_of_all (map length table) parts
joined_width table parts = length-flat_map (λ bits. bits) (values_in table parts) ∙ sym (sums table parts 0)

-- no wires before some others have more bits than all together
pub joined_front : (table : List (List Bool)) (parts : List WireId) (i : ℕ)
    → length (flat_map (λ bits. bits) (values_in table (take i parts))) ≤ width_of_all (map length table) parts
joined_front table parts i =
    let front = flat_map (λ bits. bits) (values_in table (take i parts)) in
    let back = flat_map (λ bits. bits) (values_in table (drop i parts)) in
    let split : flat_map (λ bits. bits) (values_in table parts) ≡ front ++ back =
    ap (λ ws. flat_map (λ bits. bits) (values_in table ws)) (sym (take-append-drop i parts))
    ∙ ap (flat_map (λ bits. bits)) (map-append (λ (w : WireId). value_in table w.number) (take i parts) (drop i parts))
    ∙ flat_map-append (λ bits. bits) (values_in table (take i parts)) (values_in table (drop i parts)) in
    omega (arith, ap length split, length-append front back, joined_width table parts)

-- a wire has from 1 to 4,096 bits
pub wire_limits : (table : List (List Bool)) (w : WireId) → AllByRecursion IsWireWidth (map length table) → IsWire (map length table) w
    → IsWireWidth (length (value_in table w.number))
wire_limits table w widths is =
    let wide : slice_get (map length table) w.number ≡ Some (get_or (map length table) w.number 0) =
    slice_get-get_or (map length table) w.number 0 is in
    subst IsWireWidth (width_at table w.number) (all_at IsWireWidth (map length table) w.number _ widths wide)

-- the wire that an operator reads
pub one_fits : (widths : List ℕ) (op : Op1) (w a : WireId) → Fits1 widths op w a → IsWire widths a
one_fits widths Not w a fits = is_wire widths a fits.0 fits.2
one_fits widths RedAnd w a fits = fits.1
one_fits widths RedOr w a fits = fits.1
one_fits widths RedXor w a fits = fits.1

-- the wires that an operator on two of them reads
pub record Pair (table : List (List Bool)) (op : Op2) (a b : WireId) : Type 0 where
  pub left : IsWire (map length table) a
  pub right : IsWire (map length table) b
  pub suit : Suit op (value_in table a.number) (value_in table b.number)

equal_pair : (table : List (List Bool)) (a b : WireId) (n : ℕ) → HasWidth (map length table) a n → HasWidth (map length table) b n
    → length (value_in table a.number) ≡ length (value_in table b.number)
equal_pair table a b n left right = wire_width table a n left ∙ sym (wire_width table b n right)

pub pair_fits : (table : List (List Bool)) (op : Op2) (w a b : WireId) → Fits2 (map length table) op w a b → Pair table op a b
pair_fits table Add w a b fits = record { left = is_wire _ a _ fits.3; right = is_wire _ b _ fits.4; suit = equal_pair table a b _ fits.3 fits.4 }
pair_fits table Sub w a b fits = record { left = is_wire _ a _ fits.3; right = is_wire _ b _ fits.4; suit = equal_pair table a b _ fits.3 fits.4 }
pair_fits table Mul w a b fits = record { left = is_wire _ a _ fits.3; right = is_wire _ b _ fits.4; suit = equal_pair table a b _ fits.3 fits.4 }
pair_fits table And w a b fits = record { left = is_wire _ a _ fits.2; right = is_wire _ b _ fits.3; suit = equal_pair table a b _ fits.2 fits.3 }
pair_fits table Or w a b fits = record { left = is_wire _ a _ fits.2; right = is_wire _ b _ fits.3; suit = equal_pair table a b _ fits.2 fits.3 }
pair_fits table Xor w a b fits = record { left = is_wire _ a _ fits.2; right = is_wire _ b _ fits.3; suit = equal_pair table a b _ fits.2 fits.3 }
pair_fits table Eq w a b fits = record { left = is_wire _ a _ fits.1.1; right = is_wire _ b _ fits.1.2; suit = equal_pair table a b _ fits.1.1 fits.1.2 }
pair_fits table LtU w a b fits = record { left = is_wire _ a _ fits.1.1; right = is_wire _ b _ fits.1.2; suit = equal_pair table a b _ fits.1.1 fits.1.2 }
pair_fits table LtS w a b fits = record { left = is_wire _ a _ fits.1.1; right = is_wire _ b _ fits.1.2; suit = equal_pair table a b _ fits.1.1 fits.1.2 }
pair_fits table Shl w a b fits = record { left = is_wire _ a _ fits.1.2; right = fits.0; suit = tt }
pair_fits table Shr w a b fits = record { left = is_wire _ a _ fits.1.2; right = fits.0; suit = tt }
pair_fits table Sar w a b fits = record { left = is_wire _ a _ fits.1.2; right = fits.0; suit = tt }

both_narrow : (table : List (List Bool)) (w a b : WireId) → AreArithmetic (map length table) w a b
    → (length (value_in table a.number) ≤ 128) × (length (value_in table b.number) ≤ 128)
both_narrow table w a b fits =
    let left = wire_width table a fits.0 fits.3 in
    let right = wire_width table b fits.0 fits.4 in
    let few = fits.1 in (omega arith, omega arith)

-- sums, differences and products are of narrow words
pub arithmetic_narrow : (table : List (List Bool)) (op : Op2) (w a b : WireId) → Fits2 (map length table) op w a b → IsArithmetic op
    → (length (value_in table a.number) ≤ 128) × (length (value_in table b.number) ≤ 128)
arithmetic_narrow table Add w a b fits is = both_narrow table w a b fits
arithmetic_narrow table Sub w a b fits is = both_narrow table w a b fits
arithmetic_narrow table Mul w a b fits is = both_narrow table w a b fits
arithmetic_narrow table And w a b fits is = absurd is
arithmetic_narrow table Or w a b fits is = absurd is
arithmetic_narrow table Xor w a b fits is = absurd is
arithmetic_narrow table Eq w a b fits is = absurd is
arithmetic_narrow table LtU w a b fits is = absurd is
arithmetic_narrow table LtS w a b fits is = absurd is
arithmetic_narrow table Shl w a b fits is = absurd is
arithmetic_narrow table Shr w a b fits is = absurd is
arithmetic_narrow table Sar w a b fits is = absurd is

-- both wires that an operator reads are there
pub two_fit : (widths : List ℕ) (op : Op2) (w a b : WireId) → Fits2 widths op w a b → IsWire widths a × IsWire widths b
two_fit widths Add w a b fits = (is_wire widths a _ fits.3, is_wire widths b _ fits.4)
two_fit widths Sub w a b fits = (is_wire widths a _ fits.3, is_wire widths b _ fits.4)
two_fit widths Mul w a b fits = (is_wire widths a _ fits.3, is_wire widths b _ fits.4)
two_fit widths And w a b fits = (is_wire widths a _ fits.2, is_wire widths b _ fits.3)
two_fit widths Or w a b fits = (is_wire widths a _ fits.2, is_wire widths b _ fits.3)
two_fit widths Xor w a b fits = (is_wire widths a _ fits.2, is_wire widths b _ fits.3)
two_fit widths Eq w a b fits = (is_wire widths a _ fits.1.1, is_wire widths b _ fits.1.2)
two_fit widths LtU w a b fits = (is_wire widths a _ fits.1.1, is_wire widths b _ fits.1.2)
two_fit widths LtS w a b fits = (is_wire widths a _ fits.1.1, is_wire widths b _ fits.1.2)
two_fit widths Shl w a b fits = (is_wire widths a _ fits.1.2, fits.0)
two_fit widths Shr w a b fits = (is_wire widths a _ fits.1.2, fits.0)
two_fit widths Sar w a b fits = (is_wire widths a _ fits.1.2, fits.0)
