-- What steps do to a table.
use Rattle.std.proofs.Common.{◌≡◌, ℕ, ◌+◌, ◌-◌, ◌<◌, ◌≤◌, ◌^◌, Bool, List, [], ◌∷◌, length, map, set, get_or, drop, take, Some, slice_get, refl, sym, ap, subst, ◌∙◌, arith}
use Rattle.std.specs.Prelude.{slice_index}
use Rattle.std.proofs.lemmas.List.{append-nil, take_all}
use Rattle.std.proofs.lemmas.Option.{get_or_from_slice_get}
use Rattle.chw_base.specs.declared.index.WireId.{WireId}
use Rattle.chw_bits.specs.Bits.{bits_of, cut_of, number_of}
use Rattle.chw_bits.proofs.Numbers.{number_of_lt}
use Rattle.chw_bits.proofs.RoundTrips.{bits_of-number_of}
use Rattle.netlist.specs.Feeds.{target}
use Rattle.netlist.specs.Operators.{KeepsNothing}
use Rattle.netlist.specs.Sound.{FitsCell, Fits2, HasWidth, IsWire}
use Rattle.netlist.specs.declared.net.Cell.{Cell}
use Rattle.netlist.specs.declared.net.Cell.TheVariants.{Copy, Join, Cut, Un, Bin}
use Rattle.netlist.specs.declared.net.Op1.TheVariants.{Not}
use Rattle.netlist.specs.declared.net.Op2.{Op2}
use Rattle.netlist.specs.declared.net.Op2.TheVariants.{Add, Sub, Mul, And, Or, Xor, Eq, LtU, LtS, Shl, Shr, Sar}
use Rattle.net_sim.specs.Settling.{Renews}
use Rattle.net_sim.specs.Steps.{IsMaskOf, IsMove, IsPart, IsQuick, IsSmall, IsTwo}
use Rattle.net_sim.specs.Tables.{given_in, value_in}
use Rattle.net_sim.proofs.Cells.{given_width}
use Rattle.net_sim.proofs.Wiring.{is_wire, width_at, wire_width}

-- a cell renews its wire by what it gives
pub renews_as : (cell : Cell) (table new : List (List Bool)) (w : ℕ) → KeepsNothing cell → target cell ≡ Some w
    → new ≡ set table w (given_in table cell) → map length new ≡ map length table → Renews cell table new
renews_as cell table new w keeps t is widths = record {
  wire = λ _ v t'.
      let targets : Some w ≡ Some v = sym t ∙ t' in
      let same : w ≡ v = cc in
      is ∙ ap (λ k. set table k (given_in table cell)) same;
  stays = λ no. absurd (no keeps);
  widths = widths;
}

-- what is known of the wire to which a number goes
pub record Target (table : List (List Bool)) (w : WireId) (given : List Bool) (n : ℕ) : Type 0 where
  pub wire : IsWire (map length table) w
  pub width : length (value_in table w.number) ≡ length given
  pub below : n < 2 ^ length (value_in table w.number)
  pub bits : bits_of (length (value_in table w.number)) n ≡ given

pub target_of : (cell : Cell) (table : List (List Bool)) (domains n : ℕ) (w : WireId) → FitsCell domains (map length table) cell → KeepsNothing cell
    → target cell ≡ Some w.number → n ≡ number_of (given_in table cell) → Target table w (given_in table cell) n
target_of cell table domains n w fits keeps t is =
    let given = given_in table cell in
    let there = given_width table domains w.number cell fits keeps t in
    let width = wire_width table w (length given) there in
    let below : n < 2 ^ length given = omega (arith, number_of_lt given, is) in
    record {
      wire = is_wire (map length table) w (length given) there;
      width = width;
      below = subst (λ k. n < 2 ^ k) (sym width) below;
      bits = ap (λ k. bits_of k n) width ∙ ap (bits_of (length given)) is ∙ bits_of-number_of given;
    }

-- a wire that is small has at most 64 bits
pub small_bits : (table : List (List Bool)) (w : WireId) → IsSmall (map length table) w → length (value_in table w.number) ≤ 64
small_bits table w small = omega (arith, width_at table w.number, small)

-- the same of a word that was read
pub small_read : (table : List (List Bool)) (w : WireId) (bits : List Bool) → bits ≡ value_in table w.number → IsSmall (map length table) w
    → length bits ≤ 64
small_read table w bits is small = subst (λ l. length l ≤ 64) (sym is) (small_bits table w small)

-- the number of a word that was read
pub number_of_read : (bits other : List Bool) (n : ℕ) → bits ≡ other → n ≡ number_of bits → n ≡ number_of other
number_of_read bits other n is number = number ∙ ap number_of is

-- a copy gives the bits of what it copies
pub copy_moves : (widths : List ℕ) (domains : ℕ) (w a : WireId) → FitsCell domains widths (Copy w a) → IsSmall widths w
    → IsMove widths (Copy w a) w a
copy_moves widths domains w a fits small = record {
  small = small;
  there = is_wire widths a fits.0 fits.2;
  keeps = tt;
  drives = refl;
  gives = λ table is. refl;
}

-- so does a join of one wire
pub join_moves : (widths : List ℕ) (domains : ℕ) (w a : WireId) (parts : List WireId) → FitsCell domains widths (Join w parts)
    → parts ≡ a ∷ [] → IsSmall widths w → IsMove widths (Join w parts) w a
join_moves widths domains w a parts fits is small =
    subst (λ ws. IsMove widths (Join w ws) w a) (sym is)
    (record {
      small = small;
      there = (subst (λ ws. FitsCell domains widths (Join w ws)) is fits).0.0;
      keeps = tt;
      drives = refl;
      gives = λ table _. append-nil (value_in table a.number);
    })

-- and a cut of the whole wire
pub cut_moves : (widths : List ℕ) (domains high low : ℕ) (w a : WireId) → FitsCell domains widths (Cut w a high low) → low ≡ 0
    → high + 1 ≡ slice_index widths a.number → IsSmall widths w → IsMove widths (Cut w a high low) w a
cut_moves widths domains high low w a fits none whole small = record {
  small = small;
  there = is_wire widths a fits.2.0 fits.2.2;
  keeps = tt;
  drives = refl;
  gives = λ table is.
      let bits = value_in table a.number in
      let count : high + 1 ≡ length bits = whole ∙ ap (λ ws. slice_index ws a.number) (sym is) ∙ width_at table a.number in
      let from : length bits - 1 - high ≡ 0 = omega arith in
      ap (λ k. cut_of high k bits) none ∙ ap (λ k. take (high + 1 - 0) (drop k bits)) from ∙ take_all (high + 1 - 0) bits (omega arith);
}

-- the mask of the wire that is settled is the one of the wire that is turned
pub flip_mask : (table : List (List Bool)) (domains : ℕ) (to from : WireId) (mask : ℕ) → FitsCell domains (map length table) (Un to Not from)
    → IsMaskOf (map length table) to mask → mask ≡ 2 ^ length (value_in table from.number) - 1
flip_mask table domains to from mask fits is =
    is ∙ ap (λ k. 2 ^ k - 1) (width_at table to.number ∙ wire_width table to fits.0 fits.1 ∙ sym (wire_width table from fits.0 fits.2))

-- a part is within the wire that it is of
pub part_within : (table : List (List Bool)) (domains high low : ℕ) (to from : WireId) → FitsCell domains (map length table) (Cut to from high low)
    → high < length (value_in table from.number)
part_within table domains high low to from fits = omega (arith, wire_width table from fits.2.0 fits.2.2, fits.2.1)

-- the wire to which bits are moved has their width
pub move_width : (cell : Cell) (table : List (List Bool)) (domains : ℕ) (to from : WireId) → FitsCell domains (map length table) cell
    → IsMove (map length table) cell to from → HasWidth (map length table) to (length (value_in table from.number))
move_width cell table domains to from fits move =
    subst (λ bits. slice_get (map length table) to.number ≡ Some (length bits)) (move.gives table refl)
    (given_width table domains to.number cell fits move.keeps move.drives)

pub move_renews : (cell : Cell) (table new : List (List Bool)) (to from : WireId) → IsMove (map length table) cell to from
    → new ≡ set table to.number (value_in table from.number) → map length new ≡ map length table → Renews cell table new
move_renews cell table new to from move is widths =
    renews_as cell table new to.number move.keeps move.drives (is ∙ ap (set table to.number) (sym (move.gives table refl))) widths

-- a list of one wire
pub only_part : (parts : List WireId) (none : WireId) → length parts ≡ 1 → parts ≡ get_or parts 0 none ∷ []
only_part [] none one = absurd (omega (arith, one))
only_part (a ∷ []) none one = refl
only_part (a ∷ b ∷ parts) none one = absurd (omega (arith, one))

-- the width of a wire that has one
pub width_is : (widths : List ℕ) (w : WireId) (n : ℕ) → HasWidth widths w n → slice_index widths w.number ≡ n
width_is widths w n wide = get_or_from_slice_get widths w.number n 0 wide

-- a part of a small wire, by its mask
pub cut_is_part : (widths : List ℕ) (domains high low mask : ℕ) (w a : WireId) → FitsCell domains widths (Cut w a high low) → IsSmall widths a
    → mask ≡ 2 ^ (high + 1 - low) - 1 → IsPart widths w a high low mask
cut_is_part widths domains high low mask w a fits small is =
    let own = width_is widths w (high - low + 1) fits.1 in
    let from = width_is widths a fits.2.0 fits.2.2 in
    let below = fits.2.1 in
    let order = fits.0 in
    record { small = omega arith; small_from = small; masks = is }

as_small : (widths : List ℕ) (w a : WireId) (n : ℕ) → HasWidth widths w n → HasWidth widths a n → IsSmall widths a → IsSmall widths w
as_small widths w a n own other small = omega (arith, width_is widths w n own, width_is widths a n other, small)

one_small : (widths : List ℕ) (w : WireId) → HasWidth widths w 1 → IsSmall widths w
one_small widths w own = omega (arith, width_is widths w 1 own)

-- what an operator of a step makes of small wires is small
pub two_small : (widths : List ℕ) (op : Op2) (w a b : WireId) → Fits2 widths op w a b → IsQuick op → IsSmall widths a → IsSmall widths w
two_small widths Add w a b fits quick small = as_small widths w a fits.0 fits.2 fits.3 small
two_small widths Sub w a b fits quick small = as_small widths w a fits.0 fits.2 fits.3 small
two_small widths Mul w a b fits quick small = as_small widths w a fits.0 fits.2 fits.3 small
two_small widths And w a b fits quick small = as_small widths w a fits.0 fits.1 fits.2 small
two_small widths Or w a b fits quick small = as_small widths w a fits.0 fits.1 fits.2 small
two_small widths Xor w a b fits quick small = as_small widths w a fits.0 fits.1 fits.2 small
two_small widths Eq w a b fits quick small = one_small widths w fits.0
two_small widths LtU w a b fits quick small = one_small widths w fits.0
two_small widths LtS w a b fits quick small = absurd quick
two_small widths Shl w a b fits quick small = absurd quick
two_small widths Shr w a b fits quick small = absurd quick
two_small widths Sar w a b fits quick small = absurd quick

-- an operator on small wires, by its mask
pub bin_is_two : (widths : List ℕ) (domains mask : ℕ) (w : WireId) (op : Op2) (a b : WireId) → FitsCell domains widths (Bin w op a b) → IsQuick op
    → IsSmall widths a → IsSmall widths b → IsMaskOf widths a mask → IsTwo widths w op a b mask
bin_is_two widths domains mask w op a b fits quick left right is = record {
  small = two_small widths op w a b fits quick left;
  small_left = left;
  small_right = right;
  quick = quick;
  masks = is;
}
