-- The cells of memories agree in width, and their words are as many as may be.
use Rattle.std.specs.Prelude.{nat_lt, if◌then◌else◌}
use Rattle.std.proofs.Common.{◌≡◌, ℕ, zero, suc, ◌+◌, ◌-◌, ◌<◌, ◌≤◌, ◌==◌, arith, Bool, true, false, List, [], ◌∷◌, length, Some, refl, sym, ap, ◌∙◌, subst}
use Rattle.std.specs.List.{AllByRecursion}
use Rattle.std.proofs.lemmas.Bool.{eqb-true, eqb-false, ltb-true, ltb-false}
use Rattle.std.proofs.lemmas.List.{length-replicate}
use Rattle.chw_base.specs.declared.index.DomId.{DomId}
use Rattle.chw_base.specs.declared.index.WireId.{WireId}
use Rattle.chw_base.specs.declared.limits.TheConstants.{ADDRESS_BITS, RAM_WORDS}
use Rattle.chw_bits.specs.Bits.{bits_of}
use Rattle.netlist.specs.Sound.{HasWidth}
use Rattle.netlist.specs.declared.net.Cell.TheVariants.{Const, Join, Cut, Ram}
use Rattle.netlist.specs.declared.net.Module.{Module}
use Rattle.net_rules.specs.WellFormed.{HasFewWords}
use Rattle.net_built.specs.Memories.{past_all, address, address_wire, filled_up, narrowed, memory}
use Rattle.net_built.specs.Wires.{wire, new_wires, present, Piece, nothing, one, ◌▸◌, after, last_wire}
use Rattle.net_built.specs.Words.{zeros, only}
use Rattle.net_means.proofs.Lists.{length-bits_of}
use Rattle.net_means.specs.NetFits.Widths.{AreWide, StandFrom}
use Rattle.net_means.proofs.NetFits.Reading.{all_append}
use Rattle.net_means.proofs.NetFits.Wide.{Ends, ends_alone, ends_then, stand_parts, wide_from}
use Rattle.net_means.proofs.NetFits.WordWidths.{Agree, const_agrees, join_agrees, last_has, none_agree, one_agrees, only_wide, then_agree, total_of}

-- the bits that are cut out of a wire are there
record Within (w high low whole : ℕ) : Type 0 where
  order : low ≤ high
  size : w ≡ high - low + 1
  less : high < whole

module _ (earlier : List Module) (all : List ℕ) where
  slice_agrees : (w high low whole at : ℕ) (a : List WireId) → AreWide all a (suc whole ∷ []) → (1 ≤ w → Within w high low (suc whole)) → StandFrom all at (present (w ∷ [])) → Agree earlier all (one w (Cut (wire at) (only a) high low))
  slice_agrees w high low whole at a h within stand =
      one_agrees earlier all at w (Cut (wire at) (only a) high low) stand
      (λ v e has.
      let c : Within w high low (suc whole) = within (omega (arith, e)) in
      (c.order, has ∙ ap (λ n. Some n) (sym e ∙ c.size), (suc whole, c.less, only_wide all a whole h)))

  -- an address with the wire of its 12 bits
  record Addressed (p : Piece) (w : WireId) : Type 0 where
    agree : Agree earlier all p
    wide : HasWidth all w ADDRESS_BITS

  filled_fits : (m k at : ℕ) (a : List WireId) → m + suc k ≡ ADDRESS_BITS → 1 ≤ m → AreWide all a (suc k ∷ []) → StandFrom all at (one m (Const (wire at) (zeros m)) ▸ one ADDRESS_BITS (Join (wire (at + 1)) (wire at ∷ a))).widths
      → Addressed (one m (Const (wire at) (zeros m)) ▸ one ADDRESS_BITS (Join (wire (at + 1)) (wire at ∷ a))) (last_wire at (one m (Const (wire at) (zeros m)) ▸ one ADDRESS_BITS (Join (wire (at + 1)) (wire at ∷ a))))
  filled_fits zero k at a sum l h stand = absurd (omega (arith, l))
  filled_fits (suc m) k at a sum l h stand =
      let first : Piece = one (suc m) (Const (wire at) (zeros (suc m))) in
      let second : Piece = one ADDRESS_BITS (Join (wire (at + 1)) (wire at ∷ a)) in
      let size : total_of (suc m ∷ suc k ∷ []) ≡ ADDRESS_BITS = omega (arith, sum) in
      record {
        agree =
            then_agree earlier all at first second stand
            (λ s. const_agrees earlier all at (suc m) (zeros (suc m)) (length-replicate (suc m) false) s)
            (λ s. join_agrees earlier all (at + 1) ADDRESS_BITS (wire at ∷ a) (suc m ∷ suc k ∷ []) (stand.0, h) size s);
        wide = last_has earlier all at 11 (first ▸ second) stand (record { front = suc m ∷ []; is = refl });
      }

  narrowed_fits : (k at : ℕ) (a : List WireId) → ADDRESS_BITS < suc k → AreWide all a (suc k ∷ []) → StandFrom all at (narrowed (suc k) at a).widths → Addressed (narrowed (suc k) at a) (last_wire at (narrowed (suc k) at a))
  narrowed_fits k at a l h stand =
      let two : at + 1 + 1 ≡ at + 2 = omega arith in
      let three : at + 1 + 1 + 1 ≡ at + 3 = omega arith in
      let four : at + 1 + 1 + 1 + 1 ≡ at + 4 = omega arith in
      let third : HasWidth all (wire (at + 2)) ADDRESS_BITS = subst (λ n. HasWidth all (wire n) ADDRESS_BITS) two stand.1.1.0 in
      let fourth : HasWidth all (wire (at + 3)) ADDRESS_BITS = subst (λ n. HasWidth all (wire n) ADDRESS_BITS) three stand.1.1.1.0 in
      let fifth : HasWidth all (wire (at + 4)) ADDRESS_BITS = subst (λ n. HasWidth all (wire n) ADDRESS_BITS) four stand.1.1.1.1.0 in
      let lowest : 0 ≤ ADDRESS_BITS - 1 = omega arith in
      let high : ADDRESS_BITS - 1 < suc k = omega (arith, l) in
      let whole : HasWidth all (only a) (suc k) = only_wide all a k h in
      let first : length (bits_of (suc k) (past_all - 1)) ≡ suc k = length-bits_of (suc k) (past_all - 1) in
      let greatest : length (bits_of ADDRESS_BITS past_all) ≡ ADDRESS_BITS = length-bits_of ADDRESS_BITS past_all in
      record {
        agree = record {
          cells = (
            stand.0 ∙ ap (λ n. Some n) (sym first),
            ((stand.1.0, (suc k, stand.0, whole)), (third ∙ ap (λ n. Some n) (sym greatest), ((lowest, fourth, (suc k, high, whole)), ((stand.1.0, (ADDRESS_BITS, fifth, third, fourth)), tt)))),
          );
        };
        wide = last_has earlier all at 11 (narrowed (suc k) at a) stand (record { front = suc k ∷ 1 ∷ ADDRESS_BITS ∷ ADDRESS_BITS ∷ []; is = refl });
      }

  by_width : (k at : ℕ) (a : List WireId) (is less : Bool) → (is ≡ true → suc k ≡ ADDRESS_BITS) → (less ≡ true → suc k < ADDRESS_BITS) → (is ≡ false → less ≡ false → ADDRESS_BITS < suc k) → AreWide all a (suc k ∷ [])
      → StandFrom all at (if is then nothing else (if less then filled_up (suc k) at a else narrowed (suc k) at a)).widths
      → Addressed (if is then nothing else (if less then filled_up (suc k) at a else narrowed (suc k) at a)) (if is then only a else last_wire at (if is then nothing else (if less then filled_up (suc k) at a else narrowed (suc k) at a)))
  by_width k at a true less same fewer more h stand = record { agree = none_agree earlier all nothing refl; wide = only_wide all a k h ∙ ap (λ n. Some n) (same refl) }
  by_width k at a false true same fewer more h stand =
      let l : suc k < ADDRESS_BITS = fewer refl in
      filled_fits (ADDRESS_BITS - suc k) k at a (omega (arith, l)) (omega (arith, l)) h stand
  by_width k at a false false same fewer more h stand = narrowed_fits k at a (more refl refl) h stand

  address_fits : (k at : ℕ) (a : List WireId) → AreWide all a (present (k ∷ [])) → StandFrom all at (address k at a).widths → Addressed (address k at a) (address_wire k at a)
  address_fits zero at a h stand =
      record {
        agree = const_agrees earlier all at ADDRESS_BITS (zeros ADDRESS_BITS) (length-replicate ADDRESS_BITS false) stand;
        wide = last_has earlier all at 11 (address zero at a) stand (record { front = []; is = refl });
      }
  address_fits (suc k) at a h stand =
      by_width k at a (suc k == ADDRESS_BITS) (nat_lt (suc k) ADDRESS_BITS) (eqb-true (suc k) ADDRESS_BITS) (ltb-true (suc k) ADDRESS_BITS)
      (λ e f. let other = eqb-false (suc k) ADDRESS_BITS e in let most = ltb-false (suc k) ADDRESS_BITS f in omega (arith, other, most)) h stand

  -- a memory whose operands are as wide as its words and its addresses ask for
  pub memory_agrees : (w k at : ℕ) (d : DomId) (words : List (List Bool)) (read write : List WireId) → AllByRecursion (λ (word : List Bool). length word ≡ w) words → AreWide all read (present (k ∷ [])) → AreWide all write (suc (k + w) ∷ []) → StandFrom all at (memory w k at d words read write).widths
      → Agree earlier all (memory w k at d words read write)
  memory_agrees zero k at d words read write each reads writes stand = none_agree earlier all nothing refl
  memory_agrees (suc w) k at d words read write each reads writes stand =
      let width : ℕ = suc w in
      let enable : Piece = one 1 (Cut (wire at) (only write) (k + width) (k + width)) in
      let number : Piece = one k (Cut (wire (at + 1)) (only write) (k + width - 1) width) in
      let p : Piece = enable ▸ number in
      let value : Piece = one width (Cut (wire (after at p)) (only write) (width - 1) 0) in
      let q : Piece = p ▸ value in
      let place : List WireId = new_wires (at + 1) (k ∷ []) in
      let r : Piece = address k (after at q) read in
      let s : Piece = address k (after (after at q) r) place in
      let end : ℕ = after (after (after at q) r) s in
      let ram : Piece =
      one width
      (Ram (wire end) d words
      (record {
        read = address_wire k (after at q) read;
        enable = wire at;
        place = address_wire k (after (after at q) r) place;
        value = last_wire at q;
      })) in
      let first = stand_parts all at q.widths (r ▸ s ▸ ram).widths stand in
      let second = stand_parts all (after at q) r.widths (s ▸ ram).widths first.1 in
      let third = stand_parts all (after (after at q) r) s.widths ram.widths second.1 in
      let cuts = stand_parts all at p.widths value.widths first.0 in
      let fields = stand_parts all at enable.widths number.widths cuts.0 in
      let places : AreWide all place (present (k ∷ [])) = wide_from all (at + 1) (present (k ∷ [])) fields.1 in
      let reading = address_fits k (after at q) read reads second.0 in
      let writing = address_fits k (after (after at q) r) place places third.0 in
      let ends : Ends q width = ends_then p value width (ends_alone value width refl) in
      let shown : HasWidth all (last_wire at q) width = last_has earlier all at w q first.0 ends in
      let parts_agree : Agree earlier all q =
      then_agree earlier all at p value first.0
      (λ t. then_agree earlier all at enable number t
      (λ t. slice_agrees 1 (k + width) (k + width) (k + width) at write writes (λ l. record { order = omega arith; size = omega arith; less = omega arith }) t)
      (λ t. slice_agrees k (k + width - 1) width (k + width) (at + 1) write writes (λ l. record { order = omega (arith, l); size = omega (arith, l); less = omega arith }) t))
      (λ t. slice_agrees width (width - 1) 0 (k + width) (after at p) write writes (λ l. record { order = omega arith; size = omega arith; less = omega arith }) t) in
      then_agree earlier all at q (r ▸ s ▸ ram) stand (λ t. parts_agree)
      (λ t. then_agree earlier all (after at q) r (s ▸ ram) t (λ t. reading.agree)
      (λ t. then_agree earlier all (after (after at q) r) s ram t (λ t. writing.agree)
      (λ t. record {
        cells = (
          record { read = reading.wide; enable = fields.0.0; place = writing.wide; width = width; shown = t.0; value = shown; each_word = each },
          tt,
        );
      })))

-- the words of RAMs in a piece are as many as may be
pub record Few (p : Piece) : Type 0 where
  pub cells : AllByRecursion HasFewWords p.cells

pub then_few : (p q : Piece) → Few p → Few q → Few (p ▸ q)
then_few p q h k = record { cells = all_append HasFewWords p.cells q.cells h.cells k.cells }

address_few : (k at : ℕ) (a : List WireId) → Few (address k at a)
address_few zero at a = record { cells = (tt, tt) }
address_few (suc k) at a = by (suc k == ADDRESS_BITS) (nat_lt (suc k) ADDRESS_BITS)
  where
    filled : (m : ℕ) → Few (one m (Const (wire at) (zeros m)) ▸ one ADDRESS_BITS (Join (wire (at + 1)) (wire at ∷ a)))
    filled zero = record { cells = (tt, tt) }
    filled (suc m) = record { cells = (tt, (tt, tt)) }

    by : (is less : Bool) → Few (if is then nothing else (if less then filled_up (suc k) at a else narrowed (suc k) at a))
    by true less = record { cells = tt }
    by false true = filled (ADDRESS_BITS - suc k)
    by false false = record { cells = (tt, (tt, (tt, (tt, (tt, tt))))) }

one_few : (w : ℕ) (a : WireId) (at high low : ℕ) → Few (one w (Cut (wire at) a high low))
one_few zero a at high low = record { cells = tt }
one_few (suc w) a at high low = record { cells = (tt, tt) }

pub memory_few : (w k at : ℕ) (d : DomId) (words : List (List Bool)) (read write : List WireId) → 1 ≤ length words → length words ≤ RAM_WORDS → Few (memory w k at d words read write)
memory_few zero k at d words read write some most = record { cells = tt }
memory_few (suc w) k at d words read write some most =
    let width : ℕ = suc w in
    let enable : Piece = one 1 (Cut (wire at) (only write) (k + width) (k + width)) in
    let number : Piece = one k (Cut (wire (at + 1)) (only write) (k + width - 1) width) in
    let p : Piece = enable ▸ number in
    let value : Piece = one width (Cut (wire (after at p)) (only write) (width - 1) 0) in
    let q : Piece = p ▸ value in
    let place : List WireId = new_wires (at + 1) (k ∷ []) in
    let r : Piece = address k (after at q) read in
    let s : Piece = address k (after (after at q) r) place in
    let ram : Piece =
    one width
    (Ram (wire (after (after (after at q) r) s)) d words
    (record {
      read = address_wire k (after at q) read;
      enable = wire at;
      place = address_wire k (after (after at q) r) place;
      value = last_wire at q;
    })) in
    then_few q (r ▸ s ▸ ram)
    (then_few p value (then_few enable number (one_few 1 (only write) at (k + width) (k + width)) (one_few k (only write) (at + 1) (k + width - 1) width)) (one_few width (only write) (after at p) (width - 1) 0))
    (then_few r (s ▸ ram) (address_few k (after at q) read) (then_few s ram (address_few k (after (after at q) r) place) (record { cells = ((some, most), tt) })))
