-- At each history equal wires have the same bits, and a wire of which bits are known has these.
use Rattle.std.proofs.Common.{◌≡◌, ℕ, zero, suc, ◌+◌, ◌-◌, ◌<◌, ◌≤◌, ◌==◌, Bool, true, false, List, [], ◌∷◌, length, Option, Some, None, slice_get, ◌⊎◌, inl, inr, refl, sym, ap, subst, ◌∙◌, arith, if◌then◌else◌}
use Rattle.std.specs.Prelude.{drop, take}
use Rattle.std.proofs.lemmas.Bool.Decides.{leb_tells}
use Rattle.std.proofs.lemmas.List.{append-nil, take_all}
use Rattle.std.proofs.lemmas.Option.{slice_get_within}
use Rattle.chw_base.specs.declared.index.DomId.{DomId}
use Rattle.chw_base.specs.declared.index.WireId.{WireId}
use Rattle.chw_bits.specs.Bits.{cut_of, number_of}
use Rattle.chw_clock.specs.Histories.{FitsPorts, before, taken}
use Rattle.chw_clock.specs.declared.event.Event.{Event}
use Rattle.netlist.specs.Feeds.{target}
use Rattle.netlist.specs.NetValue.{HasCell, HasValue, Memory, NetValue, ReadValues, WordAt, writes, zeros}
use Rattle.netlist.specs.NetValue.NetValue.{first, later, operated, outside, shown, unread}
use Rattle.netlist.specs.NetValue.ReadValues.{read_and, read_none}
use Rattle.netlist.specs.NetValue.WordAt.{kept, unwritten, written}
use Rattle.netlist.specs.Operators.{KeepsNothing, operator}
use Rattle.netlist.specs.Orders.{HasNoLoop}
use Rattle.netlist.specs.Sound.{Sound}
use Rattle.netlist.specs.Wires.{read_by}
use Rattle.netlist.specs.declared.net.Cell.{Cell}
use Rattle.netlist.specs.declared.net.Cell.TheVariants.{Const, Copy, Join, Cut, Mux, Ram, Reg}
use Rattle.netlist.specs.declared.net.Flat.{Flat}
use Rattle.netlist.specs.declared.net.RamIn.{RamIn}
use Rattle.netlist.proofs.Before.{before_fits, before_shorter, taken_fits}
use Rattle.netlist.proofs.Lengths.{fits_cell}
use Rattle.netlist.proofs.OneValue.{one_value}
use Rattle.netlist.proofs.Ordered.{an_order}
use Rattle.netlist.proofs.Values.{every_value}
use Rattle.share_laws.specs.Same.{AllKnown, AllSame, Copies, IsKnown, Same}
use Rattle.share_laws.specs.Same.AllKnown.{known_and, known_none}
use Rattle.share_laws.specs.Same.AllSame.{same_and, same_none}
use Rattle.share_laws.specs.Same.Copies.{chosen, copy, either, single, whole}
use Rattle.share_laws.specs.Same.IsKnown.{carried, constant, folded}
use Rattle.share_laws.specs.Same.Same.{chained, copied, equal_bits, equal_cells, itself, turned}
use Rattle.share_laws.proofs.Alike.{Alike, alike}
use Rattle.share_laws.proofs.Alike.Alike.{rams, regs}
use Rattle.share_laws.proofs.Widths.{folded_keeps, same_width, width_at}

-- two wires have the same bits at a history
pub record HaveSame (flat : Flat) (h : List Event) (v w : ℕ) : Type 0 where
  pub bits : List Bool
  pub one : NetValue flat h v bits
  pub other : NetValue flat h w bits

-- wires have the same bits, one by one
abbrev AllHaveSame : Flat → List Event → List WireId → List WireId → Type 0
AllHaveSame flat h [] [] = Unit {0}
AllHaveSame flat h (v ∷ vs) (w ∷ ws) = HaveSame flat h v.number w.number × AllHaveSame flat h vs ws
AllHaveSame flat h _ _ = ⊥

record ReadSame (flat : Flat) (h : List Event) (vs ws : List WireId) : Type 0 where
  values : List (List Bool)
  one : ReadValues flat h vs values
  other : ReadValues flat h ws values

read_same : (flat : Flat) (h : List Event) (vs ws : List WireId) → AllHaveSame flat h vs ws → ReadSame flat h vs ws
read_same flat h [] [] all = record { values = []; one = read_none h; other = read_none h }
read_same flat h [] (w ∷ ws) all = absurd all
read_same flat h (v ∷ vs) [] all = absurd all
read_same flat h (v ∷ vs) (w ∷ ws) all =
    let both = all.0 in
    let rest = read_same flat h vs ws all.1 in
    record {
      values = both.bits ∷ rest.values;
      one = read_and h v vs both.bits rest.values both.one rest.one;
      other = read_and h w ws both.bits rest.values both.other rest.other;
    }

-- the wires that cells drive, by their numbers
at_targets : (flat : Flat) (h : List Event) (x y v w : ℕ) → Some x ≡ Some v → Some y ≡ Some w → HaveSame flat h x y → HaveSame flat h v w
at_targets flat h x y v w t u both =
    let one : x ≡ v = cc in
    let other : y ≡ w = cc in
    subst (λ n. HaveSame flat h v n) other (subst (λ n. HaveSame flat h n y) one both)

-- what cuts of whole words, joins of one word, and choices between equal words give
whole_cut : (high : ℕ) (x : List Bool) → length x ≡ suc high → cut_of high 0 x ≡ x
whole_cut high x e =
    let none : length x - 1 - high ≡ 0 = omega (arith, e) in
    ap (λ n. take (high + 1 - 0) (drop n x)) none ∙ take_all (high + 1 - 0) x (omega (arith, e))

if_same : {X : Type 0} (b : Bool) (x : X) → (if b then x else x) ≡ x
if_same true x = refl
if_same false x = refl

by_choice : (flat : Flat) (h : List Event) (n a b : ℕ) (on : Bool) (x y : List Bool) → NetValue flat h a x → NetValue flat h b y
    → NetValue flat h n (if on then x else y) → HaveSame flat h n (if on then a else b)
by_choice flat h n a b true x y u v r = record { bits = x; one = r; other = u }
by_choice flat h n a b false x y u v r = record { bits = y; one = r; other = v }

pub item_at : {X : Type 0} (xs : List X) (k : ℕ) → k < length xs → (x : X) × (slice_get xs k ≡ Some x)
item_at [] k l = absurd (omega arith)
item_at (x ∷ xs) zero l = (x, refl)
item_at (x ∷ xs) (suc k) l = item_at xs k (omega arith)

le_or_less : (a b : ℕ) → (a ≤ b) ⊎ (b < a)
le_or_less a b = elim (leb_tells a b) [ inl le ↦ inl le.1 | inr less ↦ inr less.1 ]

abbrev pub memory_of : DomId → List (List Bool) → RamIn → Memory
memory_of domain words inputs = record { domain = domain; words = words; inputs = inputs }

-- what a RAM reads, in order
abbrev pub inputs_of : RamIn → List WireId
inputs_of inputs = inputs.read ∷ inputs.enable ∷ inputs.place ∷ inputs.value ∷ []

module _ (flat : Flat) where
  -- two RAMs of one domain with the same initial words, which read the same bits at each history
  module _ (domain : DomId) (words : List (List Bool)) (a b : RamIn)
      (reads : (h : List Event) → FitsPorts flat.ports h → AllHaveSame flat h (inputs_of a) (inputs_of b)) where
    -- a word of both RAMs
    record SameWord (h : List Event) (address : ℕ) : Type 0 where
      bits : List Bool
      one : WordAt flat (memory_of domain words a) h address bits
      other : WordAt flat (memory_of domain words b) h address bits

    changed_word : (h past : List Event) (address : ℕ) → before h domain ≡ Some past → AllHaveSame flat past (inputs_of a) (inputs_of b)
        → SameWord past address → SameWord h address
    changed_word h past address e read word = by_write (writes on.bits at.bits address) refl
      where
        on : HaveSame flat past a.enable.number b.enable.number
        on = read.1.0

        at : HaveSame flat past a.place.number b.place.number
        at = read.1.1.0

        value : HaveSame flat past a.value.number b.value.number
        value = read.1.1.1.0

        by_write : (t : Bool) → writes on.bits at.bits address ≡ t → SameWord h address
        by_write true t = record {
          bits = value.bits;
          one = written (memory_of domain words a) h past address on.bits at.bits value.bits e on.one at.one t value.one;
          other = written (memory_of domain words b) h past address on.bits at.bits value.bits e on.other at.other t value.other;
        }
        by_write false t = record {
          bits = word.bits;
          one = kept (memory_of domain words a) h past address on.bits at.bits word.bits e on.one at.one t word.one;
          other = kept (memory_of domain words b) h past address on.bits at.bits word.bits e on.other at.other t word.other;
        }

    same_word : (n : ℕ) (h : List Event) (address : ℕ) → length h ≤ n → FitsPorts flat.ports h → address < length words
        → (past : Option (List Event)) → before h domain ≡ past → SameWord h address
    same_word n h address l fits within None e =
        let word = item_at words address within in
        record {
          bits = word.0;
          one = unwritten (memory_of domain words a) h address word.0 e word.1;
          other = unwritten (memory_of domain words b) h address word.0 e word.1;
        }
    same_word zero h address l fits within (Some past) e =
        absurd (let less = before_shorter flat.ports h past domain fits e in omega (arith, less))
    same_word (suc n) h address l fits within (Some past) e =
        let less = before_shorter flat.ports h past domain fits e in
        let past_fits = before_fits flat.ports h past domain fits e in
        changed_word h past address e (reads past past_fits)
        (same_word n past address (omega (arith, less)) past_fits within (before past domain) refl)

    -- both RAMs show the same
    same_shown : (v w : WireId) (width : ℕ) (h : List Event) → HasCell flat (Ram v domain words a) → HasCell flat (Ram w domain words b)
        → slice_get flat.widths v.number ≡ Some width → slice_get flat.widths w.number ≡ Some width → FitsPorts flat.ports h
        → (past : Option (List Event)) → before h domain ≡ past → HaveSame flat h v.number w.number
    same_shown v w width h has there wide broad fits None e = record {
      bits = zeros width;
      one = unread v (memory_of domain words a) width h has wide e;
      other = unread w (memory_of domain words b) width h there broad e;
    }
    same_shown v w width h has there wide broad fits (Some past) e = by_address (le_or_less (length words) (number_of read.bits))
      where
        past_fits : FitsPorts flat.ports past
        past_fits = before_fits flat.ports h past domain fits e

        read : HaveSame flat past a.read.number b.read.number
        read = (reads past past_fits).0

        by_address : (length words ≤ number_of read.bits) ⊎ (number_of read.bits < length words) → HaveSame flat h v.number w.number
        by_address (inl le) = record {
          bits = zeros width;
          one = outside v (memory_of domain words a) width h past read.bits has wide e read.one le;
          other = outside w (memory_of domain words b) width h past read.bits there broad e read.other le;
        }
        by_address (inr less) =
            let word = same_word (length past) past (number_of read.bits) (omega arith) past_fits less (before past domain) refl in
            record {
              bits = word.bits;
              one = shown v (memory_of domain words a) h past read.bits word.bits has e read.one less word.one;
              other = shown w (memory_of domain words b) h past read.bits word.bits there e read.other less word.other;
            }

  -- two registers of one domain with the same initial bits show the same, where they read the same bits at each history
  same_register : (v w a b : WireId) (domain : DomId) (initial : List Bool) (h : List Event) → HasCell flat (Reg v domain initial a)
      → HasCell flat (Reg w domain initial b) → FitsPorts flat.ports h
      → ((h : List Event) → FitsPorts flat.ports h → AllHaveSame flat h (a ∷ []) (b ∷ []))
      → (past : Option (List Event)) → taken h domain ≡ past → HaveSame flat h v.number w.number
  same_register v w a b domain initial h has there fits reads None e =
      record { bits = initial; one = first v a domain initial h has e; other = first w b domain initial h there e }
  same_register v w a b domain initial h has there fits reads (Some past) e =
      let both = (reads past (taken_fits flat.ports h past domain fits e)).0 in
      record {
        bits = both.bits;
        one = later v a domain initial both.bits h past has e both.one;
        other = later w b domain initial both.bits h past there e both.other;
      }

  -- two cells that keep nothing
  same_operated : (c d : Cell) (v w : ℕ) (h : List Event) → HasCell flat c → HasCell flat d → KeepsNothing c → KeepsNothing d
      → ((values : List (List Bool)) → operator c values ≡ operator d values) → target c ≡ Some v → target d ≡ Some w
      → AllHaveSame flat h (read_by c) (read_by d) → HaveSame flat h v w
  same_operated c d v w h has there keeps holds same t u all =
      let read = read_same flat h (read_by c) (read_by d) all in
      record {
        bits = operator c read.values;
        one = operated c v h read.values has keeps t read.one;
        other = subst (λ bits. NetValue flat h w bits) (sym (same read.values)) (operated d w h read.values there holds u read.other);
      }

  module _ (sound : Sound flat) where
    -- two cells that are alike, where what they read has the same bits at each history
    same_cells : (c d : Cell) (v w : ℕ) (h : List Event) → Alike c d → HasCell flat c → HasCell flat d → target c ≡ Some v → target d ≡ Some w
        → slice_get flat.widths v ≡ slice_get flat.widths w → FitsPorts flat.ports h
        → ((h : List Event) → FitsPorts flat.ports h → AllHaveSame flat h (read_by c) (read_by d)) → HaveSame flat h v w
    same_cells _ _ v w h (regs x y a b domain initial) has there t u wide fits reads =
        at_targets flat h x.number y.number v w t u (same_register x y a b domain initial h has there fits reads (taken h domain) refl)
    same_cells _ _ v w h (rams x y domain words inputs others) has there t u wide fits reads =
        let cell = (fits_cell flat (Ram x domain words inputs) sound has).1 in
        let broad : slice_get flat.widths y.number ≡ Some cell.5.0 =
        ap (λ o. width_at flat.widths o) u ∙ sym wide ∙ ap (λ o. width_at flat.widths o) (sym t) ∙ cell.5.1 in
        at_targets flat h x.number y.number v w t u
        (same_shown domain words inputs others reads x y cell.5.0 h has there cell.5.1 broad fits (before h domain) refl)
    same_cells c d v w h _ has there t u wide fits reads = same_operated c d v w h has there tt tt (λ values. refl) t u (reads h fits)

  module _ (sound : Sound flat) (no_loop : HasNoLoop flat) where
    has_value : (h : List Event) (w : ℕ) → FitsPorts flat.ports h → w < length flat.widths → HasValue flat h w
    has_value h w fits l = let order = an_order flat sound no_loop in every_value flat order.0 sound order.1 h fits w l

    wide_value : (h : List Event) (w n : ℕ) → FitsPorts flat.ports h → slice_get flat.widths w ≡ Some n → HasValue flat h w
    wide_value h w n fits e = has_value h w fits (slice_get_within flat.widths w n e)

    mutual
      pub same_value : (v w : ℕ) → Same flat v w → (h : List Event) → FitsPorts flat.ports h → HaveSame flat h v w
      same_value _ _ (itself w l) h fits =
          let x = has_value h w fits l in record { bits = x.bits; one = x.value; other = x.value }
      same_value _ _ (turned v w s) h fits =
          let both = same_value v w s h fits in record { bits = both.bits; one = both.other; other = both.one }
      same_value _ _ (chained u v w s t) h fits =
          let x = same_value u v s h fits in
          let y = same_value v w t h fits in
          let middle : x.bits ≡ y.bits = one_value flat sound h v x.bits y.bits x.other y.one in
          record {
            bits = x.bits;
            one = x.one;
            other = subst (λ bits. NetValue flat h w bits) (sym middle) y.other;
          }
      same_value _ _ (copied cell w a has t c) h fits = copied_value cell a c w has t h fits
      same_value _ _ (equal_cells c d v w has there t u e all) h fits =
          same_cells sound c d v w h (alike c d v e t) has there t u (same_width flat sound v w (equal_cells c d v w has there t u e all)) fits
          (λ h fits. all_same_value (read_by c) (read_by d) all h fits)
      same_value _ _ (equal_bits v w bits k l) h fits =
          record { bits = bits; one = known_value v bits k h fits; other = known_value w bits l h fits }

      all_same_value : (vs ws : List WireId) → AllSame flat vs ws → (h : List Event) → FitsPorts flat.ports h → AllHaveSame flat h vs ws
      all_same_value _ _ same_none h fits = tt
      all_same_value _ _ (same_and v w vs ws s all) h fits = (same_value v.number w.number s h fits, all_same_value vs ws all h fits)

      copied_value : (cell : Cell) (a : ℕ) → Copies flat cell a → (n : ℕ) → HasCell flat cell → target cell ≡ Some n
          → (h : List Event) → FitsPorts flat.ports h → HaveSame flat h n a
      copied_value _ _ (copy w a) n has t h fits =
          let cell = fits_cell flat (Copy w a) sound has in
          let x = wide_value h a.number cell.0 fits cell.2 in
          record {
            bits = x.bits;
            one = operated (Copy w a) n h (x.bits ∷ []) has tt t (read_and h a [] x.bits [] x.value (read_none h));
            other = x.value;
          }
      copied_value _ _ (whole w a high e) n has t h fits =
          let x = wide_value h a.number (suc high) fits e in
          let long : length x.bits ≡ suc high = let both : Some (length x.bits) ≡ Some (suc high) = sym x.width ∙ e in cc in
          record {
            bits = x.bits;
            one = subst (λ bits. NetValue flat h n bits) (whole_cut high x.bits long)
                (operated (Cut w a high 0) n h (x.bits ∷ []) has tt t (read_and h a [] x.bits [] x.value (read_none h)));
            other = x.value;
          }
      copied_value _ _ (single w a) n has t h fits =
          let cell = fits_cell flat (Join w (a ∷ [])) sound has in
          let x = has_value h a.number fits cell.0.0 in
          record {
            bits = x.bits;
            one = subst (λ bits. NetValue flat h n bits) (append-nil x.bits)
                (operated (Join w (a ∷ [])) n h (x.bits ∷ []) has tt t (read_and h a [] x.bits [] x.value (read_none h)));
            other = x.value;
          }
      copied_value _ _ (either w c a b s) n has t h fits =
          let cell = fits_cell flat (Mux w c a b) sound has in
          let on = wide_value h c.number 1 fits cell.0 in
          let both = same_value a.number b.number s h fits in
          record {
            bits = both.bits;
            one = subst (λ bits. NetValue flat h n bits) (if_same (number_of on.bits == 1) both.bits)
                (operated (Mux w c a b) n h (on.bits ∷ both.bits ∷ both.bits ∷ []) has tt t
                (read_and h c (a ∷ b ∷ []) on.bits (both.bits ∷ both.bits ∷ []) on.value
                (read_and h a (b ∷ []) both.bits (both.bits ∷ []) both.one
                (read_and h b [] both.bits [] both.other (read_none h)))));
            other = both.one;
          }
      copied_value _ _ (chosen w c a b on k) n has t h fits =
          let cell = fits_cell flat (Mux w c a b) sound has in
          let x = wide_value h a.number cell.1.0 fits cell.1.2 in
          let y = wide_value h b.number cell.1.0 fits cell.1.3 in
          by_choice flat h n a.number b.number (number_of on == 1) x.bits y.bits x.value y.value
          (operated (Mux w c a b) n h (on ∷ x.bits ∷ y.bits ∷ []) has tt t
          (read_and h c (a ∷ b ∷ []) on (x.bits ∷ y.bits ∷ []) (known_value c.number on k h fits)
          (read_and h a (b ∷ []) x.bits (y.bits ∷ []) x.value
          (read_and h b [] y.bits [] y.value (read_none h)))))

      pub known_value : (w : ℕ) (bits : List Bool) → IsKnown flat w bits → (h : List Event) → FitsPorts flat.ports h → NetValue flat h w bits
      known_value _ _ (constant w bits has) h fits = operated (Const w bits) w.number h [] has tt refl (read_none h)
      known_value _ _ (folded cell w values has f t all) h fits =
          operated cell w h values has (folded_keeps cell f) t (known_values (read_by cell) values all h fits)
      known_value _ _ (carried v w bits s k) h fits =
          let both = same_value v w s h fits in
          let is : both.bits ≡ bits = one_value flat sound h v both.bits bits both.one (known_value v bits k h fits) in
          subst (λ bits. NetValue flat h w bits) is both.other

      known_values : (wires : List WireId) (values : List (List Bool)) → AllKnown flat wires values → (h : List Event) → FitsPorts flat.ports h
          → ReadValues flat h wires values
      known_values _ _ known_none h fits = read_none h
      known_values _ _ (known_and w wires bits values k all) h fits =
          read_and h w wires bits values (known_value w.number bits k h fits) (known_values wires values all h fits)

    -- two values of equal wires are one
    pub one_of_same : (h : List Event) (v w : ℕ) (a b : List Bool) → FitsPorts flat.ports h → Same flat v w → NetValue flat h v a → NetValue flat h w b
        → a ≡ b
    one_of_same h v w a b fits s x y =
        let both = same_value v w s h fits in
        one_value flat sound h v a both.bits x both.one ∙ one_value flat sound h w both.bits b both.other y
