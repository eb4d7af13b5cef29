-- What cells copy by labels and marks is equal to what they drive.
use Rattle.std.proofs.Common.{◌≡◌, ℕ, suc, ◌+◌, ◌<◌, ◌==◌, inl, inr, Bool, true, false, ◌&&◌, List, [], ◌∷◌, length, Some, None, slice_get, get_or, refl, sym, ap, subst, ◌∙◌, arith, if◌then◌else◌}
use Rattle.std.specs.Prelude.{option_and_then, slice_index}
use Rattle.std.proofs.lemmas.Bool.{and_parts, cases_Bool, cases_eq, cond-false, eqb-true, ne_eqb}
use Rattle.std.proofs.lemmas.List.{get_or-map}
use Rattle.std.proofs.lemmas.Option.{cond_some, get_or_from_slice_get, none-some, same_Some, slice_get_within}
use Rattle.chw_base.specs.declared.index.WireId.{WireId}
use Rattle.chw_bits.specs.Bits.{number_of}
use Rattle.netlist.specs.Feeds.{target, target_at}
use Rattle.netlist.specs.NetValue.{HasCell}
use Rattle.netlist.specs.declared.net.Cell.{Cell}
use Rattle.netlist.specs.declared.net.Cell.TheVariants.{Const, Copy, Join, Cut, Un, Bin, Mux, Reg, Ram, Use}
use Rattle.netlist.specs.declared.net.Flat.{Flat}
use Rattle.netlist.proofs.Lengths.{fits_cell}
use Rattle.share_laws.specs.Same.{Copies, Same}
use Rattle.share_laws.specs.Same.Copies.{chosen, copy, either, single, whole}
use Rattle.share_laws.specs.Same.Same.{chained, copied, turned}
use Rattle.wire_classes.specs.Closed.{AreFound, AreLabels, CopiesHold, CopyHoldsAt, bits_in, choice_of, copied_by, label_of, mark_of, only_of}
use Rattle.wire_classes.specs.Steps.{IsStep}
use Rattle.wire_classes.specs.declared.steps.Step.TheVariants.{Merge}
use Rattle.wire_classes.proofs.Exact.{choice_known, choice_same, number_if}
use Rattle.wire_classes.proofs.Exist.{shown_count}

-- wires of one label are equal
pub same_by_label : (flat : Flat) (of : List ℕ) → AreLabels flat of → (v w : ℕ) → v < length flat.widths → w < length flat.widths
    → label_of of v ≡ label_of of w → Same flat v w
same_by_label flat of labels v w l m e =
    chained v (label_of of v) w (labels.same v l)
    (turned w (label_of of v) (subst (λ n. Same flat w n) (sym e) (labels.same w m)))

-- a choice takes nothing where its wires differ and its condition isn't marked
pub choice_none : (of : List ℕ) (known : List Bool) (values : List (List Bool)) (c a b : WireId)
    → (label_of of a.number ≡ label_of of b.number → ⊥) → mark_of known c.number ≡ false → choice_of of known values c a b ≡ None
choice_none of known values c a b ne k =
    cond-false (label_of of a.number == label_of of b.number) (Some a)
    (if mark_of known c.number then Some (if number_of (bits_in values c.number) == 1 then a else b) else None)
    (ne_eqb (label_of of a.number) (label_of of b.number) ne)
    ∙ cond-false (mark_of known c.number) (Some (if number_of (bits_in values c.number) == 1 then a else b)) None k

-- else it takes the wire that the condition says
pub choice_first : (of : List ℕ) (known : List Bool) (values : List (List Bool)) (c a b : WireId)
    → (label_of of a.number ≡ label_of of b.number → ⊥) → mark_of known c.number ≡ true
    → (number_of (bits_in values c.number) == 1) ≡ true → choice_of of known values c a b ≡ Some a
choice_first of known values c a b ne k on =
    choice_known of known values c a b ne k ∙ ap (λ (t : Bool). Some (if t then a else b)) on

pub choice_second : (of : List ℕ) (known : List Bool) (values : List (List Bool)) (c a b : WireId)
    → (label_of of a.number ≡ label_of of b.number → ⊥) → mark_of known c.number ≡ true
    → (number_of (bits_in values c.number) == 1) ≡ false → choice_of of known values c a b ≡ Some b
choice_second of known values c a b ne k on =
    choice_known of known values c a b ne k ∙ ap (λ (t : Bool). Some (if t then a else b)) on

-- the wire that a cell at a place drives
pub target_there : (flat : Flat) (place w : ℕ) (cell : Cell) → slice_get flat.cells place ≡ Some cell → target_at flat.cells place ≡ Some w
    → target cell ≡ Some w
target_there flat place w cell at t = sym (ap (λ o. option_and_then target o) at) ∙ t

-- and that of another cell there is the same
pub one_target : (flat : Flat) (place w v : ℕ) (cell other : Cell) → slice_get flat.cells place ≡ Some cell → target_at flat.cells place ≡ Some w
    → slice_get flat.cells place ≡ Some other → target other ≡ Some v → w ≡ v
one_target flat place w v cell other at t there u = same_Some w v (sym (target_there flat place w other there t) ∙ u)

-- the bits of a choice's condition are one bit
pub condition_within : (flat : Flat) (of : List ℕ) (known : List Bool) (values : List (List Bool)) → AreFound flat of known values
    → (v c a b : WireId) → HasCell flat (Mux v c a b) → c.number < length values
condition_within flat of known values found v c a b has =
    let fits = fits_cell flat (Mux v c a b) found.labels.sound has in
    let there = slice_get_within flat.widths c.number 1 fits.0 in
    let count = shown_count flat values found.shown in
    omega (arith, there, count)

pub condition_narrow : (flat : Flat) (of : List ℕ) (known : List Bool) (values : List (List Bool)) → AreFound flat of known values
    → (v c a b : WireId) → HasCell flat (Mux v c a b) → length (bits_in values c.number) ≡ 1
condition_narrow flat of known values found v c a b has =
    let fits = fits_cell flat (Mux v c a b) found.labels.sound has in
    sym (get_or-map length values c.number [] 0 (condition_within flat of known values found v c a b has))
    ∙ ap (λ ws. get_or ws c.number 0) found.shown.widths ∙ get_or_from_slice_get flat.widths c.number 1 0 fits.0

-- a wire alone, and none or several
pub only_none : (wires : List WireId) → (length wires ≡ 1 → ⊥) → only_of wires ≡ None
only_none [] ne = refl
only_none (a ∷ []) ne = absurd (ne refl)
only_none (a ∷ b ∷ more) ne = refl

pub only_one : (wires : List WireId) (d : WireId) → length wires ≡ 1 → only_of wires ≡ Some (get_or wires 0 d)
only_one [] d e = absurd (omega (arith, e))
only_one (a ∷ []) d e = refl
only_one (a ∷ b ∷ more) d e = absurd (omega (arith, e))

module _ (flat : Flat) (of : List ℕ) (known : List Bool) (values : List (List Bool)) (found : AreFound flat of known values) where
  copied_join : (w : ℕ) (a v : WireId) (parts : List WireId) → HasCell flat (Join v parts) → target (Join v parts) ≡ Some w
      → only_of parts ≡ Some a → Same flat w a.number
  copied_join w a v [] has t e = absurd (none-some a e)
  copied_join w a v (b ∷ []) has t e =
      let is = same_Some b a e in
      copied (Join v (b ∷ [])) w a.number has t (subst (λ (x : WireId). Copies flat (Join v (b ∷ [])) x.number) is (single v b))
  copied_join w a v (b ∷ c ∷ more) has t e = absurd (none-some a e)

  copied_mux : (w : ℕ) (a v c b d : WireId) → HasCell flat (Mux v c b d) → target (Mux v c b d) ≡ Some w
      → choice_of of known values c b d ≡ Some a → Same flat w a.number
  copied_mux w a v c b d has t e = elim (cases_eq (label_of of b.number) (label_of of d.number)) [
    | inl same ↦ by_same same
    | inr apart ↦ elim (cases_Bool (mark_of known c.number)) [
      | inl k ↦ by_condition apart k
      | inr k ↦ absurd (none-some a (sym (choice_none of known values c b d apart k) ∙ e))
    ]
  ]
    where
      by_same : label_of of b.number ≡ label_of of d.number → Same flat w a.number
      by_same same =
          let fits = fits_cell flat (Mux v c b d) found.labels.sound has in
          let one = slice_get_within flat.widths b.number fits.1.0 fits.1.2 in
          let other = slice_get_within flat.widths d.number fits.1.0 fits.1.3 in
          let is : b ≡ a = same_Some b a (sym (choice_same of known values c b d same) ∙ e) in
          subst (λ (x : WireId). Same flat w x.number) is
          (copied (Mux v c b d) w b.number has t (either v c b d (same_by_label flat of found.labels b.number d.number one other same)))

      by_condition : (label_of of b.number ≡ label_of of d.number → ⊥) → mark_of known c.number ≡ true → Same flat w a.number
      by_condition apart k =
          let on = bits_in values c.number in
          let is : (if number_of on == 1 then b else d) ≡ a =
          same_Some (if number_of on == 1 then b else d) a (sym (choice_known of known values c b d apart k) ∙ e) in
          let number : (if number_of on == 1 then b.number else d.number) ≡ a.number =
          sym (number_if (number_of on == 1) b d) ∙ ap (λ (x : WireId). x.number) is in
          copied (Mux v c b d) w a.number has t
          (subst (λ n. Copies flat (Mux v c b d) n) number (chosen v c b d on (found.bits c.number k)))

  copied_cut : (w : ℕ) (a v b : WireId) (high low : ℕ) → HasCell flat (Cut v b high low) → target (Cut v b high low) ≡ Some w
      → (if low == 0 && slice_index flat.widths b.number == high + 1 then Some b else None) ≡ Some a → Same flat w a.number
  copied_cut w a v b high low has t e =
      let parts = cond_some (low == 0 && slice_index flat.widths b.number == high + 1) b a e in
      let both = and_parts (low == 0) (slice_index flat.widths b.number == high + 1) parts.0 in
      let bottom : low ≡ 0 = eqb-true low 0 both.0 in
      let wide : slice_index flat.widths b.number ≡ high + 1 = eqb-true (slice_index flat.widths b.number) (high + 1) both.1 in
      let fits = fits_cell flat (Cut v b high low) found.labels.sound has in
      let read : get_or flat.widths b.number 0 ≡ fits.2.0 = get_or_from_slice_get flat.widths b.number fits.2.0 0 fits.2.2 in
      let width : fits.2.0 ≡ suc high = omega (arith, read, wide) in
      copied (Cut v b high low) w a.number has t
      (subst (λ (x : WireId). Copies flat (Cut v b high low) x.number) parts.1
      (subst (λ l. Copies flat (Cut v b high l) b.number) (sym bottom) (whole v b high (fits.2.2 ∙ ap Some width))))

  pub copied_same : (cell : Cell) (w : ℕ) (a : WireId) → HasCell flat cell → target cell ≡ Some w
      → copied_by flat.widths of known values cell ≡ Some a → Same flat w a.number
  copied_same (Copy v b) w a has t e =
      let is = same_Some b a e in
      copied (Copy v b) w a.number has t (subst (λ (x : WireId). Copies flat (Copy v b) x.number) is (copy v b))
  copied_same (Join v parts) w a has t e = copied_join w a v parts has t e
  copied_same (Cut v b high low) w a has t e = copied_cut w a v b high low has t e
  copied_same (Mux v c b d) w a has t e = copied_mux w a v c b d has t e
  copied_same (Const v bits) w a has t e = absurd (none-some a e)
  copied_same (Un v op b) w a has t e = absurd (none-some a e)
  copied_same (Bin v op b d) w a has t e = absurd (none-some a e)
  copied_same (Reg v domain initial b) w a has t e = absurd (none-some a e)
  copied_same (Ram v domain words inputs) w a has t e = absurd (none-some a e)
  copied_same (Use m reads drives) w a has t e = absurd (none-some a e)

  -- nothing follows from a cell that copies nothing, nor from one whose wires have one label
  pub copy_none : (place : ℕ) (cell : Cell) → slice_get flat.cells place ≡ Some cell → copied_by flat.widths of known values cell ≡ None
      → CopyHoldsAt flat of known values place
  copy_none place cell at none = λ other w a there t e.
      let is : cell ≡ other = same_Some cell other (sym at ∙ there) in
      absurd (none-some a (sym none ∙ ap (copied_by flat.widths of known values) is ∙ e))

  pub copy_held : (place w : ℕ) (cell : Cell) (a : WireId) → slice_get flat.cells place ≡ Some cell → target_at flat.cells place ≡ Some w
      → copied_by flat.widths of known values cell ≡ Some a → label_of of w ≡ label_of of a.number → CopyHoldsAt flat of known values place
  copy_held place w cell a at t e same = λ other v b there u f.
      let is : cell ≡ other = same_Some cell other (sym at ∙ there) in
      let one : w ≡ v = one_target flat place w v cell other at t there u in
      let two : a ≡ b = same_Some a b (sym e ∙ ap (copied_by flat.widths of known values) is ∙ f) in
      ap (label_of of) (sym one) ∙ same ∙ ap (λ (x : WireId). label_of of x.number) two

  -- else its wires are to have one
  pub copy_merged : (place w : ℕ) (cell : Cell) (a : WireId) → slice_get flat.cells place ≡ Some cell → target_at flat.cells place ≡ Some w
      → copied_by flat.widths of known values cell ≡ Some a → (label_of of w ≡ label_of of a.number → ⊥)
      → IsStep flat of known (Merge w a.number)
  copy_merged place w cell a at t e apart =
      (copied_same cell w a (place, at) (target_there flat place w cell at t) e, apart)

  pub copies_hold : ((p : ℕ) → p < length flat.cells → CopyHoldsAt flat of known values p) → CopiesHold flat of known values
  copies_hold all = λ cell w a has t e. all has.0 (slice_get_within flat.cells has.0 cell has.1) cell w a has.1 t e
