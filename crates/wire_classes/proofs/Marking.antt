-- Wires of which bits are known, by marks.
use Rattle.std.proofs.Common.{◌≡◌, ℕ, ◌<◌, Bool, true, false, List, [], ◌∷◌, length, Some, slice_get, sym, ap, subst, ◌∙◌, arith}
use Rattle.std.specs.Prelude.{map}
use Rattle.std.proofs.lemmas.Bool.{and_parts, false≢true}
use Rattle.std.proofs.lemmas.Option.{same_Some, slice_get_within}
use Rattle.chw_base.specs.declared.index.WireId.{WireId}
use Rattle.netlist.specs.Feeds.{target, target_at}
use Rattle.netlist.specs.NetValue.{HasCell}
use Rattle.netlist.specs.Operators.{operator}
use Rattle.netlist.specs.declared.net.Cell.{Cell}
use Rattle.netlist.specs.declared.net.Cell.TheVariants.{Const, Copy, Join, Cut, Un, Bin, Mux, Reg, Ram, Use}
use Rattle.netlist.specs.declared.net.Flat.{Flat}
use Rattle.share_laws.specs.Same.{AllKnown, IsKnown}
use Rattle.share_laws.specs.Same.AllKnown.{known_and, known_none}
use Rattle.share_laws.specs.Same.IsKnown.{carried, constant, folded}
use Rattle.share_laws.specs.Same.Same.{turned}
use Rattle.wire_classes.specs.Closed.{AreFound, LabelHoldsAt, LabelsHold, MarkHoldsAt, MarksHold, all_marked, bits_in, gives_known, label_of, mark_of}
use Rattle.wire_classes.specs.Steps.{IsStep}
use Rattle.wire_classes.specs.declared.steps.Step.TheVariants.{Mark}
use Rattle.wire_classes.proofs.Copying.{one_target, target_there}

module _ (flat : Flat) (of : List ℕ) (known : List Bool) (values : List (List Bool)) (found : AreFound flat of known values) where
  all_known : (wires : List WireId) → all_marked known wires ≡ true → AllKnown flat wires (map (λ (w : WireId). bits_in values w.number) wires)
  all_known [] e = known_none
  all_known (w ∷ wires) e =
      let both = and_parts (mark_of known w.number) (all_marked known wires) e in
      known_and w wires (bits_in values w.number) (map (λ (w : WireId). bits_in values w.number) wires) (found.bits w.number both.0)
      (all_known wires both.1)

  one_known : (a : WireId) → mark_of known a.number ≡ true → AllKnown flat (a ∷ []) (bits_in values a.number ∷ [])
  one_known a k = known_and a [] (bits_in values a.number) [] (found.bits a.number k) known_none

  two_known : (a b : WireId) → mark_of known a.number ≡ true → mark_of known b.number ≡ true
      → AllKnown flat (a ∷ b ∷ []) (bits_in values a.number ∷ bits_in values b.number ∷ [])
  two_known a b k l =
      known_and a (b ∷ []) (bits_in values a.number) (bits_in values b.number ∷ []) (found.bits a.number k) (one_known b l)

  -- bits are known of the wire of a constant, and of a folded cell over marked wires
  pub known_made : (cell : Cell) (w : ℕ) → HasCell flat cell → target cell ≡ Some w → gives_known known cell ≡ true
      → (bits : List Bool) × IsKnown flat w bits
  known_made (Const v bits) w has t e = (bits, subst (λ n. IsKnown flat n bits) (same_Some v.number w t) (constant v bits has))
  known_made (Join v parts) w has t e =
      let made = map (λ (w : WireId). bits_in values w.number) parts in
      (operator (Join v parts) made, folded (Join v parts) w made has tt t (all_known parts e))
  known_made (Cut v a high low) w has t e =
      let made = bits_in values a.number ∷ [] in
      (operator (Cut v a high low) made, folded (Cut v a high low) w made has tt t (one_known a e))
  known_made (Un v op a) w has t e =
      let made = bits_in values a.number ∷ [] in (operator (Un v op a) made, folded (Un v op a) w made has tt t (one_known a e))
  known_made (Bin v op a b) w has t e =
      let made = bits_in values a.number ∷ bits_in values b.number ∷ [] in
      let both = and_parts (mark_of known a.number) (mark_of known b.number) e in
      (operator (Bin v op a b) made, folded (Bin v op a b) w made has tt t (two_known a b both.0 both.1))
  known_made (Copy v a) w has t e = absurd (false≢true e)
  known_made (Mux v c a b) w has t e = absurd (false≢true e)
  known_made (Reg v domain initial a) w has t e = absurd (false≢true e)
  known_made (Ram v domain words inputs) w has t e = absurd (false≢true e)
  known_made (Use m reads drives) w has t e = absurd (false≢true e)

  -- nothing follows from a cell whose wire is marked, nor from one that gives no constant
  pub mark_held : (place w : ℕ) → target_at flat.cells place ≡ Some w → mark_of known w ≡ true → MarkHoldsAt flat known place
  mark_held place w t m = λ other v there u g.
      let one : w ≡ v = one_target flat place w v other other there t there u in subst (λ n. mark_of known n ≡ true) one m

  pub mark_none : (place : ℕ) (cell : Cell) → slice_get flat.cells place ≡ Some cell → gives_known known cell ≡ false → MarkHoldsAt flat known place
  mark_none place cell at none = λ other v there u g.
      let is : cell ≡ other = same_Some cell other (sym at ∙ there) in
      absurd (false≢true (sym none ∙ ap (gives_known known) is ∙ g))

  -- else its wire is to be marked
  pub mark_made : (place w : ℕ) (cell : Cell) → slice_get flat.cells place ≡ Some cell → target_at flat.cells place ≡ Some w
      → mark_of known w ≡ false → gives_known known cell ≡ true → IsStep flat of known (Mark w)
  mark_made place w cell at t m g = (known_made cell w (place, at) (target_there flat place w cell at t) g, m)

  pub marks_hold : ((p : ℕ) → p < length flat.cells → MarkHoldsAt flat known p) → MarksHold flat known
  marks_hold all = λ cell w has t g. all has.0 (slice_get_within flat.cells has.0 cell has.1) cell w has.1 t g

  -- a wire and the one of its label are to be marked alike
  pub label_marked : (w n : ℕ) → w < length flat.widths → n ≡ label_of of w → mark_of known w ≡ true → mark_of known n ≡ false
      → IsStep flat of known (Mark n)
  label_marked w n l e m none = (
    (
      bits_in values w,
      subst (λ x. IsKnown flat x (bits_in values w)) (sym e)
          (carried w (label_of of w) (bits_in values w) (found.labels.same w l) (found.bits w m)),
    ),
    none,
  )

  pub wire_marked : (w n : ℕ) → w < length flat.widths → n ≡ label_of of w → mark_of known w ≡ false → mark_of known n ≡ true
      → IsStep flat of known (Mark w)
  wire_marked w n l e none m =
      let k = subst (λ x. mark_of known x ≡ true) e m in (
        (
          bits_in values (label_of of w),
          carried (label_of of w) w (bits_in values (label_of of w))
              (turned w (label_of of w) (found.labels.same w l)) (found.bits (label_of of w) k),
        ),
        none,
      )

  pub labels_hold : ((w : ℕ) → w < length flat.widths → LabelHoldsAt of known w) → LabelsHold of known
  labels_hold all = λ v w l m e.
      let one : v < length flat.widths = omega (arith, l, found.labels.count) in
      let other : w < length flat.widths = omega (arith, m, found.labels.count) in
      all v one ∙ ap (mark_of known) e ∙ sym (all w other)
