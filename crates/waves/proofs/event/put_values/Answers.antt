use Rattle.std.proofs.Common.{◌≡◌, ℕ, ◌<◌, ◌==◌, inl, inr, false, cond, eqb, [], refl, sym, ap, ◌∙◌, arith, zero, suc, ◌≢◌}
use Rattle.std.proofs.lemmas.Bool.{false≢true}
use Rattle.std.proofs.lemmas.Bool.Decides.{eqb_tells}
use Rattle.waves.proofs.Changing.{parts_written}
use Rattle.waves.proofs.event.put_values.Goals as goal

positive : (n : ℕ) → eqb n 0 ≡ false → 0 < n
positive n apart = elim (eqb_tells n 0) [ inl same ↦ absurd (false≢true (sym apart ∙ same.0)) | inr other ↦ above n other.1 ]
  where
    above : (m : ℕ) → m ≢ 0 → 0 < m
    above zero none = absurd (none refl)
    above (suc m) none = omega arith

pub returns : goal.returns
returns c =
    let n = c.args.number in
    let last = c.args.last.now in
    parts_written c.args.out.now.items _ _ _ (n == 0) last.levels.items c.args.levels.now _ last.inputs.items c.args.inputs.now _ last.outputs.items c.args.outputs.now _ _
    c.in_ok-put_levels.ensures (c.shown.ensures ∙ ap (λ l. cond (n == 0) [] l) c.as_slice.ensures.value)
    c.in_ok-place.ensures.lines (c.shown-2.ensures ∙ ap (λ l. cond (n == 0) [] l) c.as_slice-2.ensures.value) c.in_ok-place.ensures.next
    c.in_ok-put_changes.ensures.lines (c.shown-3.ensures ∙ ap (λ l. cond (n == 0) [] l) c.as_slice-3.ensures.value)
    (λ later. (c.requires.levels (positive n later), c.requires.inputs))
