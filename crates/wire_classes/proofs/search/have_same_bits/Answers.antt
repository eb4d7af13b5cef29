use Rattle.std.proofs.Common.{sym, ◌∙◌}
use Rattle.std.specs.Cmp.{booleans_Decides}
use Rattle.std.proofs.lemmas.Slice.Eq.{slice_eq-Decides}
use Rattle.wire_classes.proofs.AlikeCells.{marked_equal}
use Rattle.wire_classes.proofs.search.have_same_bits.Goals as goal

pub returns : goal.returns
returns c = λ e.
    let same = (slice_eq-Decides booleans_Decides _ _ _ c.eq.ensures).0 e in
    marked_equal c.args.scene.now.flat.now c.args.of.now c.args.known.now c.args.scene.now.values.now c.requires c.args.v c.args.w
    (sym c.mark.ensures ∙ c.if-not-mark.false) (sym c.mark-else-not-mark.ensures ∙ c.if-not-mark-2.false)
    (sym c.bits_at.ensures ∙ sym c.as_slice.ensures.value ∙ same ∙ c.as_slice-2.ensures.value ∙ c.bits_at-2.ensures)
