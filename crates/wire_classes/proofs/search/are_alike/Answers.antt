use Rattle.std.proofs.Common.{sym, ◌∙◌}
use Rattle.std.proofs.lemmas.Bool.Decides.{Decides-eqb}
use Rattle.std.proofs.lemmas.Slice.Eq.{slice_eq-Decides}
use Rattle.wire_classes.proofs.AlikeCells.{cells_equal}
use Rattle.wire_classes.proofs.search.are_alike.Goals as goal

pub returns : goal.returns
returns c = λ e v w at to.
    let same = (slice_eq-Decides Decides-eqb _ _ _ c.eq.ensures).0 e in
    cells_equal c.args.scene.now.flat.now c.args.of.now c.requires.found.labels c.args.p c.args.q v w c.cell_at.result.now c.cell_at-2.result.now
    c.cell_at.ensures c.cell_at-2.ensures at to
    (sym c.in_ok-set_cell_key.ensures ∙ sym c.as_slice.ensures.value ∙ same ∙ c.as_slice-2.ensures.value ∙ c.in_ok-set_cell_key-2.ensures)
