use Rattle.std.proofs.Common.{Some, sym, ap, ◌∙◌}
use Rattle.std.proofs.lemmas.Bool.Decides.{Decides-eqb}
use Rattle.std.proofs.lemmas.Slice.Eq.{slice_eq-Decides}
use Rattle.wire_classes.proofs.Seen.{key_at}
use Rattle.wire_classes.proofs.agreeing.is_key_of.Goals as goal

pub returns-clause-same : goal.returns-clause-same
returns-clause-same c = λ e.
    let same = (slice_eq-Decides Decides-eqb _ _ _ c.eq.ensures).0 e in
    key_at c.args.of.now c.args.flat.now.cells c.args.place c.cell_at.result.now c.cell_at.ensures
    ∙ ap Some (sym c.in_ok-set_cell_key.ensures ∙ sym c.as_slice-2.ensures.value ∙ sym same ∙ c.as_slice.ensures.value)
