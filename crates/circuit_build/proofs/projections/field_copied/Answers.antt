use Rattle.std.proofs.Common.{◌∙◌, ap}
use Rattle.std.proofs.lemmas.Result.{on_ok_weaker}
use Rattle.circuit_build.specs.Projections.{counted_field}
use Rattle.circuit_build.proofs.FieldWires.{field_copied}
use Rattle.circuit_build.proofs.projections.field_copied.Goals as goal

pub returns-clause-copied : goal.returns-clause-copied
returns-clause-copied c =
    let number = c.args.number in
    let wires = c.args.wires.now in
    on_ok_weaker c.copies.result
    (λ is. field_copied c.args.base.now.datas c.args.types.now number c.in_ok-counts.counts.items wires c.field_wires.result.now c.args.widths.now
    c.args.into.now c.copies.new.into c.in_ok-counts.ensures.counts (c.field_wires.ensures ∙ ap (λ ns. counted_field number ns wires) c.deref.ensures.value) is)
    c.copies.ensures
