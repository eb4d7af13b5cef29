use Rattle.std.proofs.lemmas.Result.{err_from_is_err_and}
use Rattle.stimulus.proofs.Places.{part_fault}
use Rattle.stimulus.proofs.event.inputs_of.Goals as goal

pub returns-in_err-of_hex-clause-fault : goal.returns-in_err-of_hex-clause-fault
returns-in_err-of_hex-clause-fault c =
    let p = err_from_is_err_and c.from_residual.result c.from_residual.ensures.1 in
    rw (p.1, p.2) (part_fault c.args.inputs.now c.args.parts.now c.loop-place.place c.index-inputs-place.result _ c.behind.result.now c.in_err-of_hex.field-0.0
    c.loop-place-test.true c.requires c.index-inputs-place.is c.behind.ensures c.loop-place.invariant.2 c.in_err-of_hex.ensures.fault)
