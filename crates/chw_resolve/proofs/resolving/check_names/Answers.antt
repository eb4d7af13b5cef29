use Rattle.std.proofs.Common.{sym, ◌∙◌}
use Rattle.chw_resolve.specs.Faults.{limit}
use Rattle.chw_resolve.proofs.Told.{twice_told, unknown_told}
use Rattle.chw_resolve.proofs.resolving.check_names.Goals as goal

pub returns-in-Some-clause-fault : goal.returns-in-Some-clause-fault
returns-in-Some-clause-fault c = limit c.in-Some.limit (sym c.in-Some.ensures)

pub returns-in-Some-2-clause-fault : goal.returns-in-Some-2-clause-fault
returns-in-Some-2-clause-fault c =
    let least = rw c.in-Some-2.is at c.in_ok-word.ensures in
    twice_told c.args.tree.now c.in-Some-2.word.now c.in_ok-name.name (c.in_ok-name.ensures ∙ c.as_slice.ensures) (sym c.in_default.ensures) least

pub returns-in-Some-3-clause-fault : goal.returns-in-Some-3-clause-fault
returns-in-Some-3-clause-fault c =
    let once = rw c.in_default-2.is at c.in_ok-word.ensures in
    let least = rw c.in-Some-3.is at c.in_ok-word-2.ensures in
    unknown_told c.args.tree.now c.in-Some-3.word.now c.in_ok-name-2.name (c.in_ok-name-2.ensures ∙ c.as_slice-in-Some-3.ensures) (sym c.in_default.ensures) once least
