use Rattle.chw_check.proofs.IncompleteFound.{second_found}
use Rattle.chw_check.proofs.cases.first.first_incomplete.Goals as goal

pub returns : goal.returns
returns c =
    let kept = rw c.in_default.is at c.in_ok-found.ensures in
    second_found c.args.program.now c.first_of-2.result kept c.first_of-2.ensures
