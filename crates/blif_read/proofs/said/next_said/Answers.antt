use Rattle.std.proofs.Common.{refl}
use Rattle.std.proofs.lemmas.Result.{err_from_is_err_and}
use Rattle.blif_read.proofs.Reaching.{next_is, stuck_is}
use Rattle.blif_read.proofs.said.next_said.Goals as goal

pub returns-in_err-it-clause-fault : goal.returns-in_err-it-clause-fault
returns-in_err-it-clause-fault c =
    let p = err_from_is_err_and c.from_residual-in_err-it.result c.from_residual-in_err-it.ensures.1 in
    let lines = rw c.in-Some.is at c.in_ok-line.ensures.some in
    rw (p.1, p.2) (stuck_is c.args.at c.in-Some.line c.in-Some.left c.in_err-it.field-0.0 lines c.in_err-it.ensures.fault)

pub returns-clause-some : goal.returns-clause-some
returns-clause-some c =
    let lines = rw c.in-Some.is at c.in_ok-line.ensures.some in
    let end = rw c.in-Some.is at c.in_ok-line.ensures.end in
    let shorter = rw c.in-Some.is at c.in_ok-line.ensures.shorter in
    next_is c.args.at _ c.in-Some.line _ _ lines end shorter c.in_ok-it.ensures.placed refl
