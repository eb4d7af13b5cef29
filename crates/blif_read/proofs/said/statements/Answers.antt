use Rattle.std.proofs.Common.{◌≡◌, []}
use Rattle.std.proofs.lemmas.Result.{err_from_is_err_and}
use Rattle.blif_read.specs.Shown.{lines_left}
use Rattle.blif_read.proofs.Reaching.{none_left, reached_early, reached_end, reached_first, reached_more, reached_stuck}
use Rattle.blif_read.proofs.said.statements.Goals as goal

pub loop-all-init : goal.loop-all-init
loop-all-init c = reached_first c.args.text c.new-all.result.items c.new-all.ensures.items

pub returns-in_err-it-clause-fault : goal.returns-in_err-it-clause-fault
returns-in_err-it-clause-fault c =
    let p = err_from_is_err_and c.from_residual.result c.from_residual.ensures.1 in
    let l = c.loop-all in
    rw (p.1, p.2) (reached_stuck c.args.text.now l.at l.all.items c.in_err-it.field-0.0 l.invariant c.in_err-it.ensures.fault)

pub loop-all-preserved : goal.loop-all-preserved
loop-all-preserved c =
    let l = c.loop-all in
    let next = rw c.in-Some.is at c.in_ok-it.ensures.some in
    reached_more c.args.text.now l.at c.in-Some.behind l.all.items c.push.new.self.items c.in-Some.it l.invariant next c.in_ok-push.ensures.items

pub loop-all-smaller : goal.loop-all-smaller
loop-all-smaller c =
    let next = rw c.in-Some.is at c.in_ok-it.ensures.some in
    next.shorter

pub returns-in-BehindEnd-clause-says : goal.returns-in-BehindEnd-clause-says
returns-in-BehindEnd-clause-says c =
    let l = c.loop-all in
    let none = none_left c.in_ok-it.field-0 (lines_left l.at.left ≡ []) c.in_ok-it.ensures.none c.in_default.not-Some in
    reached_end c.args.text.now l.at l.all.items l.invariant none c.in-BehindEnd.is

pub returns-clause-fault : goal.returns-clause-fault
returns-clause-fault c =
    let l = c.loop-all in
    let none = none_left c.in_ok-it.field-0 (lines_left l.at.left ≡ []) c.in_ok-it.ensures.none c.in_default.not-Some in
    reached_early c.args.text.now l.at l.all.items c.line_count.result l.invariant none c.in_default-place.not-BehindEnd c.line_count.ensures
