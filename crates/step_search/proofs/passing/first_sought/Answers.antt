use Rattle.std.proofs.Common.{◌≡◌, ◌+◌, suc, subst, arith}
use Rattle.trials.specs.Trials.{built}
use Rattle.active_parts.specs.Parts.{path_to}
use Rattle.rewriting.specs.Active.{Below}
use Rattle.step_search.specs.Passed.{ArePassedParts}
use Rattle.step_search.proofs.Numbered.{none_at_first}
use Rattle.step_search.proofs.Quiet.{one_more_passed}
use Rattle.step_search.proofs.passing.first_sought.Goals as goal

pub loop-number-init : goal.loop-number-init
loop-number-init c o at sound typed =
    none_at_first built o (Below o at c.args.at.now) (path_to c.args.at.now) c.args.from.now

pub is_passed-requires : goal.is_passed-requires
is_passed-requires c = c.requires c.loop-number.number c.loop-number-test.true

pub loop-number-preserved : goal.loop-number-preserved
loop-number-preserved c =
    let n = c.loop-number.number in
    let next : suc n ≡ n + 1 = omega arith in
    subst (ArePassedParts built c.args.at.now c.args.from.now) next
    (one_more_passed built c.args.at.now c.args.from.now n c.loop-number.invariant
    (c.in_ok-passed.ensures c.if-not-passed.false))

pub returns : goal.returns
returns c =
    let all : c.loop-number.number ≡ c.args.count =
    omega (arith, c.loop-number-test.false, c.loop-number.auto.number-end) in
    subst (ArePassedParts built c.args.at.now c.args.from.now) all c.loop-number.invariant
