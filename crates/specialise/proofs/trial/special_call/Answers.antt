use Rattle.std.proofs.Common.{◌∙◌, ap}
use Rattle.std.proofs.lemmas.Result.{IfOk-weaker}
use Rattle.rewriting.specs.Origins.{origins_of}
use Rattle.rewriting.specs.Spots.{spot_of}
use Rattle.seen_types.proofs.Matched.{not_true}
use Rattle.specialise.specs.Special.{AnswersSpecial}
use Rattle.specialise.specs.Closed.{numbers}
use Rattle.specialise.proofs.Called.{called_plain}
use Rattle.specialise.proofs.Numbering.{AnswersCalled, call_answer, call_in, none_special}
use Rattle.specialise.proofs.trial.special_call.Goals as goal

pub returns-then-not-has_lets : goal.returns-then-not-has_lets
returns-then-not-has_lets c =
    none_special c.args.scene.now.program.now c.args.scene.now.made.now c.args.table.now
    (spot_of c.args.place.now) c.args.at.now c.requires.same
    (λ e' i. not_true c.has_lets.result c.if-not-has_lets.true
    (c.has_lets.ensures.1 (call_in c.requires.call i).lets))

pub returns-then-not-branch : goal.returns-then-not-branch
returns-then-not-branch c =
    none_special c.args.scene.now.program.now c.args.scene.now.made.now c.args.table.now
    (spot_of c.args.place.now) c.args.at.now c.requires.same
    (λ e' i. let yes = c.in_ok-is_plain.ensures.1 (called_plain (call_in c.requires.call i).call) in
    let no = c.if-not-branch.true in absurd cc)

pub called_on-outcome-requires-clause-plain : goal.called_on-outcome-requires-clause-plain
called_on-outcome-requires-clause-plain c = c.in_ok-is_plain.ensures.0 c.if-not-branch.false

pub called_on-outcome-requires-clause-free : goal.called_on-outcome-requires-clause-free
called_on-outcome-requires-clause-free c = ap numbers c.deref.ensures.value ∙ c.in_ok-free.ensures

pub returns : goal.returns
returns c =
    let scene = c.args.scene.now in
    let p = scene.program.now in
    let o = origins_of scene in
    let at = spot_of c.args.place.now in
    let e = c.args.at.now in
    let all = ap numbers c.deref.ensures.value ∙ c.in_ok-free.ensures in
    IfOk-weaker c.called_on-outcome.result (AnswersCalled o p c.args.table.now at e (numbers c.deref.result.now))
    (AnswersSpecial p c.args.table.now at e)
    (λ r h. call_answer p scene.made.now c.args.table.now at e (numbers c.deref.result.now) r
    c.requires.same (c.has_lets.ensures.0 c.if-not-has_lets.false) c.requires.typed c.requires.call
    all h)
    c.called_on-outcome.ensures
