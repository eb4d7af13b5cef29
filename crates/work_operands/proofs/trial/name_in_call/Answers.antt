use Rattle.rewriting.specs.Origins.{origins_of}
use Rattle.rewriting.specs.Spots.{spot_of}
use Rattle.seen_types.proofs.Matched.{not_true}
use Rattle.work_operands.proofs.Heads.{call_answers, call_stays}
use Rattle.call_types.proofs.Arguments.{arguments_typed}
use Rattle.work_operands.proofs.trial.name_in_call.Goals as goal

pub name_argument-requires-clause-typed : goal.name_argument-requires-clause-typed
name_argument-requires-clause-typed c =
    arguments_typed (origins_of c.args.scene.now) (spot_of c.args.place.now) c.args.of
    c.args.args.now c.requires.typed

pub returns-then-not-has_lets : goal.returns-then-not-has_lets
returns-then-not-has_lets c =
    call_stays (origins_of c.args.scene.now) (spot_of c.args.place.now) c.args.of c.args.args.now
    c.requires.call
    (λ m. not_true c.has_lets.result c.if-not-has_lets.true (c.has_lets.ensures.1 m))

pub returns : goal.returns
returns c =
    call_answers (origins_of c.args.scene.now) (spot_of c.args.place.now) c.args.of c.args.args.now
    c.name_argument.result c.requires.call (c.has_lets.ensures.0 c.if-not-has_lets.false)
    c.name_argument.ensures
