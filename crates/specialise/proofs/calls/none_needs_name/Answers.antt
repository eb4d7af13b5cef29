use Rattle.std.proofs.Common.{refl, arith}
use Rattle.rewriting.specs.Origins.{origins_of}
use Rattle.rewriting.specs.Spots.{spot_of}
use Rattle.specialise.proofs.Needs.{argument_typed, none_more, none_of_all, one_needs}
use Rattle.specialise.proofs.calls.none_needs_name.Goals as goal

pub returns-then-branch : goal.returns-then-branch
returns-then-branch c = (
  λ t. absurd cc,
  λ none. absurd (one_needs c.args.args.now c.loop-arg.arg-index c.arg-item.result
      c.loop-arg-test.true c.arg-item.is
      (c.in_ok-argument_needs_name.ensures.0 c.if-branch.true) none),
)

pub loop-arg-preserved : goal.loop-arg-preserved
loop-arg-preserved c =
    none_more c.args.args.now c.loop-arg.arg-index c.arg-item.result c.arg-item.is
    c.loop-arg.invariant
    (λ n. let yes = c.in_ok-argument_needs_name.ensures.1 n in let no = c.if-branch.false in
    absurd cc)

pub returns : goal.returns
returns c = (
  λ t. none_of_all c.args.args.now c.loop-arg.arg-index (omega (arith, c.loop-arg-test.false))
      c.loop-arg.invariant,
  λ n. refl,
)

pub argument_needs_name-requires-clause-typed : goal.argument_needs_name-requires-clause-typed
argument_needs_name-requires-clause-typed c =
    argument_typed (origins_of c.args.scene.now) (spot_of c.args.place.now) c.args.args.now c.loop-arg.arg-index c.arg-item.result c.loop-arg-test.true
    c.arg-item.is c.requires.typed
