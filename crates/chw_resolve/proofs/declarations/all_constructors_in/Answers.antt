use Rattle.std.proofs.Common.{◌∙◌, arith}
use Rattle.chw_resolve.specs.Programs.{constructor_in}
use Rattle.chw_resolve.proofs.Lists.{made_more_there, made_all}
use Rattle.chw_resolve.proofs.declarations.all_constructors_in.Goals as goal

pub loop-constructor-preserved : goal.loop-constructor-preserved
loop-constructor-preserved c =
    let so_far = c.loop-constructor.invariant in
    record {
      scope = c.in_ok-constructor_in.ensures.scope ∙ so_far.scope;
      made = c.in_ok-push.ensures.items
          ∙ made_more_there (constructor_in c.args.globals.now) c.args.variables.now c.loop-constructor.variables c.args.constructors.now c.loop-constructor.constructor-index c.constructor-item.result _
          c.loop-constructor-test.true c.constructor-item.is so_far.scope so_far.made c.in_ok-constructor_in.ensures.made;
    }

pub returns : goal.returns
returns c =
    made_all (constructor_in c.args.globals.now c.args.variables.now) c.args.constructors.now c.loop-constructor.constructor-index (omega (arith, c.loop-constructor-test.false)) c.loop-constructor.invariant.made
