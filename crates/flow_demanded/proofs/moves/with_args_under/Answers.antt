use Rattle.flow_demanded.proofs.Moved.{all_under}
use Rattle.flow_demanded.proofs.moves.with_args_under.Goals as goal

pub returns : goal.returns
returns c =
    all_under c.args.binders c.args.done.items c.args.args.now c.loop-arg.done.items c.loop-arg.arg-index c.loop-arg.invariant c.loop-arg-test.false
