use Rattle.flow_lets.proofs.OneGroup.{all_raised}
use Rattle.flow_lets.proofs.joining.with_raised.Goals as goal

pub returns : goal.returns
returns c =
    all_raised c.args.from.number c.args.by c.args.done.items c.args.group.now c.loop-binding.done.items c.loop-binding.binding-index c.loop-binding.invariant c.loop-binding-test.false
