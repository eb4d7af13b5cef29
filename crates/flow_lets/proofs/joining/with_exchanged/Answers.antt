use Rattle.flow_lets.proofs.OneGroup.{all_exchanged}
use Rattle.flow_lets.proofs.joining.with_exchanged.Goals as goal

pub returns : goal.returns
returns c =
    all_exchanged c.args.first c.args.next c.args.done.items c.args.group.now c.loop-binding.done.items c.loop-binding.binding-index c.loop-binding.invariant c.loop-binding-test.false
