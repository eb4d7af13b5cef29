use Rattle.bit_nodes.specs.declared.nodes.BitGate.TheVariants.{Buffer, Never}
use Rattle.bit_nodes.specs.declared.nodes.BitName.TheVariants.{Bit, Further}
use Rattle.bit_nodes.specs.declared.nodes.BitNode.TheVariants.{Table}
use Rattle.bit_blast.proofs.Adding.{added_behind, one_more}
use Rattle.bit_blast.proofs.Steps.{less_end}
use Rattle.bit_blast.proofs.comparisons.less.Goals as goal

pub returns : goal.returns
returns c = λ flat.
    let w = c.args.w in
    one_more flat c.args.nodes.now.items c.below.new.nodes.items c.push-2.new.self.items _ _ (Table (Buffer (Further w c.args.width)) (Bit w 0))
    (added_behind flat c.args.nodes.now.items c.push.new.self.items c.below.new.nodes.items (Table Never (Further w 0)) _
    c.in_ok-push.ensures.items (c.in_ok-below.ensures flat))
    c.in_ok-push-2.ensures.items (less_end flat w c.args.a c.args.b c.args.width)
