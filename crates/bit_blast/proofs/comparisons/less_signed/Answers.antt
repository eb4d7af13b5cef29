use Rattle.std.proofs.Common.{◌-◌}
use Rattle.bit_nodes.specs.declared.nodes.BitGate.TheVariants.{Buffer, Less, Never}
use Rattle.bit_nodes.specs.declared.nodes.BitName.TheVariants.{Bit, Further}
use Rattle.bit_nodes.specs.declared.nodes.BitNode.TheVariants.{Table}
use Rattle.bit_blast.proofs.Adding.{added_behind, two_more}
use Rattle.bit_blast.proofs.Steps.{signed_end}
use Rattle.bit_blast.proofs.comparisons.less_signed.Goals as goal

pub returns : goal.returns
returns c = λ flat.
    let a = c.args.a in
    let b = c.args.b in
    let w = c.args.w in
    let n = c.args.width in
    two_more flat c.args.nodes.now.items c.below.new.nodes.items c.push-2.new.self.items c.push-3.new.self.items _ _
    (Table (Less (Bit b (n - 1)) (Bit a (n - 1)) (Further w (n - 1))) (Further w n)) (Table (Buffer (Further w n)) (Bit w 0))
    (added_behind flat c.args.nodes.now.items c.push.new.self.items c.below.new.nodes.items (Table Never (Further w 0)) _
    c.in_ok-push.ensures.items (c.in_ok-below.ensures flat))
    c.in_ok-push-2.ensures.items c.in_ok-push-3.ensures.items (signed_end flat w a b n c.requires.some)
