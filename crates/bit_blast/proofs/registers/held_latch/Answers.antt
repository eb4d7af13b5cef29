use Rattle.std.proofs.Common.{[], ◌∷◌, ◌∙◌, ap}
use Rattle.bit_laws.specs.BitNames.{bit_name, further}
use Rattle.bit_laws.specs.Bitnet.{Node, clock_of}
use Rattle.bit_laws.specs.Bitnet.Node.{latch}
use Rattle.bit_nodes.specs.Standing.{node_of}
use Rattle.bit_nodes.specs.declared.nodes.BitGate.{BitGate}
use Rattle.bit_nodes.specs.declared.nodes.BitName.TheVariants.{Bit, Further, Reset}
use Rattle.bit_nodes.specs.declared.nodes.BitNode.TheVariants.{Table}
use Rattle.bit_blast.proofs.Adding.{added_as, nothing_added, two_added}
use Rattle.bit_blast.proofs.Latches.{holding_is}
use Rattle.bit_blast.proofs.registers.held_latch.Goals as goal

pub returns : goal.returns
returns c = λ flat.
    let w = c.args.w in
    let j = c.args.place in
    let held = Further w j in
    let behind = latch (further w.number j) (bit_name flat.ports w.number j) (clock_of flat.ports c.args.domain) c.args.bit in
    added_as flat c.args.nodes.now.items c.push-2.new.self.items _ _
    (ap (λ (n : Node). n ∷ behind ∷ [])
    (ap (λ (g : BitGate). node_of flat (Table g held)) c.holding.ensures
    ∙ holding_is flat c.args.bit (Bit c.args.a j) (Reset c.args.domain) held))
    (two_added flat c.args.nodes.now.items c.args.nodes.now.items _ _ [] _ _ (nothing_added flat c.args.nodes.now.items)
    c.in_ok-push.ensures.items c.in_ok-push-2.ensures.items)
