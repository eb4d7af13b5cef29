use Rattle.std.proofs.Common.{◌≡◌, ℕ, ◌+◌, ◌∷◌, List, ap, subst, arith}
use Rattle.netlist.specs.declared.net.Op2.TheVariants.{Add}
use Rattle.bit_laws.specs.Bitnet.{Node}
use Rattle.bit_laws.specs.Blast.{binary_nodes}
use Rattle.bit_nodes.specs.Standing.{node_of}
use Rattle.bit_nodes.specs.declared.nodes.BitGate.TheVariants.{Most, Never, Odd}
use Rattle.bit_nodes.specs.declared.nodes.BitName.TheVariants.{Bit, Further}
use Rattle.bit_nodes.specs.declared.nodes.BitNode.TheVariants.{Table}
use Rattle.bit_blast.specs.Adding.{Adds}
use Rattle.bit_blast.specs.Names.{lowest}
use Rattle.bit_blast.proofs.Adding.{pushed, two_more}
use Rattle.bit_blast.proofs.Steps.{sum_step}
use Rattle.bit_blast.proofs.sums.sum.Goals as goal

pub loop-place-init : goal.loop-place-init
loop-place-init c = λ flat.
    pushed flat c.args.nodes.now.items c.push.new.self.items (Table Never (Further c.args.w 0)) c.in_ok-push.ensures.items

pub loop-place-preserved : goal.loop-place-preserved
loop-place-preserved c = λ flat.
    let a = c.args.a in
    let b = c.args.b in
    let w = c.args.w in
    let j = c.loop-place.place in
    two_more flat c.args.nodes.now.items c.loop-place.nodes.items c.push-in-loop-place.new.self.items c.push-in-loop-place-2.new.self.items _ _
    (Table (Odd (Bit a j) (Bit b j) (Further w j)) (Bit w j))
    (Table (Most (Bit a j) (Bit b j) (Further w j)) (Further w (j + 1)))
    (c.loop-place.invariant flat) c.in_ok-push-2.ensures.items c.in_ok-push-3.ensures.items
    (ap (λ (ns : List Node). node_of flat (Table Never (Further w 0)) ∷ ns) (sum_step flat w a b j))

pub returns : goal.returns
returns c = λ flat.
    let same : c.loop-place.place ≡ c.args.width = omega arith in
    subst (λ (n : ℕ). Adds flat c.args.nodes.now.items c.loop-place.nodes.items
    (binary_nodes Add c.args.w.number (lowest flat c.args.w.number n) (lowest flat c.args.a.number n) (lowest flat c.args.b.number n)))
    same (c.loop-place.invariant flat)
