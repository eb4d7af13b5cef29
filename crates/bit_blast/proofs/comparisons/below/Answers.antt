use Rattle.std.proofs.Common.{◌≡◌, ℕ, ◌+◌, subst, arith}
use Rattle.bit_laws.specs.Blast.{less_nodes}
use Rattle.bit_nodes.specs.declared.nodes.BitGate.TheVariants.{Less}
use Rattle.bit_nodes.specs.declared.nodes.BitName.TheVariants.{Bit, Further}
use Rattle.bit_nodes.specs.declared.nodes.BitNode.TheVariants.{Table}
use Rattle.bit_blast.specs.Adding.{Adds}
use Rattle.bit_blast.specs.Names.{lowest}
use Rattle.bit_blast.proofs.Adding.{nothing_added, one_more}
use Rattle.bit_blast.proofs.Steps.{less_step}
use Rattle.bit_blast.proofs.comparisons.below.Goals as goal

pub loop-place-init : goal.loop-place-init
loop-place-init c = λ flat. nothing_added flat c.args.nodes.now.items

pub loop-place-preserved : goal.loop-place-preserved
loop-place-preserved c = λ flat.
    let j = c.loop-place.place in
    one_more flat c.args.nodes.now.items c.loop-place.nodes.items c.push.new.self.items _ _
    (Table (Less (Bit c.args.a j) (Bit c.args.b j) (Further c.args.w j)) (Further c.args.w (j + 1))) (c.loop-place.invariant flat)
    c.in_ok-push.ensures.items (less_step flat c.args.w c.args.a c.args.b j)

pub returns : goal.returns
returns c = λ flat.
    let same : c.loop-place.place ≡ c.args.width = omega arith in
    subst (λ (n : ℕ). Adds flat c.args.nodes.now.items c.loop-place.nodes.items
    (less_nodes c.args.w.number (lowest flat c.args.a.number n) (lowest flat c.args.b.number n)))
    same (c.loop-place.invariant flat)
