use Rattle.std.proofs.Common.{◌≡◌, ℕ, false, replicate, arith, subst}
use Rattle.bit_laws.specs.BitNames.{furthers}
use Rattle.bit_laws.specs.Blast.{constants}
use Rattle.bit_blast.specs.Adding.{Adds}
use Rattle.bit_blast.proofs.Adding.{nothing_added}
use Rattle.bit_blast.proofs.RamWords.{zeros_more}
use Rattle.bit_blast.proofs.rams.zeros.Goals as goal

pub loop-place-init : goal.loop-place-init
loop-place-init c = λ flat. nothing_added flat c.args.nodes.now.items

pub loop-place-preserved : goal.loop-place-preserved
loop-place-preserved c = λ flat.
    zeros_more flat c.args.nodes.now.items c.loop-place.nodes.items c.push.new.self.items c.args.w c.loop-place.place
    (c.loop-place.invariant flat) c.in_ok-push.ensures.items

pub returns : goal.returns
returns c = λ flat.
    let same : c.loop-place.place ≡ c.args.width = omega arith in
    subst (λ (n : ℕ). Adds flat c.args.nodes.now.items c.loop-place.nodes.items (constants (furthers c.args.w.number 0 n) (replicate n false))) same
    (c.loop-place.invariant flat)
