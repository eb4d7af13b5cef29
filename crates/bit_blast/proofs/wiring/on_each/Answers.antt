use Rattle.std.proofs.Common.{◌≡◌, ℕ, refl, arith, subst}
use Rattle.bit_laws.specs.Blast.{on_each}
use Rattle.bit_blast.specs.Adding.{Adds}
use Rattle.bit_blast.specs.Gating.{gate_of_one}
use Rattle.bit_blast.specs.Names.{names_of}
use Rattle.bit_blast.proofs.Adding.{nothing_added}
use Rattle.bit_blast.proofs.Places.{each_more}
use Rattle.bit_blast.proofs.wiring.on_each.Goals as goal

pub loop-place-init : goal.loop-place-init
loop-place-init c = λ flat. nothing_added flat c.args.nodes.now.items

pub loop-place-preserved : goal.loop-place-preserved
loop-place-preserved c = λ flat.
    each_more flat c.args.nodes.now.items c.loop-place.nodes.items c.push.new.self.items c.args.gate c.args.outs c.args.xs c.loop-place.place
    (c.loop-place.invariant flat) (rw (c.in_ok-push.ensures.items, c.on.ensures, c.at.ensures, c.at-in-loop-place.ensures) refl)

pub returns : goal.returns
returns c = λ flat.
    let same : c.loop-place.place ≡ c.args.width = omega arith in
    subst (λ (n : ℕ). Adds flat c.args.nodes.now.items c.loop-place.nodes.items
    (on_each (gate_of_one c.args.gate) (names_of flat c.args.outs n) (names_of flat c.args.xs n))) same (c.loop-place.invariant flat)
