use Rattle.std.proofs.Common.{◌≡◌, ℕ, ap, ◌∙◌, subst, arith, ◌++◌, ◌∷◌, []}
use Rattle.bit_laws.specs.Blast.{on_both}
use Rattle.bit_nodes.specs.declared.nodes.BitGate.{BitGate}
use Rattle.bit_nodes.specs.declared.nodes.BitName.TheVariants.{Bit}
use Rattle.bit_nodes.specs.declared.nodes.BitNode.TheVariants.{Table}
use Rattle.bit_blast.specs.Adding.{Adds}
use Rattle.bit_blast.specs.Gating.{gate_of_two, with_two}
use Rattle.bit_blast.specs.Names.{lowest}
use Rattle.bit_blast.proofs.Adding.{nothing_added, one_more}
use Rattle.bit_blast.proofs.Steps.{both_step}
use Rattle.bit_blast.proofs.logic.on_both.Goals as goal

pub loop-place-init : goal.loop-place-init
loop-place-init c = λ flat. nothing_added flat c.args.nodes.now.items

pub loop-place-preserved : goal.loop-place-preserved
loop-place-preserved c = λ flat.
    let a = c.args.a in
    let b = c.args.b in
    let w = c.args.w in
    let j = c.loop-place.place in
    let mid = c.loop-place.nodes.items in
    let node = Table (with_two c.args.gate (Bit a j) (Bit b j)) (Bit w j) in
    let pushed : c.push.new.self.items ≡ mid ++ node ∷ [] =
    c.in_ok-push.ensures.items ∙ ap (λ (gate : BitGate). mid ++ Table gate (Bit w j) ∷ []) c.on.ensures in
    one_more flat c.args.nodes.now.items mid c.push.new.self.items _ _ node (c.loop-place.invariant flat) pushed (both_step flat w a b j c.args.gate)

pub returns : goal.returns
returns c = λ flat.
    let same : c.loop-place.place ≡ c.args.width = omega arith in
    subst (λ (n : ℕ). Adds flat c.args.nodes.now.items c.loop-place.nodes.items
    (on_both (gate_of_two c.args.gate) (lowest flat c.args.w.number n) (lowest flat c.args.a.number n) (lowest flat c.args.b.number n)))
    same (c.loop-place.invariant flat)
