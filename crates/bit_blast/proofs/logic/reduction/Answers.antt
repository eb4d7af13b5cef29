use Rattle.std.proofs.Common.{◌≡◌, ℕ, ◌-◌, [], ◌∷◌, ◌++◌, ap, ◌∙◌, add-one, subst, arith}
use Rattle.bit_laws.specs.Blast.{folded}
use Rattle.bit_nodes.specs.declared.nodes.BitGate.{BitGate}
use Rattle.bit_nodes.specs.declared.nodes.BitGate.TheVariants.{Buffer}
use Rattle.bit_nodes.specs.declared.nodes.BitName.TheVariants.{Bit, Further}
use Rattle.bit_nodes.specs.declared.nodes.BitNode.TheVariants.{Table}
use Rattle.bit_blast.specs.Adding.{Adds}
use Rattle.bit_blast.specs.Gating.{folding, gate_of_two}
use Rattle.bit_blast.specs.Names.{lowest}
use Rattle.bit_blast.proofs.Adding.{nothing_added, one_more}
use Rattle.bit_blast.proofs.Steps.{fold_step, reduction_end}
use Rattle.bit_blast.proofs.logic.reduction.Goals as goal

pub loop-place-init : goal.loop-place-init
loop-place-init c = λ flat. nothing_added flat c.args.nodes.now.items

pub loop-place-preserved : goal.loop-place-preserved
loop-place-preserved c = λ flat.
    let gate = c.args.gate in
    let w = c.args.w in
    let a = c.args.a in
    let j = c.loop-place.place in
    let mid = c.loop-place.nodes.items in
    let node = Table (folding gate w a j) (Further w j) in
    let pushed : c.push.new.self.items ≡ mid ++ node ∷ [] =
    c.in_ok-push.ensures.items ∙ ap (λ (g : BitGate). mid ++ Table g (Further w j) ∷ []) c.folding.ensures in
    one_more flat c.args.nodes.now.items mid c.push.new.self.items _ _ node (c.loop-place.invariant flat) pushed
    (ap (λ (i : ℕ). folded (gate_of_two gate) w.number (lowest flat a.number i)) (add-one j) ∙ fold_step flat gate w a j)

pub returns : goal.returns
returns c = λ flat.
    let gate = c.args.gate in
    let w = c.args.w in
    let a = c.args.a in
    let n = c.args.width in
    let done : c.loop-place.place ≡ n = omega arith in
    let before : Adds flat c.args.nodes.now.items c.loop-place.nodes.items (folded (gate_of_two gate) w.number (lowest flat a.number n)) =
    subst (λ (i : ℕ). Adds flat c.args.nodes.now.items c.loop-place.nodes.items (folded (gate_of_two gate) w.number (lowest flat a.number i)))
    done (c.loop-place.invariant flat) in
    one_more flat c.args.nodes.now.items c.loop-place.nodes.items c.push-2.new.self.items _ _ (Table (Buffer (Further w (n - 1))) (Bit w 0)) before
    c.in_ok-push-2.ensures.items (reduction_end flat gate w a n c.requires)
