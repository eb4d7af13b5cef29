use Rattle.std.proofs.Common.{◌≡◌, ℕ, ◌-◌, ◌<◌, Bool, false, List, [], ◌∷◌, ◌++◌, length, drop, get_or, ap, sym, ◌∙◌, subst, arith}
use Rattle.std.proofs.lemmas.List.{drop_all}
use Rattle.bit_laws.specs.Blast.{constants}
use Rattle.bit_nodes.specs.declared.nodes.BitGate.{BitGate}
use Rattle.bit_nodes.specs.declared.nodes.BitName.TheVariants.{Bit}
use Rattle.bit_nodes.specs.declared.nodes.BitNode.TheVariants.{Table}
use Rattle.bit_blast.specs.Adding.{Adds}
use Rattle.bit_blast.specs.Gating.{constant_gate}
use Rattle.bit_blast.specs.Names.{lowest}
use Rattle.bit_blast.proofs.Adding.{nothing_added}
use Rattle.bit_blast.proofs.Joins.{constants_more}
use Rattle.bit_blast.proofs.wiring.constants.Goals as goal
use Rattle.bit_blast.proofs.wiring.constants.Goals as goal

pub loop-place-init : goal.loop-place-init
loop-place-init c = λ flat.
    let bits = c.args.bits.now in
    let none = drop_all (length bits - 0) bits (omega arith) in
    subst (λ (own : List Bool). Adds flat c.args.nodes.now.items c.args.nodes.now.items (constants [] own)) (sym none)
    (nothing_added flat c.args.nodes.now.items)

pub loop-place-preserved : goal.loop-place-preserved
loop-place-preserved c = λ flat.
    let bits = c.args.bits.now in
    let i = c.loop-place.place in
    let mid = c.loop-place.nodes.items in
    let less : i < length bits = omega arith in
    let pushed : c.push.new.self.items ≡ mid ++ Table (constant_gate (get_or bits (length bits - 1 - i) false)) (Bit c.args.w i) ∷ [] =
    c.in_ok-push.ensures.items ∙ ap (λ (gate : BitGate). mid ++ Table gate (Bit c.args.w i) ∷ []) c.constant_gate.ensures in
    constants_more flat c.args.nodes.now.items mid c.push.new.self.items c.args.w bits i less (c.loop-place.invariant flat) pushed

pub returns : goal.returns
returns c = λ flat.
    let bits = c.args.bits.now in
    let same : c.loop-place.place ≡ length bits = omega arith in
    let all : length bits - c.loop-place.place ≡ 0 = omega arith in
    subst (λ (n : ℕ). Adds flat c.args.nodes.now.items c.loop-place.nodes.items (constants (lowest flat c.args.w.number n) bits)) same
    (subst (λ (n : ℕ). Adds flat c.args.nodes.now.items c.loop-place.nodes.items
    (constants (lowest flat c.args.w.number c.loop-place.place) (drop n bits))) all (c.loop-place.invariant flat))
