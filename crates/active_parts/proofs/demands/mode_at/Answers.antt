use Rattle.std.proofs.Common.{◌≡◌, sym, subst}
use Rattle.chw_terms.specs.declared.scene.Mode.TheVariants.{C}
use Rattle.rewriting.specs.Origins.{origins_of}
use Rattle.rewriting.specs.Spots.{spot_of}
use Rattle.active_parts.specs.Below.{IsContentAt, WhyActive, why_constant, why_demanded, why_content}
use Rattle.active_parts.proofs.Spines.{no_constant, not_active}
use Rattle.active_parts.proofs.Truths.{not_true}
use Rattle.active_parts.proofs.demands.mode_at.Goals.{else-builds_circuit-via-then-builds_circuit+in_ok-is_content+else-branch-2, else-builds_circuit-via-else-builds_circuit}
use Rattle.active_parts.proofs.demands.mode_at.Goals as goal

pub returns-then-is_constant_at : goal.returns-then-is_constant_at
returns-then-is_constant_at c =
    why_constant (c.is_constant.ensures.0 c.if-is_constant.true) (c.is_constant_at.ensures.0 c.if-is_constant_at.true)

pub returns-then-is_constant : goal.returns-then-is_constant
returns-then-is_constant c m why =
    no_constant (origins_of c.args.ground.now.scene.now) (spot_of c.args.place.now) c.args.which c.args.args.now c.args.number c.args.at.now
    (c.is_constant.ensures.0 c.if-is_constant.true)
    (λ h. not_true c.is_constant_at.result c.if-is_constant_at.false (c.is_constant_at.ensures.1 h)) m why

pub returns-then-branch : goal.returns-then-branch
returns-then-branch c =
    let o = origins_of c.args.ground.now.scene.now in
    let at = spot_of c.args.place.now in
    subst (WhyActive o at c.args.which c.args.args.now c.args.number c.args.at.now) (sym c.head_mode.ensures)
    (why_demanded (λ k. not_true c.is_constant.result c.if-is_constant.false (c.is_constant.ensures.1 k))
    (c.in_ok-is_demanded.ensures.0 c.if-branch.true))

pub returns-then-branch-2 : goal.returns-then-branch-2
returns-then-branch-2 c =
    why_content (c.builds_circuit.ensures.0 c.if-builds_circuit.true) (c.in_ok-is_content.ensures.0 c.if-branch-2.true)

pub returns : goal.returns
returns c m why =
    let o = origins_of c.args.ground.now.scene.now in
    let at = spot_of c.args.place.now in
    let none : at.mode ≡ C → IsContentAt o.program.datas c.args.which c.args.args.now c.args.number → ⊥ =
    elim c.else-builds_circuit.branch [
      | else-builds_circuit-via-then-builds_circuit+in_ok-is_content+else-branch-2 w ↦ λ k h. not_true w.in_ok-is_content.field-0 w.if-branch-2.false (w.in_ok-is_content.ensures.1 h)
      | else-builds_circuit-via-else-builds_circuit w ↦ λ k h. not_true c.builds_circuit.result w.if-builds_circuit.false (c.builds_circuit.ensures.1 k)
    ] in
    not_active o at c.args.which c.args.args.now c.args.number c.args.at.now
    (λ k. not_true c.is_constant.result c.if-is_constant.false (c.is_constant.ensures.1 k))
    (λ h. not_true c.in_ok-is_demanded.field-0 c.if-branch.false (c.in_ok-is_demanded.ensures.1 h))
    none m why
