use Rattle.std.proofs.Common.{sym, subst, ◌∙◌}
use Rattle.chw_types.specs.References.{HasNoCycle}
use Rattle.judge.proofs.Faults.{all_normal, blocked_fault}
use Rattle.judge.proofs.Verdicts.{scene_state}
use Rattle.judge.proofs.states.fault_of_bodies.Goals as goal

pub of-widths-requires : goal.of-widths-requires
of-widths-requires c =
    subst HasNoCycle (sym c.as_slice.ensures)
    ((c.data_types_in_order.ensures c.args.scene.now.program.now.datas).0 c.requires.typed.tidy.data_acyclic)

pub blocked_at-requires-clause-widths : goal.blocked_at-requires-clause-widths
blocked_at-requires-clause-widths c = c.of-widths.ensures ∙ c.as_slice.ensures

pub returns-in-Some : goal.returns-in-Some
returns-in-Some c =
    let scene = c.args.scene.now in
    blocked_fault scene.program.now scene.made.now c.in_ok-at.field-0 c.in-Some.at
    c.requires.ended c.in-Some.is c.in_ok-at.ensures

pub returns : goal.returns
returns c =
    let scene = c.args.scene.now in
    all_normal c.none_is_stuck.ensures.state scene.program.now scene.made.now c.in_ok-at.field-0
    (scene_state scene c.requires.typed) c.requires.ended c.in-None.is c.in_ok-at.ensures
