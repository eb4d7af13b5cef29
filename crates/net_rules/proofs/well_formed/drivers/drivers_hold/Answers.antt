use Rattle.std.proofs.Common.{ℕ, ◌<◌, List, length, subst, sym, ap, ◌∙◌}
use Rattle.std.specs.List.{flat_map, AllByRecursion}
use Rattle.chw_base.specs.declared.index.WireId.{WireId}
use Rattle.netlist.specs.Wires.{driven}
use Rattle.net_rules.proofs.DrivenWires.{driven_exist}
use Rattle.net_rules.proofs.well_formed.drivers.drivers_hold.Goals as goal

pub each_once-requires : goal.each_once-requires
each_once-requires c =
    let Exist : ℕ → List WireId → Type 0 = λ n. AllByRecursion (λ w. w.number < n) in
    let all = c.deref.ensures.value ∙ (c.in_ok-wires.ensures ∙ ap (flat_map driven) c.as_slice-cells.ensures) in
    subst (λ n. Exist n c.deref.result.now) (sym c.len-2.ensures)
    (subst (Exist (length c.args.m.now.widths)) (sym all) (driven_exist _ _ c.args.m.now.widths c.args.m.now.cells c.requires.names.cells))
