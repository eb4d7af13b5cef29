use Rattle.std.proofs.Common.{ap, ◌∙◌}
use Rattle.verilog_rules.specs.NetOf.{shown_wires}
use Rattle.verilog_judge.proofs.Showing.{shown_all}
use Rattle.verilog_judge.proofs.building.outputs.Goals as goal

pub returns : goal.returns
returns c =
    c.from.ensures
    ∙ shown_all c.as_slice.result.now c.args.m.now.outputs c.in_ok-wires.wires.items c.len.result c.len.ensures c.in_ok-wires.ensures.count c.in_ok-wires.ensures.wires
    ∙ ap (λ ds. shown_wires ds 0 c.args.m.now.outputs) c.as_slice.ensures
