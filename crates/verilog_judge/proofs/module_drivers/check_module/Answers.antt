use Rattle.std.proofs.Common.{drop, map, ap, ◌∙◌}
use Rattle.std.specs.List.{flat_map}
use Rattle.verilog_judge.proofs.Driving.{outputs_marked, wires_marked}
use Rattle.verilog_judge.proofs.ModuleDrivers.{module_checked}
use Rattle.verilog_judge.specs.Marks.{as_operand}
use Rattle.verilog_rules.specs.DriverRules.{drives, shows}
use Rattle.verilog_rules.specs.declared.resolved.Wire.{Wire}
use Rattle.verilog_tree.specs.declared.word.Line.{Line}
use Rattle.verilog_judge.proofs.module_drivers.check_module.Goals as goal

pub check_driven-requires : goal.check_driven-requires
check_driven-requires c =
    let both = outputs_marked c.args.m.now c.len.result c.deref.result.now c.deref-2.result.now c.requires c.len.ensures
    (c.deref.ensures.value ∙ c.in_ok-outputs.ensures ∙ ap (map (λ (l : Line). l.name)) c.as_slice-2.ensures)
    (c.deref-2.ensures.value ∙ c.in_ok-shown.ensures ∙ ap (λ ds. map as_operand (flat_map shows ds)) c.as_slice.ensures) in
    record { count = both.0; driven = both.1 }

pub check_driven-requires-2 : goal.check_driven-requires-2
check_driven-requires-2 c =
    let both = wires_marked c.args.m.now c.len-2.result c.deref-3.result.now c.deref-4.result.now c.requires c.len-2.ensures
    (c.deref-3.ensures.value ∙ c.in_ok-names.ensures
    ∙ ap (map (λ (w : Wire). w.line.name)) (c.own_wires.ensures ∙ ap (drop c.args.m.now.inputs) c.as_slice-4.ensures))
    (c.deref-4.ensures.value ∙ c.in_ok-driven.ensures ∙ ap (flat_map drives) c.as_slice-3.ensures) in
    record { count = both.0; driven = both.1 }

pub returns : goal.returns
returns c =
    module_checked c.args.m.now c.deref-2.result.now c.deref-4.result.now c.deref.result.now c.deref-3.result.now _ _ _
    (c.deref-2.ensures.value ∙ c.in_ok-shown.ensures ∙ ap (λ ds. map as_operand (flat_map shows ds)) c.as_slice.ensures)
    (c.deref.ensures.value ∙ c.in_ok-outputs.ensures ∙ ap (map (λ (l : Line). l.name)) c.as_slice-2.ensures)
    (c.deref-4.ensures.value ∙ c.in_ok-driven.ensures ∙ ap (flat_map drives) c.as_slice-3.ensures)
    (c.deref-3.ensures.value ∙ c.in_ok-names.ensures
    ∙ ap (map (λ (w : Wire). w.line.name)) (c.own_wires.ensures ∙ ap (drop c.args.m.now.inputs) c.as_slice-4.ensures))
    c.in_ok-check_driven.ensures c.in_ok-check_driven-2.ensures
