use Rattle.std.proofs.Common.{◌≤◌, map, take, sym, ap, subst, ◌∙◌}
use Rattle.chw_base.specs.declared.limits.TheConstants.{WIRE_BITS}
use Rattle.verilog_checks.specs.Narrow.{AreNarrow}
use Rattle.verilog_rules.specs.Texts.{width}
use Rattle.verilog_rules.specs.WidthRules.{widths_of}
use Rattle.verilog_rules.specs.declared.resolved.Wire.{Wire}
use Rattle.verilog_judge.proofs.OfWires.{all_first}
use Rattle.verilog_judge.proofs.Taken.{used_checked}
use Rattle.verilog_judge.specs.Read.{AreNarrowWires}
use Rattle.verilog_judge.proofs.module_widths.check_used.Goals as goal

pub bits_of_wires-requires : goal.bits_of_wires-requires
bits_of_wires-requires c =
    subst AreNarrowWires (sym (c.first_wires.ensures ∙ ap (take c.args.used.now.inputs) c.as_slice.ensures))
    (all_first (λ (w : Wire). width w.line.range ≤ WIRE_BITS) c.args.used.now.inputs c.args.used.now.wires c.requires.narrow)

pub bits_of_lines-requires : goal.bits_of_lines-requires
bits_of_lines-requires c = subst AreNarrow (sym c.as_slice-2.ensures) c.requires.outputs

pub returns : goal.returns
returns c =
    used_checked c.args.widths.now c.args.used.now c.args.reads.now c.args.drives.now c.deref.result.now c.deref-2.result.now _ _ _
    (c.deref.ensures.value ∙ c.in_ok-inputs.ensures
    ∙ ap (map (λ (w : Wire). width w.line.range)) (c.first_wires.ensures ∙ ap (take c.args.used.now.inputs) c.as_slice.ensures))
    (c.deref-2.ensures.value ∙ c.in_ok-outputs.ensures ∙ ap widths_of c.as_slice-2.ensures)
    c.check_ports.ensures c.check_ports-2.ensures
