use Rattle.std.proofs.Common.{◌≤◌, refl}
use Rattle.chw_base.specs.declared.limits.TheConstants.{WIRE_BITS}
use Rattle.verilog_checks.proofs.Each.{holds_at}
use Rattle.verilog_judge.specs.Read.{IsReadKind}
use Rattle.verilog_rules.specs.Texts.{width}
use Rattle.verilog_rules.specs.declared.resolved.Wire.{Wire}
use Rattle.verilog_judge.proofs.parts.check_wires.Goals as goal

pub check_wire-requires-clause-narrow : goal.check_wire-requires-clause-narrow
check_wire-requires-clause-narrow c = holds_at (λ (w : Wire). width w.line.range ≤ WIRE_BITS) c.args.wires.now c.loop-wire.wire-index _ _ c.loop-wire-test.true refl c.requires.narrow

pub check_wire-requires-clause-kind : goal.check_wire-requires-clause-kind
check_wire-requires-clause-kind c = holds_at (λ (w : Wire). IsReadKind w.kind) c.args.wires.now c.loop-wire.wire-index _ _ c.loop-wire-test.true refl c.requires.kinds
