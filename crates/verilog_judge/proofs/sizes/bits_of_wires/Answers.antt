use Rattle.std.proofs.Common.{◌≤◌, refl}
use Rattle.chw_base.specs.declared.limits.TheConstants.{WIRE_BITS}
use Rattle.verilog_checks.proofs.Each.{holds_at}
use Rattle.verilog_rules.specs.Texts.{width}
use Rattle.verilog_rules.specs.declared.resolved.Wire.{Wire}
use Rattle.verilog_judge.proofs.sizes.bits_of_wires.Goals as goal

pub bits_of-requires : goal.bits_of-requires
bits_of-requires c = holds_at (λ (w : Wire). width w.line.range ≤ WIRE_BITS) c.args.wires.now c.loop-wire.wire-index _ _ c.loop-wire-test.true refl c.requires
