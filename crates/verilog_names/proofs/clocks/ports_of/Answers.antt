use Rattle.std.proofs.Common.{refl}
use Rattle.verilog_checks.proofs.Each.{holds_at}
use Rattle.verilog_checks.specs.Narrow.{IsNarrow}
use Rattle.verilog_names.proofs.clocks.ports_of.Goals as goal

pub port-requires : goal.port-requires
port-requires c = holds_at IsNarrow c.args.lines.now c.loop-line.line-index _ _ c.loop-line-test.true refl c.requires
