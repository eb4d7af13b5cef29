use Rattle.std.proofs.Common.{refl}
use Rattle.verilog_checks.proofs.Each.{holds_at}
use Rattle.verilog_checks.specs.Narrow.{IsNarrow}
use Rattle.verilog_judge.proofs.sizes.bits_of_lines.Goals as goal

pub bits_of-requires : goal.bits_of-requires
bits_of-requires c = holds_at IsNarrow c.args.lines.now c.loop-line.line-index _ _ c.loop-line-test.true refl c.requires
