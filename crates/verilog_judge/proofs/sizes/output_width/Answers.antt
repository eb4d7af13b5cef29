use Rattle.std.proofs.Common.{sym}
use Rattle.std.proofs.lemmas.Bool.{ltb-true}
use Rattle.verilog_checks.proofs.Each.{holds_at}
use Rattle.verilog_checks.specs.Narrow.{IsNarrow}
use Rattle.verilog_judge.proofs.sizes.output_width.Goals as goal

pub bits_of-requires : goal.bits_of-requires
bits_of-requires c = holds_at IsNarrow c.args.lines.now c.args.k c.in-Some.line.now _ (ltb-true _ _ (sym c.in-Some.ensures.lookup.0)) c.in-Some.ensures.lookup.1 c.requires
