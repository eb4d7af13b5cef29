use Rattle.std.proofs.Common.{sym, subst}
use Rattle.verilog_judge.specs.Read.{AreReadWords}
use Rattle.verilog_judge.proofs.registers.check_ram_words.Goals as goal

pub check_words-requires : goal.check_words-requires
check_words-requires c = subst AreReadWords (sym c.as_slice.ensures) c.requires
