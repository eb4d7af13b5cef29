use Rattle.std.proofs.Common.{subst}
use Rattle.verilog_judge.specs.Read.{IsSmall}
use Rattle.verilog_judge.proofs.registers.check_ram.Goals as goal

pub count_of-count-requires : goal.count_of-count-requires
count_of-count-requires c = subst IsSmall c.in-Some.is c.requires.memory
