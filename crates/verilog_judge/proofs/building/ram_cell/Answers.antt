use Rattle.std.proofs.Common.{sym, subst}
use Rattle.verilog_judge.specs.Meant.{AreMeantWords}
use Rattle.verilog_judge.proofs.building.ram_cell.Goals as goal

pub words-requires : goal.words-requires
words-requires c = subst AreMeantWords (sym c.as_slice.ensures) c.requires
