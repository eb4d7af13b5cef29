use Rattle.std.proofs.Common.{sym, subst}
use Rattle.verilog_judge.specs.Read.{AreNarrowWires}
use Rattle.verilog_judge.proofs.building.net_module.Goals as goal

pub bits_of_wires-requires : goal.bits_of_wires-requires
bits_of_wires-requires c = subst AreNarrowWires (sym c.as_slice.ensures) c.requires.narrow
