use Rattle.std.proofs.Common.{sym, subst}
use Rattle.std.specs.List.{AllByRecursion}
use Rattle.verilog_judge.specs.Read.{AreNarrowWires, AreReadKinds, IsReadDriver}
use Rattle.verilog_judge.proofs.module_widths.check_module.Goals as goal

pub bits_of_wires-requires : goal.bits_of_wires-requires
bits_of_wires-requires c = subst AreNarrowWires (sym c.as_slice.ensures) c.requires.module.narrow

pub check_wires-requires-clause-narrow : goal.check_wires-requires-clause-narrow
check_wires-requires-clause-narrow c = subst AreNarrowWires (sym c.as_slice-3.ensures) c.requires.module.narrow

pub check_wires-requires-clause-kinds : goal.check_wires-requires-clause-kinds
check_wires-requires-clause-kinds c = subst AreReadKinds (sym c.as_slice-3.ensures) c.requires.module.kinds

pub check_drivers-requires-clause-drivers : goal.check_drivers-requires-clause-drivers
check_drivers-requires-clause-drivers c = subst (AllByRecursion IsReadDriver) (sym c.as_slice-4.ensures) c.requires.module.drivers
