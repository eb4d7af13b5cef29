use Rattle.std.proofs.Common.{sym, subst}
use Rattle.verilog_judge.proofs.OfWires.{read_kind, small_memory}
use Rattle.verilog_judge.specs.Read.{IsReadDriver, IsSmall}
use Rattle.verilog_judge.proofs.module_widths.check_driver.Goals as goal

pub check_value-requires : goal.check_value-requires
check_value-requires c = subst IsReadDriver c.in-Assign.is c.requires.driver

pub check_output-requires : goal.check_output-requires
check_output-requires c = c.requires.module.outputs

pub check_register-requires-clause-kind : goal.check_register-requires-clause-kind
check_register-requires-clause-kind c = read_kind _ _ _ _ c.as_slice.ensures c.kind_at-kind.ensures c.requires.module.kinds

pub check_register-requires-clause-reset : goal.check_register-requires-clause-reset
check_register-requires-clause-reset c = subst IsReadDriver c.in-Register.is c.requires.driver

pub check_ram-requires-clause-memory : goal.check_ram-requires-clause-memory
check_ram-requires-clause-memory c =
    subst IsSmall (sym c.memory_of-memory.ensures)
    (small_memory c.kind_at.result (read_kind _ _ _ _ c.as_slice-in-Ram.ensures c.kind_at.ensures c.requires.module.kinds))

pub check_ram-requires-clause-words : goal.check_ram-requires-clause-words
check_ram-requires-clause-words c = subst IsReadDriver c.in-Ram.is c.requires.driver
