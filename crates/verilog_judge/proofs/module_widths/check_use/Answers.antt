use Rattle.std.proofs.Common.{sym}
use Rattle.std.proofs.lemmas.Bool.{ltb-true}
use Rattle.verilog_checks.proofs.Each.{holds_at}
use Rattle.verilog_judge.specs.Read.{IsReadModule}
use Rattle.verilog_judge.proofs.module_widths.check_use.Goals as goal

pub check_used-requires : goal.check_used-requires
check_used-requires c = holds_at IsReadModule c.args.earlier.now c.args.used.number c.in-Some.used.now _ (ltb-true _ _ (sym c.in-Some.ensures.lookup.0)) c.in-Some.ensures.lookup.1 c.requires
