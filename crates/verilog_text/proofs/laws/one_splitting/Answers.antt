use Rattle.std.proofs.Common.{sym, refl}
use Rattle.verilog_text.proofs.Uniqueness.{one_splitting}
use Rattle.verilog_text.proofs.laws.one_splitting.Goals as goal

pub returns : goal.returns
returns c = λ text a b first second. sym (one_splitting first second refl refl)
