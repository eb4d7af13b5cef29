use Rattle.std.proofs.Common.{sym, refl}
use Rattle.verilog_text.proofs.Uniqueness.{one_fault}
use Rattle.verilog_text.proofs.laws.one_place_without_a_token.Goals as goal

pub returns : goal.returns
returns c = λ text a b first second. sym (one_fault first second refl refl)
