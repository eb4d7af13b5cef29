use Rattle.std.proofs.Common.{refl}
use Rattle.verilog_text.proofs.Uniqueness.{no_fault}
use Rattle.verilog_text.proofs.laws.split_texts_have_no_such_place.Goals as goal

pub returns : goal.returns
returns c = λ text tokens at splits fault. no_fault splits fault refl
