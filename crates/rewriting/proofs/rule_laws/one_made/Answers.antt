use Rattle.std.proofs.Common.{refl}
use Rattle.rewriting.proofs.Makes.{one_makes, one_of_whole}
use Rattle.rewriting.proofs.rule_laws.one_made.Goals as goal

pub returns : goal.returns
returns c = record { shape = λ o at r e a b m n. one_makes o at r e e a b m n refl; whole = λ o at r e a b m n. one_of_whole m n }
