use Rattle.chw_grammar.proofs.LiteralParts.{made_without_sign, made_with_sign}
use Rattle.chw_grammar.proofs.laws.literals_have_their_parts.Goals as goal

pub returns-clause-without_sign : goal.returns-clause-without_sign
returns-clause-without_sign c = made_without_sign

pub returns-clause-with_sign : goal.returns-clause-with_sign
returns-clause-with_sign c = made_with_sign
