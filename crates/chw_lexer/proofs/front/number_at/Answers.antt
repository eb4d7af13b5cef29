use Rattle.chw_lexer.proofs.Numbers.{literal_token, numeral_token}
use Rattle.chw_lexer.proofs.front.number_at.Goals as goal

pub returns-in-Some : goal.returns-in-Some
returns-in-Some c = literal_token c.args.bytes.now c.in-Some.len c.requires c.in-Some.ensures.some

pub returns-in-None : goal.returns-in-None
returns-in-None c = numeral_token c.args.bytes.now c.run_len.result c.requires c.in-None.ensures.none c.run_len.ensures
