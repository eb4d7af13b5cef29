use Rattle.verilog_lex.proofs.Names.{keyword_token, name_token}
use Rattle.verilog_lex.proofs.front.word_at.Goals as goal

pub returns-in-Some : goal.returns-in-Some
returns-in-Some c =
    keyword_token c.args.bytes.now c.run_len-len.result c.in-Some.keyword c.requires c.run_len-len.ensures c.in-Some.ensures.some

pub returns-in-None : goal.returns-in-None
returns-in-None c = name_token c.args.bytes.now c.run_len-len.result c.requires c.run_len-len.ensures c.in-None.ensures.none
