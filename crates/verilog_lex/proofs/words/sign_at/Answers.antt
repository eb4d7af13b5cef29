use Rattle.verilog_lex.proofs.Signs.{no_sign, single_sign}
use Rattle.verilog_lex.proofs.words.sign_at.Goals as goal

pub returns-in-Some-single-clause-some : goal.returns-in-Some-single-clause-some
returns-in-Some-single-clause-some c =
    single_sign c.args.bytes.now c.in-Some-single.sign c.in-len1-up.len_at_least c.in-Some-single.ensures.some c.in_default.ensures.none

pub returns-in-None-clause-none : goal.returns-in-None-clause-none
returns-in-None-clause-none c = no_sign c.args.bytes.now c.in-len1-up.len_at_least c.in-None.ensures.none c.in_default.ensures.none
