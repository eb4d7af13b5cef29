use Rattle.verilog_lex.specs.declared.token.Sign.TheVariants as sign
use Rattle.verilog_parse.proofs.Operators.{none_found, other_found, sign_found}
use Rattle.verilog_parse.proofs.whole_rows.sign.Goals as goal

pub returns-in-Sign : goal.returns-in-Sign
returns-in-Sign c =
    let h = c.in-Some.ensures.lookup in
    sign_found c.args.tokens.now c.args.k c.in-Some.found.now c.in-Sign.sign h.3.0 h.1 c.in-Sign.is

pub returns-in_default : goal.returns-in_default
returns-in_default c =
    let h = c.in-Some.ensures.lookup in
    other_found c.args.tokens.now c.args.k c.in-Some.found.now sign.Comma h.3.0 h.1 c.in_default.not-Sign

pub returns-in-None : goal.returns-in-None
returns-in-None c = let h = c.in-None.ensures.lookup in none_found c.args.tokens.now c.args.k sign.Comma h.3
