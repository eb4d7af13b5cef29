use Rattle.std.proofs.Common.{◌∙◌, refl}
use Rattle.verilog_lex.specs.Shown.{placed}
use Rattle.verilog_lex.specs.declared.token.Sign.TheVariants as sign
use Rattle.verilog_parse.proofs.Operators.{last_unary, unary_bytes, unary_taken}
use Rattle.verilog_parse.proofs.whole_rows.unary_op.Goals as goal

pub returns-in-Tilde : goal.returns-in-Tilde
returns-in-Tilde c = λ took. unary_bytes c.sign.result sign.Tilde c.args.k (placed c.args.tokens.now) c.sign.ensures c.in-Tilde.is took

pub returns-in-Ampersand : goal.returns-in-Ampersand
returns-in-Ampersand c = λ took. unary_bytes c.sign.result sign.Ampersand c.args.k (placed c.args.tokens.now) c.sign.ensures c.in-Ampersand.is took

pub returns-in-Bar : goal.returns-in-Bar
returns-in-Bar c = λ took. unary_bytes c.sign.result sign.Bar c.args.k (placed c.args.tokens.now) c.sign.ensures c.in-Bar.is took

pub returns-in_default : goal.returns-in_default
returns-in_default c = λ took.
    last_unary c.sign.result c.in_default.not-Tilde c.in_default.not-Ampersand c.in_default.not-Bar
    (unary_taken c.sign.result c.args.k (placed c.args.tokens.now) c.sign.ensures took)
    ∙ unary_bytes c.sign.result c.sign.result c.args.k (placed c.args.tokens.now) c.sign.ensures refl took
