use Rattle.std.proofs.Common.{◌∙◌, refl}
use Rattle.verilog_lex.specs.Shown.{placed}
use Rattle.verilog_lex.specs.declared.token.Sign.TheVariants as sign
use Rattle.verilog_parse.proofs.Operators.{binary_bytes, binary_taken, last_binary}
use Rattle.verilog_parse.proofs.whole_rows.binary_op.Goals as goal

pub returns-in-Plus-clause-sign : goal.returns-in-Plus-clause-sign
returns-in-Plus-clause-sign c = λ took. binary_bytes c.sign.result sign.Plus c.args.k (placed c.args.tokens.now) c.sign.ensures c.in-Plus.is took

pub returns-in-Minus-clause-sign : goal.returns-in-Minus-clause-sign
returns-in-Minus-clause-sign c = λ took. binary_bytes c.sign.result sign.Minus c.args.k (placed c.args.tokens.now) c.sign.ensures c.in-Minus.is took

pub returns-in-Star-clause-sign : goal.returns-in-Star-clause-sign
returns-in-Star-clause-sign c = λ took. binary_bytes c.sign.result sign.Star c.args.k (placed c.args.tokens.now) c.sign.ensures c.in-Star.is took

pub returns-in-Ampersand-clause-sign : goal.returns-in-Ampersand-clause-sign
returns-in-Ampersand-clause-sign c = λ took. binary_bytes c.sign.result sign.Ampersand c.args.k (placed c.args.tokens.now) c.sign.ensures c.in-Ampersand.is took

pub returns-in-Bar-clause-sign : goal.returns-in-Bar-clause-sign
returns-in-Bar-clause-sign c = λ took. binary_bytes c.sign.result sign.Bar c.args.k (placed c.args.tokens.now) c.sign.ensures c.in-Bar.is took

pub returns-in-Caret-clause-sign : goal.returns-in-Caret-clause-sign
returns-in-Caret-clause-sign c = λ took. binary_bytes c.sign.result sign.Caret c.args.k (placed c.args.tokens.now) c.sign.ensures c.in-Caret.is took

pub returns-in-EqualsEquals-clause-sign : goal.returns-in-EqualsEquals-clause-sign
returns-in-EqualsEquals-clause-sign c = λ took. binary_bytes c.sign.result sign.EqualsEquals c.args.k (placed c.args.tokens.now) c.sign.ensures c.in-EqualsEquals.is took

pub returns-in-Less-clause-sign : goal.returns-in-Less-clause-sign
returns-in-Less-clause-sign c = λ took. binary_bytes c.sign.result sign.Less c.args.k (placed c.args.tokens.now) c.sign.ensures c.in-Less.is took

pub returns-in-LessLess-clause-sign : goal.returns-in-LessLess-clause-sign
returns-in-LessLess-clause-sign c = λ took. binary_bytes c.sign.result sign.LessLess c.args.k (placed c.args.tokens.now) c.sign.ensures c.in-LessLess.is took

pub returns-in_default-clause-sign : goal.returns-in_default-clause-sign
returns-in_default-clause-sign c = λ took.
    last_binary c.sign.result c.in_default.not-Plus c.in_default.not-Minus c.in_default.not-Star c.in_default.not-Ampersand c.in_default.not-Bar c.in_default.not-Caret c.in_default.not-EqualsEquals c.in_default.not-Less c.in_default.not-LessLess
    (binary_taken c.sign.result c.args.k (placed c.args.tokens.now) c.sign.ensures took)
    ∙ binary_bytes c.sign.result c.sign.result c.args.k (placed c.args.tokens.now) c.sign.ensures refl took
