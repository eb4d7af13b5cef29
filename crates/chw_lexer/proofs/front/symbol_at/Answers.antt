use Rattle.std.proofs.Common.{sym, ◌∙◌}
use Rattle.chw_lexer.proofs.Symbols.{lambda_front, no_lambda_front, single_front, no_single_front}
use Rattle.chw_lexer.proofs.front.symbol_at.Goals as goal

pub returns-then-begins_with-clause-some : goal.returns-then-begins_with-clause-some
returns-then-begins_with-clause-some c =
    lambda_front c.args.bytes.now c.requires c.if-bytes-eq47.true (sym c.begins_with.ensures ∙ c.if-begins_with.true)

pub returns-else-begins_with-clause-none : goal.returns-else-begins_with-clause-none
returns-else-begins_with-clause-none c =
    no_lambda_front c.args.bytes.now c.requires c.if-bytes-eq47.true (sym c.begins_with.ensures ∙ c.if-begins_with.false)

pub returns-then-is_symbol-clause-some : goal.returns-then-is_symbol-clause-some
returns-then-is_symbol-clause-some c =
    single_front c.args.bytes.now c.requires c.if-bytes-eq47.false (sym c.is_symbol.ensures ∙ c.if-is_symbol.true)

pub returns-else-is_symbol-clause-none : goal.returns-else-is_symbol-clause-none
returns-else-is_symbol-clause-none c =
    no_single_front c.args.bytes.now c.requires c.if-bytes-eq47.false (sym c.is_symbol.ensures ∙ c.if-is_symbol.false)
