use Rattle.std.proofs.Common.{sym, ◌∙◌}
use Rattle.chw_lexer.proofs.Names.{lower_token, key_token}
use Rattle.chw_lexer.proofs.front.lower_at.Goals as goal

pub returns-then-is_keyword : goal.returns-then-is_keyword
returns-then-is_keyword c =
    key_token c.args.bytes.now c.run_len-len.result c.requires c.run_len-len.ensures (sym c.is_keyword.ensures ∙ c.if-is_keyword.true)

pub returns-else-is_keyword : goal.returns-else-is_keyword
returns-else-is_keyword c =
    lower_token c.args.bytes.now c.run_len-len.result c.requires c.run_len-len.ensures (sym c.is_keyword.ensures ∙ c.if-is_keyword.false)
