use Rattle.std.proofs.Common.{sym, subst}
use Rattle.std.proofs.lemmas.Result.{err_from_is_err_and}
use Rattle.chw_lexer.specs.Tokens.{Tokens}
use Rattle.chw_cli.proofs.Reasons.{lex_refuses, parse_refuses}
use Rattle.chw_cli.proofs.describe.tree_of.Goals as goal

pub returns-in_err-tokens-clause-refused : goal.returns-in_err-tokens-clause-refused
returns-in_err-tokens-clause-refused c =
    let p = err_from_is_err_and c.from_residual.result c.from_residual.ensures.1 in
    rw (p.1, p.2) (lex_refuses c.args.text.now c.in_err-tokens.field-0.0 c.in_err-tokens.ensures.fault)

pub returns-in_err-tree-clause-refused : goal.returns-in_err-tree-clause-refused
returns-in_err-tree-clause-refused c =
    let p = err_from_is_err_and c.from_residual-in_err-tree.result c.from_residual-in_err-tree.ensures.1 in
    rw (p.1, p.2) (parse_refuses c.args.text.now c.as_slice.result.now c.in_err-tree.field-0.0
    (subst (Tokens c.args.text.now) (sym c.as_slice.ensures) c.in_ok-tokens.ensures.tokens) c.in_err-tree.ensures.fault)
