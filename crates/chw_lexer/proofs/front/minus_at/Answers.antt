use Rattle.std.proofs.Common.{sym, ◌∙◌}
use Rattle.chw_lexer.proofs.Symbols.{negative_after, no_minus_after}
use Rattle.chw_lexer.proofs.front.minus_at.Goals as goal

pub returns-in-Some-clause-some : goal.returns-in-Some-clause-some
returns-in-Some-clause-some c =
    negative_after c.args.bytes.now c.requires.0 c.requires.1 c.in-Some.len (sym c.begins_with.ensures ∙ c.if-begins_with.false) c.in-Some.ensures.some

pub returns-in-None-clause-none : goal.returns-in-None-clause-none
returns-in-None-clause-none c =
    no_minus_after c.args.bytes.now c.requires.0 c.requires.1 (sym c.begins_with.ensures ∙ c.if-begins_with.false) c.in-None.ensures.none
