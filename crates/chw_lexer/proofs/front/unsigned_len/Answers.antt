use Rattle.std.proofs.Common.{sym, ◌∙◌}
use Rattle.chw_lexer.proofs.Numbers.{no_value, no_letter_from, no_width_from, whole_from}
use Rattle.chw_lexer.proofs.front.unsigned_len.Goals as goal
use Rattle.chw_lexer.proofs.front.unsigned_len.Goals.{then-value-eq0-via-then-value-eq0, then-value-eq0-via-else-value-eq0+then-not-begins_with_letter}

pub returns-then-value-eq0-clause-none : goal.returns-then-value-eq0-clause-none
returns-then-value-eq0-clause-none c =
    elim c.then-value-eq0.branch [
      | then-value-eq0-via-then-value-eq0 w ↦ no_value c.args.signed c.args.bytes.now c.run_len-value.result c.run_len-value.ensures w.if-value-eq0.true
      | then-value-eq0-via-else-value-eq0+then-not-begins_with_letter w ↦
          no_letter_from c.args.signed c.args.bytes.now c.run_len-value.result c.run_len-value.ensures (sym w.begins_with_letter.ensures ∙ w.if-not-begins_with_letter.true)
    ]

pub returns-then-width-eq0-clause-none : goal.returns-then-width-eq0-clause-none
returns-then-width-eq0-clause-none c =
    no_width_from c.args.signed c.args.bytes.now c.run_len-value.result c.run_len-value.ensures (sym c.begins_with_letter.ensures ∙ c.if-not-begins_with_letter.false) c.run_len-width.result c.run_len-width.ensures c.if-width-eq0.true

pub returns-clause-some : goal.returns-clause-some
returns-clause-some c =
    whole_from c.args.signed c.args.bytes.now c.run_len-value.result c.run_len-value.ensures (sym c.begins_with_letter.ensures ∙ c.if-not-begins_with_letter.false) c.run_len-width.result c.run_len-width.ensures c.if-value-eq0.false c.if-width-eq0.false
