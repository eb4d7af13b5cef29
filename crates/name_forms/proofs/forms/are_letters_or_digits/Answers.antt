use Rattle.std.proofs.Common.{sym, ◌∙◌, add-one}
use Rattle.std.proofs.lemmas.Bool.{false≢true}
use Rattle.chw_base.specs.Names.{is_letter_or_digit}
use Rattle.name_forms.proofs.Bytes.{passes_at, passes_more}
use Rattle.name_forms.proofs.forms.are_letters_or_digits.Goals as goal

pub returns-then-not-is_letter_or_digit : goal.returns-then-not-is_letter_or_digit
returns-then-not-is_letter_or_digit c = (
  λ e. absurd (false≢true e),
  λ all. absurd (false≢true (sym c.if-not-is_letter_or_digit.true ∙ c.is_letter_or_digit.ensures ∙ passes_at is_letter_or_digit c.args.text.now c.loop-byte.byte-index c.loop-byte-test.true all)),
)

pub loop-byte-preserved : goal.loop-byte-preserved
loop-byte-preserved c =
    rw add-one (passes_more is_letter_or_digit c.args.text.now c.loop-byte.byte-index c.loop-byte-test.true c.loop-byte.invariant (sym c.is_letter_or_digit.ensures ∙ c.if-not-is_letter_or_digit.false))
