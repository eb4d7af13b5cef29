use Rattle.std.proofs.Common.{sym, ◌∙◌, add-one}
use Rattle.std.proofs.lemmas.Bool.{false≢true}
use Rattle.blif_text.specs.Statements.{is_mark}
use Rattle.name_forms.proofs.Bytes.{passes_at, passes_more}
use Rattle.blif_read.proofs.saying.are_marks.Goals as goal

pub returns-then-not-is_mark : goal.returns-then-not-is_mark
returns-then-not-is_mark c = (
  λ e. absurd (false≢true e),
  λ all. absurd (false≢true (sym c.if-not-is_mark.true ∙ c.is_mark.ensures ∙ passes_at is_mark c.args.bytes.now c.loop-byte.byte-index c.loop-byte-test.true all)),
)

pub loop-byte-preserved : goal.loop-byte-preserved
loop-byte-preserved c =
    rw add-one (passes_more is_mark c.args.bytes.now c.loop-byte.byte-index c.loop-byte-test.true c.loop-byte.invariant (sym c.is_mark.ensures ∙ c.if-not-is_mark.false))
