use Rattle.std.proofs.Common.{sym, ◌∙◌, add-one}
use Rattle.std.proofs.lemmas.Bool.{false≢true}
use Rattle.wave_text.specs.VcdText.{is_visible}
use Rattle.name_forms.proofs.Bytes.{passes_at, passes_more}
use Rattle.wave_read.proofs.slots.are_visible.Goals as goal

pub returns-then-not-is_visible : goal.returns-then-not-is_visible
returns-then-not-is_visible c = (
  λ e. absurd (false≢true e),
  λ all. absurd (false≢true (sym c.if-not-is_visible.true ∙ c.is_visible.ensures ∙ passes_at is_visible c.args.bytes.now c.loop-byte.byte-index c.loop-byte-test.true all)),
)

pub loop-byte-preserved : goal.loop-byte-preserved
loop-byte-preserved c =
    rw add-one (passes_more is_visible c.args.bytes.now c.loop-byte.byte-index c.loop-byte-test.true c.loop-byte.invariant (sym c.is_visible.ensures ∙ c.if-not-is_visible.false))
