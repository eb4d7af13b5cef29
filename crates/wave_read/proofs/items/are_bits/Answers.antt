use Rattle.std.proofs.Common.{sym, ◌∙◌, add-one}
use Rattle.std.proofs.lemmas.Bool.{false≢true}
use Rattle.wave_read.specs.Shown.{is_bit}
use Rattle.name_forms.proofs.Bytes.{passes_at, passes_more}
use Rattle.wave_read.proofs.items.are_bits.Goals as goal

pub returns-then-not-is_bit : goal.returns-then-not-is_bit
returns-then-not-is_bit c = (
  λ e. absurd (false≢true e),
  λ all. absurd (false≢true (sym c.if-not-is_bit.true ∙ c.is_bit.ensures ∙ passes_at is_bit c.args.bytes.now c.loop-byte.byte-index c.loop-byte-test.true all)),
)

pub loop-byte-preserved : goal.loop-byte-preserved
loop-byte-preserved c =
    rw add-one (passes_more is_bit c.args.bytes.now c.loop-byte.byte-index c.loop-byte-test.true c.loop-byte.invariant (sym c.is_bit.ensures ∙ c.if-not-is_bit.false))
