use Rattle.std.proofs.Common.{sym, ◌∙◌, add-one}
use Rattle.std.proofs.lemmas.Bool.{false≢true}
use Rattle.chw_base.specs.Names.{is_name_byte}
use Rattle.name_forms.proofs.Bytes.{passes_at, passes_more}
use Rattle.name_forms.proofs.forms.are_name_bytes.Goals as goal

pub returns-then-not-is_name_byte : goal.returns-then-not-is_name_byte
returns-then-not-is_name_byte c = (
  λ e. absurd (false≢true e),
  λ all. absurd (false≢true (sym c.if-not-is_name_byte.true ∙ c.is_name_byte.ensures ∙ passes_at is_name_byte c.args.text.now c.loop-byte.byte-index c.loop-byte-test.true all)),
)

pub loop-byte-preserved : goal.loop-byte-preserved
loop-byte-preserved c =
    rw add-one (passes_more is_name_byte c.args.text.now c.loop-byte.byte-index c.loop-byte-test.true c.loop-byte.invariant (sym c.is_name_byte.ensures ∙ c.if-not-is_name_byte.false))
