use Rattle.std.proofs.Common.{length, eqb-true, sym, ◌∙◌, subst}
use Rattle.seen_types.specs.NumberOf.{IsNumberOf}
use Rattle.seen_types.proofs.Staying.{put_nothing}
use Rattle.term_spines.proofs.numbers.filled_number.Goals as goal

pub returns-then-is_empty : goal.returns-then-is_empty
returns-then-is_empty c ts t h =
    subst (IsNumberOf ts c.args.of) (sym (put_nothing t c.args.waiting.now (eqb-true (length c.args.waiting.now) 0 (sym c.is_empty.ensures ∙ c.if-is_empty.true)))) h
