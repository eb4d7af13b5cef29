use Rattle.std.proofs.Common.{length, eqb-true, sym, ◌∙◌}
use Rattle.seen_types.proofs.PutClosed.{put_in_closed}
use Rattle.seen_types.proofs.Staying.{put_nothing}
use Rattle.term_spines.proofs.spines.stays.Goals as goal

pub returns-then-is_empty : goal.returns-then-is_empty
returns-then-is_empty c = λ _. put_nothing c.args.ty.now c.args.waiting.now (eqb-true (length c.args.waiting.now) 0 (sym c.is_empty.ensures ∙ c.if-is_empty.true))

pub returns : goal.returns
returns c = λ h. sym (put_in_closed c.args.ty.now _ (c.has_no_variables.ensures h))
