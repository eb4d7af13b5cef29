use Rattle.std.proofs.Common.{length, sym, ◌∙◌}
use Rattle.std.proofs.lemmas.Bool.{eqb-true}
use Rattle.std.proofs.lemmas.List.{nil_from_length}
use Rattle.seen_types.proofs.PutClosed.{put_in_closed}
use Rattle.term_frames.proofs.FieldsPut.{put_none}
use Rattle.term_frames.proofs.fields.stays.Goals as goal

pub returns-then-is_empty : goal.returns-then-is_empty
returns-then-is_empty c = λ _.
    let args = c.args.args.now in
    put_none c.args.field.now args (nil_from_length args (eqb-true (length args) 0 (sym c.is_empty.ensures ∙ c.if-is_empty.true)))

pub returns : goal.returns
returns c = λ h. put_in_closed c.args.field.now _ (c.has_no_variables.ensures h)
