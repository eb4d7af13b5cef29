use Rattle.std.proofs.Common.{◌≡◌, ◌+◌, Some, true, false, slice_get, refl, ap, ◌∙◌}
use Rattle.std.proofs.lemmas.Option.{slice_get-get_or}
use Rattle.net_share.proofs.Numbers.{kept_more, kept_same}
use Rattle.net_share.proofs.numbering.keep.Goals as goal

pub returns-then-not-is_marked : goal.returns-then-not-is_marked
returns-then-not-is_marked c = λ inputs least k.
    let marks = c.args.marks.now in
    let w = c.args.w in
    let off : slice_get marks w ≡ Some false = slice_get-get_or marks w false c.requires ∙ ap Some c.if-not-is_marked.true in
    kept_same inputs marks c.args.kept.now.items w (w + 1) refl k off

pub returns : goal.returns
returns c = λ inputs least k.
    let marks = c.args.marks.now in
    let w = c.args.w in
    let on : slice_get marks w ≡ Some true = slice_get-get_or marks w false c.requires ∙ ap Some c.if-not-is_marked.false in
    kept_more inputs marks c.args.kept.now.items _ w (w + 1) refl least k on c.in_ok-push.ensures.items
