use Rattle.std.proofs.Common.{◌≡◌, length, Some, true, false, slice_get, refl, ap, ◌∙◌}
use Rattle.std.proofs.lemmas.Option.{slice_get_read}
use Rattle.net_share.proofs.Marks.{mark_again, mark_new}
use Rattle.net_share.proofs.marking.mark.Goals as goal

pub returns-then-is_marked : goal.returns-then-is_marked
returns-then-is_marked c =
    let marks = c.args.needed.now.marks.items in
    let on : slice_get marks c.args.w ≡ Some true = slice_get_read marks (length marks) c.args.w c.index-is_marked.result.now refl c.requires.wire c.index-is_marked.ensures ∙ ap Some c.if-is_marked.true in
    mark_again marks c.args.needed.now.found.items c.args.w c.requires.marked on

pub returns : goal.returns
returns c =
    let marks = c.args.needed.now.marks.items in
    let off : slice_get marks c.args.w ≡ Some false = slice_get_read marks (length marks) c.args.w c.index-is_marked.result.now refl c.requires.wire c.index-is_marked.ensures ∙ ap Some c.if-is_marked.false in
    mark_new marks c.args.needed.now.found.items c.args.w _ _ c.requires.marked off refl c.in_ok-push.ensures.items
