use Rattle.std.proofs.Common.{get_or}
use Rattle.std.proofs.lemmas.Option.{slice_get-get_or}
use Rattle.net_share.proofs.making.widths_after.Goals as goal

pub bounds-widths-w : goal.bounds-widths-w
bounds-widths-w c =
    let kept = c.args.kept.now in
    let i = c.loop-w.w-index in
    c.requires.kept (get_or kept i 0) (i, slice_get-get_or kept i 0 c.loop-w-test.true)
