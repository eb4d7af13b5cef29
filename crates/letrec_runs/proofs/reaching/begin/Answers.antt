use Rattle.std.proofs.Common.{sym}
use Rattle.chw_terms.specs.TermView.{group_of}
use Rattle.chw_terms.proofs.TermLists.{size_of_group}
use Rattle.letrec_runs.proofs.Reached.{from_the_body, nothing_marked}
use Rattle.letrec_runs.proofs.reaching.begin.Goals as goal

pub returns : goal.returns
returns c =
    let bs = c.args.group.now in
    let g = group_of bs in
    let e = c.args.body.now in
    c.in_ok-look_at.ensures g e (from_the_body g e)
    (nothing_marked (record { marks = c.in_ok-vec.field-0; waiting = c.new.result }) g e _ (sym (size_of_group bs)) (c.in_ok-vec.ensures.items_if_clones_equal (λ y e. e)) c.new.ensures.items)
