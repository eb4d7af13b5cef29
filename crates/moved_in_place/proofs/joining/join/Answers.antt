use Rattle.std.proofs.Common.{subst}
use Rattle.std.proofs.lemmas.Result.{on_ok_weaker}
use Rattle.chw_terms.specs.TermView.{tree_of, applied}
use Rattle.moved_in_place.specs.Joined.{IsJoined}
use Rattle.moved_in_place.proofs.JoinedLets.{bare, joined_applied}
use Rattle.moved_in_place.proofs.joining.join.Goals as goal

pub returns : goal.returns
returns c =
    let h = c.term.inside.head in
    let args = c.term.inside.args.items in
    let new = tree_of c.join_head.new.head in
    on_ok_weaker c.join_head.result
    (λ k. subst (λ e. IsJoined e (applied new args)) c.term.view_is (joined_applied (tree_of h) new args (bare h) k))
    c.join_head.ensures
