use Rattle.std.proofs.Common.{sym, subst}
use Rattle.std.proofs.lemmas.Result.{on_ok_weaker}
use Rattle.chw_terms.specs.declared.term.Head.{Head}
use Rattle.chw_terms.specs.TermTree.{letrec}
use Rattle.chw_terms.specs.TermView.{tree_of, group_of}
use Rattle.moved_in_place.specs.Joined.{IsJoinedAlone}
use Rattle.moved_in_place.proofs.FirstLet.{other_head}
use Rattle.moved_in_place.proofs.JoinedLets.{alone_other}
use Rattle.moved_in_place.proofs.joining.join_head.Goals as goal

pub returns-in_default : goal.returns-in_default
returns-in_default c =
    let e = tree_of c.args.head.now in
    alone_other e e (other_head c.args.head.now c.in_default.not-LetRec)

pub returns : goal.returns
returns c =
    let g = group_of c.in-LetRec.group.items in
    let new = letrec (group_of c.join_group.new.group.items) c.join_group.new.body in
    on_ok_weaker c.join_group.result
    (λ k. subst (λ (h : Head). IsJoinedAlone (tree_of h) new) (sym c.in-LetRec.is) (subst (λ e. IsJoinedAlone (letrec g e) new) c.deref_mut.ensures.value k))
    c.join_group.ensures
