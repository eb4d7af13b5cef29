use Rattle.std.proofs.Common.{◌≡◌, ◌∙◌, ◌+◌, ◌-◌, IfOk, [], ◌∷◌, ◌++◌, length, take, drop, ap, subst}
use Rattle.chw_terms.specs.declared.term.Arg.TheVariants.{OfTerm}
use Rattle.chw_terms.specs.TermView.{applied}
use Rattle.rewriting.specs.Shapes.{shift_args}
use Rattle.flow_demanded.proofs.Moved.{between}
use Rattle.flow_demanded.proofs.moves.with_arg_at.Goals as goal

pub returns : goal.returns
returns c =
    let args = c.args.args.now in
    let at = c.args.at in
    let n = c.args.binders in
    let front = c.in_ok-given.ensures ∙ ap (λ xs. xs ++ shift_args (take at args) 0 n) c.new.ensures.items in
    let more = c.in_ok-push.ensures.items ∙ (λ i. front i ++ OfTerm (c.in_ok-copy.ensures i) ∷ []) in
    let items = c.in_ok-given-2.ensures ∙ ap (λ xs. xs ++ shift_args (take (length args - (at + 1)) (drop (at + 1) args)) 0 n) more ∙ between n args at c.args.arg.now c.requires in
    subst (λ y. IfOk c.applied.result (λ e. e ≡ y)) (λ i. applied (c.prim_of.ensures i) (items i)) c.applied.ensures
