use Rattle.std.proofs.Common.{◌∙◌, refl, sym, ap}
use Rattle.chw_types.specs.TypeMoves.{raised}
use Rattle.chw_terms.specs.declared.term.Head.TheVariants.{LetRec}
use Rattle.chw_terms.specs.TermTree.{letrec}
use Rattle.chw_terms.specs.TermView.{group_of, applied_to}
use Rattle.chw_terms.proofs.TermLists.{size_of_group}
use Rattle.chw_typing.specs.Groups.{rename_arg}
use Rattle.flow_functions.proofs.Firsts.{at_first_same}
use Rattle.flow_functions.proofs.Moved.{moves_in}
use Rattle.flow_functions.proofs.functions.app_let.Goals as goal

pub returns : goal.returns
returns c o at =
    let bs = c.in-LetRec.bindings.items in
    let count = c.in_ok-binders.ensures.narrow ∙ c.len.ensures ∙ c.in-LetRec.bindings.ok.0 ∙ sym (size_of_group bs) in
    let arg = c.in_ok-arg.ensures ∙ ap (λ n. rename_arg (raised 0 n) c.args.first.now) count in
    let body = c.in_ok-body.ensures ∙ c.deref.ensures in
    let inner = c.in_ok-inner.ensures ∙ (λ i. applied_to (body i) (arg i)) in
    let group = c.in_ok-group.ensures ∙ c.deref-2.ensures.value in
    at_first_same {k = LetRec c.in-LetRec.bindings c.in-LetRec.body} (moves_in o at (group_of bs) c.in-LetRec.body.value c.args.first.now) c.in-LetRec.is refl
    (c.in_ok-letrec.ensures ∙ (λ i. letrec (group_of (group i)) (inner i)))
