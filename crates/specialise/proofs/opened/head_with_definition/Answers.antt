use Rattle.std.proofs.Common.{◌≡◌, ◌∙◌, ap, sym, subst, Some, None, IfOk, length, refl}
use Rattle.std.specs.List.{slice_get}
use Rattle.std.proofs.lemmas.Bool.{ltb-true, ltb-false}
use Rattle.std.proofs.lemmas.Option.{slice_get_read, slice_get_past}
use Rattle.chw_terms.specs.TermTree.{global}
use Rattle.chw_terms.specs.TermView.{tree_of, applied}
use Rattle.rewriting.specs.Runs.{with_definition}
use Rattle.specialise.proofs.Lambdas.{other_head_stays, definition_put, definition_missing}
use Rattle.specialise.proofs.opened.head_with_definition.Goals as goal

pub returns-in_default : goal.returns-in_default
returns-in_default c =
    let p = c.args.program.now in
    let stays = other_head_stays p c.term.inside.head c.term.inside.args.items
    c.in_default.not-Global in
    subst (λ y. IfOk c.copy.result (λ e. e ≡ y))
    (subst (λ e. e ≡ with_definition p e) c.term.view_is stays) c.copy.ensures

pub returns-in_default-get : goal.returns-in_default-get
returns-in_default-get c =
    let p = c.args.program.now in
    let n = c.in-Global.d.number in
    let items = c.term.inside.args.items in
    let whole : applied (global n) items ≡ c.args.term.now =
    ap (λ h. applied (tree_of h) items) (sym c.in-Global.is) ∙ c.term.view_is in
    let none : slice_get p.defs n ≡ None =
    subst (λ ds. slice_get ds n ≡ None) c.as_slice.ensures
    (slice_get_past c.as_slice.result.now n (ltb-false _ _ (sym c.in_default-get.ensures.lookup.0))) in
    subst (λ y. IfOk c.copy-in_default-get.result (λ e. e ≡ y))
    (subst (λ e. e ≡ with_definition p e) whole (definition_missing p n items none))
    c.copy-in_default-get.ensures

pub returns : goal.returns
returns c =
    let p = c.args.program.now in
    let n = c.in-Global.d.number in
    let it = c.in-Some.it.now in
    let defs = c.as_slice.result.now in
    let items = c.term.inside.args.items in
    let whole : applied (global n) items ≡ c.args.term.now =
    ap (λ h. applied (tree_of h) items) (sym c.in-Global.is) ∙ c.term.view_is in
    let read : slice_get p.defs n ≡ Some it =
    subst (λ ds. slice_get ds n ≡ Some it) c.as_slice.ensures
    (slice_get_read defs (length defs) n it refl (ltb-true _ _ (sym c.in-Some.ensures.lookup.0))
    c.in-Some.ensures.lookup.1) in
    subst (λ y. IfOk c.with_args.result (λ e. e ≡ y))
    ((λ i. applied (c.in_ok-body.ensures i) (c.deref.ensures.value i))
    ∙ definition_put p n items it read ∙ ap (with_definition p) whole)
    c.with_args.ensures
