use Rattle.std.proofs.Common.{◌≡◌, ◌∙◌, ◌++◌, [], ◌∷◌, sym, ap, subst, reverse, arith}
use Rattle.chw_types.specs.TypeTree.{TypeTree, fun}
use Rattle.chw_types.specs.TypeView.{tree_of as type_of}
use Rattle.chw_terms.specs.TermSize.{tree_size}
use Rattle.chw_terms.specs.TermTree.{lam}
use Rattle.chw_terms.specs.TermView.{tree_of, applied}
use Rattle.active_parts.specs.Grounds.{with_variables}
use Rattle.active_parts.proofs.Scoped.{more_in_scope}
use Rattle.step_search.specs.FoundSteps.{LeadsToTyped}
use Rattle.chw_norm.specs.GoingOn.{IsEntered}
use Rattle.step_search.proofs.Lambdas.{no_function_type, no_lambda_term}
use Rattle.chw_norm.proofs.Topmost.{entered_further, entered_here, if_ok_more}
use Rattle.step_search.proofs.Under.{leads_under, no_function, this_lambda}
use Rattle.chw_norm.proofs.top.+enter_top.Goals as goal

pub returns-in_default : goal.returns-in_default
returns-in_default t c =
    let none = λ (a b : TypeTree). λ (is : c.args.ty.now ≡ fun a b). no_function_type c.ty.inside.node c.in_default.not-Fun a b (c.ty.view_is ∙ is) in
    entered_here c.args.place.now c.args.path.now.items c.args.at.now c.args.ty.now none

pub returns-in_default-head : goal.returns-in_default-head
returns-in_default-head t c =
    let place = c.args.place.now in
    let vars = reverse place.vars in
    let e = c.args.at.now in
    let from = c.in-Fun.field-0.value in
    let to = c.in-Fun.to.value in
    let function : c.args.ty.now ≡ fun from to = sym (ap type_of (sym c.in-Fun.is) ∙ c.ty.view_is) in
    let s = c.requires.typed.0 in
    absurd (no_function s place.mode vars e from to
    (subst (LeadsToTyped s place.mode vars e) function c.requires.typed.1)
    (λ a body is. no_lambda_term c.at.inside.head c.at.inside.args.items c.in_default-head.not-Lam a body (c.at.view_is ∙ is)))

pub enter_top-requires : goal.enter_top-requires
enter_top-requires t c =
    let s = c.requires.typed.0 in
    let place = c.args.place.now in
    let vars = reverse place.vars in
    let e = c.args.at.now in
    let args = c.at.inside.args.items in
    let of = c.in-Lam.of in
    let body = c.in-Lam.body.value in
    let from = c.in-Fun.field-0.value in
    let to = c.in-Fun.to.value in
    let function : c.args.ty.now ≡ fun from to = sym (ap type_of (sym c.in-Fun.is) ∙ c.ty.view_is) in
    let term : e ≡ applied (lam of body) args = sym (ap (λ h. applied (tree_of h) args) (sym c.in-Lam.is) ∙ c.at.view_is) in
    let leads = leads_under s place.mode vars e of body args from to c.args.ty.now term function c.requires.typed.1 in
    let this = this_lambda s place.mode vars e of body args from to term (subst (LeadsToTyped s place.mode vars e) function c.requires.typed.1) in
    let size = ap tree_size this.is in
    let inner : c.deref.result.now ≡ body = c.deref.ensures in
    let rest : c.deref-2.result.now ≡ to = c.deref-2.ensures in
    let smaller = ap tree_size inner in
    let entered : c.enter.new.place ≡ with_variables place (place.vars ++ of ∷ []) =
    c.in_ok-enter.ensures ∙ ap (λ ts. with_variables place (place.vars ++ ts)) (c.in_ok-vec.ensures.items ∙ ap (λ u. u ∷ []) c.in_ok-copy.ensures) in
    let there = subst (λ vs. LeadsToTyped s place.mode vs body to) (sym (more_in_scope place.vars (of ∷ []))) leads in (
      omega (arith, c.decreases, size, smaller),
      (
        s,
        subst (λ p. LeadsToTyped s p.mode (reverse p.vars) c.deref.result.now c.deref-2.result.now) (sym entered)
            (subst (λ b. LeadsToTyped s place.mode (reverse (place.vars ++ of ∷ [])) b c.deref-2.result.now) (sym inner)
            (subst (λ u. LeadsToTyped s place.mode (reverse (place.vars ++ of ∷ [])) body u) (sym rest) there)),
      ),
    )

pub returns : goal.returns
returns t c =
    let s = c.requires.typed.0 in
    let place = c.args.place.now in
    let vars = reverse place.vars in
    let e = c.args.at.now in
    let args = c.at.inside.args.items in
    let of = c.in-Lam.of in
    let body = c.in-Lam.body.value in
    let from = c.in-Fun.field-0.value in
    let to = c.in-Fun.to.value in
    let path = c.args.path.now.items in
    let last = c.enter_top.new.place in
    let path' = c.enter_top.new.path.items in
    let function : c.args.ty.now ≡ fun from to = sym (ap type_of (sym c.in-Fun.is) ∙ c.ty.view_is) in
    let term : e ≡ applied (lam of body) args = sym (ap (λ h. applied (tree_of h) args) (sym c.in-Lam.is) ∙ c.at.view_is) in
    let this = this_lambda s place.mode vars e of body args from to term (subst (LeadsToTyped s place.mode vars e) function c.requires.typed.1) in
    let inner : c.deref.result.now ≡ body = c.deref.ensures in
    let rest : c.deref-2.result.now ≡ to = c.deref-2.ensures in
    let entered : c.enter.new.place ≡ with_variables place (place.vars ++ of ∷ []) =
    c.in_ok-enter.ensures ∙ ap (λ ts. with_variables place (place.vars ++ ts)) (c.in_ok-vec.ensures.items ∙ ap (λ u. u ∷ []) c.in_ok-copy.ensures) in
    if_ok_more c.enter_top.result _ _
    (λ h. entered_further place c.enter.new.place last path path' e of body from to c.args.ty.now this.is function
    (ap (λ p. p.mode) entered) (ap (λ p. p.result) entered)
    (ap (λ p. reverse p.vars) entered ∙ more_in_scope place.vars (of ∷ []))
    (subst (λ q. IsEntered c.enter.new.place last q path' body to) c.in_ok-push.ensures.items
    (subst (λ u. IsEntered c.enter.new.place last c.push.new.self.items path' body u) rest
    (subst (λ b. IsEntered c.enter.new.place last c.push.new.self.items path' b c.deref-2.result.now) inner h))))
    c.enter_top.ensures
