use Rattle.std.proofs.Common.{◌≡◌, ◌∙◌, ◌++◌, [], ◌∷◌, sym, ap, subst, reverse, true, None, arith}
use Rattle.chw_types.specs.TypeTree.{TypeTree, fun}
use Rattle.chw_types.specs.TypeView.{tree_of as type_of}
use Rattle.chw_terms.specs.TermSize.{tree_size}
use Rattle.chw_terms.specs.TermTree.{lam}
use Rattle.chw_terms.specs.TermView.{tree_of, applied}
use Rattle.chw_typing.specs.Scopes.{setting_in}
use Rattle.normal_forms.specs.Blocked.{Passes}
use Rattle.rewriting.specs.Origins.{origins_of}
use Rattle.rewriting.specs.Spots.{spot}
use Rattle.active_parts.specs.Grounds.{with_variables}
use Rattle.active_parts.proofs.Options.{ok_more}
use Rattle.active_parts.proofs.Scoped.{more_in_scope}
use Rattle.blocked_places.specs.Firsts.{FindsOf}
use Rattle.blocked_places.specs.Walks.{FindsFirst, InBody, IsActiveBlock, LeadsToTyped}
use Rattle.blocked_places.proofs.Lambdas.{no_function_type, no_lambda_term}
use Rattle.blocked_places.proofs.Under.{typed_there, no_function, found_without, found_under, found_lambda, this_lambda, leads_under}
use Rattle.blocked_places.proofs.bodies.+in_lambdas.Goals as goal

pub first_from-requires : goal.first_from-requires
first_from-requires t c =
    let none = λ (a b : TypeTree). λ (is : c.args.ty.now ≡ fun a b). no_function_type c.ty.inside.node c.in_default.not-Fun a b (c.ty.view_is ∙ is) in
    let place = c.args.place.now in
    record {
      ground = c.requires.ground;
      typed = typed_there (setting_in c.args.ground.now.scene.now) place.mode (reverse place.vars) c.args.at.now c.args.ty.now none c.requires.typed;
      widths = c.requires.widths;
    }

pub returns-in_default-clause-first : goal.returns-in_default-clause-first
returns-in_default-clause-first t c =
    let o = origins_of c.args.ground.now.scene.now in
    let s = setting_in c.args.ground.now.scene.now in
    let none = λ (a b : TypeTree). λ (is : c.args.ty.now ≡ fun a b). no_function_type c.ty.inside.node c.in_default.not-Fun a b (c.ty.view_is ∙ is) in
    let place = c.args.place.now in
    let vars = reverse place.vars in
    let e = c.args.at.now in
    ok_more c.first_from.result _ _
    (λ answer is. found_without o s place.mode vars e c.args.ty.now answer none c.requires.typed
    (subst (λ r. FindsFirst (IsActiveBlock o (spot place.mode r vars) e) answer) c.requires.result is))
    c.first_from.ensures.first

pub returns-in_default-head-clause-first : goal.returns-in_default-head-clause-first
returns-in_default-head-clause-first t c path b x =
    let s = setting_in c.args.ground.now.scene.now in
    let place = c.args.place.now in
    let vars = reverse place.vars in
    let e = c.args.at.now in
    let from = c.in-Fun.field-0.value in
    let to = c.in-Fun.to.value in
    let function : c.args.ty.now ≡ fun from to = sym (ap type_of (sym c.in-Fun.is) ∙ c.ty.view_is) in
    let leads = subst (LeadsToTyped s place.mode vars e) function c.requires.typed in
    no_function s place.mode vars e from to leads
    (λ a body is. no_lambda_term c.at.inside.head c.at.inside.args.items c.in_default-head.not-Lam a body (c.at.view_is ∙ is))

pub returns-in-Some-clause-first : goal.returns-in-Some-clause-first
returns-in-Some-clause-first t c =
    let o = origins_of c.args.ground.now.scene.now in
    let s = setting_in c.args.ground.now.scene.now in
    let place = c.args.place.now in
    let vars = reverse place.vars in
    let e = c.args.at.now in
    let args = c.at.inside.args.items in
    let of = c.in-Lam.of in
    let body = c.in-Lam.body.value in
    let from = c.in-Fun.field-0.value in
    let to = c.in-Fun.to.value in
    let function : c.args.ty.now ≡ fun from to = sym (ap type_of (sym c.in-Fun.is) ∙ c.ty.view_is) in
    let term : e ≡ applied (lam of body) args = sym (ap (λ h. applied (tree_of h) args) (sym c.in-Lam.is) ∙ c.at.view_is) in
    let passes =
    subst (λ datas. Passes datas of c.in-Some.what) c.requires.widths
    (subst (FindsOf TypeTree (Passes c.args.widths.now) of) c.in-Some.is c.in_ok-what.ensures.limit) in
    found_lambda o s place.mode vars e of body args from to c.args.ty.now c.new.result.items c.in-Some.what term function c.requires.typed
    passes c.new.ensures.items

pub in_lambdas-requires : goal.in_lambdas-requires
in_lambdas-requires t c =
    let s = setting_in c.args.ground.now.scene.now in
    let place = c.args.place.now in
    let vars = reverse place.vars in
    let e = c.args.at.now in
    let args = c.at.inside.args.items in
    let of = c.in-Lam.of in
    let body = c.in-Lam.body.value in
    let from = c.in-Fun.field-0.value in
    let to = c.in-Fun.to.value in
    let function : c.args.ty.now ≡ fun from to = sym (ap type_of (sym c.in-Fun.is) ∙ c.ty.view_is) in
    let term : e ≡ applied (lam of body) args = sym (ap (λ h. applied (tree_of h) args) (sym c.in-Lam.is) ∙ c.at.view_is) in
    let leads = leads_under s place.mode vars e of body args from to c.args.ty.now term function c.requires.typed in
    let this = this_lambda s place.mode vars e of body args from to term (subst (LeadsToTyped s place.mode vars e) function c.requires.typed) in
    let size = ap tree_size this.is in
    let inner : c.deref.result.now ≡ body = c.deref.ensures in
    let rest : c.deref-2.result.now ≡ to = c.deref-2.ensures in
    let smaller = ap tree_size inner in
    let entered : c.enter.new.place ≡ with_variables place (place.vars ++ of ∷ []) =
    c.in_ok-enter.ensures ∙ ap (λ ts. with_variables place (place.vars ++ ts)) (c.in_ok-vec.ensures.items ∙ ap (λ u. u ∷ []) c.in_ok-copy.ensures) in
    let there = subst (λ vs. LeadsToTyped s place.mode vs body to) (sym (more_in_scope place.vars (of ∷ []))) leads in (
      omega (arith, c.decreases, size, smaller),
      (
        c.requires.ground,
        (
          subst (λ p. p.result ≡ true) (sym entered) c.requires.result,
          (
            subst (λ p. LeadsToTyped s p.mode (reverse p.vars) c.deref.result.now c.deref-2.result.now) (sym entered)
                (subst (λ b. LeadsToTyped s place.mode (reverse (place.vars ++ of ∷ [])) b c.deref-2.result.now) (sym inner)
                (subst (λ u. LeadsToTyped s place.mode (reverse (place.vars ++ of ∷ [])) body u) (sym rest) there)),
            c.passed.ensures.same ∙ c.requires.widths,
          ),
        ),
      ),
    )

pub returns-clause-first : goal.returns-clause-first
returns-clause-first t c =
    let o = origins_of c.args.ground.now.scene.now in
    let s = setting_in c.args.ground.now.scene.now in
    let place = c.args.place.now in
    let vars = reverse place.vars in
    let e = c.args.at.now in
    let args = c.at.inside.args.items in
    let of = c.in-Lam.of in
    let body = c.in-Lam.body.value in
    let from = c.in-Fun.field-0.value in
    let to = c.in-Fun.to.value in
    let found = c.in_ok-found.found in
    let function : c.args.ty.now ≡ fun from to = sym (ap type_of (sym c.in-Fun.is) ∙ c.ty.view_is) in
    let term : e ≡ applied (lam of body) args = sym (ap (λ h. applied (tree_of h) args) (sym c.in-Lam.is) ∙ c.at.view_is) in
    let inner : c.deref.result.now ≡ body = c.deref.ensures in
    let rest : c.deref-2.result.now ≡ to = c.deref-2.ensures in
    let entered : c.enter.new.place ≡ with_variables place (place.vars ++ of ∷ []) =
    c.in_ok-enter.ensures ∙ ap (λ ts. with_variables place (place.vars ++ ts)) (c.in_ok-vec.ensures.items ∙ ap (λ u. u ∷ []) c.in_ok-copy.ensures) in
    let none =
    subst (λ datas. FindsOf TypeTree (Passes datas) of None) c.requires.widths
    (subst (FindsOf TypeTree (Passes c.args.widths.now) of) c.in_default-2.is c.in_ok-what.ensures.limit) in
    let here =
    subst (λ u. FindsFirst (InBody o place.mode (of ∷ vars) body u) found) rest
    (subst (λ b. FindsFirst (InBody o place.mode (of ∷ vars) b c.deref-2.result.now) found) inner
    (subst (λ vs. FindsFirst (InBody o place.mode vs c.deref.result.now c.deref-2.result.now) found) (more_in_scope place.vars (of ∷ []))
    (subst (λ p. FindsFirst (InBody o p.mode (reverse p.vars) c.deref.result.now c.deref-2.result.now) found) entered c.in_ok-found.ensures.first))) in
    ok_more c.behind_child.result _ _
    (λ answer on. found_under o s place.mode vars e of body args from to c.args.ty.now found answer term function c.requires.typed none here on)
    c.behind_child.ensures
