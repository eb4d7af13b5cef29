use Rattle.std.proofs.Common.{◌≡◌, ◌∙◌, ◌++◌, [], ◌∷◌, sym, ap, subst, reverse, true, arith}
use Rattle.chw_types.specs.TypeTree.{TypeTree, fun}
use Rattle.chw_types.specs.TypeView.{tree_of as type_of}
use Rattle.chw_terms.specs.TermSize.{tree_size}
use Rattle.chw_terms.specs.TermTree.{lam}
use Rattle.chw_terms.specs.TermView.{tree_of, applied}
use Rattle.chw_typing.specs.Scopes.{setting_in}
use Rattle.rewriting.specs.Origins.{origins_of}
use Rattle.rewriting.specs.Active.{IsActive}
use Rattle.rewriting.specs.Spots.{spot}
use Rattle.trials.specs.Trials.{built}
use Rattle.active_parts.specs.Grounds.{with_variables}
use Rattle.active_parts.proofs.Options.{ok_more}
use Rattle.active_parts.proofs.Scoped.{more_in_scope}
use Rattle.step_search.specs.First.{adds_to, FindsFirst}
use Rattle.step_search.specs.FoundSteps.{LeadsToTyped}
use Rattle.step_search.specs.Lambdas.{under_lambdas}
use Rattle.step_search.specs.SeenPaths.{LooksAtPaths}
use Rattle.step_search.proofs.Looked.{looked_nowhere}
use Rattle.step_search.proofs.LookedUnder.{looked_under, looked_without}
use Rattle.step_search.proofs.Lambdas.{no_function_type, no_lambda_term}
use Rattle.step_search.proofs.Under.{typed_there, no_function, found_without, none_under, found_under, this_lambda, leads_under}
use Rattle.step_search.proofs.in_bodies.+under_lambdas.Goals as goal

pub first_from-requires : goal.first_from-requires
first_from-requires g t c =
    let none = λ (a b : TypeTree). λ (is : c.args.ty.now ≡ fun a b). no_function_type c.ty.inside.node c.in_default.not-Fun a b (c.ty.view_is ∙ is) in
    let place = c.args.place.now in
    record {
      ground = c.requires.ground;
      same = c.requires.same;
      typed = typed_there (setting_in c.args.ground.now.scene.now) place.mode (reverse place.vars) c.args.at.now c.args.ty.now none c.requires.typed;
    }

pub returns-in_default : goal.returns-in_default
returns-in_default g t c =
    let o = origins_of c.args.ground.now.scene.now in
    let s = setting_in c.args.ground.now.scene.now in
    let none = λ (a b : TypeTree). λ (is : c.args.ty.now ≡ fun a b). no_function_type c.ty.inside.node c.in_default.not-Fun a b (c.ty.view_is ∙ is) in
    let place = c.args.place.now in
    let vars = reverse place.vars in
    let e = c.args.at.now in
    let from = c.args.from.now in
    record {
      first =
          ok_more c.first_from.result _ _
          (λ answer is. found_without built o (adds_to c.args.ground.now.scene.now) s place.mode vars e c.args.ty.now from answer none c.requires.typed
          (subst (λ r. FindsFirst built o (adds_to c.args.ground.now.scene.now) (IsActive o (spot place.mode r vars) e) from answer) c.requires.result is))
          c.first_from.ensures.first;
      looks =
          looked_without built o s place.mode vars e c.args.ty.now from (g.R.Looks.looks c.args.rules.now) (g.R.Looks.looks c.first_from.new.rules) none c.requires.typed
          (subst (λ r. LooksAtPaths built o (IsActive o (spot place.mode r vars) e) from (g.R.Looks.looks c.args.rules.now) (g.R.Looks.looks c.first_from.new.rules)) c.requires.result c.first_from.ensures.looks);
    }

pub returns-in_default-head : goal.returns-in_default-head
returns-in_default-head g t c =
    let o = origins_of c.args.ground.now.scene.now in
    let s = setting_in c.args.ground.now.scene.now in
    let place = c.args.place.now in
    let vars = reverse place.vars in
    let e = c.args.at.now in
    let from = c.in-Fun.field-0.value in
    let to = c.in-Fun.to.value in
    let function : c.args.ty.now ≡ fun from to = sym (ap type_of (sym c.in-Fun.is) ∙ c.ty.view_is) in
    let leads = subst (LeadsToTyped s place.mode vars e) function c.requires.typed in
    record {
      first = λ path rule new x.
          no_function s place.mode vars e from to leads
          (λ a body is. no_lambda_term c.at.inside.head c.at.inside.args.items c.in_default-head.not-Lam a body (c.at.view_is ∙ is));
      looks = looked_nowhere built o (under_lambdas o place.mode vars e c.args.ty.now) c.args.from.now (g.R.Looks.looks c.args.rules.now);
    }

pub returns-in_default-begin_at_child : goal.returns-in_default-begin_at_child
returns-in_default-begin_at_child g t c =
    let o = origins_of c.args.ground.now.scene.now in
    let s = setting_in c.args.ground.now.scene.now in
    let place = c.args.place.now in
    let vars = reverse place.vars in
    let e = c.args.at.now in
    let args = c.at.inside.args.items in
    let of = c.in-Lam.of in
    let body = c.in-Lam.body.value in
    let from = c.in-Fun.field-0.value in
    let to = c.in-Fun.to.value in
    let function : c.args.ty.now ≡ fun from to = sym (ap type_of (sym c.in-Fun.is) ∙ c.ty.view_is) in
    let term : e ≡ applied (lam of body) args = sym (ap (λ h. applied (tree_of h) args) (sym c.in-Lam.is) ∙ c.at.view_is) in
    record {
      first =
          none_under built o s place.mode vars e of body args from to c.args.ty.now c.args.from.now term function c.requires.typed c.in_default-begin_at_child.ensures;
      looks =
          looked_nowhere built o (under_lambdas o place.mode vars e c.args.ty.now) c.args.from.now (g.R.Looks.looks c.args.rules.now);
    }

pub under_lambdas-requires : goal.under_lambdas-requires
under_lambdas-requires g t c κs within =
    let s = setting_in c.args.ground.now.scene.now in
    let place = c.args.place.now in
    let vars = reverse place.vars in
    let e = c.args.at.now in
    let args = c.at.inside.args.items in
    let of = c.in-Lam.of in
    let body = c.in-Lam.body.value in
    let from = c.in-Fun.field-0.value in
    let to = c.in-Fun.to.value in
    let function : c.args.ty.now ≡ fun from to = sym (ap type_of (sym c.in-Fun.is) ∙ c.ty.view_is) in
    let term : e ≡ applied (lam of body) args = sym (ap (λ h. applied (tree_of h) args) (sym c.in-Lam.is) ∙ c.at.view_is) in
    let leads = leads_under s place.mode vars e of body args from to c.args.ty.now term function c.requires.typed in
    let this = this_lambda s place.mode vars e of body args from to term (subst (LeadsToTyped s place.mode vars e) function c.requires.typed) in
    let size = ap tree_size this.is in
    let inner : c.deref.result.now ≡ body = c.deref.ensures in
    let rest : c.deref-2.result.now ≡ to = c.deref-2.ensures in
    let smaller = ap tree_size inner in
    let entered : c.enter.new.place ≡ with_variables place (place.vars ++ of ∷ []) =
    c.in_ok-enter.ensures ∙ ap (λ ts. with_variables place (place.vars ++ ts)) (c.in_ok-vec.ensures.items ∙ ap (λ u. u ∷ []) c.in_ok-copy.ensures) in
    let there = subst (λ vs. LeadsToTyped s place.mode vs body to) (sym (more_in_scope place.vars (of ∷ []))) leads in (
      omega (arith, c.decreases, size, smaller),
      (
        within,
        (
          c.requires.ground,
          (
            c.requires.same,
            (
              subst (λ p. p.result ≡ true) (sym entered) c.requires.result,
              subst (λ p. LeadsToTyped s p.mode (reverse p.vars) c.deref.result.now c.deref-2.result.now) (sym entered)
                  (subst (λ b. LeadsToTyped s place.mode (reverse (place.vars ++ of ∷ [])) b c.deref-2.result.now) (sym inner)
                  (subst (λ u. LeadsToTyped s place.mode (reverse (place.vars ++ of ∷ [])) body u) (sym rest) there)),
            ),
          ),
        ),
      ),
    )

pub returns : goal.returns
returns g t c =
    let o = origins_of c.args.ground.now.scene.now in
    let s = setting_in c.args.ground.now.scene.now in
    let place = c.args.place.now in
    let vars = reverse place.vars in
    let e = c.args.at.now in
    let args = c.at.inside.args.items in
    let of = c.in-Lam.of in
    let body = c.in-Lam.body.value in
    let from = c.in-Fun.field-0.value in
    let to = c.in-Fun.to.value in
    let left = c.in-Some.left.now in
    let found = c.in_ok-found.found in
    let function : c.args.ty.now ≡ fun from to = sym (ap type_of (sym c.in-Fun.is) ∙ c.ty.view_is) in
    let term : e ≡ applied (lam of body) args = sym (ap (λ h. applied (tree_of h) args) (sym c.in-Lam.is) ∙ c.at.view_is) in
    let inner : c.deref.result.now ≡ body = c.deref.ensures in
    let rest : c.deref-2.result.now ≡ to = c.deref-2.ensures in
    let entered : c.enter.new.place ≡ with_variables place (place.vars ++ of ∷ []) =
    c.in_ok-enter.ensures ∙ ap (λ ts. with_variables place (place.vars ++ ts)) (c.in_ok-vec.ensures.items ∙ ap (λ u. u ∷ []) c.in_ok-copy.ensures) in
    let here =
    subst (λ u. FindsFirst built o (adds_to c.args.ground.now.scene.now) (under_lambdas o place.mode (of ∷ vars) body u) left found) rest
    (subst (λ b. FindsFirst built o (adds_to c.args.ground.now.scene.now) (under_lambdas o place.mode (of ∷ vars) b c.deref-2.result.now) left found) inner
    (subst (λ vs. FindsFirst built o (adds_to c.args.ground.now.scene.now) (under_lambdas o place.mode vs c.deref.result.now c.deref-2.result.now) left found) (more_in_scope place.vars (of ∷ []))
    (subst (λ p. FindsFirst built o (adds_to c.args.ground.now.scene.now) (under_lambdas o p.mode (reverse p.vars) c.deref.result.now c.deref-2.result.now) left found) entered c.in_ok-found.ensures.first))) in
    let looked =
    subst (λ u. LooksAtPaths built o (under_lambdas o place.mode (of ∷ vars) body u) left (g.R.Looks.looks c.args.rules.now) (g.R.Looks.looks c.under_lambdas.new.rules)) rest
    (subst (λ b. LooksAtPaths built o (under_lambdas o place.mode (of ∷ vars) b c.deref-2.result.now) left (g.R.Looks.looks c.args.rules.now) (g.R.Looks.looks c.under_lambdas.new.rules)) inner
    (subst (λ vs. LooksAtPaths built o (under_lambdas o place.mode vs c.deref.result.now c.deref-2.result.now) left (g.R.Looks.looks c.args.rules.now) (g.R.Looks.looks c.under_lambdas.new.rules)) (more_in_scope place.vars (of ∷ []))
    (subst (λ p. LooksAtPaths built o (under_lambdas o p.mode (reverse p.vars) c.deref.result.now c.deref-2.result.now) left (g.R.Looks.looks c.args.rules.now) (g.R.Looks.looks c.under_lambdas.new.rules)) entered c.under_lambdas.ensures.looks))) in
    record {
      first =
          ok_more c.behind_child.result _ _
          (λ answer on. found_under built o (adds_to c.args.ground.now.scene.now) s place.mode vars e of body args from to c.args.ty.now c.args.from.now left found answer term function c.requires.typed c.in-Some.ensures here on)
          c.behind_child.ensures;
      looks =
          looked_under built o s place.mode vars e of body args from to c.args.ty.now c.args.from.now left (g.R.Looks.looks c.args.rules.now) (g.R.Looks.looks c.under_lambdas.new.rules) term function c.requires.typed c.in-Some.ensures
          looked;
    }

-- where memory is wanting, what was tried before
pub returns-in_err-found-clause-looks : goal.returns-in_err-found-clause-looks
returns-in_err-found-clause-looks g t c =
    let o = origins_of c.args.ground.now.scene.now in
    let s = setting_in c.args.ground.now.scene.now in
    let place = c.args.place.now in
    let vars = reverse place.vars in
    let e = c.args.at.now in
    let args = c.at.inside.args.items in
    let of = c.in-Lam.of in
    let body = c.in-Lam.body.value in
    let from = c.in-Fun.field-0.value in
    let to = c.in-Fun.to.value in
    let left = c.in-Some.left.now in
    let function : c.args.ty.now ≡ fun from to = sym (ap type_of (sym c.in-Fun.is) ∙ c.ty.view_is) in
    let term : e ≡ applied (lam of body) args = sym (ap (λ h. applied (tree_of h) args) (sym c.in-Lam.is) ∙ c.at.view_is) in
    let inner : c.deref.result.now ≡ body = c.deref.ensures in
    let rest : c.deref-2.result.now ≡ to = c.deref-2.ensures in
    let entered : c.enter.new.place ≡ with_variables place (place.vars ++ of ∷ []) =
    c.in_ok-enter.ensures ∙ ap (λ ts. with_variables place (place.vars ++ ts)) (c.in_ok-vec.ensures.items ∙ ap (λ u. u ∷ []) c.in_ok-copy.ensures) in
    let looked =
    subst (λ u. LooksAtPaths built o (under_lambdas o place.mode (of ∷ vars) body u) left (g.R.Looks.looks c.args.rules.now) (g.R.Looks.looks c.under_lambdas.new.rules)) rest
    (subst (λ b. LooksAtPaths built o (under_lambdas o place.mode (of ∷ vars) b c.deref-2.result.now) left (g.R.Looks.looks c.args.rules.now) (g.R.Looks.looks c.under_lambdas.new.rules)) inner
    (subst (λ vs. LooksAtPaths built o (under_lambdas o place.mode vs c.deref.result.now c.deref-2.result.now) left (g.R.Looks.looks c.args.rules.now) (g.R.Looks.looks c.under_lambdas.new.rules)) (more_in_scope place.vars (of ∷ []))
    (subst (λ p. LooksAtPaths built o (under_lambdas o p.mode (reverse p.vars) c.deref.result.now c.deref-2.result.now) left (g.R.Looks.looks c.args.rules.now) (g.R.Looks.looks c.under_lambdas.new.rules)) entered c.under_lambdas.ensures.looks))) in
    looked_under built o s place.mode vars e of body args from to c.args.ty.now c.args.from.now left (g.R.Looks.looks c.args.rules.now) (g.R.Looks.looks c.under_lambdas.new.rules) term function c.requires.typed c.in-Some.ensures
    looked

pub returns-in_err-copy-clause-looks : goal.returns-in_err-copy-clause-looks
returns-in_err-copy-clause-looks g t c =
    let o = origins_of c.args.ground.now.scene.now in
    let place = c.args.place.now in
    looked_nowhere built o (under_lambdas o place.mode (reverse place.vars) c.args.at.now c.args.ty.now) c.args.from.now (g.R.Looks.looks c.args.rules.now)

pub returns-in_err-vec-clause-looks : goal.returns-in_err-vec-clause-looks
returns-in_err-vec-clause-looks g t c =
    let o = origins_of c.args.ground.now.scene.now in
    let place = c.args.place.now in
    looked_nowhere built o (under_lambdas o place.mode (reverse place.vars) c.args.at.now c.args.ty.now) c.args.from.now (g.R.Looks.looks c.args.rules.now)

pub returns-in_err-enter-clause-looks : goal.returns-in_err-enter-clause-looks
returns-in_err-enter-clause-looks g t c =
    let o = origins_of c.args.ground.now.scene.now in
    let place = c.args.place.now in
    looked_nowhere built o (under_lambdas o place.mode (reverse place.vars) c.args.at.now c.args.ty.now) c.args.from.now (g.R.Looks.looks c.args.rules.now)
