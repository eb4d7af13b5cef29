-- The places below leading lambdas.
use Rattle.std.proofs.Common.{◌≡◌, ℕ, refl, sym, ap, ◌∙◌, subst, List, [], ◌∷◌, ◌++◌, reverse, Option, Some, None, true}
use Rattle.chw_types.specs.SameTypes.{SameTypes}
use Rattle.chw_types.specs.TypeTree.{TypeTree, fun}
use Rattle.chw_terms.specs.declared.rule.Rule.{Rule}
use Rattle.chw_terms.specs.declared.scene.Mode.{Mode}
use Rattle.chw_terms.specs.declared.term.Arg.{Arg}
use Rattle.chw_terms.specs.TermTree.{TermTree, lam}
use Rattle.chw_terms.specs.TermView.{applied}
use Rattle.chw_typing.specs.Scopes.{Setting}
use Rattle.chw_typing.specs.Given.{AsksForNone}
use Rattle.rewriting.specs.Named.{UnderLambdas, under_none, under_one}
use Rattle.rewriting.specs.Origins.{Origins}
use Rattle.rewriting.specs.Active.{IsActive}
use Rattle.rewriting.specs.Spots.{spot}
use Rattle.rewriting.proofs.Spines.{IsBare, head_is}
use Rattle.step_search.specs.Lambdas.{under_lambdas}
use Rattle.active_parts.specs.Grounds.{IsTypedAt}
use Rattle.step_search.specs.First.{Additions, Places, IsStepAt, IsBeforeThere, HasNoStepAt, IsFirstAt, FindsFirst, GoesOn}
use Rattle.step_search.specs.FoundSteps.{LeadsToTyped}
use Rattle.step_order.specs.Sought.{IsSoughtPath}
use Rattle.step_search.specs.Begins.{IsPassed, BeginsAt}
use Rattle.trials.specs.declared.trial.Trial.{Trial}
use Rattle.step_search.specs.declared.trail.Trail.{Trail}
use Rattle.step_search.proofs.Firsts.{Among, finds_same, step_among}
use Rattle.step_search.proofs.Onward.{rest_before}

-- places with a path before their own
abbrev pub Behind : List ℕ → Places → Places
Behind path s p at e = (q : List ℕ) × s q at e × (p ≡ path ++ q)

-- a step behind a path is one of the places themselves
pub record StepWithin (rules : List Rule) (o : Origins) (path : List ℕ) (s : Places) (left p : List ℕ) (r : Rule) (new : TermTree) : Type 0 where
  pub rest : List ℕ
  pub is : p ≡ path ++ rest
  pub step : IsStepAt rules o s left rest r new

pub step_within : (rules : List Rule) (o : Origins) (path : List ℕ) (s : Places) (from left p : List ℕ) (r : Rule) (new : TermTree) → BeginsAt path from left → IsStepAt rules o (Behind path s) from p r new → StepWithin rules o path s left p r new
step_within rules o path s from left p r new b x =
    record {
      rest = x.place.0;
      is = x.place.2;
      step = record { at = x.at; term = x.term; place = x.place.1; sought = b.0 x.place.0 (subst (λ q. IsSoughtPath q from) x.place.2 x.sought); is_rule = x.is_rule; made = x.made };
    }

step_out : (rules : List Rule) (o : Origins) (path : List ℕ) (s : Places) (from left q : List ℕ) (r : Rule) (new : TermTree) → BeginsAt path from left → IsStepAt rules o s left q r new → IsStepAt rules o (Behind path s) from (path ++ q) r new
step_out rules o path s from left q r new b x =
    record { at = x.at; term = x.term; place = (q, x.place, refl); sought = b.1 q x.sought; is_rule = x.is_rule; made = x.made }

-- what is found among places is found behind a path
pub found_behind : (rules : List Rule) (o : Origins) (adds : Additions) (path : List ℕ) (s : Places) (from left : List ℕ) (found answer : Option Trail) → BeginsAt path from left → FindsFirst rules o adds s left found → GoesOn path found answer → FindsFirst rules o adds (Behind path s) from answer
unfolding step_out
found_behind rules o adds path s from left None answer b none is =
    subst (FindsFirst rules o adds (Behind path s) from) (sym is)
    (λ q r new x. let w = step_within rules o path s from left q r new b x in none w.rest r new w.step)
found_behind rules o adds path s from left (Some f) None b first is = absurd is
found_behind rules o adds path s from left (Some f) (Some g) b first is =
    let back = reverse f.back.items in
    let whole : IsFirstAt rules o adds (Behind path s) from (path ++ back) f.trial.rule f.trial.change f.trial.definition =
    record {
      new = first.new;
      changes = first.changes;
      it = step_out rules o path s from left back f.trial.rule first.new b first.it;
      added = first.added;
      first = λ q r new x h.
          let w = step_within rules o path s from left q r new b x in
          first.first w.rest r new w.step (rest_before path w.rest back r f.trial.rule (subst (λ p. IsBeforeThere p r (path ++ back) f.trial.rule) w.is h));
    } in
    subst (λ p. IsFirstAt rules o adds (Behind path s) from p g.trial.rule g.trial.change g.trial.definition) (sym is.0)
    (subst (λ (t : Trial). IsFirstAt rules o adds (Behind path s) from (path ++ back) t.rule t.change t.definition) (sym is.1) whole)

pub none_behind : (rules : List Rule) (o : Origins) (path : List ℕ) (s : Places) (from : List ℕ) → IsPassed path from → HasNoStepAt rules o (Behind path s) from
none_behind rules o path s from h p r new x = h x.place.0 (subst (λ q. IsSoughtPath q from) x.place.2 x.sought)

-- below no lambda the term is as it is
record NoLambda (vars : List TypeTree) (e : TermTree) (t : TypeTree) (p : List ℕ) (vs : List TypeTree) (x : TermTree) : Type 0 where
  asks : AsksForNone t
  path : p ≡ []
  scope : vs ≡ vars
  term : x ≡ e

no_lambda : {vars vs : List TypeTree} {e x : TermTree} {t : TypeTree} {p : List ℕ} → UnderLambdas vars e t p vs x → ((a b : TypeTree) → t ≡ fun a b → ⊥) → NoLambda vars e t p vs x
no_lambda (under_none asks) none = record { asks = asks; path = refl; scope = refl; term = refl }
no_lambda (under_one {b = b} {t = t} s u) none = absurd (none b t refl)

pub active_only : (o : Origins) (m : Mode) (vars : List TypeTree) (e : TermTree) (t : TypeTree) → ((a b : TypeTree) → t ≡ fun a b → ⊥) → Among (under_lambdas o m vars e t) (IsActive o (spot m true vars) e)
active_only o m vars e t none p at x h =
    let it = no_lambda h.4 none in
    subst (λ q. IsActive o (spot m true vars) e q at x) (sym (h.6 ∙ ap (λ q. q ++ h.3) it.path))
    (subst (λ vs. IsActive o (spot m true vs) e h.3 at x) it.scope (subst (λ f. IsActive o (spot m true h.1) f h.3 at x) it.term h.5))

pub only_active : (o : Origins) (s : Setting) (m : Mode) (vars : List TypeTree) (e : TermTree) (t : TypeTree) → ((a b : TypeTree) → t ≡ fun a b → ⊥) → LeadsToTyped s m vars e t → Among (IsActive o (spot m true vars) e) (under_lambdas o m vars e t)
only_active o s m vars e t none l p at x h =
    let it = no_lambda l.3 none in
    ([], vars, e, p, under_none it.asks, h, refl)

pub typed_there : (s : Setting) (m : Mode) (vars : List TypeTree) (e : TermTree) (t : TypeTree) → ((a b : TypeTree) → t ≡ fun a b → ⊥) → LeadsToTyped s m vars e t → IsTypedAt s (spot m true vars) e
typed_there s m vars e t none l =
    let it = no_lambda l.3 none in
    subst (λ vs. IsTypedAt s (spot m true vs) e) it.scope (subst (λ f. IsTypedAt s (spot m true l.1) f) it.term l.4)

-- below one lambda
record OneLambda (vars : List TypeTree) (e : TermTree) (b t : TypeTree) (p : List ℕ) (vs : List TypeTree) (x : TermTree) : Type 0 where
  of : TypeTree
  body : TermTree
  rest : List ℕ
  is : e ≡ lam of body
  same : SameTypes of b
  path : p ≡ 0 ∷ rest
  under : UnderLambdas (of ∷ vars) body t rest vs x

one_lambda : {vars vs : List TypeTree} {e x : TermTree} {u : TypeTree} {p : List ℕ} → UnderLambdas vars e u p vs x → (b t : TypeTree) → u ≡ fun b t → OneLambda vars e b t p vs x
one_lambda (under_none {t = u} asks) b t h = absurd (subst AsksForNone h asks)
one_lambda {vars} {vs} {x = x} (under_one {a = a} {b = c} {t = w} {e = e} {p = p} s u) b t h =
    let first : c ≡ b = cc in
    let rest : w ≡ t = cc in
    record { of = a; body = e; rest = p; is = refl; same = subst (SameTypes a) first s; path = refl; under = subst (λ z. UnderLambdas (a ∷ vars) e z p vs x) rest u }

bare_lam : (a : TypeTree) (e : TermTree) → IsBare (lam a e)
bare_lam a e = record { itself = refl; alone = refl }

-- the lambda of a term in memory is the one that is led below
pub record ThisLambda (vars : List TypeTree) (e : TermTree) (a : TypeTree) (body : TermTree) (b t : TypeTree) : Type 0 where
  pub is : e ≡ lam a body
  pub same : SameTypes a b

record SameLambda (a of : TypeTree) (body inner : TermTree) : Type 0 where
  types : of ≡ a
  bodies : inner ≡ body

same_lambda : (a of : TypeTree) (body inner : TermTree) → lam of inner ≡ lam a body → SameLambda a of body inner
same_lambda a of body inner h = record { types = cc; bodies = cc }

lambda_here : (a of : TypeTree) (body inner : TermTree) (args : List Arg) → lam of inner ≡ applied (lam a body) args → SameLambda a of body inner
lambda_here a of body inner args h =
    let none : List Arg = [] in
    same_lambda a of body inner (head_is (lam of inner) (lam a body) none args (bare_lam of inner) (bare_lam a body) h)

pub this_lambda : (s : Setting) (m : Mode) (vars : List TypeTree) (e : TermTree) (a : TypeTree) (body : TermTree) (args : List Arg) (b t : TypeTree) → e ≡ applied (lam a body) args → LeadsToTyped s m vars e (fun b t) → ThisLambda vars e a body b t
this_lambda s m vars e a body args b t h l =
    let it = one_lambda l.3 b t refl in
    let here = lambda_here a it.of body it.body args (sym it.is ∙ h) in
    record { is = it.is ∙ ap (λ z. lam z it.body) here.types ∙ ap (lam a) here.bodies; same = subst (λ z. SameTypes z b) here.types it.same }

pub no_function : (s : Setting) (m : Mode) (vars : List TypeTree) (e : TermTree) (b t : TypeTree) → LeadsToTyped s m vars e (fun b t) → ((a : TypeTree) (body : TermTree) → e ≡ lam a body → ⊥) → ⊥
no_function s m vars e b t l none = let it = one_lambda l.3 b t refl in none it.of it.body it.is

pub leads_on : (s : Setting) (m : Mode) (vars : List TypeTree) (a : TypeTree) (body : TermTree) (b t : TypeTree) → LeadsToTyped s m vars (lam a body) (fun b t) → LeadsToTyped s m (a ∷ vars) body t
leads_on s m vars a body b t l =
    let it = one_lambda l.3 b t refl in
    let here = same_lambda a it.of body it.body (sym it.is) in
    (it.rest, l.1, l.2, subst (λ z. UnderLambdas (z ∷ vars) body t it.rest l.1 l.2) here.types (subst (λ f. UnderLambdas (it.of ∷ vars) f t it.rest l.1 l.2) here.bodies it.under), l.4)

pub below_lambda : (o : Origins) (m : Mode) (vars : List TypeTree) (a : TypeTree) (body : TermTree) (b t : TypeTree) → Among (under_lambdas o m vars (lam a body) (fun b t)) (Behind (0 ∷ []) (under_lambdas o m (a ∷ vars) body t))
below_lambda o m vars a body b t p at x h =
    let it = one_lambda h.4 b t refl in
    let here = same_lambda a it.of body it.body (sym it.is) in
    let u : UnderLambdas (a ∷ vars) body t it.rest h.1 h.2 = subst (λ z. UnderLambdas (z ∷ vars) body t it.rest h.1 h.2) here.types (subst (λ f. UnderLambdas (it.of ∷ vars) f t it.rest h.1 h.2) here.bodies it.under) in
    (it.rest ++ h.3, (it.rest, h.1, h.2, h.3, u, h.5, refl), h.6 ∙ ap (λ q. q ++ h.3) it.path)

pub lambda_above : (o : Origins) (m : Mode) (vars : List TypeTree) (a : TypeTree) (body : TermTree) (b t : TypeTree) → SameTypes a b → Among (Behind (0 ∷ []) (under_lambdas o m (a ∷ vars) body t)) (under_lambdas o m vars (lam a body) (fun b t))
lambda_above o m vars a body b t same p at x h =
    let u = h.1 in
    (0 ∷ u.0, u.1, u.2, u.3, under_one same u.4, u.5, h.2 ∙ ap (λ q. 0 ∷ q) u.6)

-- what is found at and below a term that is under no lambda
pub found_without : (rules : List Rule) (o : Origins) (adds : Additions) (s : Setting) (m : Mode) (vars : List TypeTree) (e : TermTree) (t : TypeTree) (from : List ℕ) (answer : Option Trail) → ((a b : TypeTree) → t ≡ fun a b → ⊥) → LeadsToTyped s m vars e t → FindsFirst rules o adds (IsActive o (spot m true vars) e) from answer → FindsFirst rules o adds (under_lambdas o m vars e t) from answer
found_without rules o adds s m vars e t from answer none l is =
    finds_same rules o adds (IsActive o (spot m true vars) e) (under_lambdas o m vars e t) from answer (only_active o s m vars e t none l) (active_only o m vars e t none) is

-- a lambda that is passed
pub none_under : (rules : List Rule) (o : Origins) (s : Setting) (m : Mode) (vars : List TypeTree) (e : TermTree) (a : TypeTree) (body : TermTree) (args : List Arg) (b t u : TypeTree) (from : List ℕ) → e ≡ applied (lam a body) args → u ≡ fun b t → LeadsToTyped s m vars e u → IsPassed (0 ∷ []) from → HasNoStepAt rules o (under_lambdas o m vars e u) from
none_under rules o s m vars e a body args b t u from term function l passed =
    let this = this_lambda s m vars e a body args b t term (subst (LeadsToTyped s m vars e) function l) in
    let inner = under_lambdas o m (a ∷ vars) body t in
    let whole : HasNoStepAt rules o (under_lambdas o m vars (lam a body) (fun b t)) from = λ p r new x.
    none_behind rules o (0 ∷ []) inner from passed p r new
    (step_among rules o (under_lambdas o m vars (lam a body) (fun b t)) (Behind (0 ∷ []) inner) from p r new (below_lambda o m vars a body b t) x) in
    subst (λ z. HasNoStepAt rules o (under_lambdas o m vars z u) from) (sym this.is)
    (subst (λ v. HasNoStepAt rules o (under_lambdas o m vars (lam a body) v) from) (sym function) whole)

-- what is found under one lambda
pub found_under : (rules : List Rule) (o : Origins) (adds : Additions) (s : Setting) (m : Mode) (vars : List TypeTree) (e : TermTree) (a : TypeTree) (body : TermTree) (args : List Arg) (b t u : TypeTree) (from left : List ℕ) (found answer : Option Trail) → e ≡ applied (lam a body) args → u ≡ fun b t → LeadsToTyped s m vars e u → BeginsAt (0 ∷ []) from left → FindsFirst rules o adds (under_lambdas o m (a ∷ vars) body t) left found → GoesOn (0 ∷ []) found answer → FindsFirst rules o adds (under_lambdas o m vars e u) from answer
found_under rules o adds s m vars e a body args b t u from left found answer term function l begins is on =
    let this = this_lambda s m vars e a body args b t term (subst (LeadsToTyped s m vars e) function l) in
    let inner = under_lambdas o m (a ∷ vars) body t in
    let whole : FindsFirst rules o adds (under_lambdas o m vars (lam a body) (fun b t)) from answer =
    finds_same rules o adds (Behind (0 ∷ []) inner) (under_lambdas o m vars (lam a body) (fun b t)) from answer
    (lambda_above o m vars a body b t this.same) (below_lambda o m vars a body b t)
    (found_behind rules o adds (0 ∷ []) inner from left found answer begins is on) in
    subst (λ z. FindsFirst rules o adds (under_lambdas o m vars z u) from answer) (sym this.is)
    (subst (λ v. FindsFirst rules o adds (under_lambdas o m vars (lam a body) v) from answer) (sym function) whole)

-- under the lambda there is a typed term too
pub leads_under : (s : Setting) (m : Mode) (vars : List TypeTree) (e : TermTree) (a : TypeTree) (body : TermTree) (args : List Arg) (b t u : TypeTree) → e ≡ applied (lam a body) args → u ≡ fun b t → LeadsToTyped s m vars e u → LeadsToTyped s m (a ∷ vars) body t
leads_under s m vars e a body args b t u term function l =
    let there = subst (LeadsToTyped s m vars e) function l in
    let this = this_lambda s m vars e a body args b t term there in
    leads_on s m vars a body b t (subst (λ z. LeadsToTyped s m vars z (fun b t)) this.is there)
