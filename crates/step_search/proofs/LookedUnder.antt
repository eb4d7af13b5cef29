-- The paths at which a search looks below leading lambdas.
use Rattle.std.proofs.Common.{◌≡◌, ℕ, refl, sym, subst, List, [], ◌∷◌, ◌++◌, length, true}
use Rattle.chw_types.specs.TypeTree.{TypeTree, fun}
use Rattle.chw_terms.specs.declared.rule.Rule.{Rule}
use Rattle.chw_terms.specs.declared.scene.Mode.{Mode}
use Rattle.chw_terms.specs.declared.term.Arg.{Arg}
use Rattle.chw_terms.specs.TermTree.{TermTree, lam}
use Rattle.chw_terms.specs.TermView.{applied}
use Rattle.chw_typing.specs.Scopes.{Setting}
use Rattle.chw_typing.specs.Paths.{IsEarlier}
use Rattle.rewriting.specs.Origins.{Origins}
use Rattle.rewriting.specs.Active.{IsActive}
use Rattle.rewriting.specs.Spots.{spot}
use Rattle.step_search.specs.Begins.{BeginsAt}
use Rattle.step_search.specs.First.{Places, IsStepAt}
use Rattle.step_search.specs.FoundSteps.{LeadsToTyped}
use Rattle.step_search.specs.Lambdas.{under_lambdas}
use Rattle.step_search.specs.SeenPaths.{IsSeenPath, LooksAtPaths}
use Rattle.step_search.proofs.Counts.{grows_by_others}
use Rattle.step_search.proofs.Looked.{looked_same}
use Rattle.step_search.proofs.Onward.{rest_earlier, rest_is}
use Rattle.step_search.proofs.Under.{Behind, step_within, active_only, only_active, this_lambda, below_lambda, lambda_above}

-- behind a path
seen_behind : (rules : List Rule) (o : Origins) (path : List ℕ) (s : Places) (from left q : List ℕ) → BeginsAt path from left
    → IsSeenPath rules o s left q → IsSeenPath rules o (Behind path s) from (path ++ q)
seen_behind rules o path s from left q begins y = record {
  at = y.at;
  term = y.term;
  place = (q, y.place, refl);
  sought = begins.1 q y.sought;
  none_before = before;
}
  where
    before : (r : List ℕ) (rule : Rule) (new : TermTree) → IsStepAt rules o (Behind path s) from r rule new → IsEarlier r (path ++ q) → ⊥
    before r rule new x earlier =
        let within = step_within rules o path s from left r rule new begins x in
        y.none_before within.rest rule new within.step
        (rest_earlier path within.rest q (subst (λ z. IsEarlier z (path ++ q)) within.is earlier))

looked_behind : (rules : List Rule) (o : Origins) (path : List ℕ) (s : Places) (from left : List ℕ) (n k : ℕ) → BeginsAt path from left
    → LooksAtPaths rules o s left n k → LooksAtPaths rules o (Behind path s) from n k
looked_behind rules o path s from left n k begins g =
    grows_by_others (length rules) (IsSeenPath rules o s left) (IsSeenPath rules o (Behind path s) from) (λ q. path ++ q) n k
    (λ q r h. rest_is path q r h) (λ q y. seen_behind rules o path s from left q begins y) g

-- at and below a term that is under no lambda
pub looked_without : (rules : List Rule) (o : Origins) (s : Setting) (m : Mode) (vars : List TypeTree) (e : TermTree) (t : TypeTree)
    (from : List ℕ) (n k : ℕ) → ((a b : TypeTree) → t ≡ fun a b → ⊥) → LeadsToTyped s m vars e t
    → LooksAtPaths rules o (IsActive o (spot m true vars) e) from n k → LooksAtPaths rules o (under_lambdas o m vars e t) from n k
looked_without rules o s m vars e t from n k none l g =
    looked_same rules o (IsActive o (spot m true vars) e) (under_lambdas o m vars e t) from n k (only_active o s m vars e t none l)
    (active_only o m vars e t none) g

-- under one lambda
pub looked_under : (rules : List Rule) (o : Origins) (s : Setting) (m : Mode) (vars : List TypeTree) (e : TermTree) (a : TypeTree)
    (body : TermTree) (args : List Arg) (b t u : TypeTree) (from left : List ℕ) (n k : ℕ)
    → e ≡ applied (lam a body) args → u ≡ fun b t → LeadsToTyped s m vars e u → BeginsAt (0 ∷ []) from left
    → LooksAtPaths rules o (under_lambdas o m (a ∷ vars) body t) left n k → LooksAtPaths rules o (under_lambdas o m vars e u) from n k
looked_under rules o s m vars e a body args b t u from left n k term function l begins g =
    let this = this_lambda s m vars e a body args b t term (subst (LeadsToTyped s m vars e) function l) in
    let inner = under_lambdas o m (a ∷ vars) body t in
    let whole : LooksAtPaths rules o (under_lambdas o m vars (lam a body) (fun b t)) from n k =
    looked_same rules o (Behind (0 ∷ []) inner) (under_lambdas o m vars (lam a body) (fun b t)) from n k
    (lambda_above o m vars a body b t this.same) (below_lambda o m vars a body b t)
    (looked_behind rules o (0 ∷ []) inner from left n k begins g) in
    subst (λ z. LooksAtPaths rules o (under_lambdas o m vars z u) from n k) (sym this.is)
    (subst (λ v. LooksAtPaths rules o (under_lambdas o m vars (lam a body) v) from n k) (sym function) whole)
