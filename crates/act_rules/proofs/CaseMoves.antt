-- Environments with further thunks on the first side, and alternatives with changed bodies.
use Rattle.std.proofs.Common.{◌≡◌, ◌+◌, ℕ, suc, List, Some, refl, sym, ap, ◌∙◌, subst, arith}
use Rattle.chw_types.specs.TypeTree.{TypeTree, TypeTrees}
use Rattle.chw_types.specs.TypeMoves.{raised}
use Rattle.chw_terms.specs.declared.program.Program.{Program}
use Rattle.chw_terms.specs.TermTree.{TermTree, var, no_bindings, bind, Alts, no_alts, alt, binders}
use Rattle.chw_typing.specs.Groups.{each_body}
use Rattle.chw_meaning.specs.Values.{Thunk, member, Thunks, none, thunk_and, count_of, thunk_at, joined, in_group}
use Rattle.chw_meaning.specs.Eval.{Evals, e_var, Forces, f_member}
use Rattle.chw_meaning.proofs.Once.{same_some}
use Rattle.acts.specs.Levels.{Levels, Second, RunsAct, term_runs, thunk_runs}
use Rattle.acts.specs.Terms.{TiedBy}
use Rattle.rewriting.specs.Origins.{with_origins, with_origins_alts}
use Rattle.acts.proofs.Levels.{IsLevels, cost}

-- alternatives with changed bodies, after the made definitions
pub origins_each : (o : ℕ → TermTree) (F F' : ℕ → TermTree → TermTree) → ((n : ℕ) (f : TermTree) → with_origins o (F n f) ≡ F' n (with_origins o f)) → (alts : Alts) → with_origins_alts o (each_body F alts) ≡ each_body F' (with_origins_alts o alts)
unfolding with_origins
origins_each o F F' same no_alts = refl
origins_each o F F' same (alt q e more) = λ i. alt q (same (binders q) e i) (origins_each o F F' same more i)

pub thunk_beyond : (xs γ : Thunks) (x : ℕ) → thunk_at (joined xs γ) (x + count_of xs) ≡ thunk_at γ x
thunk_beyond none γ x = ap (thunk_at γ) (let e : x + 0 ≡ x = omega arith in e)
thunk_beyond (thunk_and th xs) γ x =
    ap (thunk_at (thunk_and th (joined xs γ))) (let e : x + suc (count_of xs) ≡ suc (x + count_of xs) = omega arith in e) ∙ thunk_beyond xs γ x

-- variables outside of further thunks on the first side
pub tied_beyond : {p : Program} {r : Levels} (vars : List TypeTree) (xs : Thunks) (n : ℕ) (δ : TypeTrees) (γ' γ : Thunks) → count_of xs ≡ n → TiedBy p r vars (λ x. x) (λ x. x) δ γ' γ → TiedBy p r vars (raised 0 n) (λ x. x) δ (joined xs γ') γ
tied_beyond vars xs n δ γ' γ counts h x t e =
    let k = h x t e in
    record { first = k.first; second = k.second; has_first = ap (λ n. thunk_at (joined xs γ') (x + n)) (sym counts) ∙ thunk_beyond xs γ' x ∙ k.has_first; has_second = k.has_second; acts = k.acts }

-- a variable runs as its thunk
pub var_runs : {p : Program} {r : Levels} → IsLevels p r → (t : TypeTree) (x : ℕ) (th : Thunk) (γ : Thunks) (δ : TypeTrees) (second : Second) → thunk_at γ x ≡ Some th → RunsAct r t (thunk_runs p th) second → RunsAct r t (term_runs p (var x) γ δ) second
var_runs {p} l t x th γ δ second is acts h' h m v al (e_var {n = k} {th = other} i d) =
    cost l k t v (second h) (acts h' h k v al (subst (λ th. Forces p k th h' v) (same_some i is) d))

-- the only binding of a group runs as its right side
pub bound_runs : {p : Program} {r : Levels} → IsLevels p r → (u t : TypeTree) (e : TermTree) (γ : Thunks) (δ : TypeTrees) (second : Second) → RunsAct r t (term_runs p e (thunk_and (member (bind u e no_bindings) 0 γ δ) γ) δ) second → RunsAct r t (thunk_runs p (member (bind u e no_bindings) 0 γ δ)) second
bound_runs {p} l u t e γ δ second acts h' h m v al (f_member {n = j} {e = other} found d) =
    let same : other ≡ e = cc in
    cost l j t v (second h) (acts h' h j v al (subst (λ e2. Evals p j e2 (in_group (bind u e no_bindings) γ δ) δ h' v) same d))
