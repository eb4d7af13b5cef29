-- A term under a lambda for each of its free variables, and on these variables.
use Rattle.std.specs.Prelude.{slice_get}
use Rattle.std.proofs.Common.{◌==◌, ◌≡◌, ℕ, suc, zero, Bool, true, false, if◌then◌else◌, List, [], ◌∷◌, length, map, Some, refl, sym, ap, ◌∙◌, subst, arith}
use Rattle.std.proofs.lemmas.Bool.{eq-eqb, eqb-true, true≢false}
use Rattle.std.proofs.lemmas.Option.{slice_get-get_or}
use Rattle.chw_types.specs.TypeTree.{TypeTree, TypeTrees}
use Rattle.chw_types.specs.TypeMoves.{Renaming}
use Rattle.chw_terms.specs.declared.program.Program.{Program}
use Rattle.chw_terms.specs.declared.term.Arg.{Arg}
use Rattle.chw_terms.specs.declared.term.Arg.TheVariants.{OfTerm}
use Rattle.chw_terms.specs.FreeVariables.{free_in}
use Rattle.chw_terms.specs.Occurs.{occurs}
use Rattle.chw_terms.specs.TermMoves.{rename}
use Rattle.chw_terms.specs.TermTree.{TermTree, var, made, lam, app}
use Rattle.chw_terms.specs.TermView.{applied}
use Rattle.chw_typing.specs.Laws.{TypedIsSound}
use Rattle.chw_meaning.specs.Values.{History, Value, closure, Thunk, closed, Thunks, thunk_and, thunk_at, closed_type}
use Rattle.chw_meaning.specs.Eval.{plus, Evals, e_var, e_lam, e_app, Forces, f_closed, Applies, a_closure}
use Rattle.chw_meaning.proofs.Once.{same_some}
use Rattle.chw_typing.proofs.Free.{free_occur}
use Rattle.chw_typing.proofs.Occurrences.{rename_where}
use Rattle.rewriting.specs.Origins.{with_origins, under_each}
use Rattle.rewriting.specs.Calls.{to_lambdas}
use Rattle.acts.specs.Levels.{Levels, later, term_has, thunk_has, ThunksAct}
use Rattle.acts.specs.Acts.{acts_from}
use Rattle.acts.specs.Terms.{LooksAlike, TiedBy}
use Rattle.acts.proofs.Forms.{TermsAct}
use Rattle.acts.proofs.Levels.{IsLevels, from_turns, cost}
use Rattle.acts.proofs.Tied.{plus_suc, plus_zero}
use Rattle.act_rules.proofs.CaseSpines.{origins_arg, origins_applied}
use Rattle.act_rules.proofs.RuleMoves.{moved_acts}
use Rattle.act_runs.specs.States.{AbstractedActs}

-- so many turns more of the first side
cost_many : {p : Program} {r : Levels} → IsLevels p r → (i m : ℕ) (t : TypeTree) (v : Value) (s : Value → Type 0) → later m r zero t v s → later (plus i m) r zero t v s
cost_many l zero m t v s h = h
cost_many l (suc i) m t v s h = cost l (plus i m) t v s (cost_many l i m t v s h)

-- variables as arguments
abbrev pub variables : List ℕ → List Arg
variables xs = map (λ x. OfTerm (var x)) xs

pub variables_kept : (o : ℕ → TermTree) (xs : List ℕ) → map (origins_arg o) (variables xs) ≡ variables xs
unfolding with_origins
variables_kept o [] = refl
variables_kept o (x ∷ xs) = ap (λ args. OfTerm (var x) ∷ args) (variables_kept o xs)

pub origins_on_variables : (o : ℕ → TermTree) (e : TermTree) (xs : List ℕ) → with_origins o (applied e (variables xs)) ≡ applied (with_origins o e) (variables xs)
origins_on_variables o e xs = origins_applied o e (variables xs) ∙ ap (applied (with_origins o e)) (variables_kept o xs)

-- a made definition on variables
pub made_on_variables : (o : ℕ → TermTree) (m : ℕ) (xs : List ℕ) → with_origins o (applied (made m) (variables xs)) ≡ applied (o m) (variables xs)
unfolding with_origins
made_on_variables o m xs = origins_on_variables o (made m) xs

origins_under_each : (o : ℕ → TermTree) (ts : List TypeTree) (e : TermTree) → with_origins o (under_each ts e) ≡ under_each ts (with_origins o e)
unfolding with_origins
origins_under_each o [] e = refl
origins_under_each o (t ∷ ts) e = ap (lam t) (origins_under_each o ts e)

-- the environment with the thunks of these variables
abbrev pushed : Thunks → TypeTrees → List ℕ → Thunks → Thunks
pushed γ δ [] ε = ε
pushed γ δ (x ∷ xs) ε = pushed γ δ xs (thunk_and (closed (var x) γ δ) ε)

pushed_at : (γ : Thunks) (δ : TypeTrees) (xs : List ℕ) (ε : Thunks) (j : ℕ) → thunk_at (pushed γ δ xs ε) (plus (length xs) j) ≡ thunk_at ε j
pushed_at γ δ [] ε j = refl
pushed_at γ δ (x ∷ xs) ε j =
    let deeper = thunk_and (closed (var x) γ δ) ε in
    ap (thunk_at (pushed γ δ xs deeper)) (sym (plus_suc (length xs) j)) ∙ pushed_at γ δ xs deeper (suc j)

pushed_first : (γ : Thunks) (δ : TypeTrees) (xs : List ℕ) (y : Thunk) (ε : Thunks) → thunk_at (pushed γ δ xs (thunk_and y ε)) (length xs) ≡ Some y
pushed_first γ δ xs y ε = ap (thunk_at (pushed γ δ xs (thunk_and y ε))) (sym (plus_zero (length xs))) ∙ pushed_at γ δ xs (thunk_and y ε) zero

apart : (x y : ℕ) → (x == y) ≡ false → y ≡ x → ⊥
apart x y other equal = let same = eq-eqb x y (sym equal) in true≢false (sym same ∙ other)

-- each of these variables comes under its lambda
lambda_thunk : (γ : Thunks) (δ : TypeTrees) (xs : List ℕ) (ε : Thunks) (k x : ℕ) → slice_get xs k ≡ Some x → thunk_at (pushed γ δ xs ε) (to_lambdas xs x) ≡ Some (closed (var x) γ δ)
lambda_thunk γ δ [] ε k x at = absurd cc
lambda_thunk γ δ (y ∷ ys) ε k x at = by (x == y) refl k at (λ j found. lambda_thunk γ δ ys (thunk_and (closed (var y) γ δ) ε) j x found)
  where
    by : (b : Bool) → (x == y) ≡ b → (k : ℕ) → slice_get (y ∷ ys) k ≡ Some x → ((j : ℕ) → slice_get ys j ≡ Some x → thunk_at (pushed γ δ ys (thunk_and (closed (var y) γ δ) ε)) (to_lambdas ys x) ≡ Some (closed (var x) γ δ)) → thunk_at (pushed γ δ ys (thunk_and (closed (var y) γ δ) ε)) (if b then length ys else to_lambdas ys x) ≡ Some (closed (var x) γ δ)
    by true same k at later = pushed_first γ δ ys (closed (var y) γ δ) ε ∙ ap (λ z. Some (closed (var z) γ δ)) (sym (eqb-true x y same))
    by false other zero at later =
        let equal : y ≡ x = cc in
        absurd (apart x y other equal)
    by false other (suc j) at later = later j at

module _ (p : Program) (γ : Thunks) (δ : TypeTrees) where
  -- each run of a term is one of the other in its environment, with some turns besides
  record RunOf (b : TermTree) (ε : Thunks) (h : History) (m : ℕ) (v : Value) : Type 0 where
    besides : ℕ
    turns : ℕ
    is : m ≡ plus besides turns
    runs : Evals p turns b ε δ h v

  RunsOf : TermTree → TermTree → Thunks → Type 0
  RunsOf f b ε = (h : History) (m : ℕ) (v : Value) → Evals p m f γ δ h v → RunOf b ε h m v

  itself : (b : TermTree) → RunsOf b b γ
  unfolding RunsOf
  itself b h m v d = record { besides = zero; turns = m; is = refl; runs = d }

  lambda_value : {t : TypeTree} {b : TermTree} {ε : Thunks} {n : ℕ} {h : History} {v : Value} → Evals p n (lam t b) ε δ h v → closure b ε δ ≡ v
  lambda_value e_lam = refl

  record BodyRuns (b : TermTree) (ε : Thunks) (h : History) (k : ℕ) (v : Value) : Type 0 where
    turns : ℕ
    is : k ≡ suc turns
    runs : Evals p turns b ε δ h v

  body_runs : {b : TermTree} {ε : Thunks} {x : Thunk} {k : ℕ} {h : History} {v : Value} → Applies p k (closure b ε δ) x h v → BodyRuns b (thunk_and x ε) h k v
  body_runs (a_closure {n = j} d) = record { turns = j; is = refl; runs = d }

  on_argument : (f : TermTree) (t : TypeTree) (b : TermTree) (ε : Thunks) (a : TermTree) → RunsOf f (lam t b) ε → RunsOf (app f a) b (thunk_and (closed a γ δ) ε)
  unfolding RunsOf
  on_argument f t b ε a runs h m v (e_app {m = i} {n = k} {v = fv} df da) =
      let function = runs h i fv df in
      let called = body_runs (subst (λ w. Applies p k w (closed a γ δ) h v) (sym (lambda_value function.runs)) da) in
      record {
        besides = suc (suc i);
        turns = called.turns;
        is = ap (λ k. suc (plus i k)) called.is ∙ ap suc (plus_suc i called.turns);
        runs = called.runs;
      }

  on_each : (xs : List ℕ) (ts : List TypeTree) (f b : TermTree) (ε : Thunks) → length ts ≡ length xs → RunsOf f (under_each ts b) ε → RunsOf (applied f (variables xs)) b (pushed γ δ xs ε)
  on_each [] [] f b ε many runs = runs
  on_each (x ∷ xs) (t ∷ ts) f b ε many runs =
      on_each xs ts (app f (var x)) b (thunk_and (closed (var x) γ δ) ε) (cc) (on_argument f t (under_each ts b) ε (var x) runs)
  on_each [] (t ∷ ts) f b ε many runs = absurd (omega (arith, many))
  on_each (x ∷ xs) [] f b ε many runs = absurd (omega (arith, many))

  run_of : (xs : List ℕ) (ts : List TypeTree) (b : TermTree) → length ts ≡ length xs → (h : History) (m : ℕ) (v : Value) → Evals p m (applied (under_each ts b) (variables xs)) γ δ h v → RunOf b (pushed γ δ xs γ) h m v
  unfolding RunsOf
  run_of xs ts b many = on_each xs ts (under_each ts b) b γ many (itself (under_each ts b))

-- a variable's own thunk
var_thunk : {p : Program} {r : Levels} → IsLevels p r → (a : TypeTree) (j : ℕ) (γ : Thunks) (δ : TypeTrees) (x' x : Thunk) → thunk_at γ j ≡ Some x' → ThunksAct p r a x' x → ThunksAct p r a (closed (var j) γ δ) x
var_thunk {p} l a j γ δ x' x e acts h' h m v al (f_closed (e_var {n = n} {th = th} i d)) =
    let same : th ≡ x' = same_some i e in
    cost l n a v (thunk_has p x h) (acts h' h n v al (subst (λ th. Forces p n th h' v) same d))

-- the lambda of a variable that occurs, and behind all of them the others
abbrev moved_to : TermTree → Bool → ℕ → ℕ
moved_to e true x = to_lambdas (free_in e) x
moved_to e false x = plus (length (free_in e)) x

abbrev moves : TermTree → Renaming
moves e x = moved_to e (occurs e x) x

moves_agree : (e : TermTree) → rename e (moves e) ≡ rename e (to_lambdas (free_in e))
moves_agree e = rename_where e (moves e) (to_lambdas (free_in e)) (λ x is. ap (λ b. moved_to e b x) is)

tied_by_moves : {p : Program} {r : Levels} → IsLevels p r → (e : TermTree) (vars : List TypeTree) (δ : TypeTrees) (γ' γ : Thunks) → TiedBy p r vars (λ x. x) (λ x. x) δ γ' γ → TiedBy p r vars (moves e) (λ x. x) δ (pushed γ' δ (free_in e) γ') γ
tied_by_moves {p} {r} l e vars δ γ' γ names x t at = by (occurs e x) refl
  where
    look : LooksAlike p r (closed_type t δ) x x γ' γ
    look = names x t at

    by : (b : Bool) → occurs e x ≡ b → LooksAlike p r (closed_type t δ) (moved_to e b x) x (pushed γ' δ (free_in e) γ') γ
    by true is =
        let place = (free_occur e x).1 is in
        record {
          first = closed (var x) γ' δ;
          second = look.second;
          has_first = lambda_thunk γ' δ (free_in e) γ' place.0 x (slice_get-get_or (free_in e) place.0 x place.1 ∙ ap (λ y. Some y) place.2);
          has_second = look.has_second;
          acts = var_thunk l (closed_type t δ) x γ' δ look.first look.second look.has_first look.acts;
        }
    by false is =
        record { first = look.first; second = look.second; has_first = pushed_at γ' δ (free_in e) γ' x ∙ look.has_first; has_second = look.has_second; acts = look.acts }

pub abstracted_acts : TypedIsSound → AbstractedActs
abstracted_acts law e ts many p types o kinds vars t origins g d n δ γ' γ known names h' h m v al run =
    let l = from_turns p n in
    let xs = free_in e in
    let b = with_origins o (rename e (to_lambdas xs)) in
    let shape = origins_on_variables o (under_each ts (rename e (to_lambdas xs))) xs ∙ ap (λ f. applied f (variables xs)) (origins_under_each o ts (rename e (to_lambdas xs))) in
    let of = run_of p γ' δ xs ts b many h' m v (subst (λ f. Evals p m f γ' δ h' v) shape run) in
    let acts = moved_acts p (law p origins.tidy origins.typed) origins.typed types o origins.closed origins.have_types (moves e) g d (acts_from p n) l δ (pushed γ' δ xs γ') γ known (tied_by_moves l e vars δ γ' γ names) in
    let own = subst (λ f. TermsAct p (acts_from p n) (closed_type t δ) (with_origins o f) (pushed γ' δ xs γ') δ (with_origins o e) γ δ) (moves_agree e) acts in
    subst (λ k. later k (acts_from p n) zero (closed_type t δ) v (term_has p (with_origins o e) γ δ h)) (sym of.is)
    (cost_many l of.besides of.turns (closed_type t δ) v (term_has p (with_origins o e) γ δ h) (own h' h of.turns v al of.runs))
