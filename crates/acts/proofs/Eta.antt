-- A function with its first parameters written out acts as the function.
use Rattle.std.proofs.Common.{◌≡◌, ◌+◌, ℕ, suc, zero, List, [], ◌∷◌, length, map, Some, refl, sym, ap, ◌∙◌, subst, arith}
use Rattle.std.proofs.lemmas.List.{length-map}
use Rattle.chw_types.specs.declared.kind.Kind.{Kind}
use Rattle.chw_types.specs.TypeTree.{TypeTree, fun, TypeTrees}
use Rattle.chw_types.specs.TypeMoves.{Renaming, raised}
use Rattle.chw_types.proofs.TypeLaws.{same as same_function}
use Rattle.chw_terms.specs.declared.program.Program.{Program}
use Rattle.chw_terms.specs.TermMoves.{rename, shift}
use Rattle.chw_terms.specs.TermTree.{TermTree, var, lam, app}
use Rattle.chw_terms.proofs.Renamed.{rename_ids}
use Rattle.chw_typing.specs.Scopes.{AreTermTypes}
use Rattle.chw_typing.specs.HeadTypes.{from_each}
use Rattle.chw_typing.specs.Programs.{AreClosed, IsSound, IsTyped, setting_of}
use Rattle.chw_typing.specs.Typing.{HasType}
use Rattle.chw_meaning.specs.Values.{History, Value, closure, Thunk, closed, Thunks, thunk_and, thunk_at, closed_type}
use Rattle.chw_meaning.specs.Eval.{plus, Evals, e_var, e_lam, e_app, Forces, f_closed, Applies, a_closure}
use Rattle.chw_meaning.proofs.Once.{same_some}
use Rattle.acts.specs.Levels.{Levels, later, Alike, RunsAct, term_runs, term_has, thunk_runs, thunk_has, ThunksAct}
use Rattle.acts.specs.Acts.{acts_from}
use Rattle.rewriting.specs.Origins.{with_origins, on_variables, under_each, eta_expanded}
use Rattle.acts.specs.Terms.{TiedBy, Kinded, OriginsAct, setting_with}
use Rattle.acts.proofs.Forms.{TermsAct, called, call_acts}
use Rattle.acts.proofs.Given.{closed_from_each}
use Rattle.acts.proofs.Globals.{renamed_acts}
use Rattle.acts.proofs.Levels.{IsLevels, from_turns, at_levels, at_later, cost, runs_later}
use Rattle.acts.proofs.Numbers.{plus_is}
use Rattle.acts.proofs.Tied.{tied_later}

-- an argument of both sides, its type, the type of the result, and the history at which the second side's result is looked at
record Arg : Type 0 where
  pub first : Thunk
  pub second : Thunk
  pub of : TypeTree
  pub result : TypeTree
  pub at : History

-- the values on these arguments, the last one first
abbrev values_on : Program → (Value → Type 0) → List Arg → Value → Type 0
values_on p s [] w = s w
values_on p s (x ∷ before) w = called p (values_on p s before) x.second x.at w

-- the type after these arguments, for a function of this type
abbrev type_after : TypeTree → List Arg → TypeTree
type_after t [] = t
type_after t (x ∷ before) = x.result

-- each argument is one of the function that the earlier ones lead to
abbrev Chains : TypeTree → List Arg → Type 0
Chains t [] = Unit {0}
Chains t (x ∷ before) = (type_after t before ≡ fun x.of x.result) × Chains t before

abbrev ArgsAct : Program → Levels → List Arg → Type 0
ArgsAct p r [] = Unit {0}
ArgsAct p r (x ∷ before) = ThunksAct p r x.of x.first x.second × ArgsAct p r before

args_later : {p : Program} {r : Levels} → IsLevels p r → (i : ℕ) (args : List Arg) → ArgsAct p r args → ArgsAct p (later i r) args
args_later l i [] h = tt
args_later {p} l i (x ∷ before) h = (runs_later l i x.of (thunk_runs p x.first) (thunk_has p x.second) h.0, args_later l i before h.1)

-- the arguments in an environment, the last one at this place
abbrev Places : Thunks → ℕ → List Arg → Type 0
Places γ j [] = Unit {0}
Places γ j (x ∷ before) = (thunk_at γ j ≡ Some x.first) × Places γ (suc j) before

places_under : (y : Thunk) (γ : Thunks) (j : ℕ) (args : List Arg) → Places γ j args → Places (thunk_and y γ) (suc j) args
places_under y γ j [] h = tt
places_under y γ j (x ∷ before) h = (h.0, places_under y γ (suc j) before h.1)

-- the environment with the arguments
abbrev with_args : List Arg → Thunks → Thunks
with_args [] γ = γ
with_args (x ∷ before) γ = thunk_and x.first (with_args before γ)

args_placed : (args : List Arg) (γ : Thunks) → Places (with_args args γ) zero args
args_placed [] γ = tt
args_placed (x ∷ before) γ = (refl, places_under x.first (with_args before γ) zero before (args_placed before γ))

-- the history at which the first side is looked at, as against that of the second
abbrev Beside : TypeTree → History → List Arg → History → Type 0
Beside t h [] h' = Alike t h' h
Beside t h (x ∷ before) h' = Alike x.result h' x.at

beside_function : (t a b : TypeTree) (h : History) (args : List Arg) (h' : History) → type_after t args ≡ fun a b → Beside t h args h'
beside_function t a b h [] h' e = subst (λ t. Alike t h' h) (sym e) tt
beside_function t a b h (x ∷ before) h' e = subst (λ t. Alike t h' x.at) (sym e) tt

var_thunk : {p : Program} {r : Levels} → IsLevels p r → (a : TypeTree) (j : ℕ) (γ : Thunks) (δ : TypeTrees) (x' x : Thunk) → thunk_at γ j ≡ Some x' → ThunksAct p r a x' x → ThunksAct p r a (closed (var j) γ δ) x
var_thunk {p} l a j γ δ x' x e acts h' h m v al (f_closed (e_var {n = n} {th = th} i d)) =
    let same : th ≡ x' = same_some i e in
    cost l n a v (thunk_has p x h) (acts h' h n v al (subst (λ th. Forces p n th h' v) same d))

-- a function on its arguments, where the function acts as one of the values
on_acts : {p : Program} {r : Levels} → IsLevels p r → (t : TypeTree) (s : Value → Type 0) (h : History) (e : TermTree) (γ : Thunks) (δ : TypeTrees) → ((h' : History) (m : ℕ) (v : Value) → Alike t h' h → Evals p m e γ δ h' v → later m r zero t v s) → (args : List Arg) (j : ℕ) → Places γ j args → Chains t args → ArgsAct p r args → (h' : History) (m : ℕ) (w : Value) → Beside t h args h' → Evals p m (on_variables e j (length args)) γ δ h' w → later m r zero (type_after t args) w (values_on p s args)
on_acts l t s h e γ δ base [] j places chains acts h' m w al d = base h' m w al d
on_acts {p} {r} l t s h e γ δ base (x ∷ before) j places chains acts h' m w al (e_app {m = i} {n = k} {v = fv} df da) =
    let function = on_acts l t s h e γ δ base before (suc j) places.1 chains.1 acts.1 h' i fv (beside_function t x.of x.result h before h' chains.0) df in
    let typed = subst (λ t. later i r zero t fv (values_on p s before)) chains.0 function in
    call_acts l x.of x.result (closed (var j) γ δ) x.second (values_on p s before) i k fv w h' x.at typed (var_thunk l x.of j γ δ x.first x.second places.0 acts.0) al da

-- a body acts so on each thunk that does
abbrev CallActs : Program → Levels → TypeTree → TypeTree → TermTree → Thunks → TypeTrees → (Value → Type 0) → Type 0
CallActs p r a b e γ δ s =
    (i : ℕ) (x' x : Thunk) → ThunksAct p (later i r) a x' x → RunsAct (later i r) b (term_runs p e (thunk_and x' γ) δ) (called p s x)

call_value : {p : Program} {r : Levels} → IsLevels p r → (b : TypeTree) (e : TermTree) (γ : Thunks) (δ : TypeTrees) (s : Value → Type 0) (x' x : Thunk) → RunsAct r b (term_runs p e (thunk_and x' γ) δ) (called p s x) → RunsAct r b (λ m h w. Applies p m (closure e γ δ) x' h w) (called p s x)
call_value {p} l b e γ δ s x' x acts h' h m w al (a_closure {n = n} d) = cost l n b w (called p s x h) (acts h' h n w al d)

closure_value : (p : Program) (a b : TypeTree) (e : TermTree) (γ : Thunks) (δ : TypeTrees) (s : Value → Type 0) (n : ℕ) → CallActs p (acts_from p n) a b e γ δ s → later (suc zero) (acts_from p n) zero (fun a b) (closure e γ δ) s
unfolding acts_from
closure_value p a b e γ δ s zero acts = tt
closure_value p a b e γ δ s (suc zero) acts = tt
closure_value p a b e γ δ s (suc (suc n)) acts = λ i x' x xs. call_value (at_later i (from_turns p n)) b e γ δ s x' x (acts (suc (suc i)) x' x xs)

abbrev by_many : ℕ → Renaming
by_many k x = plus k x

module _ (p : Program) (vars : List TypeTree) (t : TypeTree) (total : ℕ) (first second : TermTree) (γ' γ : Thunks) (δ : TypeTrees) (whole : (ε : Thunks) (q : Levels) → IsLevels p q → TiedBy p q vars (by_many total) (λ x. x) δ ε γ → TermsAct p q t first ε δ second γ δ) where
  tied_under : (q : Levels) (n : ℕ) (y : Thunk) (ε : Thunks) → TiedBy p q vars (by_many n) (λ x. x) δ ε γ → TiedBy p q vars (by_many (suc n)) (λ x. x) δ (thunk_and y ε) γ
  tied_under q n y ε h x u e = let k = h x u e in record { first = k.first; second = k.second; has_first = k.has_first; has_second = k.has_second; acts = k.acts }

  eta_from : (rest : List TypeTree) (r : TypeTree) (args : List Arg) → total ≡ length args + length rest → (q : Levels) → IsLevels p q → TiedBy p q vars (by_many (length args)) (λ x. x) δ (with_args args γ') γ → Chains t args → ArgsAct p q args → type_after t args ≡ from_each rest r → (h h' : History) (m : ℕ) (w : Value) → Beside t h args h' → (binders : List TypeTree) → length binders ≡ length rest → Evals p m (under_each binders (on_variables first zero total)) (with_args args γ') δ h' w → later m q zero (type_after t args) w (values_on p (term_has p second γ δ h) args)
  eta_from [] r args n q l tied chains acts is h h' m w beside [] size d =
      let all : total ≡ length args = omega (arith, n) in
      let known = subst (λ n. TiedBy p q vars (by_many n) (λ x. x) δ (with_args args γ') γ) (sym all) tied in
      on_acts l t (term_has p second γ δ h) h first (with_args args γ') δ (λ h' m v al d. whole (with_args args γ') q l known h' h m v al d) args zero (args_placed args γ') chains acts h' m w beside
      (subst (λ n. Evals p m (on_variables first zero n) (with_args args γ') δ h' w) all d)
  eta_from (a ∷ rest) r args n q l tied chains acts is h h' m w beside (c ∷ binders) size e_lam =
      let b = from_each rest r in
      let body = under_each binders (on_variables first zero total) in
      let set = values_on p (term_has p second γ δ h) args in
      let calls : CallActs p q a b body (with_args args γ') δ set =
      λ i x' x xs h2' h2 m2 u al d. eta_from rest r (record { first = x'; second = x; of = a; result = b; at = h2 } ∷ args) (omega (arith, n)) (later i q) (at_later i l)
      (tied_under (later i q) (length args) x' (with_args args γ') (tied_later l i vars (by_many (length args)) (λ x. x) δ (with_args args γ') γ tied)) (is, chains) (xs, args_later l i args acts) refl h h2' m2 u al binders (cc) d in
      subst (λ t. later (suc zero) q zero t (closure body (with_args args γ') δ) set) (sym is)
      (at_levels l (λ q. CallActs p q a b body (with_args args γ') δ set → later (suc zero) q zero (fun a b) (closure body (with_args args γ') δ) set) (λ k. closure_value p a b body (with_args args γ') δ set k) calls)
  eta_from [] r args n q l tied chains acts is h h' m w beside (c ∷ binders) size d = cc
  eta_from (a ∷ rest) r args n q l tied chains acts is h h' m w beside [] size d = cc

origins_on_variables : (o : ℕ → TermTree) (e : TermTree) (j n : ℕ) → with_origins o (on_variables e j n) ≡ on_variables (with_origins o e) j n
unfolding with_origins
origins_on_variables o e j zero = refl
origins_on_variables o e j (suc n) = ap (λ f. app f (var j)) (origins_on_variables o e (suc j) n)

origins_under_each : (o : ℕ → TermTree) (args : List TypeTree) (e : TermTree) → with_origins o (under_each args e) ≡ under_each args (with_origins o e)
unfolding with_origins
origins_under_each o [] e = refl
origins_under_each o (a ∷ args) e = ap (lam a) (origins_under_each o args e)

raised_by_many : (n : ℕ) → raised 0 n ≡ by_many n
raised_by_many n = same_function (raised 0 n) (by_many n) here
  where
    here : (x : ℕ) → raised 0 n x ≡ by_many n x
    here x = omega (arith, plus_is n x)

pub eta_acts : (p : Program) → IsSound (setting_of p) → IsTyped p → (types : List TypeTree) (o' o : ℕ → TermTree) {kinds : List Kind} {vars : List TypeTree} {e : TermTree} (args : List TypeTree) (r : TypeTree) → AreClosed (setting_of p) types → AreTermTypes (setting_with p types) kinds vars → HasType (setting_with p types) kinds vars e (from_each args r) → OriginsAct p types o' o → (n : ℕ) (δ : TypeTrees) (γ' γ : Thunks) → Kinded p kinds δ → TiedBy p (acts_from p n) vars (λ x. x) (λ x. x) δ γ' γ → TermsAct p (acts_from p n) (closed_type (from_each args r) δ) (with_origins o' (eta_expanded args e)) γ' δ (with_origins o e) γ δ
eta_acts p sound typed types o' o {kinds} {vars} {e} args r are_closed g d acts n δ γ' γ known names =
    subst (λ a. TermsAct p (acts_from p n) t a γ' δ (with_origins o e) γ δ) (sym expanded)
    (λ h' h m v al f. eta_from p vars t total first (with_origins o e) γ' γ δ whole (map (λ t. closed_type t δ) args) (closed_type r δ) [] (omega (arith, length-map args (λ t. closed_type t δ))) (acts_from p n) (from_turns p n) names tt tt (closed_from_each args r δ) h h' m v al args (sym (length-map args (λ t. closed_type t δ))) f)
  where
    t : TypeTree
    t = closed_type (from_each args r) δ

    total : ℕ
    total = length args

    first : TermTree
    first = with_origins o' (rename e (by_many total))

    expanded : with_origins o' (eta_expanded args e) ≡ under_each args (on_variables first 0 total)
    expanded =
        origins_under_each o' args (on_variables (shift e 0 total) 0 total)
        ∙ ap (under_each args) (origins_on_variables o' (shift e 0 total) 0 total ∙ ap (λ ρ. on_variables (with_origins o' (rename e ρ)) 0 total) (raised_by_many total))

    whole : (ε : Thunks) (q : Levels) → IsLevels p q → TiedBy p q vars (by_many total) (λ x. x) δ ε γ → TermsAct p q t first ε δ (with_origins o e) γ δ
    whole ε q l =
        at_levels l (λ q. TiedBy p q vars (by_many total) (λ x. x) δ ε γ → TermsAct p q t first ε δ (with_origins o e) γ δ)
        (λ k tied. subst (λ a. TermsAct p (acts_from p k) t first ε δ (with_origins o a) γ δ) (rename_ids e) (renamed_acts p sound typed types o' o (by_many total) (λ x. x) are_closed g d acts k δ ε γ known tied))
