-- A term for each made definition as a whole, and what the whole of a function has on thunks.
use Rattle.std.specs.Prelude.{slice_get}
use Rattle.std.proofs.Common.{◌≡◌, ◌<◌, ℕ, zero, suc, List, [], ◌∷◌, length, Option, None, Some, refl, ap, arith}
use Rattle.std.proofs.lemmas.Option.{slice_get_within}
use Rattle.chw_types.specs.TypeTree.{TypeTree, TypeTrees}
use Rattle.chw_terms.specs.declared.program.Program.{Program}
use Rattle.chw_terms.specs.declared.scene.Made.{Made}
use Rattle.chw_terms.specs.TermTree.{TermTree, made, lam}
use Rattle.rewriting.specs.Origins.{with_origins}
use Rattle.normal_forms.specs.Laws.{OneWhole}
use Rattle.normal_forms.specs.Uses.{Uses, WholeOf, whole_of}
use Rattle.chw_meaning.specs.Values.{History, Value, closure, Thunk, closed, applied, Thunks, thunk_and}
use Rattle.chw_meaning.specs.Eval.{plus, Evals, e_lam, Forces, f_closed, f_applied, a_closure}
use Rattle.carrying.specs.TermLaws.{onto, on_thunks, under_lambdas}
use Rattle.net_grounds.specs.Facts.{Facts}
use Rattle.net_means.specs.CircuitBits.Leaves.{HasAllOf}

-- what stands in the state is a whole
abbrev pub AreWholes : List Made → Type 0
AreWholes state = (m : ℕ) → m < length state → (e : TermTree) × WholeOf state m e

module _ (state : List Made) (are : AreWholes state) where
  whole_if : (m : ℕ) (o : Option Made) → slice_get state m ≡ o → TermTree
  whole_if m None e = made m
  whole_if m (Some it) e = (are m (slice_get_within state m it e)).0

  -- a term for each made definition
  pub whole : ℕ → TermTree
  whole m = whole_if m (slice_get state m) refl

  is_whole_if : (m : ℕ) (o : Option Made) (e : slice_get state m ≡ o) (it : Made) → o ≡ Some it → WholeOf state m (whole_if m o e)
  unfolding whole_if
  is_whole_if m None e it is = absurd cc
  is_whole_if m (Some jt) e it is = (are m (slice_get_within state m jt e)).1

  pub is_whole : (m : ℕ) (it : Made) → slice_get state m ≡ Some it → WholeOf state m (whole m)
  unfolding whole
  is_whole m it is = is_whole_if m (slice_get state m) refl it is

  there : {m : ℕ} {e : TermTree} → WholeOf state m e → (it : Made) × (slice_get state m ≡ Some it)
  there (whole_of {it = it} wholes is more) = (it, is)

  used_there : {m : ℕ} {e : TermTree} → WholeOf state m e → (n : ℕ) → Uses state m n → (it : Made) × (slice_get state n ≡ Some it)
  used_there (whole_of wholes is more) n uses = there (more n uses)

  pub wholes_are : OneWhole → (m : ℕ) (it : Made) → slice_get state m ≡ Some it → whole m ≡ with_origins whole it.body
  wholes_are one m it is =
      let own = is_whole m it is in
      one state m (whole m) (with_origins whole it.body) own (whole_of whole is (λ n uses. let at = used_there own n uses in is_whole n at.0 at.1))

pub whole_function : (wholes : ℕ → TermTree) (params : List TypeTree) (e : TermTree) → with_origins wholes (under_lambdas params e) ≡ under_lambdas params (with_origins wholes e)
unfolding with_origins
whole_function wholes [] e = refl
whole_function wholes (t ∷ params) e = ap (lam t) (whole_function wholes params e)

-- a function on thunks has all that its body has with them as its variables
on_all : (p : Program) (params : List TypeTree) (xs : List Thunk) (f : Thunk) (e : TermTree) (γ : Thunks) (δ : TypeTrees) (h : History) → length params ≡ length xs
    → ((n : ℕ) (v : Value) → Evals p n (under_lambdas params e) γ δ h v → (m : ℕ) × Forces p m f h v)
    → (n : ℕ) (v : Value) → Evals p n e (onto xs γ) δ h v → (m : ℕ) × Forces p m (on_thunks f xs) h v
on_all p [] [] f e γ δ h same has n v d = has n v d
on_all p (t ∷ params) (x ∷ xs) f e γ δ h same has n v d =
    let c = has (suc zero) (closure (under_lambdas params e) γ δ) e_lam in
    on_all p params xs (applied f x) e (thunk_and x γ) δ h (omega (arith, same))
    (λ m w g. (suc (plus c.0 (suc m)), f_applied c.1 (a_closure g))) n v d
on_all p [] (x ∷ xs) f e γ δ h same has n v d = absurd (omega (arith, same))
on_all p (t ∷ params) [] f e γ δ h same has n v d = absurd (omega (arith, same))

pub function_follows : Facts → (p : Program) (h : History) (params : List TypeTree) (e : TermTree) (xs : List Thunk) (γ : Thunks) (δ : TypeTrees) → length params ≡ length xs → HasAllOf p h (on_thunks (closed (under_lambdas params e) γ δ) xs) (closed e (onto xs γ) δ)
function_follows facts p h params e xs γ δ same n v f = on_all p params xs (closed (under_lambdas params e) γ δ) e γ δ h same (λ m w d. (m, f_closed d)) n v (facts.shows.opened f)
