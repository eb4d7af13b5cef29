-- A thunk, opened at a history: another that has its values, in no more turns.
use Rattle.std.proofs.Common.{◌≡◌, ℕ, suc, zero, Some, refl, ◌∙◌, subst, arith}
use Rattle.chw_types.specs.TypeTree.{TypeTree, TypeTrees, no_types, type_and}
use Rattle.chw_prims.specs.declared.prim.Primitive.{Primitive as Prim}
use Rattle.chw_prims.specs.declared.prim.Primitive.TheVariants.{Fmap, Ap, Pure}
use Rattle.chw_terms.specs.declared.program.Program.{Program}
use Rattle.chw_terms.specs.Evaluated.{evaluated}
use Rattle.chw_terms.specs.TermTree.{TermTree, var, lam, app, ty_app, prim}
use Rattle.chw_meaning.specs.Values.{History, Value, prim_head, partial, Thunk, closed, applied, sample, Thunks, none, thunk_and, thunk_at, closed_type}
use Rattle.chw_meaning.specs.Steps.{goes_to, samples}
use Rattle.chw_meaning.specs.Eval.{plus, Evals, e_var, e_lam, e_app, e_ty_app, e_prim, Forces, f_closed, f_applied, f_sample, Applies, a_closure, a_runs, t_runs, Runs, r_gives, r_goes_to, r_samples}
use Rattle.chw_meaning.proofs.Once.{same_some, evals_once, applies_along}
use Rattle.rewriting.specs.Shapes.{fmap_of, ap_of, pure_of}
use Rattle.acts.specs.Levels.{thunk_has}
use Rattle.acts.proofs.Numbers.{plus_is}

-- the other thunk has the value, and these turns are over
pub record Reopened (p : Program) (h : History) (y : Thunk) (m : ℕ) (v : Value) : Type 0 where
  pub over : ℕ
  pub turns : ℕ
  pub is : m ≡ plus over turns
  pub forced : Forces p turns y h v

abbrev pub Opens : Program → History → Thunk → Thunk → Type 0
Opens p h x y = (m : ℕ) (v : Value) → Forces p m x h v → Reopened p h y m v

-- whatever the second has, the first has
abbrev pub Reaches : Program → History → Thunk → Thunk → Type 0
Reaches p h x y = (v : Value) → thunk_has p y h v → thunk_has p x h v

sum_over : (j k m n : ℕ) → m ≡ plus k n → plus j m ≡ plus (plus j k) n
sum_over j k m n e = omega (arith, plus_is j m, plus_is (plus j k) n, plus_is j k, plus_is k n, e)

pub opens_self : {p : Program} {h : History} {x : Thunk} → Opens p h x x
opens_self m v d = record { over = zero; turns = m; is = refl; forced = d }

pub opens_then : {p : Program} {h : History} {x y z : Thunk} → Opens p h x y → Opens p h y z → Opens p h x z
opens_then first second m v d =
    let one = first m v d in
    let two = second one.turns v one.forced in
    record { over = plus one.over two.over; turns = two.turns; is = one.is ∙ sum_over one.over two.over one.turns two.turns two.is; forced = two.forced }

-- a function's thunk, opened
applied_sum : (m n k j : ℕ) → m ≡ plus k j → suc (plus m n) ≡ plus k (suc (plus j n))
applied_sum m n k j e = omega (arith, plus_is m n, plus_is k (suc (plus j n)), plus_is j n, plus_is k j, e)

pub opens_applied : {p : Program} {h : History} {x y : Thunk} (a : Thunk) → Opens p h x y → Opens p h (applied x a) (applied y a)
opens_applied a first m w (f_applied {m = i} {n = j} {v = v} df da) =
    let one = first i v df in
    record { over = one.over; turns = suc (plus one.turns j); is = applied_sum i j one.over one.turns one.is; forced = f_applied one.forced da }

-- a sample at this history
pub opens_sample : {p : Program} {h : History} {x y : Thunk} → Opens p h x y → Opens p h (sample x h) y
opens_sample first m v (f_sample d) = first m v d

pub sample_reaches : {p : Program} {h : History} {x y : Thunk} → Reaches p h x y → Reaches p h (sample x h) y
sample_reaches reach v d = let at = reach v d in (at.0, f_sample at.1)

-- a function of which the body is known
pub opens_lambda : {p : Program} {h : History} (t : TypeTree) (e : TermTree) (γ : Thunks) (δ : TypeTrees) (x : Thunk) → Opens p h (applied (closed (lam t e) γ δ) x) (closed e (thunk_and x γ) δ)
opens_lambda t e γ δ x m v (f_applied (f_closed e_lam) (a_closure {n = n} d)) = record { over = suc (suc (suc zero)); turns = n; is = refl; forced = f_closed d }

-- a sample of it
pub opens_called : {p : Program} {h : History} (t : TypeTree) (e : TermTree) (γ : Thunks) (δ : TypeTrees) (x : Thunk) → Opens p h (applied (sample (closed (lam t e) γ δ) h) x) (closed e (thunk_and x γ) δ)
opens_called {p} {h} t e γ δ x = opens_then (opens_applied x (opens_sample (opens_self {x = closed (lam t e) γ δ}))) (opens_lambda t e γ δ x)

pub opens_app : {p : Program} {h : History} (f a : TermTree) (γ : Thunks) (δ : TypeTrees) → Opens p h (closed (app f a) γ δ) (applied (closed f γ δ) (closed a γ δ))
opens_app f a γ δ m v (f_closed (e_app df da)) = record { over = zero; turns = m; is = refl; forced = f_applied (f_closed df) da }

pub opens_var : {p : Program} {h : History} (x : ℕ) (γ : Thunks) (δ : TypeTrees) (th : Thunk) → thunk_at γ x ≡ Some th → Opens p h (closed (var x) γ δ) th
opens_var {p} {h} x γ δ th at m v (f_closed (e_var {n = n} found d)) =
    record { over = suc zero; turns = n; is = refl; forced = subst (λ th. Forces p n th h v) (same_some found at) d }

module _ (p : Program) (h : History) (γ : Thunks) (δ : TypeTrees) where
  abbrev at_type : TypeTree → TypeTree
  at_type t = evaluated (closed_type t δ)

  abbrev three : TypeTree → TypeTree → TypeTree → TypeTrees
  three d a b = type_and (at_type b) (type_and (at_type a) (type_and (at_type d) no_types))

  -- what `fmap` has before its last argument
  mapping : (d a b : TypeTree) (f : TermTree) → (m : ℕ) × Evals p m (app (ty_app (ty_app (ty_app (prim Fmap) d) a) b) f) γ δ h (partial (prim_head Fmap) (three d a b) (thunk_and (closed f γ δ) none))
  mapping d a b f =
      let zeroth : Evals p (suc zero) (prim Fmap) γ δ h (partial (prim_head Fmap) no_types none) = e_prim r_gives in
      let first = e_ty_app {t = d} {w = partial (prim_head Fmap) (type_and (at_type d) no_types) none} zeroth (t_runs r_gives) in
      let second = e_ty_app {t = a} {w = partial (prim_head Fmap) (type_and (at_type a) (type_and (at_type d) no_types)) none} first (t_runs r_gives) in
      let third = e_ty_app {t = b} {w = partial (prim_head Fmap) (three d a b) none} second (t_runs r_gives) in
      (_, e_app {a = f} {w = partial (prim_head Fmap) (three d a b) (thunk_and (closed f γ δ) none)} third (a_runs r_gives))

  -- what `ap` has before its last argument
  applying : (d a b : TypeTree) (f : TermTree) → (m : ℕ) × Evals p m (app (ty_app (ty_app (ty_app (prim Ap) d) a) b) f) γ δ h (partial (prim_head Ap) (three d a b) (thunk_and (closed f γ δ) none))
  applying d a b f =
      let zeroth : Evals p (suc zero) (prim Ap) γ δ h (partial (prim_head Ap) no_types none) = e_prim r_gives in
      let first = e_ty_app {t = d} {w = partial (prim_head Ap) (type_and (at_type d) no_types) none} zeroth (t_runs r_gives) in
      let second = e_ty_app {t = a} {w = partial (prim_head Ap) (type_and (at_type a) (type_and (at_type d) no_types)) none} first (t_runs r_gives) in
      let third = e_ty_app {t = b} {w = partial (prim_head Ap) (three d a b) none} second (t_runs r_gives) in
      (_, e_app {a = f} {w = partial (prim_head Ap) (three d a b) (thunk_and (closed f γ δ) none)} third (a_runs r_gives))

  holding : (d a : TypeTree) → (m : ℕ) × Evals p m (ty_app (ty_app (prim Pure) d) a) γ δ h (partial (prim_head Pure) (type_and (at_type a) (type_and (at_type d) no_types)) none)
  holding d a =
      let zeroth : Evals p (suc zero) (prim Pure) γ δ h (partial (prim_head Pure) no_types none) = e_prim r_gives in
      let first = e_ty_app {t = d} {w = partial (prim_head Pure) (type_and (at_type d) no_types) none} zeroth (t_runs r_gives) in
      (_, e_ty_app {t = a} {w = partial (prim_head Pure) (type_and (at_type a) (type_and (at_type d) no_types)) none} first (t_runs r_gives))

  -- on the last argument
  runs_samples : (k : ℕ) (f s : TermTree) (n : ℕ) (w : Value) → Runs p n (samples (closed f γ δ) (closed s γ δ)) h w → Reopened p h (applied (sample (closed f γ δ) h) (sample (closed s γ δ) h)) (suc (plus k (suc n))) w
  runs_samples k f s n w (r_samples {m = i} {n = j} df da) =
      record { over = suc (plus k (suc zero)); turns = suc (plus i j); is = past k (suc (plus i j)); forced = f_applied (f_sample df) da }
    where
      past : (k n : ℕ) → suc (plus k (suc n)) ≡ plus (suc (plus k (suc zero))) n
      past k n = omega (arith, plus_is k (suc n), plus_is (plus k (suc zero)) n, plus_is k (suc zero))

  runs_goes : (k : ℕ) (x : TermTree) (n : ℕ) (w : Value) → Runs p n (goes_to (closed x γ δ)) h w → Reopened p h (closed x γ δ) (suc (plus k (suc n))) w
  runs_goes k x n w (r_goes_to d) = record { over = suc (plus k (suc zero)); turns = n; is = past k n; forced = d }
    where
      past : (k n : ℕ) → suc (plus k (suc n)) ≡ plus (suc (plus k (suc zero))) n
      past k n = omega (arith, plus_is k (suc n), plus_is (plus k (suc zero)) n, plus_is k (suc zero))

  fmap_called : (k : ℕ) (d a b : TypeTree) (f s : TermTree) (n : ℕ) (w : Value) → Applies p n (partial (prim_head Fmap) (three d a b) (thunk_and (closed f γ δ) none)) (closed s γ δ) h w → Reopened p h (applied (sample (closed f γ δ) h) (sample (closed s γ δ) h)) (suc (plus k n)) w
  fmap_called k d a b f s n w (a_runs {n = m} r) = runs_samples k f s m w r

  ap_called : (k : ℕ) (d a b : TypeTree) (f s : TermTree) (n : ℕ) (w : Value) → Applies p n (partial (prim_head Ap) (three d a b) (thunk_and (closed f γ δ) none)) (closed s γ δ) h w → Reopened p h (applied (sample (closed f γ δ) h) (sample (closed s γ δ) h)) (suc (plus k n)) w
  ap_called k d a b f s n w (a_runs {n = m} r) = runs_samples k f s m w r

  pure_called : (k : ℕ) (d a : TypeTree) (x : TermTree) (n : ℕ) (w : Value) → Applies p n (partial (prim_head Pure) (type_and (at_type a) (type_and (at_type d) no_types)) none) (closed x γ δ) h w → Reopened p h (closed x γ δ) (suc (plus k n)) w
  pure_called k d a x n w (a_runs {n = m} r) = runs_goes k x m w r

  pub opens_fmap : (d a b : TypeTree) (f s : TermTree) → Opens p h (closed (fmap_of d a b f s) γ δ) (applied (sample (closed f γ δ) h) (sample (closed s γ δ) h))
  opens_fmap d a b f s m w (f_closed (e_app {m = i} {n = j} df da)) =
      fmap_called i d a b f s j w (applies_along (evals_once df (mapping d a b f).1).1 da)

  pub opens_ap : (d a b : TypeTree) (f s : TermTree) → Opens p h (closed (ap_of d a b f s) γ δ) (applied (sample (closed f γ δ) h) (sample (closed s γ δ) h))
  opens_ap d a b f s m w (f_closed (e_app {m = i} {n = j} df da)) =
      ap_called i d a b f s j w (applies_along (evals_once df (applying d a b f).1).1 da)

  pub opens_pure : (d a : TypeTree) (x : TermTree) → Opens p h (closed (pure_of d a x) γ δ) (closed x γ δ)
  opens_pure d a x m w (f_closed (e_app {m = i} {n = j} df da)) =
      pure_called i d a x j w (applies_along (evals_once df (holding d a).1).1 da)

  samples_run : (f s : TermTree) (w : Value) → thunk_has p (applied (sample (closed f γ δ) h) (sample (closed s γ δ) h)) h w → (m : ℕ) × Runs p m (samples (closed f γ δ) (closed s γ δ)) h w
  samples_run f s w (_, f_applied (f_sample df) da) = (_, r_samples df da)

  pub fmap_reaches : (d a b : TypeTree) (f s : TermTree) → Reaches p h (closed (fmap_of d a b f s) γ δ) (applied (sample (closed f γ δ) h) (sample (closed s γ δ) h))
  fmap_reaches d a b f s w has = (_, f_closed (e_app (mapping d a b f).1 (a_runs (samples_run f s w has).1)))

  pub ap_reaches : (d a b : TypeTree) (f s : TermTree) → Reaches p h (closed (ap_of d a b f s) γ δ) (applied (sample (closed f γ δ) h) (sample (closed s γ δ) h))
  ap_reaches d a b f s w has = (_, f_closed (e_app (applying d a b f).1 (a_runs (samples_run f s w has).1)))

  pub pure_reaches : (d a : TypeTree) (x : TermTree) → Reaches p h (closed (pure_of d a x) γ δ) (closed x γ δ)
  pure_reaches d a x w has = (_, f_closed (e_app (holding d a).1 (a_runs (r_goes_to has.1))))
