-- What unrolled terms are made of, as thunks: elements of a named vector, and vectors of terms.
use Rattle.std.specs.List.{range_with_len}
use Rattle.std.proofs.Common.{◌≡◌, ◌≤◌, ◌<◌, ◌+◌, ◌-◌, ℕ, suc, zero, List, [], ◌∷◌, ◌++◌, map, refl, sym, ap, ◌∙◌, subst, arith}
use Rattle.chw_types.specs.declared.kind.Kind.{Kind}
use Rattle.chw_types.specs.declared.kind.Kind.TheVariants.{Nat, Dom, Val, Cir}
use Rattle.chw_types.specs.Polynomials.{greatest}
use Rattle.chw_types.specs.TypeTree.{TypeTree, nat_lit, vector, TypeTrees}
use Rattle.chw_prims.specs.declared.prim.Primitive.{Primitive as Prim}
use Rattle.chw_prims.specs.declared.row.Row.TheVariants.{Element}
use Rattle.chw_prims.specs.Schemas.{row_of, row_type}
use Rattle.chw_terms.specs.declared.program.Program.{Program}
use Rattle.chw_terms.specs.Evaluated.{evaluated}
use Rattle.chw_terms.specs.TermTree.{TermTree, vec_lit, Terms}
use Rattle.chw_terms.specs.TermView.{terms_of}
use Rattle.chw_terms.specs.Unrolled.{each as list_each, get, element as element_term}
use Rattle.chw_meaning.specs.Values.{History, Value, vec_of, prim_head, partial, Thunk, closed, element, Thunks, none, thunk_and, closed_all, joined}
use Rattle.chw_meaning.specs.Steps.{Step, gives, goes_to, types_asked, thunks_asked, by_row, each_from, step}
use Rattle.chw_meaning.specs.Eval.{plus, e_app, e_vec, f_closed, Applies, a_runs, Runs, r_gives, r_goes_to}
use Rattle.chw_meaning.proofs.Once.{evals_once, applies_along}
use Rattle.rewriting.specs.Origins.{with_origins, with_origins_all}
use Rattle.acts.specs.Levels.{Levels, RunsAct, term_runs, thunk_has, ThunksAct}
use Rattle.acts.specs.Acts.{EachAct}
use Rattle.acts.proofs.Fields.{element_acts}
use Rattle.acts.proofs.Forms.{vector_acts}
use Rattle.acts.proofs.Levels.{IsLevels, more}
use Rattle.acts.proofs.Numbers.{plus_is}
use Rattle.acts.proofs.Telescopes.{step_has}
use Rattle.act_rules.proofs.NameElements.{number_closed}
use Rattle.act_rules.proofs.Opened.{Reopened, Opens}
use Rattle.act_rules.proofs.Payloads.{opened_acts}
use Rattle.act_rules.proofs.Called.{complete, partial_has}
use Rattle.act_rules.proofs.Given.{given_at}

-- the line of the primitive that takes an element
get_row : (kind : Kind) → (k : Kind) × (row_of (get kind) ≡ Element k)
get_row Nat = (Val, refl)
get_row Dom = (Val, refl)
get_row Val = (Val, refl)
get_row Cir = (Cir, refl)

module _ (p : Program) (h : History) (γ : Thunks) (δ : TypeTrees) (e : TermTree) where
  takes_runs : (j i n : ℕ) (w : Value) → Runs p n (goes_to (element j (closed e γ δ))) h w → Reopened p h (element j (closed e γ δ)) (suc (plus i (suc n))) w
  takes_runs j i n w (r_goes_to d) = record { over = suc (plus i (suc zero)); turns = n; is = past i n; forced = d }
    where
      past : (i n : ℕ) → suc (plus i (suc n)) ≡ plus (suc (plus i (suc zero))) n
      past i n = omega (arith, plus_is i (suc n), plus_is (plus i (suc zero)) n, plus_is i (suc zero))

  takes_called : (q : Prim) (kind : Kind) → row_of q ≡ Element kind → (i m a : TypeTree) (j k n : ℕ) (w : Value) → evaluated i ≡ nat_lit j → j ≤ greatest → Applies p n (partial (prim_head q) (given_at δ (i ∷ m ∷ a ∷ [])) none) (closed e γ δ) h w → Reopened p h (element j (closed e γ δ)) (suc (plus k n)) w
  takes_called q kind row i m a j k n w is least (a_runs {n = n'} r) = takes_runs j k n' w (subst (λ s. Runs p n' s h w) does r)
    where
      ts : TypeTrees
      ts = given_at δ (i ∷ m ∷ a ∷ [])

      xs : Thunks
      xs = thunk_and (closed e γ δ) none

      does : step p.datas (prim_head q) ts xs ≡ goes_to (element j (closed e γ δ))
      does =
          complete p q ts xs (ap (λ r. types_asked (row_type r)) (sym row)) (ap (λ r. thunks_asked (row_type r)) (sym row))
          ∙ ap (λ r. by_row r q ts xs) row
          ∙ ap (λ k. goes_to (element k (closed e γ δ))) (number_closed i δ j is least)

  -- an element by its number has what the thunk's element has
  pub opens_element : (kind : Kind) (n : ℕ) (a : TypeTree) (j : ℕ) → j ≤ greatest → Opens p h (closed (element_term kind n a e j) γ δ) (element j (closed e γ δ))
  unfolding evaluated
  opens_element kind n a j least m w (f_closed (e_app {m = i} {n = k} df da)) =
      let row = get_row kind in
      let given = partial_has p (get kind) (λ m. e) γ δ h (nat_lit j ∷ nat_lit (n - 1 - j) ∷ a ∷ []) (let one : 1 ≡ thunks_asked (row_type (row_of (get kind))) = ap (λ r. thunks_asked (row_type r)) (sym row.1) in omega (arith, one)) in
      takes_called (get kind) row.0 row.1 (nat_lit j) (nat_lit (n - 1 - j)) a j i k w refl least (applies_along (evals_once df given.1).1 da)

-- it acts so where the vector does
pub element_named : {p : Program} {r : Levels} → IsLevels p r → (kind : Kind) (n : ℕ) (a : TypeTree) (e : TermTree) (γ : Thunks) (δ : TypeTrees) (w t : TypeTree) (j : ℕ) (v : Thunk) → j ≤ greatest → ThunksAct p r (vector w t) (closed e γ δ) v → ThunksAct p r t (closed (element_term kind n a e j) γ δ) (element j v)
element_named {p} l kind n a e γ δ w t j v least vs =
    opened_acts l t (closed (element_term kind n a e j) γ δ) (element j (closed e γ δ)) (element j v) (λ h. opens_element p h γ δ e kind n a j least) (element_acts l w t j (closed e γ δ) v vs)

-- a term as what a primitive does
abbrev pub TermSteps : Program → Levels → TypeTree → TermTree → Thunks → TypeTrees → Step → Type 0
TermSteps p r t e γ δ s = RunsAct r t (term_runs p e γ δ) (step_has p s)

pub vector_steps : {p : Program} {r : Levels} → IsLevels p r → (w t u : TypeTree) (es : Terms) (γ : Thunks) (δ : TypeTrees) (xs : Thunks) → EachAct p r t (closed_all es γ δ) xs → TermSteps p r (vector w t) (vec_lit u es) γ δ (gives (vec_of xs))
vector_steps {p} l w t u es γ δ xs each h' h m v al e_vec = vector_acts l (suc zero) w t (closed_all es γ δ) xs (step_has p (gives (vec_of xs)) h) (zero, r_gives) each

pub thunk_steps : {p : Program} {r : Levels} → IsLevels p r → (t : TypeTree) (e : TermTree) (γ : Thunks) (δ : TypeTrees) (x : Thunk) → ThunksAct p r t (closed e γ δ) x → TermSteps p r t e γ δ (goes_to x)
thunk_steps {p} l t e γ δ x acts h' h m v al d = more l m t v (thunk_has p x h) (step_has p (goes_to x) h) (λ w q. (q.0, r_goes_to q.1)) (acts h' h m v al (f_closed d))

module _ (p : Program) (r : Levels) (o : ℕ → TermTree) (γ : Thunks) (δ : TypeTrees) (t : TypeTree) where
  -- each of these terms acts as the thunk in its place
  abbrev pub TermsEach : List TermTree → Thunks → Type 0
  TermsEach es xs = EachAct p r t (closed_all (with_origins_all o (terms_of es)) γ δ) xs

  each_numbered : (f : ℕ → TermTree) (x : ℕ → Thunk) (j n : ℕ) → ((i : ℕ) → i < j + n → ThunksAct p r t (closed (with_origins o (f i)) γ δ) (x i)) → TermsEach (map f (range_with_len j n)) (each_from j n x)
  unfolding with_origins
  each_numbered f x j zero acts = tt
  each_numbered f x j (suc n) acts =
      (acts j (omega arith), subst (λ k. TermsEach (map f (range_with_len (j + 1) n)) (each_from k n x)) (let e : j + 1 ≡ suc j = omega arith in e) (each_numbered f x (j + 1) n (λ i less. acts i (omega (arith, less)))))

  -- terms by their number
  pub each_named : (f : ℕ → TermTree) (x : ℕ → Thunk) (n many : ℕ) → many ≡ n → ((i : ℕ) → i < n → ThunksAct p r t (closed (with_origins o (f i)) γ δ) (x i)) → TermsEach (list_each n f) (each_from zero many x)
  each_named f x n many is acts =
      subst (λ k. TermsEach (list_each n f) (each_from zero k x)) (sym is) (each_numbered f x zero n (λ i less. acts i (omega (arith, less))))

  pub joined_named : (es fs : List TermTree) (xs ys : Thunks) → TermsEach es xs → TermsEach fs ys → TermsEach (es ++ fs) (joined xs ys)
  unfolding with_origins
  joined_named [] fs none ys h k = k
  joined_named (e ∷ es) fs (thunk_and x xs) ys h k = (h.0, joined_named es fs xs ys h.1 k)
  joined_named [] fs (thunk_and x xs) ys h k = absurd h
  joined_named (e ∷ es) fs none ys h k = absurd h
