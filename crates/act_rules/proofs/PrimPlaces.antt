-- Primitives that put elements in other places: their unrolled forms.
use Rattle.std.specs.Prelude.{Some}
use Rattle.std.proofs.Common.{◌≡◌, ◌≤◌, ◌<◌, ◌+◌, ◌-◌, ◌%◌, ℕ, zero, List, [], ◌∷◌, map, refl, sym, ap, subst, arith}
use Rattle.std.proofs.lemmas.Nat.{mod_below}
use Rattle.chw_base.specs.declared.limits.TheConstants.{VECTOR_LENGTH}
use Rattle.chw_types.specs.declared.kind.Kind.{Kind}
use Rattle.chw_types.specs.Polynomials.{ended, greatest}
use Rattle.chw_types.specs.TypeMoves.{sub}
use Rattle.chw_types.specs.TypeTree.{TypeTree, ty_var, nat_sum, vector, TypeTrees}
use Rattle.chw_prims.specs.declared.row.Row.TheVariants.{Taken, Dropped, Reversed, Rotated}
use Rattle.chw_terms.specs.declared.program.Program.{Program}
use Rattle.chw_terms.specs.Evaluated.{evaluated}
use Rattle.chw_terms.specs.TermTree.{TermTree, var}
use Rattle.chw_terms.specs.TermView.{terms_of}
use Rattle.chw_terms.specs.Unrolled.{each as list_each, vec_of as vector_term, element as element_term, body_of}
use Rattle.chw_layout.specs.Measured.{closed_value}
use Rattle.chw_meaning.specs.Values.{vec_of, Thunk, closed, element, Thunks}
use Rattle.chw_meaning.specs.Steps.{gives, by_row, each_from}
use Rattle.rewriting.specs.Origins.{with_origins, with_origins_all}
use Rattle.acts.specs.Levels.{ThunksAct}
use Rattle.acts.specs.Acts.{acts_from}
use Rattle.acts.proofs.Levels.{from_turns}
use Rattle.act_rules.proofs.NameElements.{natural_closed}
use Rattle.unroll_laws.proofs.Sized.{Sized1, is_sized_1, sized_view_1, TwiceSized, is_twice_sized, twice_sized_view}
use Rattle.act_rules.proofs.Given.{at_env, given_at}
use Rattle.act_rules.proofs.PrimElements.{TermSteps, element_named, vector_steps, each_named}
use Rattle.act_rules.proofs.Maps.{closed_within}
use Rattle.act_rules.proofs.Shapes.{WithinLimits, RowUnrolls, on_one}
use Rattle.act_rules.proofs.Words.{number_up, sum_up}

module _ (p : Program) (n : ℕ) (o : ℕ → TermTree) (γ : Thunks) (δ : TypeTrees) where
  -- a vector of elements of the name, each by its place
  places_steps : (w u t c s : TypeTree) (kind : Kind) (long many size : ℕ) (at place : ℕ → ℕ) (v : Thunk) → size ≡ many → ((j : ℕ) → at j ≡ place j) → ((j : ℕ) → j < many → place j ≤ greatest) → ThunksAct p (acts_from p n) (vector u t) (closed (var 0) γ δ) v → TermSteps p (acts_from p n) (vector w t) (with_origins o (vector_term c (list_each many (λ j. element_term kind long s (var 0) (place j))))) γ δ (gives (vec_of (each_from zero size (λ j. element (at j) v))))
  unfolding with_origins
  places_steps w u t c s kind long many size at place v is same least vs =
      vector_steps (from_turns p n) w t c (with_origins_all o (terms_of (list_each many (λ j. element_term kind long s (var 0) (place j))))) γ δ (each_from zero size (λ j. element (at j) v))
      (each_named p (acts_from p n) o γ δ t (λ j. element_term kind long s (var 0) (place j)) (λ j. element (at j) v) many size is
      (λ j less. subst (λ i. ThunksAct p (acts_from p n) t (closed (element_term kind long s (var 0) (place j)) γ δ) (element i v)) (sym (same j)) (element_named (from_turns p n) kind long s (var 0) γ δ u t (place j) v (least j less) vs)))

-- vtake v
abbrev taken_body : Kind → ℕ → ℕ → TypeTree → TermTree
taken_body kind n m a = vector_term a (list_each n (element_term kind (n + m) a (var 0)))

taken_at : (p : Program) (kind : Kind) {types : List TypeTree} {body : TermTree} → TwiceSized (taken_body kind) types body → WithinLimits (Taken kind) types → RowUnrolls p (Taken kind) (vector (nat_sum (ty_var 2) (ty_var 1)) (ty_var 0) ∷ []) (vector (ty_var 2) (ty_var 0)) types body
unfolding sub evaluated with_origins
taken_at p kind (is_twice_sized {size = size} {other = rest} {a = a} m k e f) limits q o n γ δ xs all =
    on_one p (acts_from p n) (vector (nat_sum (at_env δ size) (at_env δ rest)) (at_env δ a)) (closed (var 0) γ δ)
    (λ xs. TermSteps p (acts_from p n) (vector (at_env δ size) (at_env δ a)) (with_origins o (taken_body kind m k (evaluated a))) γ δ (by_row (Taken kind) q (given_at δ (size ∷ rest ∷ a ∷ [])) xs))
    (λ v vs. places_steps p n o γ δ (at_env δ size) (nat_sum (at_env δ size) (at_env δ rest)) (at_env δ a) (evaluated a) (evaluated a) kind (m + k) m (closed_value (at_env δ size)) (λ j. j) (λ j. j) v (closed_within VECTOR_LENGTH size m δ e within (omega arith)) (λ j. refl) (λ j less. omega (arith, less, within)) vs)
    xs all
  where
    within : m ≤ VECTOR_LENGTH
    within = let both = sum_up VECTOR_LENGTH size rest m k e f (omega arith) limits.short.0 in omega (arith, both)

pub taken : (p : Program) (kind : Kind) (types : List TypeTree) (body : TermTree) → body_of (Taken kind) (map evaluated types) ≡ Some body → WithinLimits (Taken kind) types → RowUnrolls p (Taken kind) (vector (nat_sum (ty_var 2) (ty_var 1)) (ty_var 0) ∷ []) (vector (ty_var 2) (ty_var 0)) types body
taken p kind types body e = taken_at p kind (twice_sized_view (taken_body kind) types body e)

-- vdrop v
abbrev dropped_body : Kind → ℕ → ℕ → TypeTree → TermTree
dropped_body kind n m a = vector_term a (list_each m (λ j. element_term kind (n + m) a (var 0) (n + j)))

dropped_at : (p : Program) (kind : Kind) {types : List TypeTree} {body : TermTree} → TwiceSized (dropped_body kind) types body → WithinLimits (Dropped kind) types → RowUnrolls p (Dropped kind) (vector (nat_sum (ty_var 2) (ty_var 1)) (ty_var 0) ∷ []) (vector (ty_var 1) (ty_var 0)) types body
unfolding sub evaluated with_origins
dropped_at p kind (is_twice_sized {size = size} {other = rest} {a = a} m k e f) limits q o n γ δ xs all =
    on_one p (acts_from p n) (vector (nat_sum (at_env δ size) (at_env δ rest)) (at_env δ a)) (closed (var 0) γ δ)
    (λ xs. TermSteps p (acts_from p n) (vector (at_env δ rest) (at_env δ a)) (with_origins o (dropped_body kind m k (evaluated a))) γ δ (by_row (Dropped kind) q (given_at δ (size ∷ rest ∷ a ∷ [])) xs))
    (λ v vs. places_steps p n o γ δ (at_env δ rest) (nat_sum (at_env δ size) (at_env δ rest)) (at_env δ a) (evaluated a) (evaluated a) kind (m + k) k (closed_value (at_env δ rest)) (λ j. closed_value (at_env δ size) + j) (λ j. m + j) v
    (closed_within VECTOR_LENGTH rest k δ f (omega (arith, within)) (omega arith)) (λ j. ap (λ i. i + j) (closed_within VECTOR_LENGTH size m δ e (omega (arith, within)) (omega arith))) (λ j less. omega (arith, less, within)) vs)
    xs all
  where
    within : m + k ≤ VECTOR_LENGTH
    within = sum_up VECTOR_LENGTH size rest m k e f (omega arith) limits.short.0

pub dropped : (p : Program) (kind : Kind) (types : List TypeTree) (body : TermTree) → body_of (Dropped kind) (map evaluated types) ≡ Some body → WithinLimits (Dropped kind) types → RowUnrolls p (Dropped kind) (vector (nat_sum (ty_var 2) (ty_var 1)) (ty_var 0) ∷ []) (vector (ty_var 1) (ty_var 0)) types body
dropped p kind types body e = dropped_at p kind (twice_sized_view (dropped_body kind) types body e)

-- vreverse v
abbrev reversed_body : Kind → ℕ → TypeTree → TermTree
reversed_body kind n a = vector_term a (list_each n (λ j. element_term kind n a (var 0) (n - 1 - j)))

reversed_at : (p : Program) (kind : Kind) {types : List TypeTree} {body : TermTree} → Sized1 (reversed_body kind) types body → WithinLimits (Reversed kind) types → RowUnrolls p (Reversed kind) (vector (ty_var 1) (ty_var 0) ∷ []) (vector (ty_var 1) (ty_var 0)) types body
unfolding sub evaluated with_origins
reversed_at p kind (is_sized_1 {size = size} {a = a} m e) limits q o n γ δ xs all =
    on_one p (acts_from p n) (vector (at_env δ size) (at_env δ a)) (closed (var 0) γ δ)
    (λ xs. TermSteps p (acts_from p n) (vector (at_env δ size) (at_env δ a)) (with_origins o (reversed_body kind m (evaluated a))) γ δ (by_row (Reversed kind) q (given_at δ (size ∷ a ∷ [])) xs))
    (λ v vs. places_steps p n o γ δ (at_env δ size) (at_env δ size) (at_env δ a) (evaluated a) (evaluated a) kind m m (closed_value (at_env δ size)) (λ j. closed_value (at_env δ size) - 1 - j) (λ j. m - 1 - j) v is (λ j. ap (λ i. i - 1 - j) is) (λ j less. omega (arith, less, within)) vs)
    xs all
  where
    within : m ≤ VECTOR_LENGTH
    within = number_up VECTOR_LENGTH size m e limits.short.0

    is : closed_value (at_env δ size) ≡ m
    is = closed_within VECTOR_LENGTH size m δ e within (omega arith)

pub reversed : (p : Program) (kind : Kind) (types : List TypeTree) (body : TermTree) → body_of (Reversed kind) (map evaluated types) ≡ Some body → WithinLimits (Reversed kind) types → RowUnrolls p (Reversed kind) (vector (ty_var 1) (ty_var 0) ∷ []) (vector (ty_var 1) (ty_var 0)) types body
reversed p kind types body e = reversed_at p kind (sized_view_1 (reversed_body kind) types body e)

-- vrotl v; its type doesn't limit the number of places, which ends as a natural's value does
abbrev rotated_body : Kind → ℕ → ℕ → TypeTree → TermTree
rotated_body kind n k a = vector_term a (list_each n (λ j. element_term kind n a (var 0) ((j + ended k) % n)))

rotated_at : (p : Program) (kind : Kind) {types : List TypeTree} {body : TermTree} → TwiceSized (rotated_body kind) types body → WithinLimits (Rotated kind) types → RowUnrolls p (Rotated kind) (vector (ty_var 2) (ty_var 0) ∷ []) (vector (ty_var 2) (ty_var 0)) types body
unfolding sub evaluated with_origins
rotated_at p kind (is_twice_sized {size = size} {other = places} {a = a} m k e f) limits q o n γ δ xs all =
    on_one p (acts_from p n) (vector (at_env δ size) (at_env δ a)) (closed (var 0) γ δ)
    (λ xs. TermSteps p (acts_from p n) (vector (at_env δ size) (at_env δ a)) (with_origins o (rotated_body kind m k (evaluated a))) γ δ (by_row (Rotated kind) q (given_at δ (size ∷ places ∷ a ∷ [])) xs))
    (λ v vs. places_steps p n o γ δ (at_env δ size) (at_env δ size) (at_env δ a) (evaluated a) (evaluated a) kind m m (closed_value (at_env δ size)) (λ j. (j + closed_value (at_env δ places)) % closed_value (at_env δ size)) (λ j. (j + ended k) % m) v is
    (λ j i. (j + natural_closed places δ k f i) % is i)
    (λ j less. let below = mod_below (j + ended k) m (omega (arith, less)) in omega (arith, below, within)) vs)
    xs all
  where
    within : m ≤ VECTOR_LENGTH
    within = number_up VECTOR_LENGTH size m e limits.short.0

    is : closed_value (at_env δ size) ≡ m
    is = closed_within VECTOR_LENGTH size m δ e within (omega arith)

pub rotated : (p : Program) (kind : Kind) (types : List TypeTree) (body : TermTree) → body_of (Rotated kind) (map evaluated types) ≡ Some body → WithinLimits (Rotated kind) types → RowUnrolls p (Rotated kind) (vector (ty_var 2) (ty_var 0) ∷ []) (vector (ty_var 2) (ty_var 0)) types body
rotated p kind types body e = rotated_at p kind (twice_sized_view (rotated_body kind) types body e)
