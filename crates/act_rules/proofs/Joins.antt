-- Primitives that put vectors together: their unrolled forms.
use Rattle.std.specs.Prelude.{Some}
use Rattle.std.specs.List.{range_with_len, flat_map}
use Rattle.std.proofs.Common.{◌≡◌, ◌≤◌, ◌+◌, ℕ, suc, zero, List, [], ◌∷◌, ◌++◌, map, refl, sym, subst, arith}
use Rattle.chw_base.specs.declared.limits.TheConstants.{VECTOR_LENGTH}
use Rattle.chw_types.specs.declared.kind.Kind.{Kind}
use Rattle.chw_types.specs.Polynomials.{greatest}
use Rattle.chw_types.specs.TypeMoves.{sub}
use Rattle.chw_types.specs.TypeTree.{TypeTree, ty_var, nat_lit, nat_sum, nat_product, vector, TypeTrees}
use Rattle.chw_prims.specs.declared.row.Row.TheVariants.{Appended, Concatenated}
use Rattle.chw_terms.specs.declared.program.Program.{Program}
use Rattle.chw_terms.specs.Evaluated.{evaluated}
use Rattle.chw_terms.specs.TermTree.{TermTree, var}
use Rattle.chw_terms.specs.TermView.{terms_of}
use Rattle.chw_terms.specs.Unrolled.{each as list_each, vec_of as vector_term, element as element_term, body_of}
use Rattle.chw_layout.specs.Measured.{closed_value}
use Rattle.chw_meaning.specs.Values.{Thunk, closed, element, Thunks, joined}
use Rattle.chw_meaning.specs.Steps.{by_row, each_from, concatenated}
use Rattle.rewriting.specs.Origins.{with_origins, with_origins_all}
use Rattle.acts.specs.Levels.{Levels, ThunksAct}
use Rattle.acts.specs.Acts.{acts_from}
use Rattle.acts.proofs.Levels.{IsLevels, from_turns}
use Rattle.unroll_laws.proofs.Sized.{TwiceSized, is_twice_sized, twice_sized_view}
use Rattle.act_rules.proofs.Given.{at_env, given_at}
use Rattle.act_rules.proofs.PrimElements.{TermSteps, element_named, vector_steps, TermsEach, each_named, joined_named}
use Rattle.act_rules.proofs.Maps.{closed_within}
use Rattle.act_rules.proofs.Shapes.{WithinLimits, RowUnrolls, on_one, on_two}
use Rattle.act_rules.proofs.Words.{number_up}

-- vappend v w
abbrev appended_terms : Kind → ℕ → ℕ → TypeTree → List TermTree
appended_terms kind n m a = list_each n (element_term kind n a (var 1)) ++ list_each m (element_term kind m a (var 0))

abbrev appended_body : Kind → ℕ → ℕ → TypeTree → TermTree
appended_body kind n m a = vector_term a (appended_terms kind n m a)

appended_at : (p : Program) (kind : Kind) {types : List TypeTree} {body : TermTree} → TwiceSized (appended_body kind) types body → WithinLimits (Appended kind) types → RowUnrolls p (Appended kind) (vector (ty_var 2) (ty_var 0) ∷ vector (ty_var 1) (ty_var 0) ∷ []) (vector (nat_sum (ty_var 2) (ty_var 1)) (ty_var 0)) types body
unfolding sub evaluated with_origins
appended_at p kind (is_twice_sized {size = size} {other = rest} {a = a} m k e f) limits q o n γ δ xs all =
    on_two p (acts_from p n) (vector rest' a') (vector size' a') (closed (var 0) γ δ) (closed (var 1) γ δ)
    (λ xs. TermSteps p (acts_from p n) (vector (nat_sum size' rest') a') (with_origins o (appended_body kind m k (evaluated a))) γ δ (by_row (Appended kind) q (given_at δ (size ∷ rest ∷ a ∷ [])) xs))
    (λ v w vs ws. vector_steps l (nat_sum size' rest') a' (evaluated a) (with_origins_all o (terms_of (appended_terms kind m k (evaluated a)))) γ δ (joined (each_from zero (closed_value size') (λ j. element j v)) (each_from zero (closed_value rest') (λ j. element j w)))
    (joined_named p (acts_from p n) o γ δ a' (list_each m (element_term kind m (evaluated a) (var 1))) (list_each k (element_term kind k (evaluated a) (var 0))) (each_from zero (closed_value size') (λ j. element j v)) (each_from zero (closed_value rest') (λ j. element j w))
    (each_named p (acts_from p n) o γ δ a' (element_term kind m (evaluated a) (var 1)) (λ j. element j v) m (closed_value size') (closed_within VECTOR_LENGTH size m δ e first (omega arith)) (λ j less. element_named l kind m (evaluated a) (var 1) γ δ size' a' j v (omega (arith, less, first)) vs))
    (each_named p (acts_from p n) o γ δ a' (element_term kind k (evaluated a) (var 0)) (λ j. element j w) k (closed_value rest') (closed_within VECTOR_LENGTH rest k δ f second (omega arith)) (λ j less. element_named l kind k (evaluated a) (var 0) γ δ rest' a' j w (omega (arith, less, second)) ws))))
    xs all
  where
    l : IsLevels p (acts_from p n)
    l = from_turns p n

    size' : TypeTree
    size' = at_env δ size

    rest' : TypeTree
    rest' = at_env δ rest

    a' : TypeTree
    a' = at_env δ a

    first : m ≤ VECTOR_LENGTH
    first = number_up VECTOR_LENGTH size m e limits.short.0

    second : k ≤ VECTOR_LENGTH
    second = number_up VECTOR_LENGTH rest k f limits.short.1.0

pub appended : (p : Program) (kind : Kind) (types : List TypeTree) (body : TermTree) → body_of (Appended kind) (map evaluated types) ≡ Some body → WithinLimits (Appended kind) types → RowUnrolls p (Appended kind) (vector (ty_var 2) (ty_var 0) ∷ vector (ty_var 1) (ty_var 0) ∷ []) (vector (nat_sum (ty_var 2) (ty_var 1)) (ty_var 0)) types body
appended p kind types body e = appended_at p kind (twice_sized_view (appended_body kind) types body e)

-- the elements of element q of a vector of n vectors of m elements
abbrev inner_terms : Kind → ℕ → ℕ → TypeTree → ℕ → List TermTree
inner_terms kind n m a q = list_each m (element_term kind m a (element_term kind n (vector (nat_lit m) a) (var 0) q))

-- vconcat v
abbrev concatenated_terms : Kind → ℕ → ℕ → TypeTree → List TermTree
concatenated_terms kind n m a = flat_map (inner_terms kind n m a) (range_with_len 0 n)

abbrev concatenated_body : Kind → ℕ → ℕ → TypeTree → TermTree
concatenated_body kind n m a = vector_term a (concatenated_terms kind n m a)

module _ (p : Program) (r : Levels) (l : IsLevels p r) (o : ℕ → TermTree) (γ : Thunks) (δ : TypeTrees) (kind : Kind) (n m : ℕ) (c w u a : TypeTree) (v : Thunk) (small : m ≤ VECTOR_LENGTH) (vs : ThunksAct p r (vector w (vector u a)) (closed (var 0) γ δ) v) where
  inner_named : (q : ℕ) → q ≤ greatest → TermsEach p r o γ δ a (inner_terms kind n m c q) (each_from zero m (λ j. element j (element q v)))
  unfolding with_origins
  inner_named q least =
      each_named p r o γ δ a (element_term kind m c (element_term kind n (vector (nat_lit m) c) (var 0) q)) (λ j. element j (element q v)) m m refl
      (λ j less. element_named l kind m c (element_term kind n (vector (nat_lit m) c) (var 0) q) γ δ u a j (element q v) (omega (arith, less, small)) (element_named l kind n (vector (nat_lit m) c) (var 0) γ δ w (vector u a) q v least vs))

  concatenated_named : (q many : ℕ) → q + many ≤ greatest → TermsEach p r o γ δ a (flat_map (inner_terms kind n m c) (range_with_len q many)) (concatenated q many m v)
  unfolding with_origins
  concatenated_named q zero less = tt
  concatenated_named q (suc many) less =
      joined_named p r o γ δ a (inner_terms kind n m c q) (flat_map (inner_terms kind n m c) (range_with_len (q + 1) many)) (each_from zero m (λ j. element j (element q v))) (concatenated (suc q) many m v)
      (inner_named q (omega (arith, less)))
      (subst (λ i. TermsEach p r o γ δ a (flat_map (inner_terms kind n m c) (range_with_len (q + 1) many)) (concatenated i many m v)) (let e : q + 1 ≡ suc q = omega arith in e) (concatenated_named (q + 1) many (omega (arith, less))))

concatenated_at : (p : Program) (kind : Kind) {types : List TypeTree} {body : TermTree} → TwiceSized (concatenated_body kind) types body → WithinLimits (Concatenated kind) types → RowUnrolls p (Concatenated kind) (vector (ty_var 2) (vector (ty_var 1) (ty_var 0)) ∷ []) (vector (nat_product (ty_var 2) (ty_var 1)) (ty_var 0)) types body
unfolding sub evaluated with_origins
concatenated_at p kind (is_twice_sized {size = size} {other = inner} {a = a} m k e f) limits q o n γ δ xs all =
    on_one p (acts_from p n) (vector size' (vector inner' a')) (closed (var 0) γ δ)
    (λ xs. TermSteps p (acts_from p n) (vector (nat_product size' inner') a') (with_origins o (concatenated_body kind m k (evaluated a))) γ δ (by_row (Concatenated kind) q (given_at δ (size ∷ inner ∷ a ∷ [])) xs))
    (λ v vs. vector_steps l (nat_product size' inner') a' (evaluated a) (with_origins_all o (terms_of (concatenated_terms kind m k (evaluated a)))) γ δ (concatenated zero (closed_value size') (closed_value inner') v)
    (subst (λ x. TermsEach p (acts_from p n) o γ δ a' (concatenated_terms kind m k (evaluated a)) x) (same v)
    (concatenated_named p (acts_from p n) l o γ δ kind m k (evaluated a) size' inner' a' v second vs 0 m (omega (arith, first)))))
    xs all
  where
    l : IsLevels p (acts_from p n)
    l = from_turns p n

    size' : TypeTree
    size' = at_env δ size

    inner' : TypeTree
    inner' = at_env δ inner

    a' : TypeTree
    a' = at_env δ a

    first : m ≤ VECTOR_LENGTH
    first = number_up VECTOR_LENGTH size m e limits.short.0

    second : k ≤ VECTOR_LENGTH
    second = number_up VECTOR_LENGTH inner k f limits.short.1.0

    same : (v : Thunk) → concatenated zero m k v ≡ concatenated zero (closed_value size') (closed_value inner') v
    same v = λ i. concatenated zero (sym (closed_within VECTOR_LENGTH size m δ e first (omega arith)) i) (sym (closed_within VECTOR_LENGTH inner k δ f second (omega arith)) i) v

pub concatenates : (p : Program) (kind : Kind) (types : List TypeTree) (body : TermTree) → body_of (Concatenated kind) (map evaluated types) ≡ Some body → WithinLimits (Concatenated kind) types → RowUnrolls p (Concatenated kind) (vector (ty_var 2) (vector (ty_var 1) (ty_var 0)) ∷ []) (vector (nat_product (ty_var 2) (ty_var 1)) (ty_var 0)) types body
concatenates p kind types body e = concatenated_at p kind (twice_sized_view (concatenated_body kind) types body e)
