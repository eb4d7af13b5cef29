-- Heads of values at rest are taken away by the rules of the place above.
use Rattle.std.proofs.Common.{◌≡◌, ◌∙◌, ◌⊎◌, ◌<◌, inl, inr, refl, sym, ap, subst, ℕ, suc, zero, Bool, false, List, [], ◌∷◌, ◌++◌, arith, Some}
use Rattle.std.specs.List.{slice_get, AllByRecursion}
use Rattle.chw_types.specs.declared.declarations.Data.{Data}
use Rattle.chw_types.specs.declared.kind.Kind.{Kind}
use Rattle.chw_types.specs.declared.kind.Kind.TheVariants.{Val, Cir}
use Rattle.chw_types.specs.declared.kind.Scalar.{Scalar}
use Rattle.chw_types.specs.Arguments.{arguments}
use Rattle.chw_types.specs.Kinds.{KindOf, kind_vector}
use Rattle.chw_types.specs.SameTypes.{SameTypes, SameAll, same_none}
use Rattle.chw_types.specs.TypeMoves.{Substitution, sub}
use Rattle.chw_types.specs.TypeTree.{TypeTree, TypeTrees, scalar, vector, data_of, no_types}
use Rattle.chw_types.specs.TypeView.{trees_of}
use Rattle.chw_types.proofs.SameLaws.{same_turned, same_through}
use Rattle.type_laws.proofs.SameForms.{as_scalar, as_vector, as_data}
use Rattle.type_ports.specs.Representable.{Representable, representable_scalar, representable_vector, representable_data, none_to_represent}
use Rattle.chw_prims.specs.declared.prim.Primitive.{Primitive as Prim}
use Rattle.chw_prims.specs.declared.prim.Primitive.TheVariants.{VGet, VGetC, VAt}
use Rattle.chw_prims.specs.declared.row.Row.{Row}
use Rattle.chw_prims.specs.declared.row.Row.TheVariants.{Binary, WideSum, WideProduct, Unary, Shift, Compare, Extend, Truncate, Cut, Joined, Reduce, Packed, Unpacked, Element}
use Rattle.chw_prims.specs.Schemas.{schema_type, row_of, row_type, bool}
use Rattle.chw_terms.specs.declared.scene.Mode.{Mode}
use Rattle.chw_terms.specs.declared.scene.Mode.TheVariants.{V, HV, K}
use Rattle.chw_terms.specs.declared.term.Arg.{Arg}
use Rattle.chw_terms.specs.declared.term.Arg.TheVariants.{OfTerm, OfType}
use Rattle.chw_terms.specs.TermSize.{tree_size}
use Rattle.chw_terms.specs.TermTree.{TermTree, var, lam, ty_lam, letrec, prim, lit, case_of}
use Rattle.chw_terms.specs.TermView.{applied}
use Rattle.chw_terms.proofs.Spines.{applied_more}
use Rattle.chw_typing.specs.Given.{types_then, AsksForNone}
use Rattle.chw_typing.specs.Programs.{IsSound}
use Rattle.chw_typing.specs.Scopes.{Setting, HasKind}
use Rattle.chw_typing.specs.Typing.{HasType, h_lit}
use Rattle.chw_typing.specs.TypedSpines.{AtArguments}
use Rattle.chw_typing.proofs.Kinded.{type_kinded}
use Rattle.chw_typing.proofs.NamedParts.{element_representable}
use Rattle.chw_typing.proofs.Saturated.{con_at_arguments}
use Rattle.rewriting.specs.Active.{Demands, demanded}
use Rattle.rewriting.specs.Named.{IsNamed}
use Rattle.rewriting.specs.Origins.{Origins, setting_at}
use Rattle.rewriting.specs.SceneLaws.{NamedIsDecided, SameKeepsNamed}
use Rattle.rewriting.specs.Spots.{Spot, spot, HasLets, head_mode, IsRowOnWords}
use Rattle.unroll_laws.proofs.Sized.{first_kind, later_kinds}
use Rattle.rest_places.specs.Constants.{IsSaturatedCon, IsTakenAway, NoUnrolled, taken_letrec, taken_case, taken_constructor, taken_literal, taken_vector}
use Rattle.rest_places.specs.Rest.{IsRestPlace, ground}
use Rattle.rest_places.specs.Spines.{result_of, PrimGiven, IsSpine, on_variable, on_global, on_made, on_lambda, on_type_lambda, on_letrec, on_case, on_constructor, on_primitive, on_literal, on_vector}
use Rattle.rest_places.proofs.Applied.{not_applied, no_definition, no_made_definition}
use Rattle.rest_places.proofs.Below.{rest_below}
use Rattle.rest_places.proofs.Constants.{all_at, kind_of_prim, vector_value}
use Rattle.rest_places.proofs.Demanded.{no_demanded_let, no_demanded_case}
use Rattle.rest_places.proofs.Elements.{no_get_of_written}
use Rattle.rest_places.proofs.Smaller.{below_smaller}
use Rattle.rest_places.proofs.Sorts.{RowSort, row_on_words, row_on_signals, row_of_element, row_of_place, row_unrolled, row_sort, element_prim, place_prim, signals_are_circuits, element_kind}
use Rattle.rest_places.proofs.Spines.{spine_view, takes_none}
use Rattle.rest_places.proofs.Steps.{retyped}

-- a representable type takes no arguments
pub value_asks_none : {datas : List Data} {t : TypeTree} → Representable datas t → AsksForNone t
value_asks_none representable_scalar = tt
value_asks_none (representable_vector r) = tt
value_asks_none (representable_data is many all) = tt

-- the built-in truth values are representable
bool_values : (s : Setting) → IsSound s → Representable s.datas bool
bool_values s h = subst (λ datas. Representable datas bool) (sym h.begins.1) (representable_data refl refl none_to_represent)

-- what a primitive on words gives is representable
scalar_given : {datas : List Data} {r : Scalar} {w u : TypeTree} → SameTypes (scalar r w) u → Representable datas u
scalar_given {datas} x = subst (Representable datas) (sym (as_scalar x).1) representable_scalar

no_more : {us : TypeTrees} → SameAll no_types us → us ≡ no_types
no_more same_none = refl

truth_given : {u : TypeTree} (s : Setting) → IsSound s → SameTypes bool u → Representable s.datas u
truth_given s h x =
    let of = as_data x in
    subst (Representable s.datas) (sym (of.1 ∙ ap (data_of 0) (no_more of.2))) (bool_values s h)

pub words_given : (s : Setting) → IsSound s → (row : Row) → IsRowOnWords row → (σ : Substitution) (u : TypeTree) → SameTypes (sub (result_of (row_type row)) σ) u → Representable s.datas u
unfolding sub
words_given s h (Binary x) on σ u x' = scalar_given x'
words_given s h (WideSum x) on σ u x' = scalar_given x'
words_given s h (WideProduct x) on σ u x' = scalar_given x'
words_given s h (Unary x) on σ u x' = scalar_given x'
words_given s h (Shift x) on σ u x' = scalar_given x'
words_given s h (Compare x) on σ u x' = truth_given s h x'
words_given s h (Extend x) on σ u x' = scalar_given x'
words_given s h (Truncate x) on σ u x' = scalar_given x'
words_given s h Cut on σ u x' = scalar_given x'
words_given s h Joined on σ u x' = scalar_given x'
words_given s h Reduce on σ u x' = truth_given s h x'
words_given s h (Packed x) on σ u x' = scalar_given x'
words_given s h (Unpacked x) on σ u x' = scalar_given x'
words_given s h _ on σ u x' = absurd on

-- a literal and a constructor are of no vector's type
pub literal_no_vector : {s : Setting} {vars : List TypeTree} {r : Scalar} {bits : List Bool} {n a : TypeTree} → HasType s [] vars (lit r bits) (vector n a) → ⊥
literal_no_vector d = by d refl
  where
    by : {s : Setting} {vars : List TypeTree} {r : Scalar} {bits : List Bool} {n a t : TypeTree} → HasType s [] vars (lit r bits) t → t ≡ vector n a → ⊥
    by (h_lit l) q = cc

pub constructor_no_vector : {o : Origins} {at : Spot} {e : TermTree} {n a : TypeTree} → IsRestPlace o at e (vector n a) → IsSaturatedCon o.program.datas e → ⊥
constructor_no_vector {o} {at} {n = n} {a = a} p k =
    let has = subst (λ e. HasType (setting_at o) [] at.vars e (vector n a)) k.term p.has in
    let of = as_data (con_at_arguments (setting_at o) [] at.vars k.con_number k.it k.types k.es (vector n a) p.place.sound p.place.vars k.is k.on_types k.on_terms has).2 in
    let wrong : vector n a ≡ data_of k.it.of of.0 = of.1 in
    cc

pub element_of : {datas : List Data} {domains : ℕ} {scope : List Kind} {n t : TypeTree} {k : Kind} → KindOf datas domains scope (vector n t) k → KindOf datas domains scope t k
element_of (kind_vector d e l) = e

no_lets_in_heads : (m : Mode) → m ≡ HV → HasLets m → ⊥
no_lets_in_heads m k l = subst HasLets k l

module _ (decided : NamedIsDecided) (kept : SameKeepsNamed) (unrolled : NoUnrolled) (o : Origins) where
  abbrev TakenBelow : ℕ → Type 0
  TakenBelow n = (at : Spot) (e : TermTree) (t : TypeTree) → tree_size e < n → at.mode ≡ HV → IsRestPlace o at e t → AsksForNone t → HasKind (setting_at o) [] t Val → (Representable o.program.datas t → ⊥) → IsTakenAway o.program.datas e

  -- no variable's type is one that isn't representable
  head_variable : (at : Spot) (x : ℕ) (args : List Arg) (t u : TypeTree) → at.mode ≡ HV → IsRestPlace o at (applied (var x) args) t → slice_get at.vars x ≡ Some u → AtArguments (setting_at o) [] at.vars u args t → (Representable o.program.datas t → ⊥) → ⊥
  head_variable at x args t u k p is leads no_value =
      let named = subst (λ m. AllByRecursion (IsNamed o.program.datas (ground m)) at.vars) k p.named in
      let value : Representable o.program.datas u = all_at (IsNamed o.program.datas V) at.vars x u named is in
      let none = takes_none leads (value_asks_none value) in
      no_value (subst (Representable o.program.datas) none.same value)

  -- what is given behind a primitive's own arguments keeps a representable type
  given_value : (at : Spot) (p : Prim) (types : List TypeTree) (es : List TermTree) (more : List Arg) (t : TypeTree) → IsRestPlace o at (applied (applied (prim p) (types_then types es)) more) t → (given : PrimGiven (setting_at o) at.vars p types es more t) → Representable o.program.datas given.type → Representable o.program.datas t
  given_value at p types es more t rest given value = subst (Representable o.program.datas) (takes_none given.leads (value_asks_none value)).same value

  -- the vector of which an element is taken isn't representable, where the element isn't
  vector_unnamed : (at : Spot) (p : Prim) (types : List TypeTree) (es : List TermTree) (more : List Arg) (t a m u : TypeTree) (j : Kind) → IsRestPlace o at (applied (applied (prim p) (types_then types es)) more) t → (given : PrimGiven (setting_at o) at.vars p types es more t) → SameTypes a given.type → HasKind (setting_at o) [] (vector m u) j → SameTypes a u → (Representable o.program.datas t → ⊥) → Representable o.program.datas (vector m u) → ⊥
  vector_unnamed at p types es more t a m u j rest given same kind x no_value r =
      no_value (given_value at p types es more t rest given (kept (setting_at o) V u given.type j rest.place.sound (element_of kind) (same_through (same_turned x) same) (element_representable r)))

  pub get_taken : (at at' : Spot) (i m a w : TypeTree) (v : TermTree) (more : List Arg) (t n : TypeTree) → IsTakenAway o.program.datas v → IsRestPlace o at' v (vector n w) → Demands o at VGet (OfType i ∷ OfType m ∷ OfType a ∷ OfTerm v ∷ []) 3 v → IsRestPlace o at (applied (applied (prim VGet) (types_then (i ∷ m ∷ a ∷ []) (v ∷ []))) more) t → ⊥
  get_taken at at' i m a w v more t n (taken_letrec {g = g} {e = e}) p d rest = no_demanded_let o at VGet (types_then (i ∷ m ∷ a ∷ []) (v ∷ [])) more t 3 refl rest (g, e, d)
  get_taken at at' i m a w v more t n (taken_case {e = e} {alts = alts}) p d rest = no_demanded_case o at VGet (types_then (i ∷ m ∷ a ∷ []) (v ∷ [])) more t 3 refl rest (e, alts, d)
  get_taken at at' i m a w v more t n (taken_constructor k) p d rest = constructor_no_vector p k
  get_taken at at' i m a w v more t n taken_literal p d rest = literal_no_vector p.has
  get_taken at at' i m a w v more t n (taken_vector {t = u} {es = es}) p d rest = no_get_of_written o at VGet i m a u es more t (inl refl) rest

  not_constant : {m : Mode} → m ≡ HV → m ≡ K → ⊥
  not_constant k q = let wrong = sym k ∙ q in cc

  not_named : {m : Mode} {u : TypeTree} → m ≡ HV → (Representable o.program.datas u → ⊥) → IsNamed o.program.datas m u → ⊥
  not_named {u = u} k other n = other (subst (λ m. IsNamed o.program.datas m u) k n)

  -- `vget` of a vector that isn't representable
  head_get : (n : ℕ) → TakenBelow n → (at : Spot) (types : List TypeTree) (es : List TermTree) (more : List Arg) (t : TypeTree) → tree_size (applied (applied (prim VGet) (types_then types es)) more) < suc n → at.mode ≡ HV → PrimGiven (setting_at o) at.vars VGet types es more t → IsRestPlace o at (applied (applied (prim VGet) (types_then types es)) more) t → (Representable o.program.datas t → ⊥) → ⊥
  unfolding sub
  head_get n below at (i ∷ m ∷ a ∷ []) (v ∷ []) more t small k given rest no_value =
      let vector_given = given.saturated.args_given.0 in
      let parts = as_vector vector_given.same in
      let has = subst (HasType (setting_at o) [] at.vars v) parts.2 vector_given.has in
      let kinded = type_kinded has rest.place.sound rest.place.vars in
      let value = vector_value kinded.has parts.4 (first_kind (later_kinds (later_kinds given.saturated.have))) in
      let unnamed = vector_unnamed at VGet (i ∷ m ∷ a ∷ []) (v ∷ []) more t a parts.0 parts.1 Val rest given given.saturated.gives value parts.4 no_value in
      let e = applied (applied (prim VGet) (types_then (i ∷ m ∷ a ∷ []) (v ∷ []))) more in
      let b = demanded {p = VGet} {args = OfType i ∷ OfType m ∷ OfType a ∷ OfTerm v ∷ more} (record { no_constant = not_constant k; looks = refl; is = refl; type = vector parts.0 parts.1; has = has; unnamed = not_named k unnamed }) in
      let to = spot (head_mode at.mode) false at.vars in
      let there = retyped (rest_below decided o at to e v t _ rest b).1 has in
      let less = below_smaller b in
      get_taken at to i m a parts.1 v more t parts.0
      (below to v (vector parts.0 parts.1) (omega (arith, small, less)) (ap head_mode k) there tt value unnamed) there
      (record { no_constant = not_constant k; looks = refl; is = refl; type = vector parts.0 parts.1; has = has; unnamed = not_named k unnamed }) rest
  head_get n below at [] es more t small k given rest no_value = let many = given.on_types in omega (arith, many)
  head_get n below at (i ∷ []) es more t small k given rest no_value = let many = given.on_types in omega (arith, many)
  head_get n below at (i ∷ m ∷ []) es more t small k given rest no_value = let many = given.on_types in omega (arith, many)
  head_get n below at (i ∷ m ∷ a ∷ b ∷ types) es more t small k given rest no_value = let many = given.on_types in omega (arith, many)
  head_get n below at (i ∷ m ∷ a ∷ []) [] more t small k given rest no_value = let many = given.on_terms in omega (arith, many)
  head_get n below at (i ∷ m ∷ a ∷ []) (v ∷ w ∷ es) more t small k given rest no_value = let many = given.on_terms in omega (arith, many)

  -- `vat` of such a vector is unrolled
  head_place : (at : Spot) (types : List TypeTree) (es : List TermTree) (more : List Arg) (t : TypeTree) → at.mode ≡ HV → PrimGiven (setting_at o) at.vars VAt types es more t → IsRestPlace o at (applied (applied (prim VAt) (types_then types es)) more) t → (Representable o.program.datas t → ⊥) → ⊥
  unfolding sub
  head_place at (i ∷ m ∷ a ∷ []) (v ∷ w ∷ []) more t k given rest no_value =
      let vector_given = given.saturated.args_given.0 in
      let parts = as_vector vector_given.same in
      let has = subst (HasType (setting_at o) [] at.vars v) parts.2 vector_given.has in
      let kinded = type_kinded has rest.place.sound rest.place.vars in
      let value = vector_value kinded.has parts.4 (first_kind (later_kinds (later_kinds given.saturated.have))) in
      let unnamed = vector_unnamed at VAt (i ∷ m ∷ a ∷ []) (v ∷ w ∷ []) more t a parts.0 parts.1 Val rest given given.saturated.gives value parts.4 no_value in
      unrolled o at VAt (i ∷ m ∷ a ∷ []) (v ∷ w ∷ []) more t tt
      (λ q. record { no_constant = not_constant k; vector = v; is_first = refl; type = vector parts.0 parts.1; has = has; unnamed = not_named k unnamed }) given rest
  head_place at [] es more t k given rest no_value = let many = given.on_types in omega (arith, many)
  head_place at (i ∷ []) es more t k given rest no_value = let many = given.on_types in omega (arith, many)
  head_place at (i ∷ m ∷ []) es more t k given rest no_value = let many = given.on_types in omega (arith, many)
  head_place at (i ∷ m ∷ a ∷ b ∷ types) es more t k given rest no_value = let many = given.on_types in omega (arith, many)
  head_place at (i ∷ m ∷ a ∷ []) [] more t k given rest no_value = let many = given.on_terms in omega (arith, many)
  head_place at (i ∷ m ∷ a ∷ []) (v ∷ []) more t k given rest no_value = let many = given.on_terms in omega (arith, many)
  head_place at (i ∷ m ∷ a ∷ []) (v ∷ w ∷ x ∷ es) more t k given rest no_value = let many = given.on_terms in omega (arith, many)

  head_prim : (n : ℕ) → TakenBelow n → (at : Spot) (p : Prim) (types : List TypeTree) (es : List TermTree) (more : List Arg) (t : TypeTree) → tree_size (applied (applied (prim p) (types_then types es)) more) < suc n → at.mode ≡ HV → HasKind (setting_at o) [] t Val → PrimGiven (setting_at o) at.vars p types es more t → IsRestPlace o at (applied (applied (prim p) (types_then types es)) more) t → (Representable o.program.datas t → ⊥) → ⊥
  head_prim n below at p types es more t small k v given rest no_value = by (row_sort (row_of p))
    where
      own : HasKind (setting_at o) [] (schema_type p) Val
      own = kind_of_prim o at p (types_then types es ++ more) t (subst (λ e. IsRestPlace o at e t) (sym (applied_more (prim p) (types_then types es) more)) rest) v

      get : (j : Kind) → ((p ≡ VGet) × (j ≡ Val)) ⊎ ((p ≡ VGetC) × (j ≡ Cir)) → row_of p ≡ Element j → ⊥
      get j (inl q) is =
          head_get n below at types es more t (subst (λ p. tree_size (applied (applied (prim p) (types_then types es)) more) < suc n) q.0 small) k
          (subst (λ p. PrimGiven (setting_at o) at.vars p types es more t) q.0 given) (subst (λ p. IsRestPlace o at (applied (applied (prim p) (types_then types es)) more) t) q.0 rest) no_value
      get j (inr q) is =
          let kind : j ≡ Val = element_kind j (subst (λ row. KindOf o.program.datas (setting_at o).domains [] (row_type row) Val) is own) in
          let other : j ≡ Cir = q.1 in
          cc

      by : RowSort (row_of p) → ⊥
      by (row_on_words on) = no_value (given_value at p types es more t rest given (words_given (setting_at o) rest.place.sound (row_of p) on (arguments (trees_of types)) given.type given.saturated.gives))
      by (row_on_signals on) = let kind : Cir ≡ Val = signals_are_circuits (row_of p) on own in cc
      by (row_of_element j is) = get j (element_prim p j is) is
      by (row_of_place is) =
          let q = place_prim p is in
          head_place at types es more t k (subst (λ p. PrimGiven (setting_at o) at.vars p types es more t) q given) (subst (λ p. IsRestPlace o at (applied (applied (prim p) (types_then types es)) more) t) q rest) no_value
      by (row_unrolled on other) = unrolled o at p types es more t on (λ q. absurd (other (ap row_of q))) given rest

  head_spine : (n : ℕ) → TakenBelow n → (at : Spot) (e : TermTree) (t : TypeTree) → tree_size e < suc n → at.mode ≡ HV → IsRestPlace o at e t → HasKind (setting_at o) [] t Val → (Representable o.program.datas t → ⊥) → IsSpine (setting_at o) at.vars t e → IsTakenAway o.program.datas e
  head_spine n below at e t small k p v no_value (on_variable x args {u = u} is leads) = absurd (head_variable at x args t u k p is leads no_value)
  head_spine n below at e t small k p v no_value (on_global d args is leads) = absurd (no_definition o at d args t (no_lets_in_heads at.mode k) p)
  head_spine n below at e t small k p v no_value (on_made m args is leads) = absurd (no_made_definition o at m args t (no_lets_in_heads at.mode k) p)
  head_spine n below at e t small k p v no_value (on_lambda b f a rest d leads) = absurd (let none = not_applied o at (lam b f) (OfTerm a ∷ rest) t p tt in cc)
  head_spine n below at e t small k p v no_value (on_type_lambda j f a rest d leads) = absurd (let none = not_applied o at (ty_lam j f) (OfType a ∷ rest) t p tt in cc)
  head_spine n below at e t small k p v no_value (on_letrec g f args d leads) = subst (λ args. IsTakenAway o.program.datas (applied (letrec g f) args)) (sym (not_applied o at (letrec g f) args t p tt)) taken_letrec
  head_spine n below at e t small k p v no_value (on_case f alts args d leads) = subst (λ args. IsTakenAway o.program.datas (applied (case_of f alts) args)) (sym (not_applied o at (case_of f alts) args t p tt)) taken_case
  head_spine n below at e t small k p v no_value (on_constructor c types es {it = it} given) =
      taken_constructor (record { con_number = c; it = it; types = types; es = es; is = given.is; on_types = given.on_types; on_terms = given.on_terms; term = refl })
  head_spine n below at e t small k p v no_value (on_primitive q types es more given) = absurd (head_prim n below at q types es more t small k v given p no_value)
  head_spine n below at e t small k p v no_value (on_literal r bits l is) = taken_literal
  head_spine n below at e t small k p v no_value (on_vector u es l have is) = taken_vector

  taken_below : (n : ℕ) → TakenBelow n
  taken_below zero at e t small k p asks v no_value = absurd (omega (arith, small))
  taken_below (suc n) at e t small k p asks v no_value = head_spine n (taken_below n) at e t small k p v no_value (spine_view (setting_at o) at.vars e t p.place.sound p.place.vars p.has asks)

  -- what is at the head of a value, of a type of values that isn't representable
  pub value_heads_go : (at : Spot) (e : TermTree) (t : TypeTree) → at.mode ≡ HV → IsRestPlace o at e t → AsksForNone t → HasKind (setting_at o) [] t Val → (Representable o.program.datas t → ⊥) → IsTakenAway o.program.datas e
  value_heads_go at e t k p asks v no_value = taken_below (suc (tree_size e)) at e t (omega arith) k p asks v no_value
