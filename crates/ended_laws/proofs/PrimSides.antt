-- Right sides of values that are primitives, on variables.
use Rattle.std.proofs.Common.{◌≡◌, ◌∙◌, ◌⊎◌, ◌+◌, inl, inr, refl, sym, ap, subst, ℕ, suc, zero, false, List, [], ◌∷◌, ◌++◌, length, map, arith, Some}
use Rattle.std.proofs.lemmas.List.{length-map}
use Rattle.std.specs.List.{slice_get}
use Rattle.chw_types.specs.declared.kind.Kind.{Kind}
use Rattle.chw_types.specs.declared.kind.Kind.TheVariants.{Val, Cir}
use Rattle.chw_types.specs.declared.kind.Scalar.{Scalar}
use Rattle.chw_types.specs.declared.kind.Scalar.TheVariants.{U}
use Rattle.chw_types.specs.Arguments.{arguments}
use Rattle.chw_types.specs.Kinds.{KindOf}
use Rattle.chw_types.specs.TypeMoves.{sub}
use Rattle.chw_types.specs.TypeTree.{TypeTree, scalar, vector}
use Rattle.chw_types.specs.TypeView.{trees_of}
use Rattle.chw_types.proofs.SameLaws.{same_turned, same_through}
use Rattle.type_laws.proofs.SameForms.{as_scalar, as_vector}
use Rattle.type_ports.specs.Representable.{Representable, representable_scalar}
use Rattle.chw_prims.specs.declared.prim.Primitive.{Primitive as Prim}
use Rattle.chw_prims.specs.declared.prim.Primitive.TheVariants.{VGet, VGetC, VAt}
use Rattle.chw_prims.specs.declared.row.Row.TheVariants.{Element}
use Rattle.chw_prims.specs.Schemas.{schema_type, row_of, row_type}
use Rattle.chw_terms.specs.declared.scene.Mode.{Mode}
use Rattle.chw_terms.specs.declared.scene.Mode.TheVariants.{V, K}
use Rattle.chw_terms.specs.declared.term.Arg.{Arg}
use Rattle.chw_terms.specs.declared.term.Arg.TheVariants.{OfTerm, OfType}
use Rattle.chw_terms.specs.TermTree.{TermTree, var, prim}
use Rattle.chw_terms.specs.TermView.{applied}
use Rattle.chw_terms.proofs.Spines.{applied_more}
use Rattle.chw_terms.specs.Unrolled.{parameters}
use Rattle.chw_typing.specs.Given.{types_then}
use Rattle.chw_typing.specs.Scopes.{HasKind}
use Rattle.chw_typing.specs.Typing.{HasType, HasTypeUpTo}
use Rattle.chw_typing.proofs.Kinded.{type_kinded}
use Rattle.chw_typing.proofs.NamedParts.{element_representable}
use Rattle.normal_forms.specs.Values.{IsSide, side_primitive}
use Rattle.rewriting.specs.Active.{demanded}
use Rattle.rewriting.specs.Named.{IsNamed}
use Rattle.rewriting.specs.Operands.{IsSignal, of_prim}
use Rattle.rewriting.specs.Origins.{Origins, setting_at}
use Rattle.rewriting.specs.SceneLaws.{NamedIsDecided, SameKeepsNamed}
use Rattle.rewriting.specs.Shapes.{IsVariable}
use Rattle.rewriting.specs.Spots.{Spot, spot, head_mode, asked_for, IsOnWords, TakesElement}
use Rattle.unroll_laws.proofs.Sized.{first_kind, later_kinds}
use Rattle.rest_places.specs.Constants.{NoUnrolled}
use Rattle.rest_places.specs.Rest.{IsRestPlace}
use Rattle.rest_places.specs.Spines.{PrimGiven}
use Rattle.rest_places.proofs.Below.{rest_below}
use Rattle.rest_places.proofs.Constants.{all_at, kind_of_prim, vector_value, given_at, term_behind, arguments_many}
use Rattle.rest_places.proofs.Heads.{value_asks_none, value_heads_go, get_taken, element_of}
use Rattle.rest_places.proofs.Operands.{operands_are_variables}
use Rattle.rest_places.proofs.Sorts.{RowSort, row_on_words, row_on_signals, row_of_element, row_of_place, row_unrolled, row_sort, element_prim, place_prim, IsScalar, params_scalars, words_result, signals_are_circuits, element_kind}
use Rattle.rest_places.proofs.Spines.{prim_arity, takes_none}
use Rattle.rest_places.proofs.Steps.{retyped}

-- variables as names
pub names_of : (es : List TermTree) → ((i : ℕ) (a : TermTree) → slice_get es i ≡ Some a → IsVariable a) → (xs : List ℕ) × (es ≡ map (λ x. var x) xs)
names_of [] h = ([], refl)
names_of (var x ∷ es) h = let rest = names_of es (λ i a g. h (suc i) a g) in (x ∷ rest.0, ap (λ es. var x ∷ es) rest.1)
names_of (e ∷ es) h = absurd (h 0 e refl)

pub one_name : (v : TermTree) → IsVariable v → (x : ℕ) × (v ≡ var x)
one_name (var x) h = (x, refl)
one_name _ h = absurd h

not_constant : {m : Mode} → m ≡ V → m ≡ K → ⊥
not_constant k q = let wrong = sym k ∙ q in cc

not_named : (o : Origins) {m : Mode} {u : TypeTree} → m ≡ V → (Representable o.program.datas u → ⊥) → IsNamed o.program.datas m u → ⊥
not_named o {u = u} k other n = other (subst (λ m. IsNamed o.program.datas m u) k n)

pub is_named : (o : Origins) {m : Mode} {u : TypeTree} → m ≡ V → Representable o.program.datas u → IsNamed o.program.datas m u
is_named o {u = u} k r = subst (λ m. IsNamed o.program.datas m u) (sym k) r

as_operand : (p : Prim) (i : ℕ) → IsOnWords p ⊎ TakesElement p → IsOnWords p ⊎ (TakesElement p ⊎ IsSignal p i)
as_operand p i (inl w) = inl w
as_operand p i (inr t) = inr (inl t)

module _ (decided : NamedIsDecided) (kept : SameKeepsNamed) (unrolled : NoUnrolled) (o : Origins) where
  -- a primitive with its arguments as operands, on names
  on_names_side : (at : Spot) (p : Prim) (types : List TypeTree) (es : List TermTree) (more : List Arg) (t : TypeTree) → PrimGiven (setting_at o) at.vars p types es more t → IsOnWords p ⊎ TakesElement p → more ≡ [] → ((i : ℕ) (a : TermTree) → slice_get es i ≡ Some a → IsVariable a) → IsSide o at.vars (applied (applied (prim p) (types_then types es)) more)
  on_names_side at p types es more t given sort none each =
      let names = names_of es each in
      let same = length-map names.0 (λ x. var x) in
      let many : length types + length names.0 ≡ asked_for (schema_type p) =
      (let arity = prim_arity p in let on_types = given.on_types in let on_terms = ap length (sym names.1) ∙ given.on_terms in omega (arith, arity, on_types, on_terms, same)) in
      subst (λ more. IsSide o at.vars (applied (applied (prim p) (types_then types es)) more)) (sym none)
      (subst (λ es. IsSide o at.vars (applied (prim p) (types_then types es))) (sym names.1) (side_primitive p types names.0 sort many))

  -- an operand of a representable type is a variable
  operand : (at : Spot) (p : Prim) (types : List TypeTree) (es : List TermTree) (more : List Arg) (t : TypeTree) (i : ℕ) (a : TermTree) (u : TypeTree) → at.mode ≡ V → PrimGiven (setting_at o) at.vars p types es more t → IsRestPlace o at (applied (applied (prim p) (types_then types es)) more) t → IsOnWords p ⊎ TakesElement p → slice_get es i ≡ Some a → HasType (setting_at o) [] at.vars a u → Representable o.program.datas u → IsVariable a
  operand at p types es more t i a u k given rest sort h has r =
      let many : length (types_then types es) ≡ asked_for (schema_type p) = arguments_many types es ∙ (let arity = prim_arity p in let on_types = given.on_types in let on_terms = given.on_terms in omega (arith, arity, on_types, on_terms)) in
      operands_are_variables o at (applied (prim p) (types_then types es)) more t _ a u rest
      (of_prim p (types_then types es) (length types + i) many (as_operand p (length types + i) sort) (term_behind types es i a h)) has (is_named o k r)

  -- an operand of a scalar type is a variable
  word_name : (at : Spot) (p : Prim) (types : List TypeTree) (es : List TermTree) (more : List Arg) (t : TypeTree) (i : ℕ) (a : TermTree) (r : Scalar) (w : TypeTree) → at.mode ≡ V → PrimGiven (setting_at o) at.vars p types es more t → IsRestPlace o at (applied (applied (prim p) (types_then types es)) more) t → IsOnWords p ⊎ TakesElement p → slice_get es i ≡ Some a → HasTypeUpTo (setting_at o) [] at.vars a (scalar r w) → IsVariable a
  word_name at p types es more t i a r w k given rest sort h up =
      let word = as_scalar up.same in
      operand at p types es more t i a up.type k given rest sort h up.has (subst (Representable o.program.datas) (sym word.1) representable_scalar)

  -- a primitive on words
  words_side : (at : Spot) (p : Prim) (types : List TypeTree) (es : List TermTree) (more : List Arg) (t : TypeTree) → at.mode ≡ V → IsOnWords p → PrimGiven (setting_at o) at.vars p types es more t → IsRestPlace o at (applied (applied (prim p) (types_then types es)) more) t → IsSide o at.vars (applied (applied (prim p) (types_then types es)) more)
  words_side at p types es more t k on given rest =
      on_names_side at p types es more t given (inl on) (given.alone (words_result (row_of p) on))
      (λ i a h.
      let there = given_at (map (λ q. sub q (arguments (trees_of types))) (parameters (schema_type p))) es i a given.saturated.args_given h in
      by_scalar i a h there.type (all_at IsScalar (map (λ q. sub q (arguments (trees_of types))) (parameters (schema_type p))) i there.type (params_scalars (row_of p) on (arguments (trees_of types))) there.there) there.given)
    where
      by_scalar : (i : ℕ) (a : TermTree) → slice_get es i ≡ Some a → (u : TypeTree) → IsScalar u → HasTypeUpTo (setting_at o) [] at.vars a u → IsVariable a
      by_scalar i a h (scalar r w) is up = word_name at p types es more t i a r w k given rest (inl on) h up
      by_scalar i a h _ is up = absurd is

  -- the vector of which an element is taken is representable
  vector_named : (at : Spot) (v : TermTree) (m a : TypeTree) → (Representable o.program.datas (vector m a) → ⊥) ⊎ Representable o.program.datas (vector m a) → ((Representable o.program.datas (vector m a) → ⊥) → ⊥) → Representable o.program.datas (vector m a)
  vector_named at v m a (inl no_value) wrong = absurd (wrong no_value)
  vector_named at v m a (inr value) wrong = value

  either : (t : TypeTree) → IsNamed o.program.datas V t ⊎ (IsNamed o.program.datas V t → ⊥) → (Representable o.program.datas t → ⊥) ⊎ Representable o.program.datas t
  either t (inl value) = inr value
  either t (inr other) = inl other

  get_side : (at : Spot) (types : List TypeTree) (es : List TermTree) (more : List Arg) (t : TypeTree) → at.mode ≡ V → PrimGiven (setting_at o) at.vars VGet types es more t → IsRestPlace o at (applied (applied (prim VGet) (types_then types es)) more) t → IsSide o at.vars (applied (applied (prim VGet) (types_then types es)) more)
  unfolding sub
  get_side at (i ∷ m ∷ a ∷ []) (v ∷ []) more t k given rest =
      let vector_given = given.saturated.args_given.0 in
      let parts = as_vector vector_given.same in
      let n = parts.0 in
      let u = parts.1 in
      let has = subst (HasType (setting_at o) [] at.vars v) parts.2 vector_given.has in
      let kinded = type_kinded has rest.place.sound rest.place.vars in
      let kind = vector_value kinded.has parts.4 (first_kind (later_kinds (later_kinds given.saturated.have))) in
      let e = applied (applied (prim VGet) (types_then (i ∷ m ∷ a ∷ []) (v ∷ []))) more in
      let to = spot (head_mode at.mode) false at.vars in
      let value = vector_named at v n u (either (vector n u) (decided o.program.datas V (vector n u) rest.acyclic))
      (λ no_value.
      let b = demanded {p = VGet} {args = OfType i ∷ OfType m ∷ OfType a ∷ OfTerm v ∷ more} (record { no_constant = not_constant k; looks = refl; is = refl; type = vector n u; has = has; unnamed = not_named o k no_value }) in
      let there = retyped (rest_below decided o at to e v t _ rest b).1 has in
      get_taken decided kept unrolled o at to i m a u v more t n (value_heads_go decided kept unrolled o to v (vector n u) (ap head_mode k) there tt kind no_value) there
      (record { no_constant = not_constant k; looks = refl; is = refl; type = vector n u; has = has; unnamed = not_named o k no_value }) rest) in
      let element = kept (setting_at o) V u given.type Val rest.place.sound (element_of kind) (same_through (same_turned parts.4) given.saturated.gives) (element_representable value) in
      on_names_side at VGet (i ∷ m ∷ a ∷ []) (v ∷ []) more t given (inr tt) (takes_none given.leads (value_asks_none element)).none
      (λ j b h. only (operand at VGet (i ∷ m ∷ a ∷ []) (v ∷ []) more t 0 v (vector n u) k given rest (inr tt) refl has value) j b h)
    where
      only : IsVariable v → (j : ℕ) (b : TermTree) → slice_get (v ∷ []) j ≡ Some b → IsVariable b
      only is zero b h = let same : v ≡ b = cc in subst IsVariable same is
      only is (suc j) b h = absurd cc
  get_side at [] es more t k given rest = absurd (let many = given.on_types in omega (arith, many))
  get_side at (i ∷ []) es more t k given rest = absurd (let many = given.on_types in omega (arith, many))
  get_side at (i ∷ m ∷ []) es more t k given rest = absurd (let many = given.on_types in omega (arith, many))
  get_side at (i ∷ m ∷ a ∷ b ∷ types) es more t k given rest = absurd (let many = given.on_types in omega (arith, many))
  get_side at (i ∷ m ∷ a ∷ []) [] more t k given rest = absurd (let many = given.on_terms in omega (arith, many))
  get_side at (i ∷ m ∷ a ∷ []) (v ∷ w ∷ es) more t k given rest = absurd (let many = given.on_terms in omega (arith, many))

  place_side : (at : Spot) (types : List TypeTree) (es : List TermTree) (more : List Arg) (t : TypeTree) → at.mode ≡ V → PrimGiven (setting_at o) at.vars VAt types es more t → IsRestPlace o at (applied (applied (prim VAt) (types_then types es)) more) t → IsSide o at.vars (applied (applied (prim VAt) (types_then types es)) more)
  unfolding sub
  place_side at (i ∷ m ∷ a ∷ []) (v ∷ w ∷ []) more t k given rest =
      let vector_given = given.saturated.args_given.0 in
      let parts = as_vector vector_given.same in
      let n = parts.0 in
      let u = parts.1 in
      let has = subst (HasType (setting_at o) [] at.vars v) parts.2 vector_given.has in
      let kinded = type_kinded has rest.place.sound rest.place.vars in
      let kind = vector_value kinded.has parts.4 (first_kind (later_kinds (later_kinds given.saturated.have))) in
      let value = vector_named at v n u (either (vector n u) (decided o.program.datas V (vector n u) rest.acyclic))
      (λ no_value. unrolled o at VAt (i ∷ m ∷ a ∷ []) (v ∷ w ∷ []) more t tt
      (λ q. record { no_constant = not_constant k; vector = v; is_first = refl; type = vector n u; has = has; unnamed = not_named o k no_value }) given rest) in
      let element = kept (setting_at o) V u given.type Val rest.place.sound (element_of kind) (same_through (same_turned parts.4) given.saturated.gives) (element_representable value) in
      let first = operand at VAt (i ∷ m ∷ a ∷ []) (v ∷ w ∷ []) more t 0 v (vector n u) k given rest (inr tt) refl has value in
      let second = word_name at VAt (i ∷ m ∷ a ∷ []) (v ∷ w ∷ []) more t 1 w U m k given rest (inr tt) refl given.saturated.args_given.1.0 in
      on_names_side at VAt (i ∷ m ∷ a ∷ []) (v ∷ w ∷ []) more t given (inr tt) (takes_none given.leads (value_asks_none element)).none (λ j b h. both first second j b h)
    where
      both : IsVariable v → IsVariable w → (j : ℕ) (b : TermTree) → slice_get (v ∷ w ∷ []) j ≡ Some b → IsVariable b
      both x y zero b h = let same : v ≡ b = cc in subst IsVariable same x
      both x y (suc zero) b h = let same : w ≡ b = cc in subst IsVariable same y
      both x y (suc (suc j)) b h = absurd cc
  place_side at [] es more t k given rest = absurd (let many = given.on_types in omega (arith, many))
  place_side at (i ∷ []) es more t k given rest = absurd (let many = given.on_types in omega (arith, many))
  place_side at (i ∷ m ∷ []) es more t k given rest = absurd (let many = given.on_types in omega (arith, many))
  place_side at (i ∷ m ∷ a ∷ b ∷ types) es more t k given rest = absurd (let many = given.on_types in omega (arith, many))
  place_side at (i ∷ m ∷ a ∷ []) [] more t k given rest = absurd (let many = given.on_terms in omega (arith, many))
  place_side at (i ∷ m ∷ a ∷ []) (v ∷ []) more t k given rest = absurd (let many = given.on_terms in omega (arith, many))
  place_side at (i ∷ m ∷ a ∷ []) (v ∷ w ∷ x ∷ es) more t k given rest = absurd (let many = given.on_terms in omega (arith, many))

  -- where values are built, a primitive at rest is a right side of the normal form
  pub prim_side : (at : Spot) (p : Prim) (types : List TypeTree) (es : List TermTree) (more : List Arg) (t : TypeTree) → at.mode ≡ V → HasKind (setting_at o) [] t Val → PrimGiven (setting_at o) at.vars p types es more t → IsRestPlace o at (applied (applied (prim p) (types_then types es)) more) t → IsSide o at.vars (applied (applied (prim p) (types_then types es)) more)
  prim_side at p types es more t k v given rest = by (row_sort (row_of p))
    where
      own : HasKind (setting_at o) [] (schema_type p) Val
      own = kind_of_prim o at p (types_then types es ++ more) t (subst (λ e. IsRestPlace o at e t) (sym (applied_more (prim p) (types_then types es) more)) rest) v

      get : (j : Kind) → ((p ≡ VGet) × (j ≡ Val)) ⊎ ((p ≡ VGetC) × (j ≡ Cir)) → row_of p ≡ Element j → IsSide o at.vars (applied (applied (prim p) (types_then types es)) more)
      get j (inl q) is =
          subst (λ p. IsSide o at.vars (applied (applied (prim p) (types_then types es)) more)) (sym q.0)
          (get_side at types es more t k (subst (λ p. PrimGiven (setting_at o) at.vars p types es more t) q.0 given) (subst (λ p. IsRestPlace o at (applied (applied (prim p) (types_then types es)) more) t) q.0 rest))
      get j (inr q) is =
          let kind : j ≡ Val = element_kind j (subst (λ row. KindOf o.program.datas (setting_at o).domains [] (row_type row) Val) is own) in
          let other : j ≡ Cir = q.1 in
          absurd cc

      by : RowSort (row_of p) → IsSide o at.vars (applied (applied (prim p) (types_then types es)) more)
      by (row_on_words on) = words_side at p types es more t k on given rest
      by (row_on_signals on) = let kind : Cir ≡ Val = signals_are_circuits (row_of p) on own in absurd cc
      by (row_of_element j is) = get j (element_prim p j is) is
      by (row_of_place is) =
          let q = place_prim p is in
          subst (λ p. IsSide o at.vars (applied (applied (prim p) (types_then types es)) more)) (sym q)
          (place_side at types es more t k (subst (λ p. PrimGiven (setting_at o) at.vars p types es more t) q given) (subst (λ p. IsRestPlace o at (applied (applied (prim p) (types_then types es)) more) t) q rest))
      by (row_unrolled on other) = absurd (unrolled o at p types es more t on (λ q. absurd (other (ap row_of q))) given rest)
