-- Constants at rest are written out, by their types.
use Rattle.std.proofs.Common.{◌≡◌, ◌∙◌, ◌⊎◌, ◌<◌, ◌+◌, inl, inr, refl, sym, ap, subst, ℕ, suc, zero, Bool, false, List, [], ◌∷◌, ◌++◌, length, map, arith, Some}
use Rattle.std.proofs.lemmas.List.{length-map}
use Rattle.std.specs.List.{slice_get, AllByRecursion}
use Rattle.chw_types.specs.declared.declarations.Data.{Data}
use Rattle.chw_types.specs.declared.kind.Kind.{Kind}
use Rattle.chw_types.specs.declared.kind.Kind.TheVariants.{Val, Cir}
use Rattle.chw_types.specs.declared.kind.Scalar.{Scalar}
use Rattle.chw_types.specs.declared.kind.Scalar.TheVariants.{U}
use Rattle.chw_types.specs.Arguments.{arguments}
use Rattle.chw_types.specs.Kinds.{HasFunctions, KindOf, kind_scalar, kind_vector}
use Rattle.chw_types.specs.SameTypes.{SameTypes}
use Rattle.chw_types.specs.TypeMoves.{sub}
use Rattle.chw_types.specs.TypeTree.{TypeTree, scalar, vector, data_of}
use Rattle.chw_types.specs.TypeView.{trees_of}
use Rattle.chw_types.proofs.KindsFound.{one_kind}
use Rattle.type_laws.proofs.OneKind.{same_kind}
use Rattle.type_laws.proofs.SameForms.{as_scalar, as_vector, as_data}
use Rattle.chw_prims.specs.declared.prim.Primitive.{Primitive as Prim}
use Rattle.chw_prims.specs.declared.prim.Primitive.TheVariants.{VGet, VGetC, VAt}
use Rattle.chw_prims.specs.declared.row.Row.TheVariants.{Element}
use Rattle.chw_prims.specs.Schemas.{schema_type, row_of, row_type}
use Rattle.chw_terms.specs.Constructors.{Constructor}
use Rattle.chw_terms.proofs.Spines.{applied_more}
use Rattle.chw_terms.specs.declared.scene.Mode.{Mode}
use Rattle.chw_terms.specs.declared.scene.Mode.TheVariants.{C, K}
use Rattle.chw_terms.specs.declared.term.Arg.{Arg}
use Rattle.chw_terms.specs.declared.term.Arg.TheVariants.{OfTerm, OfType}
use Rattle.chw_terms.specs.TermSize.{tree_size}
use Rattle.chw_terms.specs.TermTree.{TermTree, var, lam, ty_lam, letrec, con, prim, lit, vec_lit, case_of, Alts}
use Rattle.chw_terms.specs.TermView.{applied}
use Rattle.chw_terms.specs.Unrolled.{parameters}
use Rattle.chw_typing.specs.Given.{types_then, AreGiven}
use Rattle.chw_typing.specs.HeadTypes.{IsLookedAt}
use Rattle.chw_typing.specs.Scopes.{Setting, HasKind}
use Rattle.chw_typing.specs.Typing.{HasType, h_prim, HasTypeUpTo}
use Rattle.chw_typing.specs.TypedSpines.{AtArguments}
use Rattle.chw_typing.proofs.Kinded.{typed_at, type_kinded, schema_kind}
use Rattle.chw_typing.proofs.TypedSpines.{head_typed, kind_kept}
use Rattle.rewriting.specs.Active.{Below, of_words, of_element}
use Rattle.rewriting.specs.Named.{IsNamed}
use Rattle.rewriting.specs.Origins.{Origins, setting_at}
use Rattle.rewriting.specs.Primitives.{literal}
use Rattle.rewriting.specs.SceneLaws.{NamedIsDecided, NamedIsTermKind}
use Rattle.rewriting.specs.Spots.{Spot, spot, HasLets, asked_for, IsOnWords, scrutinee_mode}
use Rattle.rule_types.proofs.Scrutinees.{case_typed}
use Rattle.unroll_laws.proofs.Sized.{later_kinds, first_kind}
use Rattle.rest_places.specs.Constants.{IsLiteral, IsWrittenVector, IsKnown, NoUnrolled}
use Rattle.rest_places.specs.Laws.{LooksAtUnknown}
use Rattle.rest_places.specs.Rest.{IsRestPlace, ground}
use Rattle.rest_places.specs.Spines.{ConGiven, PrimGiven, IsSpine, on_variable, on_global, on_made, on_lambda, on_type_lambda, on_letrec, on_case, on_constructor, on_primitive, on_literal, on_vector}
use Rattle.rest_places.proofs.Applied.{not_applied, no_definition, no_made_definition}
use Rattle.rest_places.proofs.Below.{rest_below}
use Rattle.rest_places.proofs.Elements.{no_get_of_written, no_at_of_written}
use Rattle.rest_places.proofs.Known.{case_on_known}
use Rattle.rest_places.proofs.Lets.{no_constant_letrec}
use Rattle.rest_places.proofs.Parts.{scrutinee_at_rest}
use Rattle.rest_places.proofs.Smaller.{below_smaller}
use Rattle.rest_places.proofs.Sorts.{RowSort, row_on_words, row_on_signals, row_of_element, row_of_place, row_unrolled, row_sort, element_prim, place_prim, IsScalar, params_scalars, words_result, signals_are_circuits, element_kind}
use Rattle.rest_places.proofs.Spines.{spine_view, prim_arity}
use Rattle.rest_places.proofs.Steps.{retyped}
use Rattle.rest_places.proofs.Values.{from_values}
use Rattle.rest_places.proofs.Words.{no_words_on_literals}

-- this holds of each in the list
pub all_at : (P : TypeTree → Type 0) (xs : List TypeTree) (i : ℕ) (x : TypeTree) → AllByRecursion P xs → slice_get xs i ≡ Some x → P x
all_at P [] i x all h = absurd cc
all_at P (y ∷ xs) zero x all h = let same : y ≡ x = cc in subst P same all.0
all_at P (y ∷ xs) (suc i) x all h = all_at P xs i x all.1 h

-- the type at the place of a term that is given
pub record GivenAt (s : Setting) (vars ts : List TypeTree) (i : ℕ) (a : TermTree) : Type 0 where
  pub type : TypeTree
  pub there : slice_get ts i ≡ Some type
  pub given : HasTypeUpTo s [] vars a type

pub given_at : {s : Setting} {vars : List TypeTree} (ts : List TypeTree) (es : List TermTree) (i : ℕ) (a : TermTree) → AreGiven s [] vars ts es → slice_get es i ≡ Some a → GivenAt s vars ts i a
given_at ts [] i a all h = absurd cc
given_at [] (e ∷ es) i a all h = absurd all
given_at {s} {vars} (t ∷ ts) (e ∷ es) zero a all h =
    let same : e ≡ a = cc in
    record { type = t; there = refl; given = subst (λ e. HasTypeUpTo s [] vars e t) same all.0 }
given_at (t ∷ ts) (e ∷ es) (suc i) a all h = let rest = given_at ts es i a all.1 h in record { type = rest.type; there = rest.there; given = rest.given }

-- the terms behind the types
pub term_behind : (types : List TypeTree) (es : List TermTree) (i : ℕ) (a : TermTree) → slice_get es i ≡ Some a → slice_get (types_then types es) (length types + i) ≡ Some (OfTerm a)
term_behind types es i a h = behind types (length types + i) refl
  where
    mapped : (es : List TermTree) (i : ℕ) → slice_get es i ≡ Some a → slice_get (map (λ e. OfTerm e) es) i ≡ Some (OfTerm a)
    mapped [] i h = absurd cc
    mapped (e ∷ es) zero h = let same : e ≡ a = cc in ap (λ e. Some (OfTerm e)) same
    mapped (e ∷ es) (suc i) h = mapped es i h

    behind : (types : List TypeTree) (n : ℕ) → n ≡ length types + i → slice_get (types_then types es) n ≡ Some (OfTerm a)
    behind [] n e = let is : i ≡ n = omega (arith, e) in subst (λ n. slice_get (map (λ e. OfTerm e) es) n ≡ Some (OfTerm a)) is (mapped es i h)
    behind (t ∷ types) zero e = absurd (omega (arith, e))
    behind (t ∷ types) (suc n) e = behind types n (omega (arith, e))

pub arguments_many : (types : List TypeTree) (es : List TermTree) → length (types_then types es) ≡ length types + length es
arguments_many [] es = let same = length-map es (λ e. OfTerm e) in omega (arith, same)
arguments_many (t ∷ types) es = let same = arguments_many types es in omega (arith, same)

-- the kinds of scalars and of vectors
scalar_value : {datas : List Data} {domains : ℕ} {scope : List Kind} {r : Scalar} {w : TypeTree} {k : Kind} → KindOf datas domains scope (scalar r w) k → KindOf datas domains scope (scalar r w) Val
scalar_value (kind_scalar d) = kind_scalar d

pub vector_value : {datas : List Data} {domains : ℕ} {scope : List Kind} {m u a : TypeTree} {k : Kind} → KindOf datas domains scope (vector m u) k → SameTypes a u → KindOf datas domains scope a Val → KindOf datas domains scope (vector m u) Val
vector_value {datas} {domains} {scope} {m} {u} (kind_vector {k = k} d e o) x v = subst (KindOf datas domains scope (vector m u)) (sym (same_kind x v e)) (kind_vector d e o)

-- literals as words
literals : (es : List TermTree) → ((i : ℕ) (a : TermTree) → slice_get es i ≡ Some a → IsLiteral a) → (words : List (Scalar × List Bool)) × (es ≡ map literal words)
literals [] h = ([], refl)
literals (lit r bits ∷ es) h = let rest = literals es (λ i a g. h (suc i) a g) in ((r, bits) ∷ rest.0, ap (λ es. lit r bits ∷ es) rest.1)
literals (e ∷ es) h = absurd (h 0 e refl)

within_get : (es : List TermTree) (i : ℕ) (a : TermTree) → slice_get es i ≡ Some a → i < length es
within_get [] i a h = absurd cc
within_get (e ∷ es) zero a h = omega arith
within_get (e ∷ es) (suc i) a h = let rest = within_get es i a h in omega (arith, rest)

-- what is known is looked at by no case at rest
literal_unknown : {o : Origins} {at : Spot} {alts : Alts} (e : TermTree) → IsLiteral e → LooksAtUnknown o at e alts → ⊥
literal_unknown (lit r bits) k u = u.no_literal r bits refl
literal_unknown _ k u = k

pub known_unknown : {o : Origins} {at : Spot} {e : TermTree} {alts : Alts} (v : TypeTree) → IsLookedAt v → IsKnown o.program.datas v e → LooksAtUnknown o at e alts → ⊥
known_unknown {e = e} (scalar r w) look k u = literal_unknown e k u
known_unknown (data_of d ts) look k u = u.no_constructor k.con_number k.it k.types k.es k.is k.on_types k.on_terms k.term
known_unknown _ look k u = look

prim_kind : {s : Setting} {vars : List TypeTree} {p : Prim} {u : TypeTree} → HasType s [] vars (prim p) u → u ≡ schema_type p
prim_kind h_prim = refl

-- the kind of what a primitive gives is that of its own type
pub kind_of_prim : (o : Origins) (at : Spot) (p : Prim) (args : List Arg) (t : TypeTree) → IsRestPlace o at (applied (prim p) args) t → HasKind (setting_at o) [] t Val → HasKind (setting_at o) [] (schema_type p) Val
kind_of_prim o at p args t rest v =
    let of = head_typed (setting_at o) [] at.vars (prim p) args t rest.has in
    let own = schema_kind (setting_at o) p rest.place.sound in
    let leads = subst (λ u. AtArguments (setting_at o) [] at.vars u args t) (prim_kind of.1) of.2 in
    subst (HasKind (setting_at o) [] (schema_type p)) (one_kind (kind_kept leads own.kind own.has) v) own.has

no_lets : (m : Mode) → m ≡ K → HasLets m → ⊥
no_lets m k l = subst HasLets k l

module _ (decided : NamedIsDecided) (kind_named : NamedIsTermKind) (unrolled : NoUnrolled) (o : Origins) where
  abbrev KnownBelow : ℕ → Type 0
  KnownBelow n = (at : Spot) (e : TermTree) (t : TypeTree) → tree_size e < n → at.mode ≡ K → IsRestPlace o at e t → HasKind (setting_at o) [] t Val → IsKnown o.program.datas t e

  -- no variable is of a type of values
  known_variable : (at : Spot) (x : ℕ) (args : List Arg) (t u : TypeTree) → at.mode ≡ K → IsRestPlace o at (applied (var x) args) t → HasKind (setting_at o) [] t Val → slice_get at.vars x ≡ Some u → AtArguments (setting_at o) [] at.vars u args t → ⊥
  known_variable at x args t u k p v is leads =
      let named = subst (λ m. AllByRecursion (IsNamed o.program.datas (ground m)) at.vars) k p.named in
      let port = all_at (IsNamed o.program.datas C) at.vars x u named is in
      let of = typed_at (setting_at o) [] at.vars x u p.place.vars is in
      let circuit : of.kind ≡ Cir = kind_named (setting_at o) C u of.kind p.place.sound of.has port in
      let value : of.kind ≡ Val = one_kind (kind_kept leads of.kind of.has) v in
      absurd cc

  known_case : (n : ℕ) → KnownBelow n → (at : Spot) (e : TermTree) (alts : Alts) (t : TypeTree) → tree_size (case_of e alts) < suc n → at.mode ≡ K → IsRestPlace o at (case_of e alts) t → HasKind (setting_at o) [] t Val → ⊥
  known_case n below at e alts t small k p v =
      let of = case_typed p.has in
      let values : of.kind ≡ Val = from_values of.kind (subst (HasFunctions of.kind) (one_kind of.has_result v) of.allows) in
      let inner = scrutinee_at_rest decided o at e alts t of.type p of.has (λ n. subst (λ m. IsNamed o.program.datas m of.type) k n) in
      let mode : scrutinee_mode o.program.datas at.mode alts ≡ K = ap (λ m. scrutinee_mode o.program.datas m alts) k in
      known_unknown of.type of.looked_at (below (spot (scrutinee_mode o.program.datas at.mode alts) false at.vars) e of.type (omega (arith, small)) mode inner (subst (HasKind (setting_at o) [] of.type) values of.has_kind)) (case_on_known o at e alts t p)

  -- a place below, with a type of values
  known_at : (n : ℕ) → KnownBelow n → (at at' : Spot) (e a : TermTree) (t u : TypeTree) (path : List ℕ) → tree_size e < suc n → at'.mode ≡ K → IsRestPlace o at e t → Below o at e path at' a → HasType (setting_at o) [] at'.vars a u → HasKind (setting_at o) [] u Val → IsKnown o.program.datas u a
  known_at n below at at' e a t u path small k p b d v =
      let less = below_smaller b in
      below at' a u (omega (arith, small, less)) k (retyped (rest_below decided o at at' e a t path p b).1 d) v

  -- the vector of which an element is taken
  known_vector : (n : ℕ) → KnownBelow n → (at : Spot) (e v : TermTree) (m a t : TypeTree) {path : List ℕ} → tree_size e < suc n → at.mode ≡ K → IsRestPlace o at e t → Below o at e path (spot K false at.vars) v → HasTypeUpTo (setting_at o) [] at.vars v (vector m a) → HasKind (setting_at o) [] a Val → IsWrittenVector v
  known_vector n below at e v m a t {path} small k p b given kind =
      let parts = as_vector given.same in
      let has = subst (HasType (setting_at o) [] at.vars v) parts.2 given.has in
      let kinded = type_kinded has p.place.sound p.place.vars in
      known_at n below at (spot K false at.vars) e v t (vector parts.0 parts.1) path small refl p b has (vector_value kinded.has parts.4 kind)

  known_word : (n : ℕ) → KnownBelow n → (at : Spot) (e a : TermTree) (r : Scalar) (w t : TypeTree) {path : List ℕ} → tree_size e < suc n → at.mode ≡ K → IsRestPlace o at e t → Below o at e path (spot K false at.vars) a → HasTypeUpTo (setting_at o) [] at.vars a (scalar r w) → IsLiteral a
  known_word n below at e a r w t {path} small k p b given =
      let word = as_scalar given.same in
      let has = subst (HasType (setting_at o) [] at.vars a) word.1 given.has in
      let kinded = type_kinded has p.place.sound p.place.vars in
      known_at n below at (spot K false at.vars) e a t (scalar r word.0) path small refl p b has (scalar_value kinded.has)

  -- the words of a primitive
  known_words : (n : ℕ) → KnownBelow n → (at : Spot) (p : Prim) (types : List TypeTree) (es : List TermTree) (more : List Arg) (t : TypeTree) → tree_size (applied (applied (prim p) (types_then types es)) more) < suc n → at.mode ≡ K → IsOnWords p → PrimGiven (setting_at o) at.vars p types es more t → IsRestPlace o at (applied (applied (prim p) (types_then types es)) more) t → ⊥
  known_words n below at p types es more t small k on given rest =
      no_words_on_literals o at p types words.0 t k on given.on_types (sym (length-map words.0 literal) ∙ ap length (sym words.1) ∙ given.on_terms) (subst (λ es. IsRestPlace o at (applied (prim p) (types_then types es)) t) words.1 alone)
    where
      none : more ≡ []
      none = given.alone (words_result (row_of p) on)

      alone : IsRestPlace o at (applied (prim p) (types_then types es)) t
      alone = subst (λ more. IsRestPlace o at (applied (applied (prim p) (types_then types es)) more) t) none rest

      little : tree_size (applied (prim p) (types_then types es)) < suc n
      little = subst (λ more. tree_size (applied (applied (prim p) (types_then types es)) more) < suc n) none small

      many : length (types_then types es) ≡ asked_for (schema_type p)
      many = arguments_many types es ∙ (let asked = prim_arity p in let on_types = given.on_types in let on_terms = given.on_terms in omega (arith, asked, on_types, on_terms))

      each : (i : ℕ) (a : TermTree) → slice_get es i ≡ Some a → IsLiteral a
      each i a h =
          let at_place = given_at (map (λ q. sub q (arguments (trees_of types))) (parameters (schema_type p))) es i a given.saturated.args_given h in
          let within = within_get es i a h in
          let together = arguments_many types es in
          by_scalar at_place.type
          (all_at IsScalar (map (λ q. sub q (arguments (trees_of types))) (parameters (schema_type p))) i at_place.type (params_scalars (row_of p) on (arguments (trees_of types))) at_place.there)
          at_place.given
          (of_words p (length types + i) (types_then types es) k on (omega (arith, many)) (omega (arith, many, together, within)) (term_behind types es i a h))
        where
          by_scalar : (u : TypeTree) → IsScalar u → HasTypeUpTo (setting_at o) [] at.vars a u → {path : List ℕ} → Below o at (applied (prim p) (types_then types es)) path (spot K false at.vars) a → IsLiteral a
          by_scalar (scalar r w) is given b = known_word n below at (applied (prim p) (types_then types es)) a r w t little k alone b given
          by_scalar _ is given b = absurd is

      words : (ws : List (Scalar × List Bool)) × (es ≡ map literal ws)
      words = literals es each

  written_get : (at : Spot) (i m a t : TypeTree) (more : List Arg) (v : TermTree) → IsWrittenVector v → IsRestPlace o at (applied (applied (prim VGet) (types_then (i ∷ m ∷ a ∷ []) (v ∷ []))) more) t → ⊥
  written_get at i m a t more (vec_lit u es) w p = no_get_of_written o at VGet i m a u es more t (inl refl) p
  written_get at i m a t more _ w p = w

  written_place : (at : Spot) (i m a t : TypeTree) (more : List Arg) (v w : TermTree) → IsWrittenVector v → IsLiteral w → at.mode ≡ K → IsRestPlace o at (applied (applied (prim VAt) (types_then (i ∷ m ∷ a ∷ []) (v ∷ w ∷ []))) more) t → ⊥
  written_place at i m a t more (vec_lit u es) (lit r bits) x l k p = no_at_of_written o at i m a u es r bits more t k p
  written_place at i m a t more (vec_lit u es) _ x l k p = l
  written_place at i m a t more _ _ x l k p = x

  -- `vget`, by its three types and its vector
  known_get : (n : ℕ) → KnownBelow n → (at : Spot) (types : List TypeTree) (es : List TermTree) (more : List Arg) (t : TypeTree) → tree_size (applied (applied (prim VGet) (types_then types es)) more) < suc n → at.mode ≡ K → PrimGiven (setting_at o) at.vars VGet types es more t → IsRestPlace o at (applied (applied (prim VGet) (types_then types es)) more) t → ⊥
  unfolding sub
  known_get n below at (i ∷ m ∷ a ∷ []) (v ∷ []) more t small k given rest =
      written_get at i m a t more v
      (known_vector n below at (applied (applied (prim VGet) (types_then (i ∷ m ∷ a ∷ []) (v ∷ []))) more) v _ a t small k rest
      (of_element VGet 3 (OfType i ∷ OfType m ∷ OfType a ∷ OfTerm v ∷ more) k tt (omega arith) refl)
      given.saturated.args_given.0 (first_kind (later_kinds (later_kinds given.saturated.have)))) rest
  known_get n below at [] es more t small k given rest = let many = given.on_types in omega (arith, many)
  known_get n below at (i ∷ []) es more t small k given rest = let many = given.on_types in omega (arith, many)
  known_get n below at (i ∷ m ∷ []) es more t small k given rest = let many = given.on_types in omega (arith, many)
  known_get n below at (i ∷ m ∷ a ∷ b ∷ types) es more t small k given rest = let many = given.on_types in omega (arith, many)
  known_get n below at (i ∷ m ∷ a ∷ []) [] more t small k given rest = let many = given.on_terms in omega (arith, many)
  known_get n below at (i ∷ m ∷ a ∷ []) (v ∷ w ∷ es) more t small k given rest = let many = given.on_terms in omega (arith, many)

  -- `vat`, by its three types, its vector and its index
  known_place : (n : ℕ) → KnownBelow n → (at : Spot) (types : List TypeTree) (es : List TermTree) (more : List Arg) (t : TypeTree) → tree_size (applied (applied (prim VAt) (types_then types es)) more) < suc n → at.mode ≡ K → PrimGiven (setting_at o) at.vars VAt types es more t → IsRestPlace o at (applied (applied (prim VAt) (types_then types es)) more) t → ⊥
  unfolding sub
  known_place n below at (i ∷ m ∷ a ∷ []) (v ∷ w ∷ []) more t small k given rest =
      let e = applied (applied (prim VAt) (types_then (i ∷ m ∷ a ∷ []) (v ∷ w ∷ []))) more in
      let args : List Arg = OfType i ∷ OfType m ∷ OfType a ∷ OfTerm v ∷ OfTerm w ∷ more in
      written_place at i m a t more v w
      (known_vector n below at e v _ a t small k rest (of_element VAt 3 args k tt (omega arith) refl) given.saturated.args_given.0 (first_kind (later_kinds (later_kinds given.saturated.have))))
      (known_word n below at e w U m t small k rest (of_element VAt 4 args k tt (omega arith) refl) given.saturated.args_given.1.0)
      k rest
  known_place n below at [] es more t small k given rest = let many = given.on_types in omega (arith, many)
  known_place n below at (i ∷ []) es more t small k given rest = let many = given.on_types in omega (arith, many)
  known_place n below at (i ∷ m ∷ []) es more t small k given rest = let many = given.on_types in omega (arith, many)
  known_place n below at (i ∷ m ∷ a ∷ b ∷ types) es more t small k given rest = let many = given.on_types in omega (arith, many)
  known_place n below at (i ∷ m ∷ a ∷ []) [] more t small k given rest = let many = given.on_terms in omega (arith, many)
  known_place n below at (i ∷ m ∷ a ∷ []) (v ∷ []) more t small k given rest = let many = given.on_terms in omega (arith, many)
  known_place n below at (i ∷ m ∷ a ∷ []) (v ∷ w ∷ x ∷ es) more t small k given rest = let many = given.on_terms in omega (arith, many)

  known_prim : (n : ℕ) → KnownBelow n → (at : Spot) (p : Prim) (types : List TypeTree) (es : List TermTree) (more : List Arg) (t : TypeTree) → tree_size (applied (applied (prim p) (types_then types es)) more) < suc n → at.mode ≡ K → HasKind (setting_at o) [] t Val → PrimGiven (setting_at o) at.vars p types es more t → IsRestPlace o at (applied (applied (prim p) (types_then types es)) more) t → ⊥
  known_prim n below at p types es more t small k v given rest = by (row_sort (row_of p))
    where
      own : HasKind (setting_at o) [] (schema_type p) Val
      own = kind_of_prim o at p (types_then types es ++ more) t (subst (λ e. IsRestPlace o at e t) (sym (applied_more (prim p) (types_then types es) more)) rest) v

      get : (k : Kind) → ((p ≡ VGet) × (k ≡ Val)) ⊎ ((p ≡ VGetC) × (k ≡ Cir)) → row_of p ≡ Element k → ⊥
      get j (inl q) is =
          known_get n below at types es more t (subst (λ p. tree_size (applied (applied (prim p) (types_then types es)) more) < suc n) q.0 small) k
          (subst (λ p. PrimGiven (setting_at o) at.vars p types es more t) q.0 given) (subst (λ p. IsRestPlace o at (applied (applied (prim p) (types_then types es)) more) t) q.0 rest)
      get j (inr q) is =
          let kind : j ≡ Val = element_kind j (subst (λ row. KindOf o.program.datas (setting_at o).domains [] (row_type row) Val) is own) in
          let other : j ≡ Cir = q.1 in
          cc

      by : RowSort (row_of p) → ⊥
      by (row_on_words on) = known_words n below at p types es more t small k on given rest
      by (row_on_signals on) = let kind : Cir ≡ Val = signals_are_circuits (row_of p) on own in cc
      by (row_of_element j is) = get j (element_prim p j is) is
      by (row_of_place is) =
          let q = place_prim p is in
          known_place n below at types es more t (subst (λ p. tree_size (applied (applied (prim p) (types_then types es)) more) < suc n) q small) k
          (subst (λ p. PrimGiven (setting_at o) at.vars p types es more t) q given) (subst (λ p. IsRestPlace o at (applied (applied (prim p) (types_then types es)) more) t) q rest)
      by (row_unrolled on other) = unrolled o at p types es more t on (λ q. absurd (other (ap row_of q))) given rest

  -- a constructor on its own arguments
  con_known : {vars : List TypeTree} {c : ℕ} {it : Constructor} {types : List TypeTree} {es : List TermTree} {t : TypeTree} → ConGiven (setting_at o) vars c it types es t → IsKnown o.program.datas t (applied (con c) (types_then types es))
  con_known {c = c} {it = it} {types = types} {es = es} given =
      let of = as_data given.gives in
      subst (λ t. IsKnown o.program.datas t (applied (con c) (types_then types es))) (sym of.1)
      (record { con_number = c; it = it; types = types; es = es; is = given.is; on_types = given.on_types; on_terms = given.on_terms; term = refl })

  known_spine : (n : ℕ) → KnownBelow n → (at : Spot) (e : TermTree) (t : TypeTree) → tree_size e < suc n → at.mode ≡ K → IsRestPlace o at e t → HasKind (setting_at o) [] t Val → IsSpine (setting_at o) at.vars t e → IsKnown o.program.datas t e
  known_spine n below at e t small k p v (on_variable x args {u = u} is leads) = absurd (known_variable at x args t u k p v is leads)
  known_spine n below at e t small k p v (on_global d args is leads) = absurd (no_definition o at d args t (no_lets at.mode k) p)
  known_spine n below at e t small k p v (on_made m args is leads) = absurd (no_made_definition o at m args t (no_lets at.mode k) p)
  known_spine n below at e t small k p v (on_lambda b f a rest d leads) = absurd (let none = not_applied o at (lam b f) (OfTerm a ∷ rest) t p tt in cc)
  known_spine n below at e t small k p v (on_type_lambda j f a rest d leads) = absurd (let none = not_applied o at (ty_lam j f) (OfType a ∷ rest) t p tt in cc)
  known_spine n below at e t small k p v (on_letrec g f args d leads) =
      absurd (no_constant_letrec o at g f t k (subst (λ args. IsRestPlace o at (applied (letrec g f) args) t) (not_applied o at (letrec g f) args t p tt) p))
  known_spine n below at e t small k p v (on_case f alts args d leads) =
      let none = not_applied o at (case_of f alts) args t p tt in
      absurd (known_case n below at f alts t (subst (λ args. tree_size (applied (case_of f alts) args) < suc n) none small) k (subst (λ args. IsRestPlace o at (applied (case_of f alts) args) t) none p) v)
  known_spine n below at e t small k p v (on_constructor c types es given) = con_known given
  known_spine n below at e t small k p v (on_primitive q types es more given) = absurd (known_prim n below at q types es more t small k v given p)
  known_spine n below at e t small k p v (on_literal r bits l is) = subst (λ t. IsKnown o.program.datas t (lit r bits)) is tt
  known_spine n below at e t small k p v (on_vector u es l have is) = subst (λ t. IsKnown o.program.datas t (vec_lit u es)) is tt

  known_by_type : (n : ℕ) → KnownBelow n → (at : Spot) (e : TermTree) (t : TypeTree) → tree_size e < suc n → at.mode ≡ K → IsRestPlace o at e t → HasKind (setting_at o) [] t Val → IsKnown o.program.datas t e
  known_by_type n below at e (scalar r w) small k p v = known_spine n below at e (scalar r w) small k p v (spine_view (setting_at o) at.vars e (scalar r w) p.place.sound p.place.vars p.has tt)
  known_by_type n below at e (data_of d ts) small k p v = known_spine n below at e (data_of d ts) small k p v (spine_view (setting_at o) at.vars e (data_of d ts) p.place.sound p.place.vars p.has tt)
  known_by_type n below at e (vector m u) small k p v = known_spine n below at e (vector m u) small k p v (spine_view (setting_at o) at.vars e (vector m u) p.place.sound p.place.vars p.has tt)
  known_by_type n below at e _ small k p v = tt

  known_below : (n : ℕ) → KnownBelow n
  known_below zero at e t small k p v = absurd (omega (arith, small))
  known_below (suc n) at e t small k p v = known_by_type n (known_below n) at e t small k p v

  -- by its type what a constant at rest is
  pub constants_are_known : (at : Spot) (e : TermTree) (t : TypeTree) → at.mode ≡ K → IsRestPlace o at e t → HasKind (setting_at o) [] t Val → IsKnown o.program.datas t e
  constants_are_known at e t k p v = known_below (suc (tree_size e)) at e t (omega arith) k p v
