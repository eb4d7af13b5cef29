-- No size of a primitive that takes an element passes a limit, where variables have types with widths.
use Rattle.std.proofs.Common.{◌≡◌, ℕ, zero, suc, ◌+◌, ◌*◌, ◌≤◌, ◌<◌, Bool, true, false, List, [], ◌∷◌, ◌++◌, map, length, Some, refl, sym, ap, ◌∙◌, subst, arith, if◌then◌else◌}
use Rattle.std.specs.Prelude.{nat_le}
use Rattle.std.specs.List.{slice_get, AllByRecursion}
use Rattle.std.proofs.lemmas.Bool.{leb-true}
use Rattle.chw_base.specs.declared.limits.TheConstants.{SCALAR_BITS, VECTOR_LENGTH}
use Rattle.chw_types.specs.declared.declarations.Data.{Data}
use Rattle.chw_types.specs.declared.kind.Kind.{Kind}
use Rattle.chw_types.specs.declared.kind.Kind.TheVariants.{Nat, Val, Cir}
use Rattle.chw_types.specs.declared.kind.Scalar.{Scalar}
use Rattle.chw_types.specs.declared.kind.Scalar.TheVariants.{U}
use Rattle.chw_types.specs.Arguments.{arguments}
use Rattle.chw_types.specs.Polynomials.{ended}
use Rattle.chw_types.specs.SamePromises.{natural_value}
use Rattle.chw_types.specs.TypeMoves.{sub}
use Rattle.chw_types.specs.TypeTree.{TypeTree, ty_var, nat_lit, nat_sum, scalar, vector, fun, for_all}
use Rattle.chw_types.specs.TypeView.{trees_of}
use Rattle.type_laws.proofs.SameForms.{as_function, as_scalar, as_vector}
use Rattle.chw_prims.specs.declared.prim.Primitive.{Primitive as Prim}
use Rattle.chw_prims.specs.declared.prim.Primitive.TheVariants.{VGet, VGetC, VAt}
use Rattle.chw_prims.specs.Schemas.{schema_type}
use Rattle.chw_terms.specs.declared.term.Arg.{Arg}
use Rattle.chw_terms.specs.declared.term.Arg.TheVariants.{OfTerm, OfType}
use Rattle.chw_terms.specs.Evaluated.{evaluated}
use Rattle.chw_terms.specs.TermTree.{TermTree, var, prim}
use Rattle.chw_terms.specs.TermView.{applied}
use Rattle.chw_typing.specs.HeadTypes.{for_each, from_each}
use Rattle.chw_typing.specs.Programs.{IsSound}
use Rattle.chw_typing.specs.Scopes.{Setting, AreTermTypes}
use Rattle.chw_typing.specs.Typing.{HasType, h_var, h_app, h_ty_app, HasTypeUpTo}
use Rattle.chw_typing.proofs.EvaluatedTypes.{same_evaluated}
use Rattle.chw_layout.specs.declared.outcome.NoLayout.{NoLayout}
use Rattle.chw_layout.specs.declared.outcome.NoLayout.TheVariants.{Scalar as OverScalar, Length as OverLength}
use Rattle.chw_layout.specs.Measured.{Measure, fits, too_wide, closed_value, data_measure, vector_measure, HasWidth}
use Rattle.chw_layout.proofs.Measures.{scalar_measured, vector_measured}
use Rattle.layout_laws.specs.SameLayout.{SameNumber}
use Rattle.chw_typing.specs.Given.{types_then}
use Rattle.chw_typing.specs.SpineLaws.{PrimAtArguments}
use Rattle.rewriting.specs.Origins.{Origins, setting_at}
use Rattle.rewriting.specs.Spots.{asked_for, TakesElement}
use Rattle.normal_forms.specs.Blocked.{Size, of_vector, of_word, sizes_in, IsOver, over_length, over_width, types_asked}
use Rattle.normal_laws.proofs.Fits.{HasSomeWidth}
use Rattle.normal_laws.proofs.Forms.{SidePrim, term_given, name_at}

-- the length of which `vget` takes an element, in its own type
abbrev long : TypeTree
long = nat_sum (nat_sum (ty_var 2) (nat_lit 1)) (ty_var 1)

-- the limits within a width
if_within : (n : ℕ) (w : ℕ) (m : Measure) (l : NoLayout) (b : Bool) (limit : ℕ) → (b ≡ true → n ≤ limit) → fits w ≡ (if b then m else too_wide l) → n ≤ limit
if_within n w m l true limit h e = h refl
if_within n w m l false limit h e = absurd cc

length_within : (n w : ℕ) (m : Measure) → fits w ≡ vector_measure n m → n ≤ VECTOR_LENGTH
length_within n w (fits a) e = if_within n w (data_measure (ended (n * a))) (OverLength n) (nat_le n VECTOR_LENGTH) VECTOR_LENGTH (leb-true n VECTOR_LENGTH) e
length_within n w (too_wide l) e = absurd cc

vector_within : {datas : List Data} {n t : TypeTree} {w : ℕ} → HasWidth datas (vector n t) w → closed_value n ≤ VECTOR_LENGTH
vector_within {n = n} {w = w} d = let v = vector_measured d in length_within (closed_value n) w v.of v.is

scalar_within : {datas : List Data} {s : Scalar} {x : TypeTree} {w : ℕ} → HasWidth datas (scalar s x) w → closed_value x ≤ SCALAR_BITS
scalar_within {x = x} {w = w} d =
    if_within (closed_value x) w (fits (closed_value x)) (OverScalar (closed_value x)) (nat_le (closed_value x) SCALAR_BITS) SCALAR_BITS (leb-true (closed_value x) SCALAR_BITS) (scalar_measured d)

-- the type of a variable
pub known_at : {s : Setting} {kinds : List Kind} {vars : List TypeTree} {x : ℕ} {t : TypeTree} → HasType s kinds vars (var x) t → slice_get vars x ≡ Some t
known_at (h_var h) = h

pub all_at : {X : Type 0} (P : X → Type 0) (xs : List X) (i : ℕ) (x : X) → AllByRecursion P xs → slice_get xs i ≡ Some x → P x
all_at P [] i x all h = absurd cc
all_at P (y ∷ xs) zero x all h = let same : y ≡ x = cc in subst P same all.0
all_at P (y ∷ xs) (suc i) x all h = all_at P xs i x all.1 h

-- the part of an application before its last argument
before_last : {s : Setting} {kinds : List Kind} {vars : List TypeTree} {t : TypeTree} (f : TermTree) (a : Arg) → HasType s kinds vars (applied f (a ∷ [])) t → (u : TypeTree) × HasType s kinds vars f u
before_last f (OfTerm e) (h_app {a = a} {b = b} d x l) = (fun a b, d)
before_last f (OfType t) (h_ty_app {j = j} {t = u} d k x l) = (for_all j u, d)

three_of : (types : List TypeTree) → length types ≡ 3 → (a : TypeTree) × (b : TypeTree) × (c : TypeTree) × (types ≡ a ∷ b ∷ c ∷ [])
three_of [] n = absurd cc
three_of (a ∷ []) n = absurd cc
three_of (a ∷ b ∷ []) n = absurd cc
three_of (a ∷ b ∷ c ∷ []) n = (a, b, c, refl)
three_of (a ∷ b ∷ c ∷ d ∷ more) n = absurd cc

-- no type stands behind a term
no_type_among : (es : List TermTree) (i : ℕ) (t : TypeTree) → slice_get (map (λ e. OfTerm e) es) i ≡ Some (OfType t) → ⊥
no_type_among [] i t h = cc
no_type_among (e ∷ es) zero t h = cc
no_type_among (e ∷ es) (suc i) t h = no_type_among es i t h

no_type_behind : (types : List TypeTree) (es : List TermTree) (i : ℕ) (e : TermTree) (t : TypeTree) → slice_get (types_then types es) i ≡ Some (OfTerm e) → slice_get (types_then types es) (suc i) ≡ Some (OfType t) → ⊥
no_type_behind [] es i e t h k = no_type_among es (suc i) t k
no_type_behind (u ∷ types) es zero e t h k = cc
no_type_behind (u ∷ types) es (suc i) e t h k = no_type_behind types es i e t h k

name_given : (types : List TypeTree) (xs : List ℕ) (i : ℕ) (e : TermTree) → slice_get (types_then types (map (λ x. var x) xs)) i ≡ Some (OfTerm e) → (x : ℕ) × (e ≡ var x)
name_given types xs i e h = let among = term_given types (map (λ x. var x) xs) i e h in name_at xs among.0 e among.1

names_length : (xs : List ℕ) → length (types_then [] (map (λ x. var x) xs)) ≡ length xs
names_length [] = refl
names_length (x ∷ xs) = ap suc (names_length xs)

given_length : (types : List TypeTree) (xs : List ℕ) → length (types_then types (map (λ x. var x) xs)) ≡ length types + length xs
given_length [] xs = let more = names_length xs in omega (arith, more)
given_length (t ∷ types) xs = let more = given_length types xs in omega (arith, more)

args_behind : {p : Prim} {a b c : TypeTree} {n : ℕ} (rest : List Arg) → SidePrim p (OfType a ∷ OfType b ∷ OfType c ∷ rest) → asked_for (schema_type p) ≡ suc (suc (suc n)) → length rest ≡ n
args_behind rest s is = let long = ap length s.are ∙ given_length s.types s.xs ∙ s.many ∙ is in omega (arith, long)

module _ (o : Origins) (sound : IsSound (setting_at o)) (prims : PrimAtArguments) (number : SameNumber) (vars : List TypeTree) (typed : AreTermTypes (setting_at o) [] vars) (wide : AllByRecursion (HasSomeWidth o.program.datas) vars) where
  value_of : (n : TypeTree) (k : ℕ) → evaluated n ≡ nat_lit k → closed_value n ≡ ended k
  unfolding natural_value
  value_of n k is = number n (evaluated n) (same_evaluated n) ∙ ap closed_value is

  no_long_vector : (x : ℕ) (n t : TypeTree) (k : ℕ) → HasTypeUpTo (setting_at o) [] vars (var x) (vector n t) → evaluated n ≡ nat_lit k → VECTOR_LENGTH < k → ⊥
  no_long_vector x n t k given is over =
      let w = all_at (HasSomeWidth o.program.datas) vars x given.type wide (known_at given.has) in
      let found = as_vector given.same in
      let within = vector_within (subst (λ u. HasWidth o.program.datas u w.0) found.2 w.1) in
      let same : closed_value n ≡ closed_value found.0 = number n found.0 found.3 in
      let value = value_of n k is in
      omega (arith, within, same, value, over)

  no_wide_word : (x : ℕ) (s : Scalar) (n : TypeTree) (k : ℕ) → HasTypeUpTo (setting_at o) [] vars (var x) (scalar s n) → evaluated n ≡ nat_lit k → SCALAR_BITS < k → ⊥
  no_wide_word x s n k given is over =
      let w = all_at (HasSomeWidth o.program.datas) vars x given.type wide (known_at given.has) in
      let found = as_scalar given.same in
      let within = scalar_within (subst (λ u. HasWidth o.program.datas u w.0) found.1 w.1) in
      let same : closed_value n ≡ closed_value found.0 = number n found.0 found.2 in
      let value = value_of n k is in
      omega (arith, within, same, value, over)

  -- after its types a primitive has a function's type
  no_fourth : (p : Prim) (ks : List Kind) (a r : TypeTree) (x y z d t : TypeTree) → schema_type p ≡ for_each ks (fun a r) → length ks ≡ 3 → HasType (setting_at o) [] vars (applied (prim p) (OfType x ∷ OfType y ∷ OfType z ∷ OfType d ∷ [])) t → ⊥
  unfolding sub
  no_fourth p ks a r x y z d t schema many (h_ty_app {j = j} {t = u} has k s l) =
      let all = prims (setting_at o) [] vars p ks [] (fun a r) (x ∷ y ∷ z ∷ []) [] (for_all j u) sound typed schema (sym many) refl has in
      let found = as_function all.gives in
      let wrong : for_all j u ≡ fun found.0 found.1 = found.2 in
      absurd cc

  -- a length and a width, as a primitive's type names them
  long_at : (types : List TypeTree) (x : ℕ) (n t : TypeTree) (l : NoLayout) → HasTypeUpTo (setting_at o) [] vars (var x) (vector (sub n (arguments (trees_of types))) t) → IsOver types (of_vector n) l → ⊥
  long_at types x n t l given (over_length {n = long} is over) = no_long_vector x (sub n (arguments (trees_of types))) t long given is over

  wide_at : (types : List TypeTree) (x : ℕ) (s : Scalar) (n : TypeTree) (l : NoLayout) → HasTypeUpTo (setting_at o) [] vars (var x) (scalar s (sub n (arguments (trees_of types)))) → IsOver types (of_word n) l → ⊥
  wide_at types x s n l given (over_width {n = wide} is over) = no_wide_word x s (sub n (arguments (trees_of types))) wide given is over

  -- `vget @i @n @a x`
  element_size : (p : Prim) (k : Kind) (i n a : TypeTree) (x : ℕ) (t : TypeTree) (l : NoLayout) → schema_type p ≡ for_each (Nat ∷ Nat ∷ k ∷ []) (from_each (vector long (ty_var 0) ∷ []) (ty_var 0))
      → HasType (setting_at o) [] vars (applied (prim p) (types_then (i ∷ n ∷ a ∷ []) (var x ∷ []))) t → IsOver (i ∷ n ∷ a ∷ []) (of_vector long) l → ⊥
  unfolding sub
  element_size p k i n a x t l schema has over =
      let all = prims (setting_at o) [] vars p (Nat ∷ Nat ∷ k ∷ []) (vector long (ty_var 0) ∷ []) (ty_var 0) (i ∷ n ∷ a ∷ []) (var x ∷ []) t sound typed schema refl refl has in
      long_at (i ∷ n ∷ a ∷ []) x long a l all.args_given.0 over

  -- `vat @n @k @a x y`
  place_size : (n k a : TypeTree) (x y j : ℕ) (t : TypeTree) (size : Size) (l : NoLayout) → HasType (setting_at o) [] vars (applied (prim VAt) (types_then (n ∷ k ∷ a ∷ []) (var x ∷ var y ∷ []))) t → slice_get (sizes_in (schema_type VAt)) j ≡ Some size → IsOver (n ∷ k ∷ a ∷ []) size l → ⊥
  unfolding sub
  place_size n k a x y zero t size l has get over =
      let all = prims (setting_at o) [] vars VAt (Nat ∷ Nat ∷ Val ∷ []) (vector (nat_sum (ty_var 2) (nat_lit 1)) (ty_var 0) ∷ scalar U (ty_var 1) ∷ []) (ty_var 0) (n ∷ k ∷ a ∷ []) (var x ∷ var y ∷ []) t sound typed refl refl refl has in
      let same : size ≡ of_vector (nat_sum (ty_var 2) (nat_lit 1)) = cc in
      long_at (n ∷ k ∷ a ∷ []) x (nat_sum (ty_var 2) (nat_lit 1)) a l all.args_given.0 (subst (λ s. IsOver (n ∷ k ∷ a ∷ []) s l) same over)
  place_size n k a x y (suc zero) t size l has get over =
      let all = prims (setting_at o) [] vars VAt (Nat ∷ Nat ∷ Val ∷ []) (vector (nat_sum (ty_var 2) (nat_lit 1)) (ty_var 0) ∷ scalar U (ty_var 1) ∷ []) (ty_var 0) (n ∷ k ∷ a ∷ []) (var x ∷ var y ∷ []) t sound typed refl refl refl has in
      let same : size ≡ of_word (ty_var 1) = cc in
      wide_at (n ∷ k ∷ a ∷ []) y U (ty_var 1) l all.args_given.1.0 (subst (λ s. IsOver (n ∷ k ∷ a ∷ []) s l) same over)
  place_size n k a x y (suc (suc j)) t size l has get over = absurd cc

  -- one argument behind the types, or two
  one_behind : (p : Prim) (k : Kind) (i n a : TypeTree) (rest : List Arg) (s : SidePrim p (OfType i ∷ OfType n ∷ OfType a ∷ rest)) (t : TypeTree) (j : ℕ) (size : Size) (l : NoLayout) → schema_type p ≡ for_each (Nat ∷ Nat ∷ k ∷ []) (from_each (vector long (ty_var 0) ∷ []) (ty_var 0))
      → length rest ≡ 1 → HasType (setting_at o) [] vars (applied (prim p) (OfType i ∷ OfType n ∷ OfType a ∷ rest)) t → slice_get (of_vector long ∷ []) j ≡ Some size → IsOver (i ∷ n ∷ a ∷ []) size l → ⊥
  one_behind p k i n a [] s t j size l schema many has get over = cc
  one_behind p k i n a (OfType d ∷ []) s t j size l schema many has get over =
      no_fourth p (Nat ∷ Nat ∷ k ∷ []) (vector long (ty_var 0)) (ty_var 0) i n a d t schema refl has
  one_behind p k i n a (OfTerm e ∷ []) s t zero size l schema many has get over =
      let name = name_given s.types s.xs 3 e (ap (λ xs. slice_get xs 3) (sym s.are)) in
      let same : size ≡ of_vector long = cc in
      element_size p k i n a name.0 t l schema (subst (λ f. HasType (setting_at o) [] vars (applied (prim p) (OfType i ∷ OfType n ∷ OfType a ∷ OfTerm f ∷ [])) t) name.1 has) (subst (λ s. IsOver (i ∷ n ∷ a ∷ []) s l) same over)
  one_behind p k i n a (OfTerm e ∷ []) s t (suc j) size l schema many has get over = cc
  one_behind p k i n a (x ∷ y ∷ rest) s t j size l schema many has get over = cc

  two_behind : (n k a : TypeTree) (rest : List Arg) (s : SidePrim VAt (OfType n ∷ OfType k ∷ OfType a ∷ rest)) (t : TypeTree) (j : ℕ) (size : Size) (l : NoLayout) → length rest ≡ 2 → HasType (setting_at o) [] vars (applied (prim VAt) (OfType n ∷ OfType k ∷ OfType a ∷ rest)) t
      → slice_get (sizes_in (schema_type VAt)) j ≡ Some size → IsOver (n ∷ k ∷ a ∷ []) size l → ⊥
  two_behind n k a [] s t j size l many has get over = cc
  two_behind n k a (x ∷ []) s t j size l many has get over = cc
  two_behind n k a (OfType d ∷ y ∷ []) s t j size l many has get over =
      let before = before_last (applied (prim VAt) (OfType n ∷ OfType k ∷ OfType a ∷ OfType d ∷ [])) y has in
      no_fourth VAt (Nat ∷ Nat ∷ Val ∷ []) (vector (nat_sum (ty_var 2) (nat_lit 1)) (ty_var 0)) (fun (scalar U (ty_var 1)) (ty_var 0)) n k a d before.0 refl refl before.1
  two_behind n k a (OfTerm e ∷ OfType d ∷ []) s t j size l many has get over =
      no_type_behind s.types (map (λ x. var x) s.xs) 3 e d (ap (λ xs. slice_get xs 3) (sym s.are)) (ap (λ xs. slice_get xs 4) (sym s.are))
  two_behind n k a (OfTerm e ∷ OfTerm f ∷ []) s t j size l many has get over =
      let first = name_given s.types s.xs 3 e (ap (λ xs. slice_get xs 3) (sym s.are)) in
      let second = name_given s.types s.xs 4 f (ap (λ xs. slice_get xs 4) (sym s.are)) in
      place_size n k a first.0 second.0 j t size l
      (subst (λ g. HasType (setting_at o) [] vars (applied (prim VAt) (OfType n ∷ OfType k ∷ OfType a ∷ OfTerm (var first.0) ∷ OfTerm g ∷ [])) t) second.1
      (subst (λ g. HasType (setting_at o) [] vars (applied (prim VAt) (OfType n ∷ OfType k ∷ OfType a ∷ OfTerm g ∷ OfTerm f ∷ [])) t) first.1 has))
      get over
  two_behind n k a (x ∷ y ∷ z ∷ rest) s t j size l many has get over = cc

  -- of a primitive that takes an element
  pub no_size : (p : Prim) (types : List TypeTree) (more : List Arg) (t : TypeTree) (j : ℕ) (size : Size) (l : NoLayout) → TakesElement p → SidePrim p (map (λ t. OfType t) types ++ more) → HasType (setting_at o) [] vars (applied (prim p) (map (λ t. OfType t) types ++ more)) t
      → length types ≡ types_asked (schema_type p) → slice_get (sizes_in (schema_type p)) j ≡ Some size → IsOver types size l → ⊥
  no_size VGet types more t j size l takes s has many get over =
      let of = three_of types many in
      let args = subst (λ ts. SidePrim VGet (map (λ t. OfType t) ts ++ more)) of.3 s in
      one_behind VGet Val of.0 of.1 of.2 more args t j size l refl (args_behind more args refl) (subst (λ ts. HasType (setting_at o) [] vars (applied (prim VGet) (map (λ t. OfType t) ts ++ more)) t) of.3 has) get (subst (λ ts. IsOver ts size l) of.3 over)
  no_size VGetC types more t j size l takes s has many get over =
      let of = three_of types many in
      let args = subst (λ ts. SidePrim VGetC (map (λ t. OfType t) ts ++ more)) of.3 s in
      one_behind VGetC Cir of.0 of.1 of.2 more args t j size l refl (args_behind more args refl) (subst (λ ts. HasType (setting_at o) [] vars (applied (prim VGetC) (map (λ t. OfType t) ts ++ more)) t) of.3 has) get (subst (λ ts. IsOver ts size l) of.3 over)
  no_size VAt types more t j size l takes s has many get over =
      let of = three_of types many in
      let args = subst (λ ts. SidePrim VAt (map (λ t. OfType t) ts ++ more)) of.3 s in
      two_behind of.0 of.1 of.2 more args t j size l (args_behind more args refl) (subst (λ ts. HasType (setting_at o) [] vars (applied (prim VAt) (map (λ t. OfType t) ts ++ more)) t) of.3 has) get (subst (λ ts. IsOver ts size l) of.3 over)
  no_size _ types more t j size l takes s has many get over = absurd takes
