-- At rest no element is taken of a written vector.
use Rattle.std.proofs.Common.{◌≡◌, ◌∙◌, ◌⊎◌, ◌<◌, ◌≤◌, ◌+◌, min, inl, inr, refl, sym, ap, subst, ℕ, suc, zero, Bool, List, [], ◌∷◌, length, arith, Some}
use Rattle.std.specs.List.{AllByRecursion}
use Rattle.chw_base.specs.declared.limits.TheConstants.{VECTOR_LENGTH}
use Rattle.chw_bits.specs.Bits.{number_of}
use Rattle.chw_types.specs.declared.kind.Kind.{Kind}
use Rattle.chw_types.specs.declared.kind.Kind.TheVariants.{Nat, Val, Cir}
use Rattle.chw_types.specs.declared.kind.Scalar.{Scalar}
use Rattle.chw_types.specs.declared.kind.Scalar.TheVariants.{U}
use Rattle.chw_types.specs.Kinds.{KindsOf}
use Rattle.chw_types.specs.Polynomials.{ended, greatest, is_natural}
use Rattle.chw_types.specs.SamePromises.{natural_value}
use Rattle.chw_types.specs.SameTypes.{SameTypes, same_naturals}
use Rattle.chw_types.specs.TypeMoves.{sub}
use Rattle.chw_types.specs.TypeTree.{TypeTree, ty_var, nat_lit, nat_sum, scalar, vector}
use Rattle.chw_types.specs.TypeView.{trees_of}
use Rattle.chw_types.proofs.SameLaws.{same_turned, same_through, one_value}
use Rattle.type_laws.proofs.SameForms.{as_scalar, as_vector}
use Rattle.chw_prims.specs.declared.prim.Primitive.{Primitive as Prim}
use Rattle.chw_prims.specs.declared.prim.Primitive.TheVariants.{VGet, VGetC, VAt}
use Rattle.chw_prims.specs.declared.row.Row.TheVariants.{Element}
use Rattle.chw_prims.specs.Schemas.{row_of, row_type}
use Rattle.chw_terms.specs.declared.rule.Rule.TheVariants.{Elem}
use Rattle.chw_terms.specs.declared.scene.Mode.TheVariants.{K}
use Rattle.chw_terms.specs.declared.term.Arg.{Arg}
use Rattle.chw_terms.specs.declared.term.Arg.TheVariants.{OfTerm}
use Rattle.chw_terms.specs.Evaluated.{evaluated, added}
use Rattle.chw_terms.specs.TermTree.{TermTree, prim, lit, vec_lit, Terms, no_terms, term_and}
use Rattle.chw_terms.specs.TermView.{applied}
use Rattle.chw_terms.specs.Unrolled.{at_types, lengths_in, IsUpTo}
use Rattle.chw_typing.specs.Given.{types_then}
use Rattle.chw_typing.specs.Paths.{element_at}
use Rattle.chw_typing.specs.Scopes.{Setting}
use Rattle.chw_typing.specs.Typing.{HasType, h_lit, h_vec, HasTypeUpTo, count}
use Rattle.unroll_laws.proofs.Sized.{first_kind, later_kinds}
use Rattle.chw_typing.proofs.EvaluatedTypes.{same_evaluated}
use Rattle.chw_typing.proofs.Saturated.{prim_at_arguments}
use Rattle.chw_typing.proofs.TypedSpines.{head_typed}
use Rattle.normal_forms.specs.Blocked.{IsRowOnSignals}
use Rattle.rewriting.specs.Origins.{Origins, setting_at}
use Rattle.rewriting.specs.Primitives.{elem, elem_at}
use Rattle.rewriting.specs.Spots.{Spot, IsRowOnWords}
use Rattle.rest_places.specs.Rest.{IsRestPlace}
use Rattle.rest_places.specs.Spines.{param_kinds}
use Rattle.rest_places.proofs.Numbers.{closed_is_number}
use Rattle.rest_places.proofs.Sizes.{sizes_within}
use Rattle.rest_places.proofs.Steps.{no_core}

-- numerals that are the same
pub same_numerals : {t u : TypeTree} (m n : ℕ) → SameTypes t u → t ≡ nat_lit m → u ≡ nat_lit n → ended m ≡ ended n
unfolding natural_value is_natural
same_numerals m n (same_naturals {a = a} {b = b} p q r) e f =
    let none : ℕ → ℕ = λ x. 0 in
    ap (natural_value none) (sym e) ∙ one_value a b none (λ x. omega arith) p q r ∙ ap (natural_value none) f
same_numerals m n _ e f = absurd cc

-- the type of a written vector
pub vector_type : {s : Setting} {vars : List TypeTree} {u v : TypeTree} {es : Terms} → HasType s [] vars (vec_lit u es) v → v ≡ vector (nat_lit (count es)) u
vector_type (h_vec l have) = refl

-- it has as many elements as its length says, within the limit
written_count : {s : Setting} {vars : List TypeTree} {u n a : TypeTree} {es : Terms} (l : ℕ) → HasTypeUpTo s [] vars (vec_lit u es) (vector n a) → evaluated n ≡ nat_lit l → l ≤ VECTOR_LENGTH → count es ≡ l
written_count {u = u} {n = n} {es = es} l given is least =
    let parts = as_vector given.same in
    let long : vector parts.0 parts.1 ≡ vector (nat_lit (count es)) u = sym parts.2 ∙ vector_type given.has in
    let number : parts.0 ≡ nat_lit (count es) = cc in
    let same = same_numerals l (count es) (same_through (same_turned (same_evaluated n)) parts.3) is number in
    let small : VECTOR_LENGTH < greatest = omega arith in
    omega (arith, same, least, small)

element_there : (es : Terms) (j : ℕ) → j < count es → (e : TermTree) × (element_at es j ≡ Some e)
element_there no_terms j l = absurd (omega (arith, l))
element_there (term_and e es) zero l = (e, refl)
element_there (term_and e es) (suc j) l = element_there es j (omega (arith, l))

-- a sum of numbers within a limit
sum_within : (most m n k : ℕ) → most < greatest → nat_lit (ended (m + n)) ≡ nat_lit k → k ≤ most → m + n ≡ k
sum_within most m n k small is least = let same : ended (m + n) ≡ k = cc in omega (arith, same, small, least)

-- `vget @i @n @a` of a written vector
abbrev long : TypeTree
long = nat_sum (nat_sum (ty_var 2) (nat_lit 1)) (ty_var 1)

get_written : (o : Origins) (at : Spot) (p : Prim) (kind : Kind) (i n a u : TypeTree) (es : Terms) (more : List Arg) (t : TypeTree) → (p ≡ VGet) ⊎ (p ≡ VGetC) → row_of p ≡ Element kind → IsRestPlace o at (applied (applied (prim p) (types_then (i ∷ n ∷ a ∷ []) (vec_lit u es ∷ []))) more) t → ⊥
unfolding sub evaluated
get_written o at p kind i n a u es more t which is rest =
    let core = applied (prim p) (types_then (i ∷ n ∷ a ∷ []) (vec_lit u es ∷ [])) in
    let of = head_typed (setting_at o) [] at.vars core more t rest.has in
    let given = prim_at_arguments (setting_at o) [] at.vars p (Nat ∷ Nat ∷ kind ∷ []) (vector long (ty_var 0) ∷ []) (ty_var 0) (i ∷ n ∷ a ∷ []) (vec_lit u es ∷ []) of.0 rest.place.sound rest.place.vars (ap row_type is) refl refl of.1 in
    let kinds = subst (λ row. KindsOf o.program.datas (setting_at o).domains [] (trees_of (i ∷ n ∷ a ∷ [])) (param_kinds (row_type row))) (sym is) given.have in
    let within = sizes_within o at p (i ∷ n ∷ a ∷ []) (OfTerm (vec_lit u es) ∷ more) t ((λ h. subst IsRowOnSignals is h), (λ h. absurd (subst IsRowOnWords is h))) kinds rest in
    let short = subst (λ row. AllByRecursion (λ q. IsUpTo VECTOR_LENGTH (at_types (i ∷ n ∷ a ∷ []) q)) (lengths_in (row_type row))) is within.short in
    at_number (closed_is_number (setting_at o) i rest.place.sound (first_kind given.have)) (closed_is_number (setting_at o) n rest.place.sound (first_kind (later_kinds given.have))) short.0 given.args_given.0
  where
    at_number : (k : ℕ) × (evaluated i ≡ nat_lit k) → (k : ℕ) × (evaluated n ≡ nat_lit k) → IsUpTo VECTOR_LENGTH (at_types (i ∷ n ∷ a ∷ []) long) → HasTypeUpTo (setting_at o) [] at.vars (vec_lit u es) (vector (nat_sum (nat_sum i (nat_lit 1)) n) a) → ⊥
    at_number (j, e) (m, f) (l, number, least) given =
        let inner : added (evaluated i) (nat_lit 1) ≡ nat_lit (ended (j + 1)) = λ q. added (e q) (nat_lit 1) in
        let outer : nat_lit (ended (ended (j + 1) + m)) ≡ nat_lit l = sym (λ q. added (inner q) (f q)) ∙ number in
        let same : ended (ended (j + 1) + m) ≡ l = cc in
        let many = written_count l given number least in
        let small : VECTOR_LENGTH < greatest = omega arith in
        let within : j < count es = omega (arith, same, many, small, least) in
        let there = element_there es j within in
        no_core Elem (applied (prim p) (types_then (i ∷ n ∷ a ∷ []) (vec_lit u es ∷ []))) there.0 more (elem {e = there.0} which e (omega (arith, same, small, least)) there.1) rest

pub no_get_of_written : (o : Origins) (at : Spot) (p : Prim) (i n a u : TypeTree) (es : Terms) (more : List Arg) (t : TypeTree) → (p ≡ VGet) ⊎ (p ≡ VGetC) → IsRestPlace o at (applied (applied (prim p) (types_then (i ∷ n ∷ a ∷ []) (vec_lit u es ∷ []))) more) t → ⊥
no_get_of_written o at p i n a u es more t (inl is) rest = get_written o at p Val i n a u es more t (inl is) (ap row_of is) rest
no_get_of_written o at p i n a u es more t (inr is) rest = get_written o at p Cir i n a u es more t (inr is) (ap row_of is) rest

-- the sort of a literal
literal_sort : {s : Setting} {vars : List TypeTree} {r q : Scalar} {bits : List Bool} {w : TypeTree} → HasTypeUpTo s [] vars (lit r bits) (scalar q w) → r ≡ q
literal_sort {r = r} {q = q} {bits = bits} given =
    let parts = as_scalar given.same in
    let is : scalar q parts.0 ≡ scalar r (nat_lit (length bits)) = sym parts.1 ∙ literal_is given.has in
    cc
  where
    literal_is : {s : Setting} {vars : List TypeTree} {v : TypeTree} → HasType s [] vars (lit r bits) v → v ≡ scalar r (nat_lit (length bits))
    literal_is (h_lit l) = refl

-- in constants `vat @n @k @a` of a written vector by a literal
pub no_at_of_written : (o : Origins) (at : Spot) (n k a u : TypeTree) (es : Terms) (r : Scalar) (bits : List Bool) (more : List Arg) (t : TypeTree) → at.mode ≡ K → IsRestPlace o at (applied (applied (prim VAt) (types_then (n ∷ k ∷ a ∷ []) (vec_lit u es ∷ lit r bits ∷ []))) more) t → ⊥
unfolding sub evaluated
no_at_of_written o at n k a u es r bits more t constant rest =
    let core = applied (prim VAt) (types_then (n ∷ k ∷ a ∷ []) (vec_lit u es ∷ lit r bits ∷ [])) in
    let of = head_typed (setting_at o) [] at.vars core more t rest.has in
    let given = prim_at_arguments (setting_at o) [] at.vars VAt (Nat ∷ Nat ∷ Val ∷ []) (vector (nat_sum (ty_var 2) (nat_lit 1)) (ty_var 0) ∷ scalar U (ty_var 1) ∷ []) (ty_var 0) (n ∷ k ∷ a ∷ []) (vec_lit u es ∷ lit r bits ∷ []) of.0 rest.place.sound rest.place.vars refl refl refl of.1 in
    let within = sizes_within o at VAt (n ∷ k ∷ a ∷ []) (OfTerm (vec_lit u es) ∷ OfTerm (lit r bits) ∷ more) t ((λ h. h), (λ h. absurd h)) given.have rest in
    at_number (closed_is_number (setting_at o) n rest.place.sound (first_kind given.have)) within.short.0 given.args_given.0 (literal_sort given.args_given.1.0)
  where
    at_number : (m : ℕ) × (evaluated n ≡ nat_lit m) → IsUpTo VECTOR_LENGTH (at_types (n ∷ k ∷ a ∷ []) (nat_sum (ty_var 2) (nat_lit 1))) → HasTypeUpTo (setting_at o) [] at.vars (vec_lit u es) (vector (nat_sum n (nat_lit 1)) a) → r ≡ U → ⊥
    at_number (m, e) (l, number, least) given sort =
        let sum : nat_lit (ended (m + 1)) ≡ nat_lit l = sym (λ q. added (e q) (nat_lit 1)) ∙ number in
        let same : ended (m + 1) ≡ l = cc in
        let many = written_count l given number least in
        let small : VECTOR_LENGTH < greatest = omega arith in
        let within : min (number_of bits) m < count es = omega (arith, same, many, small, least) in
        let there = element_there es (min (number_of bits) m) within in
        no_core Elem (applied (prim VAt) (types_then (n ∷ k ∷ a ∷ []) (vec_lit u es ∷ lit U bits ∷ []))) there.0 more (elem_at {e = there.0} constant e (omega (arith, same, small, least)) there.1)
        (subst (λ r. IsRestPlace o at (applied (applied (prim VAt) (types_then (n ∷ k ∷ a ∷ []) (vec_lit u es ∷ lit r bits ∷ []))) more) t) sort rest)
