-- The terms that bodies are made of: elements of a vector, indices, and vectors.
use Rattle.std.proofs.Common.{◌≡◌, ℕ, suc, zero, ◌+◌, ◌-◌, ◌*◌, ◌<◌, ◌≤◌, refl, sym, ap, ◌∙◌, subst, List, [], ◌∷◌, ◌++◌, map, length, arith}
use Rattle.std.specs.List.{range_with_len, AllByRecursion}
use Rattle.chw_bits.proofs.Numbers.{length-bits_of}
use Rattle.chw_types.specs.declared.kind.Kind.{Kind}
use Rattle.chw_types.specs.declared.kind.Kind.TheVariants.{Nat, Dom, Val, Cir}
use Rattle.chw_types.specs.declared.kind.Scalar.TheVariants.{U}
use Rattle.chw_types.specs.TypeTree.{TypeTree, ty_var, nat_lit, nat_sum, nat_product, scalar, vector, fun, for_all}
use Rattle.chw_types.specs.TypeMoves.{rename, up, sub, up_by, put_at}
use Rattle.chw_types.specs.Kinds.{IsOfTerms, HasFunctions, kind_var, kind_nat, kind_sum, kind_vector, kind_fun, kind_for_all}
use Rattle.chw_types.specs.Polynomials.{is_natural, multiplied, ended, SameNaturals}
use Rattle.chw_types.specs.SameTypes.{SameTypes, same_naturals, same_vector}
use Rattle.chw_types.proofs.SameLaws.{same_self, same_through}
use Rattle.chw_prims.specs.declared.prim.Primitive.{Primitive as Prim}
use Rattle.chw_prims.specs.Schemas.{schema_type}
use Rattle.chw_terms.specs.TermTree.{TermTree, ty_app, prim}
use Rattle.chw_terms.specs.TermView.{terms_of}
use Rattle.chw_terms.specs.Unrolled.{each, vec_of, get, element, index}
use Rattle.chw_typing.specs.Scopes.{Setting, HasKind, IsTermType}
use Rattle.chw_typing.specs.HeadTypes.{widest}
use Rattle.chw_typing.specs.Typing.{count, HasType, HasTypeUpTo, h_app, h_ty_app, h_prim, h_lit, h_vec, AllHave, none_have, have_and}

-- a function among the types of one kind of terms
pub same_functions : (k : Kind) → IsOfTerms k → HasFunctions k k
same_functions Val o = tt
same_functions Cir o = tt
same_functions Nat o = absurd o
same_functions Dom o = absurd o

-- sums and products of numerals
pub sum_same : (m n k : ℕ) → m + n ≡ k → SameTypes (nat_sum (nat_lit m) (nat_lit n)) (nat_lit k)
unfolding is_natural multiplied
sum_same m n k e = same_naturals refl refl here
  where
    at_one : (m n k : ℕ) → m + n ≡ k → ended (m + (n + 0)) ≡ ended (k + 0)
    at_one m n k e = omega arith

    here : SameNaturals (nat_sum (nat_lit m) (nat_lit n)) (nat_lit k)
    here [] = at_one m n k e
    here (x ∷ q) = refl

pub product_same : (m n : ℕ) → SameTypes (nat_product (nat_lit m) (nat_lit n)) (nat_lit (m * n))
unfolding is_natural multiplied
product_same m n = same_naturals refl refl here
  where
    here : SameNaturals (nat_product (nat_lit m) (nat_lit n)) (nat_lit (m * n))
    here [] = refl
    here (x ∷ q) = refl

pub sums_same : (l m n k : ℕ) → l + m + n ≡ k → SameTypes (nat_sum (nat_sum (nat_lit l) (nat_lit m)) (nat_lit n)) (nat_lit k)
unfolding is_natural multiplied
sums_same l m n k e = same_naturals refl refl here
  where
    at_one : (l m n k : ℕ) → l + m + n ≡ k → ended (l + (m + (n + 0))) ≡ ended (k + 0)
    at_one l m n k e = omega arith

    here : SameNaturals (nat_sum (nat_sum (nat_lit l) (nat_lit m)) (nat_lit n)) (nat_lit k)
    here [] = at_one l m n k e
    here (x ∷ q) = refl

-- the type of the primitive that gives an element, at a place, a number of later elements, and a type
abbrev got : TypeTree → TypeTree → TypeTree → TypeTree
got i n a = fun (vector (nat_sum (nat_sum i (nat_lit 1)) n) a) a

abbrev gets : Kind → TypeTree
gets k = for_all Nat (for_all Nat (for_all k (got (ty_var 2) (ty_var 1) (ty_var 0))))

get_is : (k : Kind) → IsOfTerms k → schema_type (get k) ≡ gets k
get_is Val o = refl
get_is Cir o = refl
get_is Nat o = absurd o
get_is Dom o = absurd o

got_typed : (s : Setting) (kinds : List Kind) (vars : List TypeTree) (k : Kind) (p : Prim) (j m : ℕ) (a : TypeTree) → IsOfTerms k → HasType s kinds vars (prim p) (gets k) → HasKind s kinds a k → HasType s kinds vars (ty_app (ty_app (ty_app (prim p) (nat_lit j)) (nat_lit m)) a) (got (nat_lit j) (nat_lit m) a)
unfolding put_at up_by up sub rename
got_typed s kinds vars k p j m a o d l =
    h_ty_app
    (h_ty_app
    (h_ty_app d kind_nat (same_self _)
    (kind_for_all (kind_for_all (kind_fun (kind_vector (kind_sum (kind_sum kind_nat kind_nat (omega arith)) (kind_var refl) (omega arith)) (kind_var refl) o) (kind_var refl) (same_functions k o)) o) o))
    kind_nat (same_self _)
    (kind_for_all (kind_fun (kind_vector (kind_sum (kind_sum kind_nat kind_nat (omega arith)) kind_nat (omega arith)) (kind_var refl) o) (kind_var refl) (same_functions k o)) o))
    l (same_self _)
    (kind_fun (kind_vector (kind_sum (kind_sum kind_nat kind_nat (omega arith)) kind_nat (omega arith)) l o) l (same_functions k o))

-- element j of a vector of n elements has their type
pub element_typed : (s : Setting) (kinds : List Kind) (vars : List TypeTree) (k : Kind) (n j : ℕ) (a c : TypeTree) (v : TermTree) → IsOfTerms k → HasKind s kinds a k → j < n → HasType s kinds vars v c → SameTypes (vector (nat_lit n) a) c → HasType s kinds vars (element k n a v j) a
element_typed s kinds vars k n j a c v o l small d x =
    h_app
    (got_typed s kinds vars k (get k) j (n - 1 - j) a o (subst (HasType s kinds vars (prim (get k))) (get_is k o) h_prim) l)
    d
    (same_through (same_vector (sums_same j 1 (n - 1 - j) n (omega arith)) (same_self a)) x)

-- a word of k bits
pub index_typed : (s : Setting) (kinds : List Kind) (vars : List TypeTree) (k j : ℕ) → k ≤ widest → HasType s kinds vars (index k j) (scalar U (nat_lit k))
index_typed s kinds vars k j l =
    subst (λ w. HasType s kinds vars (index k j) (scalar U (nat_lit w))) (length-bits_of k j)
    (h_lit (subst (λ w. w ≤ widest) (sym (length-bits_of k j)) l))

-- each of these terms has the type, up to naturals
abbrev pub AllTyped : Setting → List Kind → List TypeTree → TypeTree → List TermTree → Type 0
AllTyped s kinds vars t es = AllByRecursion (λ e. HasTypeUpTo s kinds vars e t) es

-- a term that has the type itself
pub has_itself : {s : Setting} {kinds : List Kind} {vars : List TypeTree} {e : TermTree} {t : TypeTree} → HasType s kinds vars e t → HasTypeUpTo s kinds vars e t
has_itself {t = t} d = record { type = t; has = d; same = same_self t }

-- a term for each of some places, each of which is below the end
pub typed_from : (s : Setting) (kinds : List Kind) (vars : List TypeTree) (t : TypeTree) (f : ℕ → TermTree) (from n : ℕ) → ((j : ℕ) → j < from + n → HasTypeUpTo s kinds vars (f j) t) → AllTyped s kinds vars t (map f (range_with_len from n))
typed_from s kinds vars t f from zero h = tt
typed_from s kinds vars t f from (suc n) h = (h from (omega arith), typed_from s kinds vars t f (from + 1) n (λ j l. h j (omega arith)))

pub typed_each : (s : Setting) (kinds : List Kind) (vars : List TypeTree) (t : TypeTree) (n : ℕ) (f : ℕ → TermTree) → ((j : ℕ) → j < n → HasTypeUpTo s kinds vars (f j) t) → AllTyped s kinds vars t (each n f)
typed_each s kinds vars t n f h = typed_from s kinds vars t f 0 n (λ j l. h j (omega arith))

pub typed_both : (s : Setting) (kinds : List Kind) (vars : List TypeTree) (t : TypeTree) (es fs : List TermTree) → AllTyped s kinds vars t es → AllTyped s kinds vars t fs → AllTyped s kinds vars t (es ++ fs)
typed_both s kinds vars t [] fs h g = g
typed_both s kinds vars t (e ∷ es) fs h g = (h.0, typed_both s kinds vars t es fs h.1 g)

pub length_each : (n : ℕ) (f : ℕ → TermTree) → length (each n f) ≡ n
length_each n f = from 0 n
  where
    from : (a n : ℕ) → length (map f (range_with_len a n)) ≡ n
    from a zero = refl
    from a (suc n) = ap suc (from (a + 1) n)

all_have : (s : Setting) (kinds : List Kind) (vars : List TypeTree) (t : TypeTree) (es : List TermTree) → AllTyped s kinds vars t es → AllHave s kinds vars t (terms_of es)
all_have s kinds vars t [] h = none_have
all_have s kinds vars t (e ∷ es) h = have_and h.0.has h.0.same (all_have s kinds vars t es h.1)

count_terms : (es : List TermTree) → count (terms_of es) ≡ length es
count_terms [] = refl
count_terms (e ∷ es) = ap suc (count_terms es)

-- a vector of as many elements
pub vector_typed : (s : Setting) (kinds : List Kind) (vars : List TypeTree) (t : TypeTree) (n : ℕ) (es : List TermTree) → IsTermType s kinds t → AllTyped s kinds vars t es → length es ≡ n → HasType s kinds vars (vec_of t es) (vector (nat_lit n) t)
vector_typed s kinds vars t n es l h e =
    subst (λ m. HasType s kinds vars (vec_of t es) (vector (nat_lit m) t)) (count_terms es ∙ e) (h_vec l (all_have s kinds vars t es h))

pub each_typed : (s : Setting) (kinds : List Kind) (vars : List TypeTree) (t : TypeTree) (n : ℕ) (f : ℕ → TermTree) → IsTermType s kinds t → ((j : ℕ) → j < n → HasTypeUpTo s kinds vars (f j) t) → HasType s kinds vars (vec_of t (each n f)) (vector (nat_lit n) t)
each_typed s kinds vars t n f l h = vector_typed s kinds vars t n (each n f) l (typed_each s kinds vars t n f h) (length_each n f)
