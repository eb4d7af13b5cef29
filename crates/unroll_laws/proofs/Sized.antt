-- The type arguments that a body is for: numerals where it asks for numbers.
use Rattle.std.proofs.Common.{◌≡◌, ℕ, ◌+◌, ◌*◌, ◌≤◌, refl, sym, ap, ◌∙◌, subst, List, [], ◌∷◌, map, arith}
use Rattle.std.specs.Prelude.{Some}
use Rattle.chw_base.specs.declared.limits.TheConstants.{SCALAR_BITS}
use Rattle.chw_types.specs.declared.kind.Kind.{Kind}
use Rattle.chw_types.specs.declared.declarations.Data.{Data}
use Rattle.chw_types.specs.TypeTree.{TypeTree, nat_lit, nat_sum, nat_product, TypeTrees, type_and}
use Rattle.chw_types.specs.Kinds.{degree, IsOfTerms, KindOf, kind_var, kind_nat, kind_sum, kind_product, kind_domain, kind_scalar, kind_vector, kind_data, kind_fun, kind_signal, kind_for_all, KindsOf, kind_and}
use Rattle.chw_types.specs.SameTypes.{SameTypes, same_sum, same_product}
use Rattle.chw_types.proofs.SameLaws.{same_self, same_turned, same_through}
use Rattle.chw_terms.specs.TermTree.{TermTree}
use Rattle.chw_terms.specs.Evaluated.{evaluated}
use Rattle.chw_terms.specs.Unrolled.{sized_1, sized_2, sized_3, twice_sized, IsUpTo}
use Rattle.chw_typing.specs.HeadTypes.{widest}
use Rattle.chw_typing.proofs.EvaluatedTypes.{same_evaluated, degree_evaluated}
use Rattle.unroll_laws.proofs.Elements.{sum_same, product_same}

-- a type whose value is this numeral
abbrev pub IsNumber : TypeTree → ℕ → Type 0
IsNumber t n = evaluated t ≡ nat_lit n

-- a number and one type, for which the body is this
pub data Sized1 (f : ℕ → TypeTree → TermTree) : List TypeTree → TermTree → Type 0 where
  is_sized_1 : {size a : TypeTree} (n : ℕ) → IsNumber size n → Sized1 f (size ∷ a ∷ []) (f n (evaluated a))

pub sized_view_1 : (f : ℕ → TypeTree → TermTree) (types : List TypeTree) (body : TermTree) → sized_1 (map evaluated types) f ≡ Some body → Sized1 f types body
sized_view_1 f [] body e = absurd (cc)
sized_view_1 f (size ∷ types) body e = by (evaluated size) types refl e
  where
    by : (t : TypeTree) (types : List TypeTree) → evaluated size ≡ t → sized_1 (t ∷ map evaluated types) f ≡ Some body → Sized1 f (size ∷ types) body
    by (nat_lit n) (a ∷ []) is e = let g : f n (evaluated a) ≡ body = cc in subst (Sized1 f (size ∷ a ∷ [])) g (is_sized_1 n is)
    by _ _ is e = absurd (cc)

-- a number and two types
pub data Sized2 (f : ℕ → TypeTree → TypeTree → TermTree) : List TypeTree → TermTree → Type 0 where
  is_sized_2 : {size a b : TypeTree} (n : ℕ) → IsNumber size n → Sized2 f (size ∷ a ∷ b ∷ []) (f n (evaluated a) (evaluated b))

pub sized_view_2 : (f : ℕ → TypeTree → TypeTree → TermTree) (types : List TypeTree) (body : TermTree) → sized_2 (map evaluated types) f ≡ Some body → Sized2 f types body
sized_view_2 f [] body e = absurd (cc)
sized_view_2 f (size ∷ types) body e = by (evaluated size) types refl e
  where
    by : (t : TypeTree) (types : List TypeTree) → evaluated size ≡ t → sized_2 (t ∷ map evaluated types) f ≡ Some body → Sized2 f (size ∷ types) body
    by (nat_lit n) (a ∷ b ∷ []) is e = let g : f n (evaluated a) (evaluated b) ≡ body = cc in subst (Sized2 f (size ∷ a ∷ b ∷ [])) g (is_sized_2 n is)
    by _ _ is e = absurd (cc)

-- a number and three types
pub data Sized3 (f : ℕ → TypeTree → TypeTree → TypeTree → TermTree) : List TypeTree → TermTree → Type 0 where
  is_sized_3 : {size a b c : TypeTree} (n : ℕ) → IsNumber size n → Sized3 f (size ∷ a ∷ b ∷ c ∷ []) (f n (evaluated a) (evaluated b) (evaluated c))

pub sized_view_3 : (f : ℕ → TypeTree → TypeTree → TypeTree → TermTree) (types : List TypeTree) (body : TermTree) → sized_3 (map evaluated types) f ≡ Some body → Sized3 f types body
sized_view_3 f [] body e = absurd (cc)
sized_view_3 f (size ∷ types) body e = by (evaluated size) types refl e
  where
    by : (t : TypeTree) (types : List TypeTree) → evaluated size ≡ t → sized_3 (t ∷ map evaluated types) f ≡ Some body → Sized3 f (size ∷ types) body
    by (nat_lit n) (a ∷ b ∷ c ∷ []) is e = let g : f n (evaluated a) (evaluated b) (evaluated c) ≡ body = cc in subst (Sized3 f (size ∷ a ∷ b ∷ c ∷ [])) g (is_sized_3 n is)
    by _ _ is e = absurd (cc)

-- two numbers and a type
pub data TwiceSized (f : ℕ → ℕ → TypeTree → TermTree) : List TypeTree → TermTree → Type 0 where
  is_twice_sized : {size other a : TypeTree} (n m : ℕ) → IsNumber size n → IsNumber other m → TwiceSized f (size ∷ other ∷ a ∷ []) (f n m (evaluated a))

pub twice_sized_view : (f : ℕ → ℕ → TypeTree → TermTree) (types : List TypeTree) (body : TermTree) → twice_sized (map evaluated types) f ≡ Some body → TwiceSized f types body
twice_sized_view f [] body e = absurd (cc)
twice_sized_view f (size ∷ []) body e = by (evaluated size) e
  where
    by : (t : TypeTree) → twice_sized (t ∷ []) f ≡ Some body → TwiceSized f (size ∷ []) body
    by (nat_lit n) e = absurd (cc)
    by _ e = absurd (cc)
twice_sized_view f (size ∷ other ∷ types) body e = by (evaluated size) (evaluated other) types refl refl e
  where
    by : (t u : TypeTree) (types : List TypeTree) → evaluated size ≡ t → evaluated other ≡ u → twice_sized (t ∷ u ∷ map evaluated types) f ≡ Some body → TwiceSized f (size ∷ other ∷ types) body
    by (nat_lit n) (nat_lit m) (a ∷ []) is at e = let g : f n m (evaluated a) ≡ body = cc in subst (TwiceSized f (size ∷ other ∷ a ∷ [])) g (is_twice_sized n m is at)
    by _ _ _ is at e = absurd (cc)

-- what is known of each type argument
pub number_small : (t : TypeTree) (n : ℕ) → IsNumber t n → degree t ≤ 1
number_small t n e = subst (λ d. d ≤ 1) (sym (ap degree e) ∙ degree_evaluated t) (omega arith)

pub term_small : {datas : List Data} {domains : ℕ} {scope : List Kind} {t : TypeTree} {k : Kind} → KindOf datas domains scope t k → IsOfTerms k → degree t ≤ 1
term_small (kind_var e) o = omega arith
term_small kind_nat o = absurd o
term_small (kind_sum d e small) o = absurd o
term_small (kind_product d e small) o = absurd o
term_small (kind_domain l) o = absurd o
term_small (kind_scalar d) o = omega arith
term_small (kind_vector d e q) o = omega arith
term_small (kind_data e ds) o = omega arith
term_small (kind_fun d e q) o = omega arith
term_small (kind_signal d e) o = omega arith
term_small (kind_for_all d q) o = omega arith

pub number_same : (t : TypeTree) (n : ℕ) → IsNumber t n → SameTypes (nat_lit n) (evaluated t)
number_same t n e = subst (SameTypes (nat_lit n)) (sym e) (same_self (nat_lit n))

pub first_kind : {datas : List Data} {domains : ℕ} {scope : List Kind} {t : TypeTree} {ts : TypeTrees} {k : Kind} {ks : List Kind} → KindsOf datas domains scope (type_and t ts) (k ∷ ks) → KindOf datas domains scope t k
first_kind (kind_and d ds) = d

pub later_kinds : {datas : List Data} {domains : ℕ} {scope : List Kind} {t : TypeTree} {ts : TypeTrees} {k : Kind} {ks : List Kind} → KindsOf datas domains scope (type_and t ts) (k ∷ ks) → KindsOf datas domains scope ts ks
later_kinds (kind_and d ds) = ds

-- a width within the limit is one that literals may have
pub width_fits : (t : TypeTree) (m : ℕ) → IsNumber t m → IsUpTo SCALAR_BITS (evaluated t) → m ≤ widest
width_fits t m e up = let is : up.0 ≡ m = one_number up.0 m (sym up.1 ∙ e) in subst (λ k. k ≤ widest) is up.2
  where
    one_number : (i j : ℕ) → nat_lit i ≡ nat_lit j → i ≡ j
    one_number i j e = cc

-- a sum or product of two numbers
pub sum_number : (t u : TypeTree) (m n : ℕ) → IsNumber t m → IsNumber u n → SameTypes (nat_lit (m + n)) (evaluated (nat_sum t u))
sum_number t u m n e f =
    same_through (same_turned (sum_same m n (m + n) refl))
    (same_through (same_sum (number_same t m e) (number_same u n f))
    (same_through (same_sum (same_turned (same_evaluated t)) (same_turned (same_evaluated u))) (same_evaluated (nat_sum t u))))

pub product_number : (t u : TypeTree) (m n : ℕ) → IsNumber t m → IsNumber u n → SameTypes (nat_lit (m * n)) (evaluated (nat_product t u))
product_number t u m n e f =
    same_through (same_turned (product_same m n))
    (same_through (same_product (number_same t m e) (number_same u n f))
    (same_through (same_product (same_turned (same_evaluated t)) (same_turned (same_evaluated u))) (same_evaluated (nat_product t u))))
