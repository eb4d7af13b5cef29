-- The widths of words, as closed naturals say them.
use Rattle.std.proofs.Common.{◌≡◌, ◌≤◌, ◌<◌, ◌+◌, ◌*◌, ◌^◌, ℕ, Bool, List, length, Some, refl, sym, ◌∙◌, subst, arith}
use Rattle.std.specs.Prelude.{slice_index}
use Rattle.std.proofs.Math.Nat.{min-eq_left}
use Rattle.chw_types.specs.Arguments.{list_of}
use Rattle.chw_types.specs.Polynomials.{ended, greatest}
use Rattle.chw_types.specs.SamePromises.{natural_value}
use Rattle.chw_types.specs.SameTypes.{SameTypes, same_naturals, same_sum, same_product, same_domain, same_scalar, same_vector, same_data, same_fun, same_signal, same_for_all}
use Rattle.chw_types.specs.TypeTree.{TypeTree, ty_var, nat_lit, nat_sum, nat_product, domain, scalar, vector, data_of, fun, signal, for_all, TypeTrees, no_types, type_and}
use Rattle.chw_types.proofs.SameLaws.{one_value}
use Rattle.chw_prims.specs.declared.prim.Primitive.{Primitive as Prim}
use Rattle.chw_prims.specs.declared.row.Row.{Row}
use Rattle.chw_prims.specs.Schemas.{row_of}
use Rattle.prim_bits.specs.Values.{value_of as word_value}
use Rattle.prim_bits.specs.Widths.{result_width}
use Rattle.prim_bits.proofs.ResultWidths.{width_of_value}
use Rattle.prim_bits.proofs.Taken.{taken_from_value}
use Rattle.chw_layout.specs.Measured.{closed_value}
use Rattle.chw_meaning.specs.Values.{closed_type}
use Rattle.chw_meaning.specs.Steps.{naturals}
use Rattle.chw_typing.specs.HeadTypes.{widest}

-- types that are the same have one value as naturals
same_value : (ρ : ℕ → ℕ) → ((x : ℕ) → ρ x ≤ greatest) → {t u : TypeTree} → SameTypes t u → natural_value ρ t ≡ natural_value ρ u
unfolding natural_value
same_value ρ small (same_naturals {a = a} {b = b} n m p) = one_value a b ρ small n m p
same_value ρ small (same_sum h g) = λ i. ended (same_value ρ small h i + same_value ρ small g i)
same_value ρ small (same_product h g) = λ i. ended (same_value ρ small h i * same_value ρ small g i)
same_value ρ small same_domain = refl
same_value ρ small (same_scalar h) = refl
same_value ρ small (same_vector h g) = refl
same_value ρ small (same_data h) = refl
same_value ρ small (same_fun h g) = refl
same_value ρ small (same_signal h g) = refl
same_value ρ small (same_for_all h) = refl

pub same_number : {t u : TypeTree} → SameTypes t u → closed_value t ≡ closed_value u
same_number h = same_value (λ x. 0) (λ x. omega arith) h

-- no closed natural is over the greatest
pub closed_least : (t : TypeTree) → closed_value t ≤ greatest
unfolding natural_value
closed_least (ty_var x) = omega arith
closed_least (nat_lit n) = omega arith
closed_least (nat_sum a b) = omega arith
closed_least (nat_product a b) = at_most (natural_value (λ x. 0) a * natural_value (λ x. 0) b)
  where
    at_most : (n : ℕ) → ended n ≤ greatest
    at_most n = omega arith
closed_least (domain d) = omega arith
closed_least (scalar s w) = omega arith
closed_least (vector n t) = omega arith
closed_least (data_of d ts) = omega arith
closed_least (fun a b) = omega arith
closed_least (signal d t) = omega arith
closed_least (for_all k t) = omega arith

-- a numeral's own value
pub number_itself : (n : ℕ) → n ≤ greatest → n ≡ closed_value (nat_lit n)
unfolding natural_value
number_itself n least = sym (min-eq_left least)

pub width_itself : (n : ℕ) → n ≤ widest → n ≡ closed_value (nat_lit n)
width_itself n small = number_itself n (omega (arith, small))

-- the result of a line of primitives on words is as wide as this type says, in an environment of
-- its closed types
abbrev pub WideAt : Row → TypeTree → TypeTrees → Type 0
WideAt row w ts =
    result_width row (slice_index (naturals ts) 0) (slice_index (naturals ts) 1) < 2 ^ 32
    → result_width row (slice_index (naturals ts) 0) (slice_index (naturals ts) 1) ≡ closed_value (closed_type w ts)

pub one_type : (G : TypeTrees → Type 0) → ((a : TypeTree) → G (type_and a no_types)) → (ts : TypeTrees) → length (list_of ts) ≡ 1 → G ts
one_type G f (type_and a no_types) size = f a
one_type G f no_types size = cc
one_type G f (type_and b (type_and a ts)) size = absurd (let bad : ⊥ = omega (arith, size) in bad)

pub two_types : (G : TypeTrees → Type 0) → ((a b : TypeTree) → G (type_and b (type_and a no_types))) → (ts : TypeTrees) → length (list_of ts) ≡ 2 → G ts
two_types G f (type_and b (type_and a no_types)) size = f a b
two_types G f no_types size = cc
two_types G f (type_and b no_types) size = absurd (let bad : ⊥ = omega (arith, size) in bad)
two_types G f (type_and c (type_and b (type_and a ts))) size = absurd (let bad : ⊥ = omega (arith, size) in bad)

pub three_types : (G : TypeTrees → Type 0) → ((a b c : TypeTree) → G (type_and c (type_and b (type_and a no_types)))) → (ts : TypeTrees) → length (list_of ts) ≡ 3 → G ts
three_types G f (type_and c (type_and b (type_and a no_types))) size = f a b c
three_types G f no_types size = cc
three_types G f (type_and c no_types) size = absurd (let bad : ⊥ = omega (arith, size) in bad)
three_types G f (type_and c (type_and b no_types)) size = absurd (let bad : ⊥ = omega (arith, size) in bad)
three_types G f (type_and d (type_and c (type_and b (type_and a ts)))) size = absurd (let bad : ⊥ = omega (arith, size) in bad)

-- so is each value of the primitive
pub value_wide : (q : Prim) (row : Row) → row_of q ≡ row → (w : TypeTree) (ts : TypeTrees) → WideAt row w ts → (args : List (List Bool)) (b : List Bool) → word_value q (naturals ts) args ≡ Some b → length b ≡ closed_value (closed_type w ts)
value_wide q row e w ts wide args b v =
    let at = subst (λ r. WideAt r w ts) (sym e) wide in
    width_of_value q (naturals ts) args b v ∙ at (taken_from_value q (naturals ts) args b v).0.1
