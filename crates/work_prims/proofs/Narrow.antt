-- The widths that a primitive's own type names are those that it takes and gives.
use Rattle.std.proofs.Common.{◌≡◌, ◌∙◌, sym, ap, refl, subst, arith, ℕ, ◌+◌, ◌≤◌, List, [], ◌∷◌, length, map, inl, inr, Some, None}
use Rattle.std.proofs.Math.Nat.{min-eq_left, min-eq_right, min-le_left}
use Rattle.std.proofs.lemmas.Bool.{cases_order}
use Rattle.std.proofs.lemmas.Option.{same_Some}
use Rattle.std.proofs.lemmas.List.Elements.{recursion_from_All, All-from_recursion}
use Rattle.std.specs.List.{AllByRecursion}
use Rattle.std.specs.Prelude.{slice_index}
use Rattle.chw_base.specs.declared.limits.TheConstants.{SCALAR_BITS}
use Rattle.chw_types.specs.Polynomials.{ended, greatest}
use Rattle.chw_types.specs.TypeMoves.{sub}
use Rattle.chw_types.specs.TypeTree.{TypeTree, ty_var, nat_lit, nat_sum}
use Rattle.chw_prims.specs.Schemas.{row_of, row_type, schema_type}
use Rattle.chw_prims.specs.declared.prim.Primitive.{Primitive as Prim}
use Rattle.chw_prims.specs.declared.row.Row.{Row}
use Rattle.chw_prims.specs.declared.row.Row.TheVariants.{Binary, WideSum, WideProduct, Unary, Shift, Compare, Extend, Truncate, Cut, Joined, Reduce, Packed, Unpacked}
use Rattle.chw_terms.specs.Evaluated.{evaluated, added}
use Rattle.chw_terms.specs.Unrolled.{at_types, widths_in, IsUpTo}
use Rattle.rewriting.specs.Spots.{asked_for}
use Rattle.prim_bits.specs.Widths.{argument_widths, result_width, TakesNumbers}

abbrev IsNarrow : List TypeTree → TypeTree → Type 0
IsNarrow types k = IsUpTo SCALAR_BITS (at_types types k)

-- the types are these naturals
abbrev AreNats : List TypeTree → List ℕ → Type 0
AreNats types nats = map evaluated types ≡ map (λ n. nat_lit n) nats

-- one, two or three of them as the type variables
only : (types : List TypeTree) (n : ℕ) → AreNats types (n ∷ []) → at_types types (ty_var 0) ≡ nat_lit n
unfolding sub
only (t ∷ []) n q = cc
only [] n q = absurd cc
only (t ∷ u ∷ ts) n q = absurd cc

first : (types : List TypeTree) (n m : ℕ) → AreNats types (n ∷ m ∷ []) → at_types types (ty_var 1) ≡ nat_lit n
unfolding sub
first (t ∷ u ∷ []) n m q = cc
first [] n m q = absurd cc
first (t ∷ []) n m q = absurd cc
first (t ∷ u ∷ v ∷ ts) n m q = absurd cc

second : (types : List TypeTree) (n m : ℕ) → AreNats types (n ∷ m ∷ []) → at_types types (ty_var 0) ≡ nat_lit m
unfolding sub
second (t ∷ u ∷ []) n m q = cc
second [] n m q = absurd cc
second (t ∷ []) n m q = absurd cc
second (t ∷ u ∷ v ∷ ts) n m q = absurd cc

record AreThree (types : List TypeTree) (l n u : ℕ) : Type 0 where
  low : at_types types (ty_var 2) ≡ nat_lit l
  middle : at_types types (ty_var 1) ≡ nat_lit n
  high : at_types types (ty_var 0) ≡ nat_lit u

three : (types : List TypeTree) (l n u : ℕ) → AreNats types (l ∷ n ∷ u ∷ []) → AreThree types l n u
unfolding sub
three (t ∷ v ∷ w ∷ []) l n u q = record { low = cc; middle = cc; high = cc }
three [] l n u q = absurd cc
three (t ∷ []) l n u q = absurd cc
three (t ∷ v ∷ []) l n u q = absurd cc
three (t ∷ v ∷ w ∷ x ∷ ts) l n u q = absurd cc

-- numerals and their sums, as far as the limit
same_numeral : (m n : ℕ) → nat_lit m ≡ nat_lit n → m ≡ n
same_numeral m n q = cc

up : (types : List TypeTree) (k : TypeTree) {n : ℕ} → at_types types k ≡ nat_lit n → n ≤ 128 → IsNarrow types k
up types k {n = n} q l = (n, q, l)

down : (types : List TypeTree) (k : TypeTree) {n : ℕ} → at_types types k ≡ nat_lit n → IsNarrow types k → n ≤ 128
down types k {n = n} q w = let e = same_numeral n w.0 (sym q ∙ w.1) in let l : w.0 ≤ 128 = w.2 in omega (arith, e, l)

sum_is : (types : List TypeTree) (j k : TypeTree) {m n : ℕ} → at_types types j ≡ nat_lit m → at_types types k ≡ nat_lit n → at_types types (nat_sum j k) ≡ nat_lit (ended (m + n))
unfolding sub evaluated
sum_is types j k q r = λ i. added (q i) (r i)

literal_is : (types : List TypeTree) (n : ℕ) → at_types types (nat_lit n) ≡ nat_lit n
unfolding sub evaluated
literal_is types n = refl

ended_up : (n : ℕ) → n ≤ 128 → ended n ≤ 128
ended_up n l = let less = min-le_left n greatest in omega (arith, l, less)

ended_down : (n : ℕ) → ended n ≤ 128 → n ≤ 128
ended_down n l = elim (cases_order n greatest) [
  | inl q ↦ subst (λ k. k ≤ 128) (min-eq_left (omega (arith, q))) l
  | inr w ↦ elim w [
    | inl k ↦ subst (λ k. k ≤ 128) (min-eq_left (omega (arith, k))) l
    | inr k ↦ let most : 4294967295 ≤ 128 = subst (λ k. k ≤ 128) (min-eq_right (omega (arith, k))) l in absurd (omega (arith, most))
  ]
]

up_sum : (types : List TypeTree) (j k : TypeTree) {m n : ℕ} → at_types types j ≡ nat_lit m → at_types types k ≡ nat_lit n → m + n ≤ 128 → IsNarrow types (nat_sum j k)
up_sum types j k {m = m} {n = n} q r l = up types (nat_sum j k) (sum_is types j k q r) (ended_up (m + n) l)

down_sum : (types : List TypeTree) (j k : TypeTree) {m n : ℕ} → at_types types j ≡ nat_lit m → at_types types k ≡ nat_lit n → IsNarrow types (nat_sum j k) → m + n ≤ 128
down_sum types j k {m = m} {n = n} q r w = ended_down (m + n) (down types (nat_sum j k) (sum_is types j k q r) w)

-- the middle bits of a word
up_cut : (types : List TypeTree) (l n u : ℕ) → AreThree types l n u → u + n + l ≤ 128 → IsNarrow types (nat_sum (nat_sum (ty_var 0) (ty_var 1)) (ty_var 2))
up_cut types l n u h r =
    let inner = sum_is types (ty_var 0) (ty_var 1) h.high h.middle in
    up_sum types (nat_sum (ty_var 0) (ty_var 1)) (ty_var 2) inner h.low (omega (arith, r))

down_cut : (types : List TypeTree) (l n u : ℕ) → AreThree types l n u → IsNarrow types (nat_sum (nat_sum (ty_var 0) (ty_var 1)) (ty_var 2)) → u + n + l ≤ 128
down_cut types l n u h w =
    let inner = sum_is types (ty_var 0) (ty_var 1) h.high h.middle in
    let r = down_sum types (nat_sum (ty_var 0) (ty_var 1)) (ty_var 2) inner h.low w in
    omega (arith, r)

nothing_taken : {widths : List ℕ} → None ≡ Some widths → ⊥
nothing_taken s = cc

-- what is narrow enough for its arguments and its result has narrow enough widths in its type
narrow_up : (row : Row) (types : List TypeTree) (nats widths : List ℕ) → AreNats types nats → argument_widths row nats ≡ Some widths → AllByRecursion (λ w. w ≤ 128) widths → result_width row (slice_index nats 0) (slice_index nats 1) ≤ 128 → AllByRecursion (IsNarrow types) (widths_in (row_type row))
narrow_up (Binary x) types (n ∷ []) widths q s a r =
    let e : n ∷ n ∷ [] ≡ widths = same_Some _ _ s in
    let w = subst (AllByRecursion (λ w. w ≤ 128)) (sym e) a in
    (up types (ty_var 0) (only types n q) w.0, (up types (ty_var 0) (only types n q) w.0, (up types (ty_var 0) (only types n q) w.0, tt)))
narrow_up (WideSum x) types (n ∷ []) widths q s a r =
    let e : n ∷ n ∷ [] ≡ widths = same_Some _ _ s in
    let w = subst (AllByRecursion (λ w. w ≤ 128)) (sym e) a in
    (up types (ty_var 0) (only types n q) w.0, (up types (ty_var 0) (only types n q) w.0, (up_sum types (ty_var 0) (nat_lit 1) (only types n q) (literal_is types 1) r, tt)))
narrow_up (WideProduct x) types (n ∷ m ∷ []) widths q s a r =
    let e : n ∷ m ∷ [] ≡ widths = same_Some _ _ s in
    let w = subst (AllByRecursion (λ w. w ≤ 128)) (sym e) a in
    (up types (ty_var 1) (first types n m q) w.0, (up types (ty_var 0) (second types n m q) w.1.0, (up_sum types (ty_var 1) (ty_var 0) (first types n m q) (second types n m q) r, tt)))
narrow_up (Unary x) types (n ∷ []) widths q s a r =
    let e : n ∷ [] ≡ widths = same_Some _ _ s in
    let w = subst (AllByRecursion (λ w. w ≤ 128)) (sym e) a in
    (up types (ty_var 0) (only types n q) w.0, (up types (ty_var 0) (only types n q) w.0, tt))
narrow_up (Shift x) types (n ∷ m ∷ []) widths q s a r =
    let e : n ∷ m ∷ [] ≡ widths = same_Some _ _ s in
    let w = subst (AllByRecursion (λ w. w ≤ 128)) (sym e) a in
    (up types (ty_var 1) (first types n m q) w.0, (up types (ty_var 0) (second types n m q) w.1.0, (up types (ty_var 1) (first types n m q) w.0, tt)))
narrow_up (Compare x) types (n ∷ []) widths q s a r =
    let e : n ∷ n ∷ [] ≡ widths = same_Some _ _ s in
    let w = subst (AllByRecursion (λ w. w ≤ 128)) (sym e) a in
    (up types (ty_var 0) (only types n q) w.0, (up types (ty_var 0) (only types n q) w.0, tt))
narrow_up (Extend x) types (n ∷ m ∷ []) widths q s a r =
    let e : n ∷ [] ≡ widths = same_Some _ _ s in
    let w = subst (AllByRecursion (λ w. w ≤ 128)) (sym e) a in
    (up types (ty_var 1) (first types n m q) w.0, (up_sum types (ty_var 1) (ty_var 0) (first types n m q) (second types n m q) r, tt))
narrow_up (Truncate x) types (n ∷ m ∷ []) widths q s a r =
    let e : (n + m) ∷ [] ≡ widths = same_Some _ _ s in
    let w = subst (AllByRecursion (λ w. w ≤ 128)) (sym e) a in
    (up_sum types (ty_var 1) (ty_var 0) (first types n m q) (second types n m q) w.0, (up types (ty_var 1) (first types n m q) r, tt))
narrow_up Cut types (l ∷ n ∷ u ∷ []) widths q s a r =
    let e : (u + n + l) ∷ [] ≡ widths = same_Some _ _ s in
    let w = subst (AllByRecursion (λ w. w ≤ 128)) (sym e) a in
    (up_cut types l n u (three types l n u q) w.0, (up types (ty_var 1) ((three types l n u q).middle) r, tt))
narrow_up Joined types (n ∷ m ∷ []) widths q s a r =
    let e : n ∷ m ∷ [] ≡ widths = same_Some _ _ s in
    let w = subst (AllByRecursion (λ w. w ≤ 128)) (sym e) a in
    (up types (ty_var 1) (first types n m q) w.0, (up types (ty_var 0) (second types n m q) w.1.0, (up_sum types (ty_var 1) (ty_var 0) (first types n m q) (second types n m q) r, tt)))
narrow_up Reduce types (n ∷ []) widths q s a r =
    let e : n ∷ [] ≡ widths = same_Some _ _ s in
    let w = subst (AllByRecursion (λ w. w ≤ 128)) (sym e) a in
    (up types (ty_var 0) (only types n q) w.0, tt)
narrow_up (Packed x) types (n ∷ []) widths q s a r =
    let e : n ∷ [] ≡ widths = same_Some _ _ s in
    let w = subst (AllByRecursion (λ w. w ≤ 128)) (sym e) a in
    (up types (ty_var 0) (only types n q) w.0, (up types (ty_var 0) (only types n q) w.0, tt))
narrow_up (Unpacked x) types (n ∷ []) widths q s a r =
    let e : n ∷ [] ≡ widths = same_Some _ _ s in
    let w = subst (AllByRecursion (λ w. w ≤ 128)) (sym e) a in
    (up types (ty_var 0) (only types n q) w.0, (up types (ty_var 0) (only types n q) w.0, tt))
narrow_up _ types _ widths q s a r = absurd (nothing_taken s)

-- and the other way round
pub record HasNarrow (row : Row) (nats widths : List ℕ) : Type 0 where
  pub each : AllByRecursion (λ w. w ≤ 128) widths
  pub result : result_width row (slice_index nats 0) (slice_index nats 1) ≤ 128

narrow_down : (row : Row) (types : List TypeTree) (nats widths : List ℕ) → AreNats types nats → argument_widths row nats ≡ Some widths → AllByRecursion (IsNarrow types) (widths_in (row_type row)) → HasNarrow row nats widths
narrow_down (Binary x) types (n ∷ []) widths q s a =
    let e : n ∷ n ∷ [] ≡ widths = same_Some _ _ s in
    record { each = subst (AllByRecursion (λ w. w ≤ 128)) e (down types (ty_var 0) (only types n q) a.0, (down types (ty_var 0) (only types n q) a.0, tt)); result = down types (ty_var 0) (only types n q) a.0 }
narrow_down (WideSum x) types (n ∷ []) widths q s a =
    let e : n ∷ n ∷ [] ≡ widths = same_Some _ _ s in
    record { each = subst (AllByRecursion (λ w. w ≤ 128)) e (down types (ty_var 0) (only types n q) a.0, (down types (ty_var 0) (only types n q) a.0, tt)); result = down_sum types (ty_var 0) (nat_lit 1) (only types n q) (literal_is types 1) a.1.1.0 }
narrow_down (WideProduct x) types (n ∷ m ∷ []) widths q s a =
    let e : n ∷ m ∷ [] ≡ widths = same_Some _ _ s in
    record { each = subst (AllByRecursion (λ w. w ≤ 128)) e (down types (ty_var 1) (first types n m q) a.0, (down types (ty_var 0) (second types n m q) a.1.0, tt)); result = down_sum types (ty_var 1) (ty_var 0) (first types n m q) (second types n m q) a.1.1.0 }
narrow_down (Unary x) types (n ∷ []) widths q s a =
    let e : n ∷ [] ≡ widths = same_Some _ _ s in
    record { each = subst (AllByRecursion (λ w. w ≤ 128)) e (down types (ty_var 0) (only types n q) a.0, tt); result = down types (ty_var 0) (only types n q) a.0 }
narrow_down (Shift x) types (n ∷ m ∷ []) widths q s a =
    let e : n ∷ m ∷ [] ≡ widths = same_Some _ _ s in
    record { each = subst (AllByRecursion (λ w. w ≤ 128)) e (down types (ty_var 1) (first types n m q) a.0, (down types (ty_var 0) (second types n m q) a.1.0, tt)); result = down types (ty_var 1) (first types n m q) a.0 }
narrow_down (Compare x) types (n ∷ []) widths q s a =
    let e : n ∷ n ∷ [] ≡ widths = same_Some _ _ s in
    record { each = subst (AllByRecursion (λ w. w ≤ 128)) e (down types (ty_var 0) (only types n q) a.0, (down types (ty_var 0) (only types n q) a.0, tt)); result = omega arith }
narrow_down (Extend x) types (n ∷ m ∷ []) widths q s a =
    let e : n ∷ [] ≡ widths = same_Some _ _ s in
    record { each = subst (AllByRecursion (λ w. w ≤ 128)) e (down types (ty_var 1) (first types n m q) a.0, tt); result = down_sum types (ty_var 1) (ty_var 0) (first types n m q) (second types n m q) a.1.0 }
narrow_down (Truncate x) types (n ∷ m ∷ []) widths q s a =
    let e : (n + m) ∷ [] ≡ widths = same_Some _ _ s in
    record { each = subst (AllByRecursion (λ w. w ≤ 128)) e (down_sum types (ty_var 1) (ty_var 0) (first types n m q) (second types n m q) a.0, tt); result = down types (ty_var 1) (first types n m q) a.1.0 }
narrow_down Cut types (l ∷ n ∷ u ∷ []) widths q s a =
    let e : (u + n + l) ∷ [] ≡ widths = same_Some _ _ s in
    record { each = subst (AllByRecursion (λ w. w ≤ 128)) e (down_cut types l n u (three types l n u q) a.0, tt); result = down types (ty_var 1) ((three types l n u q).middle) a.1.0 }
narrow_down Joined types (n ∷ m ∷ []) widths q s a =
    let e : n ∷ m ∷ [] ≡ widths = same_Some _ _ s in
    record { each = subst (AllByRecursion (λ w. w ≤ 128)) e (down types (ty_var 1) (first types n m q) a.0, (down types (ty_var 0) (second types n m q) a.1.0, tt)); result = down_sum types (ty_var 1) (ty_var 0) (first types n m q) (second types n m q) a.1.1.0 }
narrow_down Reduce types (n ∷ []) widths q s a =
    let e : n ∷ [] ≡ widths = same_Some _ _ s in
    record { each = subst (AllByRecursion (λ w. w ≤ 128)) e (down types (ty_var 0) (only types n q) a.0, tt); result = omega arith }
narrow_down (Packed x) types (n ∷ []) widths q s a =
    let e : n ∷ [] ≡ widths = same_Some _ _ s in
    record { each = subst (AllByRecursion (λ w. w ≤ 128)) e (down types (ty_var 0) (only types n q) a.0, tt); result = down types (ty_var 0) (only types n q) a.0 }
narrow_down (Unpacked x) types (n ∷ []) widths q s a =
    let e : n ∷ [] ≡ widths = same_Some _ _ s in
    record { each = subst (AllByRecursion (λ w. w ≤ 128)) e (down types (ty_var 0) (only types n q) a.0, tt); result = down types (ty_var 0) (only types n q) a.0 }
narrow_down _ types _ widths q s a = absurd (nothing_taken s)

-- as many types and words as the type asks for
counted : (row : Row) (nats widths : List ℕ) → argument_widths row nats ≡ Some widths → length nats + length widths ≡ asked_for (row_type row)
counted (Binary x) (n ∷ []) widths s = let e : n ∷ n ∷ [] ≡ widths = same_Some _ _ s in ap (λ ws. 1 + length ws) (sym e)
counted (WideSum x) (n ∷ []) widths s = let e : n ∷ n ∷ [] ≡ widths = same_Some _ _ s in ap (λ ws. 1 + length ws) (sym e)
counted (WideProduct x) (n ∷ m ∷ []) widths s = let e : n ∷ m ∷ [] ≡ widths = same_Some _ _ s in ap (λ ws. 2 + length ws) (sym e)
counted (Unary x) (n ∷ []) widths s = let e : n ∷ [] ≡ widths = same_Some _ _ s in ap (λ ws. 1 + length ws) (sym e)
counted (Shift x) (n ∷ m ∷ []) widths s = let e : n ∷ m ∷ [] ≡ widths = same_Some _ _ s in ap (λ ws. 2 + length ws) (sym e)
counted (Compare x) (n ∷ []) widths s = let e : n ∷ n ∷ [] ≡ widths = same_Some _ _ s in ap (λ ws. 1 + length ws) (sym e)
counted (Extend x) (n ∷ m ∷ []) widths s = let e : n ∷ [] ≡ widths = same_Some _ _ s in ap (λ ws. 2 + length ws) (sym e)
counted (Truncate x) (n ∷ m ∷ []) widths s = let e : (n + m) ∷ [] ≡ widths = same_Some _ _ s in ap (λ ws. 2 + length ws) (sym e)
counted Cut (l ∷ n ∷ u ∷ []) widths s = let e : (u + n + l) ∷ [] ≡ widths = same_Some _ _ s in ap (λ ws. 3 + length ws) (sym e)
counted Joined (n ∷ m ∷ []) widths s = let e : n ∷ m ∷ [] ≡ widths = same_Some _ _ s in ap (λ ws. 2 + length ws) (sym e)
counted Reduce (n ∷ []) widths s = let e : n ∷ [] ≡ widths = same_Some _ _ s in ap (λ ws. 1 + length ws) (sym e)
counted (Packed x) (n ∷ []) widths s = let e : n ∷ [] ≡ widths = same_Some _ _ s in ap (λ ws. 1 + length ws) (sym e)
counted (Unpacked x) (n ∷ []) widths s = let e : n ∷ [] ≡ widths = same_Some _ _ s in ap (λ ws. 1 + length ws) (sym e)
counted _ _ widths s = absurd (nothing_taken s)

-- a primitive that takes numbers' words has its widths within the limits
pub narrow_given : (p : Prim) (types : List TypeTree) (nats widths : List ℕ) → AreNats types nats → TakesNumbers p nats widths → AllByRecursion (λ k. IsUpTo SCALAR_BITS (at_types types k)) (widths_in (schema_type p))
narrow_given p types nats widths q h =
    narrow_up (row_of p) types nats widths q h.0 (recursion_from_All (λ w. w ≤ 128) widths h.2) h.1

pub taken_narrow : (p : Prim) (types : List TypeTree) (nats widths : List ℕ) → AreNats types nats → argument_widths (row_of p) nats ≡ Some widths → AllByRecursion (λ k. IsUpTo SCALAR_BITS (at_types types k)) (widths_in (schema_type p)) → TakesNumbers p nats widths
taken_narrow p types nats widths q s a =
    let h = narrow_down (row_of p) types nats widths q s a in
    (s, h.result, All-from_recursion (λ w. w ≤ 128) widths h.each)

pub whole_given : (p : Prim) (nats widths : List ℕ) → argument_widths (row_of p) nats ≡ Some widths → length nats + length widths ≡ asked_for (schema_type p)
whole_given p nats widths s = counted (row_of p) nats widths s
