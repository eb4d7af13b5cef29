-- The tests find exactly what can be unrolled.
use Rattle.std.proofs.Common.{◌≡◌, ℕ, Bool, true, ◌&&◌, List, [], ◌∷◌, map, length, refl, ap, ◌∙◌}
use Rattle.std.specs.Prelude.{is_some, ◌==◌}
use Rattle.std.specs.List.{list_all, AllByRecursion}
use Rattle.std.proofs.lemmas.Bool.{and_parts, and_from, leb-true, le-leb, eqb-true, eq-eqb}
use Rattle.chw_base.specs.declared.limits.TheConstants.{SCALAR_BITS, VECTOR_LENGTH}
use Rattle.chw_types.specs.TypeTree.{TypeTree, nat_lit}
use Rattle.chw_prims.specs.Schemas.{row_of, schema_type}
use Rattle.chw_prims.specs.declared.prim.Primitive.{Primitive as Prim}
use Rattle.chw_prims.specs.declared.row.Row.{Row}
use Rattle.chw_prims.specs.declared.row.Row.TheVariants.{ElementAt, Replaced, Mapped, Zipped, FoldedLeft, FoldedRight, Generated, Replicated, Appended, Concatenated, Taken, Dropped, Reversed, Rotated}
use Rattle.chw_terms.specs.TermTree.{TermTree, var}
use Rattle.chw_terms.specs.Evaluated.{evaluated}
use Rattle.chw_terms.specs.Unrolled.{body_of, sized_1, sized_2, sized_3, twice_sized, parameters, at_types, lengths_in, widths_in, IsUpTo, CanUnroll}
use Rattle.prim_vec.specs.Tests.{is_up_to, can_unroll, shape_of, has_shape}

-- a numeral that passes the test is up to its limit, and one that is up to it passes
up_to_tells : (most : ℕ) (t : TypeTree) → is_up_to most t ≡ true → IsUpTo most t
up_to_tells most (nat_lit n) h = (n, refl, leb-true n most h)
up_to_tells most _ h = absurd (cc h)

up_to_told : (most : ℕ) (t : TypeTree) → IsUpTo most t → is_up_to most t ≡ true
up_to_told most t w = ap (is_up_to most) w.1 ∙ le-leb w.0 most w.2

-- the same of all of a list
all_tell : {X : Type 0} (test : X → Bool) (P : X → Type 0) → ((x : X) → test x ≡ true → P x) → (xs : List X) → list_all test xs ≡ true → AllByRecursion P xs
all_tell test P h [] e = tt
all_tell test P h (x ∷ xs) e = let w = and_parts (test x) (list_all test xs) e in (h x w.0, all_tell test P h xs w.1)

all_told : {X : Type 0} (test : X → Bool) (P : X → Type 0) → ((x : X) → P x → test x ≡ true) → (xs : List X) → AllByRecursion P xs → list_all test xs ≡ true
all_told test P h [] a = refl
all_told test P h (x ∷ xs) a = and_from (test x) (list_all test xs) (h x a.0) (all_told test P h xs a.1)

-- what passes the tests can be unrolled, and what can be unrolled passes them
pub tells : (p : Prim) (types : List TypeTree) (args : List TermTree) → can_unroll p types args ≡ true → CanUnroll p types args
tells p types args e =
    let whole = schema_type p in
    let body = is_some (body_of (row_of p) (map evaluated types)) in
    let count = length args == length (parameters whole) in
    let short = list_all (λ n. is_up_to VECTOR_LENGTH (at_types types n)) (lengths_in whole) in
    let narrow = list_all (λ k. is_up_to SCALAR_BITS (at_types types k)) (widths_in whole) in
    let v = and_parts body (count && (short && narrow)) e in
    let w = and_parts count (short && narrow) v.1 in
    let x = and_parts short narrow w.1 in
    record {
      on_types = v.0;
      on_terms = eqb-true (length args) (length (parameters whole)) w.0;
      short = all_tell (λ n. is_up_to VECTOR_LENGTH (at_types types n)) (λ n. IsUpTo VECTOR_LENGTH (at_types types n)) (λ n. up_to_tells VECTOR_LENGTH (at_types types n)) (lengths_in whole) x.0;
      narrow = all_tell (λ k. is_up_to SCALAR_BITS (at_types types k)) (λ k. IsUpTo SCALAR_BITS (at_types types k)) (λ k. up_to_tells SCALAR_BITS (at_types types k)) (widths_in whole) x.1;
    }

pub told : (p : Prim) (types : List TypeTree) (args : List TermTree) → CanUnroll p types args → can_unroll p types args ≡ true
told p types args c =
    let whole = schema_type p in
    let short = all_told (λ n. is_up_to VECTOR_LENGTH (at_types types n)) (λ n. IsUpTo VECTOR_LENGTH (at_types types n)) (λ n. up_to_told VECTOR_LENGTH (at_types types n)) (lengths_in whole) c.short in
    let narrow = all_told (λ k. is_up_to SCALAR_BITS (at_types types k)) (λ k. IsUpTo SCALAR_BITS (at_types types k)) (λ k. up_to_told SCALAR_BITS (at_types types k)) (widths_in whole) c.narrow in
    and_from _ _ c.on_types (and_from _ _ (eq-eqb (length args) (length (parameters whole)) c.on_terms) (and_from _ _ short narrow))

-- types of a shape are those at which a line has a body
one : (ts : List TypeTree) (f : ℕ → TypeTree → TermTree) → is_some (sized_1 ts (λ n a. var 0)) ≡ is_some (sized_1 ts f)
one (nat_lit n ∷ a ∷ []) f = refl
one _ f = refl

two : (ts : List TypeTree) (f : ℕ → TypeTree → TypeTree → TermTree) → is_some (sized_2 ts (λ n a b. var 0)) ≡ is_some (sized_2 ts f)
two (nat_lit n ∷ a ∷ b ∷ []) f = refl
two _ f = refl

three : (ts : List TypeTree) (f : ℕ → TypeTree → TypeTree → TypeTree → TermTree) → is_some (sized_3 ts (λ n a b c. var 0)) ≡ is_some (sized_3 ts f)
three (nat_lit n ∷ a ∷ b ∷ c ∷ []) f = refl
three _ f = refl

twice : (ts : List TypeTree) (f : ℕ → ℕ → TypeTree → TermTree) → is_some (twice_sized ts (λ n m a. var 0)) ≡ is_some (twice_sized ts f)
twice (nat_lit n ∷ nat_lit m ∷ a ∷ []) f = refl
twice _ f = refl

pub shape_tells : (row : Row) (ts : List TypeTree) → has_shape (shape_of row) ts ≡ is_some (body_of row ts)
shape_tells (Mapped kind) ts = two ts _
shape_tells (FoldedLeft kind) ts = two ts _
shape_tells (FoldedRight kind) ts = two ts _
shape_tells (Zipped kind) ts = three ts _
shape_tells (Replicated kind) ts = one ts _
shape_tells (Reversed kind) ts = one ts _
shape_tells (Generated kind) ts = twice ts _
shape_tells (Appended kind) ts = twice ts _
shape_tells (Concatenated kind) ts = twice ts _
shape_tells (Taken kind) ts = twice ts _
shape_tells (Dropped kind) ts = twice ts _
shape_tells (Rotated kind) ts = twice ts _
shape_tells Replaced ts = twice ts _
shape_tells ElementAt ts = twice ts _
shape_tells _ ts = refl
