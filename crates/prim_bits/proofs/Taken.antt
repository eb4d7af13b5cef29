-- Values where a primitive takes its words.
use Rattle.std.proofs.Common.{◌≡◌, ℕ, zero, suc, ◌^◌, ◌<◌, ◌≤◌, ◌&&◌, Bool, true, false, cond, eqb, ltb, List, [], ◌∷◌, length, map, get_or, Option, Some, None, refl, ap, ◌∙◌, arith}
use Rattle.std.specs.List.{All}
use Rattle.std.specs.Cmp.Lexicographic.{pointwise}
use Rattle.std.specs.Prelude.{nat_eq}
use Rattle.std.proofs.lemmas.List.Elements.{All-head, All-tail}
use Rattle.std.proofs.lemmas.Bool.Decides.{nat_tests}
use Rattle.chw_prims.specs.declared.prim.Primitive.{Primitive}
use Rattle.chw_prims.specs.Schemas.{row_of}
use Rattle.prim_bits.specs.Values.{has_widths, result_of, takes, value_of}
use Rattle.prim_bits.specs.Widths.{argument_widths, width_of, Takes, TakesNumbers}

same_number : (n : ℕ) → eqb n n ≡ true
same_number n = grind (arith, nat_tests)

-- a list of numbers is pointwise the same as itself
same_numbers : (ns : List ℕ) → pointwise nat_eq ns ns ≡ true
same_numbers [] = refl
same_numbers (n ∷ ns) = ap (λ t. t && pointwise nat_eq ns ns) (same_number n) ∙ same_numbers ns

fits_word : (n : ℕ) → n < 2 ^ 32 → ltb n (2 ^ 32) ≡ true
fits_word n below = grind (arith, nat_tests)

pub taken_is : (p : Primitive) (nats widths : List ℕ) → Takes p nats widths → takes p nats widths ≡ true
taken_is p nats widths t =
    ap (λ (wanted : Option (List ℕ)). has_widths wanted widths && ltb (width_of p nats) (2 ^ 32)) t.0
    ∙ ap (λ b. b && ltb (width_of p nats) (2 ^ 32)) (same_numbers widths)
    ∙ fits_word (width_of p nats) t.1

-- where a primitive takes its words, its value is its result
pub value_where_taken : (p : Primitive) (nats : List ℕ) (args : List (List Bool)) → Takes p nats (map length args) → value_of p nats args ≡ Some (result_of p (get_or nats 0 0) (get_or nats 1 0) (get_or args 0 []) (get_or args 1 []))
value_where_taken p nats args t = ap (λ b. cond b (Some (result_of p (get_or nats 0 0) (get_or nats 1 0) (get_or args 0 []) (get_or args 1 []))) None) (taken_is p nats (map length args) t)

pub taken_numbers : (p : Primitive) (nats widths : List ℕ) → TakesNumbers p nats widths → Takes p nats widths
taken_numbers p nats widths t = let small = t.1 in (t.0, omega arith)

-- no word is wider than all of them
pub word_small : (args : List (List Bool)) (i : ℕ) → All (λ width. width ≤ 128) (map length args) → length (get_or args i []) ≤ 128
word_small [] i all = omega arith
word_small (a ∷ args) zero all = All-head (λ width. width ≤ 128) (length a) (map length args) all
word_small (a ∷ args) (suc i) all = word_small args i (All-tail (λ width. width ≤ 128) (length a) (map length args) all)

same_from_test : (m n : ℕ) → eqb m n ≡ true → m ≡ n
same_from_test m n e = grind (arith, nat_tests)

and_parts : (s t : Bool) → s && t ≡ true → (s ≡ true) × (t ≡ true)
and_parts true t e = (refl, e)
and_parts false t e = cc

-- lists that are pointwise the same are the same
same_from_pointwise : (ms ns : List ℕ) → pointwise nat_eq ms ns ≡ true → ms ≡ ns
same_from_pointwise [] [] e = refl
same_from_pointwise [] (n ∷ ns) e = cc
same_from_pointwise (m ∷ ms) [] e = cc
same_from_pointwise (m ∷ ms) (n ∷ ns) e =
    let parts = and_parts (eqb m n) (pointwise nat_eq ms ns) e in
    let head : m ≡ n = same_from_test m n parts.0 in
    ap (λ k. k ∷ ms) head ∙ ap (λ ks. n ∷ ks) (same_from_pointwise ms ns parts.1)

widths_from_test : (wanted : Option (List ℕ)) (widths : List ℕ) → has_widths wanted widths ≡ true → wanted ≡ Some widths
widths_from_test None widths e = cc
widths_from_test (Some ws) widths e = ap Some (same_from_pointwise ws widths e)

below_from_test : (n : ℕ) → ltb n (2 ^ 32) ≡ true → n < 2 ^ 32
below_from_test n e = grind (arith, nat_tests)

taken_from_test : (p : Primitive) (nats widths : List ℕ) → takes p nats widths ≡ true → Takes p nats widths
taken_from_test p nats widths e =
    let parts = and_parts (has_widths (argument_widths (row_of p) nats) widths) (ltb (width_of p nats) (2 ^ 32)) e in
    (widths_from_test (argument_widths (row_of p) nats) widths parts.0, below_from_test (width_of p nats) parts.1)

given_from_test : (b : Bool) (x r : List Bool) → cond b (Some x) None ≡ Some r → (b ≡ true) × (r ≡ x)
given_from_test true x r e = (refl, cc)
given_from_test false x r e = cc

-- where a primitive has a value, it takes its words, and the value is its result
pub taken_from_value : (p : Primitive) (nats : List ℕ) (args : List (List Bool)) (r : List Bool) → value_of p nats args ≡ Some r → Takes p nats (map length args) × (r ≡ result_of p (get_or nats 0 0) (get_or nats 1 0) (get_or args 0 []) (get_or args 1 []))
taken_from_value p nats args r e =
    let parts = given_from_test (takes p nats (map length args)) (result_of p (get_or nats 0 0) (get_or nats 1 0) (get_or args 0 []) (get_or args 1 [])) r e in
    (taken_from_test p nats (map length args) parts.0, parts.1)
