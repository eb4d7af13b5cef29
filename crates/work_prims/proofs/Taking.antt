-- Whether words are those that a primitive takes within the limits, test by test.
use Rattle.std.proofs.Common.{◌≡◌, ◌∙◌, sym, ◌↔◌, ℕ, ◌≤◌, Bool, true, false, IsTrue, List, [], ◌∷◌, length, map, Some}
use Rattle.std.proofs.lemmas.List.Elements.{recursion_from_All, All-from_recursion}
use Rattle.std.specs.Bool.{Decides}
use Rattle.std.specs.List.{AllByRecursion}
use Rattle.chw_prims.specs.declared.prim.Primitive.{Primitive as Prim}
use Rattle.chw_prims.specs.Schemas.{row_of}
use Rattle.prim_bits.specs.Widths.{argument_widths, width_of, TakesNumbers}

-- no truth value is both
pub wrong : false ≡ true → ⊥
wrong h = cc

-- the widths of words, and the words
widths_narrow : (words : List (List Bool)) → AllByRecursion (λ (w : List Bool). length w ≤ 128) words → AllByRecursion (λ w. w ≤ 128) (map length words)
widths_narrow [] a = tt
widths_narrow (w ∷ words) a = (a.0, widths_narrow words a.1)

words_narrow : (words : List (List Bool)) → AllByRecursion (λ w. w ≤ 128) (map length words) → AllByRecursion (λ (w : List Bool). length w ≤ 128) words
words_narrow [] a = tt
words_narrow (w ∷ words) a = (a.0, words_narrow words a.1)

pub not_taken : (p : Prim) (nats : List ℕ) (words : List (List Bool)) (a : Bool) → (IsTrue a ↔ argument_widths (row_of p) nats ≡ Some (map length words)) → a ≡ false → IsTrue false ↔ TakesNumbers p nats (map length words)
not_taken p nats words a is f = (λ h. absurd (wrong h), λ t. absurd (wrong (sym f ∙ is.1 t.0)))

pub not_narrow : (p : Prim) (nats : List ℕ) (words : List (List Bool)) (b : Bool) → Decides b (AllByRecursion (λ (w : List Bool). length w ≤ 128) words) → b ≡ false → IsTrue false ↔ TakesNumbers p nats (map length words)
not_narrow p nats words b is f =
    (λ h. absurd (wrong h), λ t. absurd (wrong (sym f ∙ is.1 (words_narrow words (recursion_from_All (λ w. w ≤ 128) (map length words) t.2)))))

pub taken : (p : Prim) (nats : List ℕ) (words : List (List Bool)) (a b c : Bool) → (IsTrue a ↔ argument_widths (row_of p) nats ≡ Some (map length words)) → a ≡ true → Decides b (AllByRecursion (λ (w : List Bool). length w ≤ 128) words) → b ≡ true → (IsTrue c ↔ width_of p nats ≤ 128) → IsTrue c ↔ TakesNumbers p nats (map length words)
taken p nats words a b c is h narrow f whole =
    (λ t. (is.0 h, whole.0 t, All-from_recursion (λ w. w ≤ 128) (map length words) (widths_narrow words (narrow.0 f))), λ t. whole.1 t.1)
