-- Statements told apart by the second byte of their words.
use Rattle.std.proofs.Common.{◌≡◌, ℕ, ◌<◌, Bool, true, false, cond, eqb, ltb, ◌||◌, List, [], ◌∷◌, codes, inl, inr, refl, sym, ap, ◌∙◌, rules, arith}
use Rattle.std.proofs.lemmas.Bool.{eqb-true, false≢true, lt-ltb, or_cases}
use Rattle.blif_text.specs.Statements.{HasForm, Says, Statement, is_mark, words_of}
use Rattle.blif_text.specs.Statements.Statement.{ends, inputs_are, latch_of, model, outputs_are, row_of, table_of}

-- the second byte of the first word, or 0
abbrev pub second : List (List ℕ) → ℕ
second ((a ∷ b ∷ bytes) ∷ words) = b
second _ = 0

-- marks are below 100
abbrev pub sort : ℕ → ℕ
sort b = cond (ltb b 100) 0 b

abbrev pub tag : Statement → ℕ
tag model = 109
tag (inputs_are names) = 105
tag (outputs_are names) = 111
tag (table_of reads drives) = 110
tag (row_of marks) = 0
tag (latch_of takes drives clock initial) = 108
tag ends = 101

mark_low : (b : ℕ) → is_mark b ≡ true → b < 100
mark_low b is =
    elim (or_cases (eqb b 48) (eqb b 49 || eqb b 45) is) [
      | inl first ↦ let same = eqb-true b 48 first in omega arith
      | inr other ↦ elim (or_cases (eqb b 49) (eqb b 45) other) [
        | inl second ↦ let same = eqb-true b 49 second in omega arith
        | inr third ↦ let same = eqb-true b 45 third in omega arith
      ]
    ]

tagged : (s : Statement) → HasForm s → sort (second (words_of s)) ≡ tag s
tagged model form = refl
tagged (inputs_are names) form = refl
tagged (outputs_are names) form = refl
tagged (table_of reads drives) form = refl
tagged (row_of []) form = refl
tagged (row_of (a ∷ [])) form = refl
tagged (row_of (a ∷ b ∷ marks)) form = ap (λ t. cond t 0 b) (lt-ltb b 100 (mark_low b form.1.0))
tagged (latch_of takes drives clock initial) form = refl
tagged ends form = refl

-- words that say a statement have its tag
pub tag_says : (words : List (List ℕ)) (s : Statement) → Says words s → sort (second words) ≡ tag s
tag_says words s says = ap (λ ws. sort (second ws)) says.0 ∙ tagged s says.1

self : (m : ℕ) → eqb m m ≡ true
self m = search rules

pub apart : (m n : ℕ) → eqb m n ≡ false → m ≡ n → ⊥
apart m n differ same = false≢true (sym differ ∙ ap (λ k. eqb m k) (sym same) ∙ self m)
