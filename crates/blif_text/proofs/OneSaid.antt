-- Words say one statement at most, and lines one list of statements.
use Rattle.std.proofs.Common.{◌≡◌, ℕ, ◌<◌, Bool, true, false, cond, eqb, ltb, ◌||◌, List, [], ◌∷◌, ◌++◌, length, get_or, drop, inl, inr, refl, sym, ap, ◌∙◌, subst, length-append, arith}
use Rattle.std.proofs.lemmas.Bool.{eqb-true, false≢true, lt-ltb, or_cases}
use Rattle.std.proofs.lemmas.Bool.Decides.{eqb_tells}
use Rattle.std.proofs.lemmas.Option.{same_Some}
use Rattle.bit_laws.specs.Bitnet.{Bitnet}
use Rattle.bit_laws.specs.Gates.{digit_of}
use Rattle.blif_text.specs.BlifText.{BlifText, Lead, Said, net_said, said}
use Rattle.blif_text.specs.BlifText.Lead.{none, more}
use Rattle.blif_text.specs.Lines.{Line, net_lines}
use Rattle.blif_text.specs.Statements.{HasForm, Place, Says, Statement, is_mark, place_behind, row_words, words_of}
use Rattle.blif_text.specs.Statements.Place.{at_model, behind_end}
use Rattle.blif_text.specs.Statements.Statement.{ends, inputs_are, latch_of, model, outputs_are, row_of, table_of}

-- the second byte of the first word, or 0
abbrev second : List (List ℕ) → ℕ
second ((a ∷ b ∷ bytes) ∷ words) = b
second _ = 0

-- it tells what is said: marks are below 100
abbrev sort : ℕ → ℕ
sort b = cond (ltb b 100) 0 b

abbrev tag : Statement → ℕ
tag model = 109
tag (inputs_are names) = 105
tag (outputs_are names) = 111
tag (table_of reads drives) = 110
tag (row_of marks) = 0
tag (latch_of takes drives clock initial) = 108
tag ends = 101

mark_low : (b : ℕ) → is_mark b ≡ true → b < 100
mark_low b is =
    elim (or_cases (eqb b 48) (eqb b 49 || eqb b 45) is) [
      | inl first ↦ let same = eqb-true b 48 first in omega arith
      | inr other ↦ elim (or_cases (eqb b 49) (eqb b 45) other) [
        | inl second ↦ let same = eqb-true b 49 second in omega arith
        | inr third ↦ let same = eqb-true b 45 third in omega arith
      ]
    ]

tagged : (s : Statement) → HasForm s → sort (second (words_of s)) ≡ tag s
tagged model form = refl
tagged (inputs_are names) form = refl
tagged (outputs_are names) form = refl
tagged (table_of reads drives) form = refl
tagged (row_of []) form = refl
tagged (row_of (a ∷ [])) form = refl
tagged (row_of (a ∷ b ∷ marks)) form = ap (λ t. cond t 0 b) (lt-ltb b 100 (mark_low b form.1.0))
tagged (latch_of takes drives clock initial) form = refl
tagged ends form = refl

apart : (m n : ℕ) → eqb m n ≡ false → m ≡ n → ⊥
apart m n differ same = elim (eqb_tells m n) [ inl is ↦ false≢true (sym differ ∙ is.0) | inr other ↦ other.1 same ]

one_bit : (a b : Bool) → digit_of a ≡ digit_of b → a ≡ b
one_bit true true same = refl
one_bit true false same = absurd (omega arith)
one_bit false true same = absurd (omega arith)
one_bit false false same = refl

one_row : (a b : List ℕ) → row_words a ≡ row_words b → a ≡ b
one_row [] [] e = refl
one_row [] (y ∷ b) e = absurd (let n : 1 ≡ 2 = ap length e in omega arith)
one_row (x ∷ a) [] e = absurd (let n : 2 ≡ 1 = ap length e in omega arith)
one_row (x ∷ a) (y ∷ b) e = ap (λ ws. get_or ws 0 []) e

pub one_last : (a b : List (List ℕ)) (x y : List ℕ) → a ++ x ∷ [] ≡ b ++ y ∷ [] → (a ≡ b) × (x ≡ y)
one_last [] [] x y e = (refl, ap (λ ws. get_or ws 0 []) e)
one_last [] (z ∷ b) x y e = absurd (omega (arith, ap length e, length-append b (y ∷ [])))
one_last (w ∷ a) [] x y e = absurd (omega (arith, ap length e, length-append a (x ∷ [])))
one_last (w ∷ a) (z ∷ b) x y e =
    let rest = one_last a b x y (ap (drop 1) e) in
    let first : w ≡ z = ap (λ ws. get_or ws 0 []) e in
    (λ i. first i ∷ rest.0 i, rest.1)

pub one_statement : (s t : Statement) → HasForm s → HasForm t → words_of s ≡ words_of t → s ≡ t
one_statement model model f g e = refl
one_statement (inputs_are a) (inputs_are b) f g e = ap inputs_are (ap (drop 1) e)
one_statement (outputs_are a) (outputs_are b) f g e = ap outputs_are (ap (drop 1) e)
one_statement (table_of a x) (table_of b y) f g e =
    let same = one_last a b x y (ap (drop 1) e) in
    λ i. table_of (same.0 i) (same.1 i)
one_statement (row_of a) (row_of b) f g e = ap row_of (one_row a b e)
one_statement (latch_of a x p i) (latch_of b y q j) f g e =
    let takes : a ≡ b = ap (λ ws. get_or ws 0 []) (ap (drop 1) e) in
    let drives : x ≡ y = ap (λ ws. get_or ws 0 []) (ap (drop 2) e) in
    let clock : p ≡ q = ap (λ ws. get_or ws 0 []) (ap (drop 4) e) in
    let digit : digit_of i ≡ digit_of j = ap (λ ws. get_or (get_or ws 0 []) 0 0) (ap (drop 5) e) in
    let bit : i ≡ j = one_bit i j digit in
    λ k. latch_of (takes k) (drives k) (clock k) (bit k)
one_statement ends ends f g e = refl
one_statement s t f g e = absurd (apart (tag s) (tag t) refl (sym (tagged s f) ∙ ap (λ ws. sort (second ws)) e ∙ tagged t g))

pub one_said : (words : List (List ℕ)) (s t : Statement) → Says words s → Says words t → s ≡ t
one_said words s t first second = one_statement s t first.1 second.1 (sym first.0 ∙ second.0)

-- lines lead to one list of statements and one place
pub one_lead : (place : Place) (lines : List Line) (xs ys : List Said) (p q : Place) → Lead place lines xs p → Lead place lines ys q → (xs ≡ ys) × (p ≡ q)
one_lead _ _ _ _ _ _ (none place) (none _) = (refl, refl)
one_lead _ _ _ _ _ _ (more place next p line lines s xs says there rest) (more _ other q _ _ t ys says' there' rest') =
    let same : s ≡ t = one_said line.words s t says says' in
    let places : other ≡ next = same_Some other next (sym there' ∙ ap (place_behind place) (sym same) ∙ there) in
    let others = one_lead next lines xs ys p q rest (subst (λ n. Lead n lines ys q) places rest') in
    (λ i. said line.number (same i) ∷ others.0 i, others.1)

pub one_bitnet : (text : List ℕ) (a b : Bitnet) → BlifText text a → BlifText text b → a ≡ b
one_bitnet text a b first second =
    first.net_is ∙ ap net_said (one_lead at_model (net_lines text) first.all second.all behind_end behind_end first.says second.says).0
    ∙ sym second.net_is
