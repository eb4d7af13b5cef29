-- The places of the codes of one byte.
use Rattle.std.proofs.Common.{◌≡◌, ℕ, ◌+◌, List, [], ◌∷◌, ◌++◌, length, get_or, Option, inl, inr, sym, ap, ◌∙◌, arith}
use Rattle.std.proofs.lemmas.Bool.{cases_lt}
use Rattle.std.proofs.lemmas.List.{get_or_append_left, get_or_push, length_push}
use Rattle.name_tables.specs.Names.{place_of}
use Rattle.wave_read.specs.Codes.{AreShort}

-- no places
pub short_none : (codes : List (List ℕ)) (short : List (Option ℕ)) → short ≡ [] → AreShort codes short
short_none codes short none = λ byte other below.
    let empty : length short ≡ 0 = ap length none in
    absurd (omega arith)

-- one place more
pub short_more : (codes : List (List ℕ)) (short pushed : List (Option ℕ)) (byte : ℕ) (place : Option ℕ) → length short ≡ byte → pushed ≡ short ++ place ∷ []
    → place ≡ place_of codes (byte ∷ []) → AreShort codes short → AreShort codes pushed
short_more codes short pushed byte place count new here before = λ b other below. elim (cases_lt b byte) [
  | inl less ↦
      ap (λ (places : List (Option ℕ)). get_or places b other) new ∙ get_or_append_left short (place ∷ []) other b (omega arith) ∙ before b other (omega arith)
  | inr least ↦
      let all : length pushed ≡ length short + 1 = ap length new ∙ length_push short place in
      let same : b ≡ byte = omega arith in
      ap (λ (places : List (Option ℕ)). get_or places b other) new ∙ get_or_push short place other b (count ∙ sym same) ∙ here
      ∙ ap (λ (n : ℕ). place_of codes (n ∷ [])) (sym same)
]
