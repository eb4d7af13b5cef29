-- The words of a piece, one after the other.
use Rattle.std.proofs.Common.{◌≡◌, ℕ, zero, suc, ◌+◌, ◌<◌, ◌≤◌, false, List, [], ◌∷◌, length, take, inl, inr, refl, sym, ap, ◌∙◌, arith}
use Rattle.std.specs.List.{after_first, before_first, filter, position_or_len, slice_split}
use Rattle.std.proofs.lemmas.Bool.{cases_lt}
use Rattle.std.proofs.lemmas.List.{drop_all, length-take-le, take_all}
use Rattle.std.proofs.lemmas.List.Elements.{All-from_get_or}
use Rattle.std.proofs.lemmas.List.Splits.{slice_split_first, slice_split_none}
use Rattle.std.proofs.lemmas.List.Sums.{fails_before_first}
use Rattle.blif_text.specs.Lines.{has_bytes, is_blank, words_in}

-- a piece, which is a word unless it is empty, and words behind it
abbrev with_piece : List ℕ → List (List ℕ) → List (List ℕ)
with_piece [] words = words
with_piece (b ∷ bytes) words = (b ∷ bytes) ∷ words

filter_first : (piece : List ℕ) (pieces : List (List ℕ)) → filter has_bytes (piece ∷ pieces) ≡ with_piece piece (filter has_bytes pieces)
filter_first [] pieces = refl
filter_first (b ∷ piece) pieces = refl

no_words : (text : List ℕ) → text ≡ [] → words_in text ≡ []
no_words text none = ap words_in none

words_behind : (len : ℕ) (text rest : List ℕ) → len ≡ position_or_len is_blank text → len ≤ length text → rest ≡ after_first is_blank text
    → words_in text ≡ with_piece (take len text) (words_in rest)
words_behind len text rest is within behind =
    elim (cases_lt len (length text)) [
      | inl below ↦
          let split = slice_split_first is_blank text 0 (omega arith) in
          let first : before_first is_blank text ≡ take len text = ap (λ n. take n text) (sym is) in
          ap (filter has_bytes) (split ∙ ap (λ p. p ∷ slice_split is_blank (after_first is_blank text)) first)
          ∙ filter_first (take len text) (slice_split is_blank (after_first is_blank text))
          ∙ ap (λ t. with_piece (take len text) (words_in t)) (sym behind)
      | inr above ↦
          let whole = slice_split_none is_blank text (All-from_get_or (λ b. is_blank b ≡ false) text 0 (λ i low. fails_before_first is_blank text i 0 (omega arith))) in
          let all : text ≡ take len text = sym (take_all len text above) in
          let none : rest ≡ [] = behind ∙ drop_all (position_or_len is_blank text + 1) text (omega arith) in
          ap (filter has_bytes) (whole ∙ ap (λ p. p ∷ []) all)
          ∙ filter_first (take len text) []
          ∙ ap (λ ws. with_piece (take len text) ws) (sym (no_words rest none))
    ]

some_piece : (bytes : List ℕ) (words : List (List ℕ)) → 0 < length bytes → with_piece bytes words ≡ bytes ∷ words
some_piece [] words some = absurd (omega arith)
some_piece (b ∷ bytes) words some = refl

no_piece : (n : ℕ) (bytes : List ℕ) (words : List (List ℕ)) → n ≡ 0 → with_piece (take n bytes) words ≡ words
no_piece zero bytes words none = refl
no_piece (suc n) bytes words none = absurd (omega arith)

-- a blank stands first
pub behind_blank : (len : ℕ) (text rest : List ℕ) → len ≡ position_or_len is_blank text → len ≤ length text → rest ≡ after_first is_blank text → len ≤ 0
    → words_in rest ≡ words_in text
behind_blank len text rest is within behind none = sym (words_behind len text rest is within behind ∙ no_piece len text (words_in rest) (omega arith))

-- a word stands first
pub behind_word : (len : ℕ) (text rest : List ℕ) → len ≡ position_or_len is_blank text → len ≤ length text → rest ≡ after_first is_blank text → 0 < len
    → words_in text ≡ take len text ∷ words_in rest
behind_word len text rest is within behind some =
    words_behind len text rest is within behind ∙ some_piece (take len text) (words_in rest) (omega (arith, length-take-le len text within))
