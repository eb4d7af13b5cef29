-- The words of a text, piece by piece.
use Rattle.std.proofs.Common.{◌≡◌, ℕ, zero, suc, ◌+◌, ◌<◌, ◌≤◌, false, List, [], ◌∷◌, length, take, inl, inr, refl, sym, ap, ◌∙◌, arith}
use Rattle.std.specs.List.{after_first, before_first, position_or_len, slice_split}
use Rattle.std.proofs.lemmas.List.{drop_all, length-take-le, take_all}
use Rattle.std.proofs.lemmas.Bool.{cases_lt}
use Rattle.std.proofs.lemmas.List.Elements.{All-from_get_or}
use Rattle.std.proofs.lemmas.List.Splits.{slice_split_first, slice_split_none}
use Rattle.std.proofs.lemmas.List.Sums.{fails_before_first}
use Rattle.verilog_text.specs.VTokens.{is_white}
use Rattle.wave_text.specs.Words.{Word, word, words_among, words_from}

-- a piece, which is a word unless it is empty, and words behind it
abbrev pub with_piece : ℕ → List ℕ → List Word → List Word
with_piece at [] words = words
with_piece at (b ∷ bytes) words = word at (b ∷ bytes) ∷ words

pub among_first : (at : ℕ) (piece : List ℕ) (pieces : List (List ℕ)) → words_among at (piece ∷ pieces) ≡ with_piece at piece (words_among (at + length piece + 1) pieces)
among_first at [] pieces =
    let place : at + 1 ≡ at + 0 + 1 = omega arith in
    ap (λ n. words_among n pieces) place
among_first at (b ∷ piece) pieces = refl

pub no_words : (at : ℕ) (text : List ℕ) → text ≡ [] → words_from at text ≡ []
no_words at text none = ap (words_from at) none

-- what stands before the first white byte is a piece, and the words behind it are those of what stands behind
pub words_behind : (at next len : ℕ) (text rest : List ℕ) → len ≡ position_or_len is_white text → len ≤ length text → rest ≡ after_first is_white text
    → (len < length text → next ≡ at + len + 1) → words_from at text ≡ with_piece at (take len text) (words_from next rest)
words_behind at next len text rest is within behind place =
    elim (cases_lt len (length text)) [
      | inl below ↦
          let split = slice_split_first is_white text 0 (omega arith) in
          let piece = take len text in
          let count : length piece ≡ len = length-take-le len text within in
          let there : at + length piece + 1 ≡ next = omega (arith, place below) in
          let first : before_first is_white text ≡ piece = ap (λ n. take n text) (sym is) in
          ap (words_among at) (split ∙ ap (λ p. p ∷ slice_split is_white (after_first is_white text)) first)
          ∙ among_first at piece (slice_split is_white (after_first is_white text))
          ∙ ap (λ n. with_piece at piece (words_from n (after_first is_white text))) there
          ∙ ap (λ t. with_piece at piece (words_from next t)) (sym behind)
      | inr above ↦
          let whole = slice_split_none is_white text (All-from_get_or (λ b. is_white b ≡ false) text 0 (λ i low. fails_before_first is_white text i 0 (omega arith))) in
          let piece = take len text in
          let all : text ≡ piece = sym (take_all len text above) in
          let none : rest ≡ [] = behind ∙ drop_all (position_or_len is_white text + 1) text (omega arith) in
          ap (words_among at) (whole ∙ ap (λ p. p ∷ []) all)
          ∙ among_first at piece []
          ∙ ap (λ ws. with_piece at piece ws) (sym (no_words next rest none))
    ]

pub some_piece : (at : ℕ) (bytes : List ℕ) (words : List Word) → 0 < length bytes → with_piece at bytes words ≡ word at bytes ∷ words
some_piece at [] words some = absurd (omega arith)
some_piece at (b ∷ bytes) words some = refl

no_piece : (at n : ℕ) (bytes : List ℕ) (words : List Word) → n ≡ 0 → with_piece at (take n bytes) words ≡ words
no_piece at zero bytes words none = refl
no_piece at (suc n) bytes words none = absurd (omega arith)

-- a white byte stands first
pub behind_blank : (at next len : ℕ) (text rest : List ℕ) → len ≡ position_or_len is_white text → len ≤ length text → rest ≡ after_first is_white text
    → (len < length text → next ≡ at + len + 1) → len ≤ 0 → words_from next rest ≡ words_from at text
behind_blank at next len text rest is within behind place none =
    sym (words_behind at next len text rest is within behind place ∙ no_piece at len text (words_from next rest) (omega arith))

-- a word stands first
pub behind_word : (at next len : ℕ) (text rest : List ℕ) → len ≡ position_or_len is_white text → len ≤ length text → rest ≡ after_first is_white text
    → (len < length text → next ≡ at + len + 1) → 0 < len → words_from at text ≡ word at (take len text) ∷ words_from next rest
behind_word at next len text rest is within behind place some =
    words_behind at next len text rest is within behind place
    ∙ some_piece at (take len text) (words_from next rest) (omega (arith, length-take-le len text within))
