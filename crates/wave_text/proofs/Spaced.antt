-- Texts of words, each with one white byte behind it.
use Rattle.std.proofs.Common.{◌≡◌, ℕ, ◌+◌, ◌<◌, true, false, List, [], ◌∷◌, ◌++◌, length, refl, sym, ap, ◌∙◌, append_assoc}
use Rattle.std.specs.List.{AllByRecursion, slice_split}
use Rattle.std.proofs.lemmas.List.Elements.{All-from_recursion}
use Rattle.std.proofs.lemmas.List.Splits.{slice_split_at}
use Rattle.verilog_text.specs.VTokens.{is_white}
use Rattle.wave_text.specs.Words.{Word, word, words_among, words_from}
use Rattle.wave_text.proofs.Splitting.{among_first, some_piece}

-- the text of words with the white bytes behind them
abbrev pub spaced : List (List ℕ × ℕ) → List ℕ
spaced [] = []
spaced (t ∷ tokens) = t.0 ++ t.1 ∷ spaced tokens

pub spaced_append : (xs ys : List (List ℕ × ℕ)) → spaced (xs ++ ys) ≡ spaced xs ++ spaced ys
spaced_append [] ys = refl
spaced_append (x ∷ xs) ys = ap (λ t. x.0 ++ x.1 ∷ t) (spaced_append xs ys) ∙ sym (append_assoc x.0 (x.1 ∷ spaced xs) (spaced ys))

-- the words with their places
abbrev pub placed : ℕ → List (List ℕ × ℕ) → List Word
placed at [] = []
placed at (t ∷ tokens) = word at t.0 ∷ placed (at + length t.0 + 1) tokens

-- a word without white bytes, and a white byte
pub record IsToken (t : List ℕ × ℕ) : Type 0 where
  pub some : 0 < length t.0
  pub plain : AllByRecursion (λ b. is_white b ≡ false) t.0
  pub white : is_white t.1 ≡ true

pub words_spaced : (at : ℕ) (tokens : List (List ℕ × ℕ)) → AllByRecursion IsToken tokens → words_from at (spaced tokens) ≡ placed at tokens
words_spaced at [] all = refl
words_spaced at (t ∷ tokens) all =
    let split = slice_split_at is_white t.0 t.1 (spaced tokens) (All-from_recursion (λ b. is_white b ≡ false) t.0 all.0.plain) all.0.white in
    ap (words_among at) split ∙ among_first at t.0 (slice_split is_white (spaced tokens))
    ∙ some_piece at t.0 (words_from (at + length t.0 + 1) (spaced tokens)) all.0.some
    ∙ ap (λ ws. word at t.0 ∷ ws) (words_spaced (at + length t.0 + 1) tokens all.1)
