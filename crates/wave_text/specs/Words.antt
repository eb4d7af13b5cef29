-- The words of a text: what stands between white space, with its places.
use Rattle.std.specs.Prelude.{ℕ, ◌+◌, List, [], ◌∷◌, length}
use Rattle.std.specs.List.{slice_split}
use Rattle.verilog_text.specs.VTokens.{is_white}

-- a word, and the place of its first byte
pub record Word : Type 0 where
  pub at : ℕ
  pub bytes : List ℕ

abbrev pub word : ℕ → List ℕ → Word
word place text = record { at = place; bytes = text }

-- the words among pieces that one white byte each parts, of which the first begins at a place
abbrev pub words_among : ℕ → List (List ℕ) → List Word
words_among at [] = []
words_among at ([] ∷ pieces) = words_among (at + 1) pieces
words_among at ((b ∷ piece) ∷ pieces) =
    word at (b ∷ piece) ∷ words_among (at + length (b ∷ piece) + 1) pieces

-- the words of a text that begins at a place
abbrev pub words_from : ℕ → List ℕ → List Word
words_from at text = words_among at (slice_split is_white text)

-- the words of a text
abbrev pub words_of : List ℕ → List Word
words_of text = words_from 0 text
