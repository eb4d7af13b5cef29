-- The lines of a text: the words of each, which blanks part, and its number. A comment is passed
-- over, a line that ends with `\` goes on in the next one, and a line without words counts for
-- nothing.
use Rattle.std.specs.Prelude.{ℕ, ◌+◌, ◌-◌, ◌==◌, Bool, true, false, not, ◌&&◌, ◌||◌}
use Rattle.std.specs.Prelude.{if◌then◌else◌, List, [], ◌∷◌, ◌++◌, length, take, slice_index_or}
use Rattle.std.specs.List.{filter, slice_split}
use Rattle.stimulus.specs.Texts.{before, has, lines_of}

-- a space or a tab
abbrev pub is_blank : ℕ → Bool
is_blank b = (b == 32) || (b == 9)

-- a byte stands in it
abbrev pub has_bytes : List ℕ → Bool
has_bytes [] = false
has_bytes (b ∷ bytes) = true

-- the words of a text, which blanks part
abbrev pub words_in : List ℕ → List (List ℕ)
words_in text = filter has_bytes (slice_split is_blank text)

-- the line goes on in the next one: `\` is its last byte, and it has no comment
abbrev pub goes_on : List ℕ → Bool
goes_on line = (slice_index_or line (length line - 1) 0 == 92) && not (has 35 line)

-- what its words stand in: what is before the `\`, or before a comment
abbrev pub content : List ℕ → List ℕ
content line = if goes_on line then take (length line - 1) line else before 35 line

-- words, and the number of the line of the text in which they begin
pub record Line : Type 0 where
  pub number : ℕ
  pub words : List (List ℕ)

-- a line of these words before others, where there are words
abbrev pub put_line : ℕ → List (List ℕ) → List Line → List Line
put_line number [] lines = lines
put_line number (word ∷ words) lines =
    record { number = number; words = word ∷ words } ∷ lines

-- The lines that the lines of a text are from a number on. A line is begun before: it has these
-- words so far, and began at the first number.
abbrev pub lines_from : (at first : ℕ) → (words : List (List ℕ)) → List (List ℕ) → List Line
lines_from at first words [] = put_line first words []
lines_from at first words (line ∷ lines) =
    if goes_on line then lines_from (at + 1) first (words ++ words_in (content line)) lines
    else put_line first (words ++ words_in (content line)) (lines_from (at + 1) (at + 1) [] lines)

-- the lines of a text
abbrev pub net_lines : List ℕ → List Line
net_lines text = lines_from 1 1 [] (lines_of text)
