-- Texts cut at a byte, and the lines of a text.
use Rattle.std.specs.Prelude.{ℕ, Bool, ◌==◌, nat_lt, length, List, [], ◌∷◌, cond, map}
use Rattle.std.specs.Borrow.{Bor}
use Rattle.std.specs.List.{position_or_len, before_first, after_first, onto_first, slice_split}

-- it is this byte
abbrev pub is : ℕ → ℕ → Bool
is byte b = b == byte

-- the byte stands in the text
abbrev pub has : ℕ → List ℕ → Bool
has byte text = nat_lt (position_or_len (is byte) text) (length text)

-- what stands before the first such byte, or all where there is none
abbrev pub before : ℕ → List ℕ → List ℕ
before byte text = before_first (is byte) text

-- what stands behind the first such byte, or nothing where there is none
abbrev pub behind : ℕ → List ℕ → List ℕ
behind byte text = after_first (is byte) text

-- the texts between these bytes
abbrev pub split_at : ℕ → List ℕ → List (List ℕ)
split_at byte text = slice_split (is byte) text

-- the lines of a text. Each ends with a line feed, which may be missing on the last one.
abbrev pub lines_of : List ℕ → List (List ℕ)
lines_of [] = []
lines_of (b ∷ text) = cond (b == 10) ([] ∷ lines_of text) (onto_first b (lines_of text))

-- what texts the references are to
abbrev pub texts : List (Bor (List ℕ)) → List (List ℕ)
texts = map (λ (t : Bor (List ℕ)). t.now)
