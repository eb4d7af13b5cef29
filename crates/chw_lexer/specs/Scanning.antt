-- What stands at the front of some bytes: a run, a literal without its sign, a token, or a piece of a gap.
use Rattle.std.specs.Prelude.{◌≡◌, ℕ, ◌<◌, ◌≤◌, Bool, true, false, not, ◌||◌, ◌==◌, IsTrue, List, [], ◌∷◌, ◌++◌, length, take, drop}
use Rattle.chw_base.specs.Names.{AllOf, is_digit, is_letter_or_digit, is_name_byte}
use Rattle.chw_lexer.specs.Forms.{HasForm, IsNumeral, is_white}
use Rattle.chw_lexer.specs.Tokens.{Gap, LastGap, IsLongest, BeginsNothing}
use Rattle.chw_lexer.specs.declared.token.Sort.{Sort}
use Rattle.chw_lexer.specs.declared.run.Class.{Class}
use Rattle.chw_lexer.specs.declared.run.Class.TheVariants.{White, Line, Digit, LetterOrDigit, NameByte}
use Rattle.chw_lexer.specs.declared.piece.Piece.{Piece}
use Rattle.chw_lexer.specs.declared.piece.Piece.TheVariants.{Space, LastComment, Word, Nothing}

-- whether the byte is of the class
abbrev pub is_of : Class → ℕ → Bool
is_of White b = is_white b
is_of Line b = not (b == 10)
is_of Digit b = is_digit b
is_of LetterOrDigit b = is_letter_or_digit b
is_of NameByte b = is_name_byte b

-- neither a letter nor a digit nor `-`
abbrev pub is_other : ℕ → Bool
is_other b = not (is_letter_or_digit b || (b == 45))

-- there is a first byte, and it passes
abbrev pub BeginsWith : (ℕ → Bool) → List ℕ → Type 0
BeginsWith test [] = ⊥
BeginsWith test (b ∷ bytes) = IsTrue (test b)

-- whether there is a first byte that passes
abbrev pub begins_with : (ℕ → Bool) → List ℕ → Bool
begins_with test [] = false
begins_with test (b ∷ bytes) = test b

-- no first byte passes
abbrev pub StopsAt : (ℕ → Bool) → List ℕ → Type 0
StopsAt test [] = Unit {0}
StopsAt test (b ∷ bytes) = test b ≡ false

-- the longest front of bytes that pass has n bytes
pub record IsRun (test : ℕ → Bool) (bytes : List ℕ) (n : ℕ) : Type 0 where
  pub within : n ≤ length bytes
  pub passes : AllOf test (take n bytes)
  pub stops : StopsAt test (drop n bytes)

-- the letters of literals: `u`, `b` and `s`, and with a sign `s` alone
abbrev pub is_letter : (signed : Bool) → ℕ → Bool
is_letter true b = b == 115
is_letter false b = (b == 117) || ((b == 98) || (b == 115))

-- a value, a letter and a width
pub record IsUnsigned (letter_test : ℕ → Bool) (word : List ℕ) : Type 0 where
  pub value : List ℕ
  pub letter : ℕ
  pub width : List ℕ
  pub value_is : IsNumeral value
  pub letter_is : IsTrue (letter_test letter)
  pub width_is : IsNumeral width
  pub word_is : word ≡ value ++ letter ∷ width

-- the first n bytes are a value, a letter and a width, and no more of them are
pub record IsLongestUnsigned (letter_test : ℕ → Bool) (bytes : List ℕ) (n : ℕ) : Type 0 where
  pub within : n ≤ length bytes
  pub form : IsUnsigned letter_test (take n bytes)
  pub longest : (other more : List ℕ) → other ++ more ≡ bytes → IsUnsigned letter_test other → length other ≤ n

-- no front of the bytes is a value, a letter and a width
abbrev pub BeginsNoUnsigned : (ℕ → Bool) → List ℕ → Type 0
BeginsNoUnsigned letter_test bytes = (word more : List ℕ) → word ++ more ≡ bytes → IsUnsigned letter_test word → ⊥

-- the first n bytes are the longest token, of this sort
pub record IsTokenAt (bytes : List ℕ) (sort : Sort) (n : ℕ) : Type 0 where
  pub within : n ≤ length bytes
  pub longest : IsLongest sort (take n bytes) (drop n bytes)

-- no token begins the bytes
abbrev pub BeginsNoToken : List ℕ → Type 0
BeginsNoToken bytes = (sort : Sort) (word more : List ℕ) → word ++ more ≡ bytes → HasForm sort word → ⊥

-- neither white space nor a comment nor a token begins the bytes, of which there are some
abbrev pub FaultAt : List ℕ → Type 0
FaultAt [] = ⊥
FaultAt (b ∷ bytes) = BeginsNothing b bytes

-- what stands first in the bytes
abbrev pub IsPiece : List ℕ → Piece → Type 0
IsPiece bytes (Space n) = (0 < n) × (n ≤ length bytes) × Gap (take n bytes)
IsPiece bytes LastComment = LastGap bytes
IsPiece bytes (Word sort n) = IsTokenAt bytes sort n
IsPiece bytes Nothing = FaultAt bytes
