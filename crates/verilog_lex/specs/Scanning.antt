-- What stands at the front of some bytes: a run, a sign, a token, or a piece of a gap.
use Rattle.std.specs.Prelude.{◌≡◌, ℕ, ◌<◌, ◌≤◌, ◌+◌, Bool, false, not, ◌&&◌, ◌||◌, ◌==◌, IsTrue}
use Rattle.std.specs.Prelude.{List, [], ◌∷◌, ◌++◌, codes, length, take, drop}
use Rattle.chw_base.specs.Names.{AllOf, is_digit, is_name_byte}
use Rattle.verilog_text.specs.VForms.{AreHexDigits, HasForm, Sort, Token as TextToken}
use Rattle.verilog_text.specs.VForms.{begins_word, is_hex_digit, is_sign}
use Rattle.verilog_text.specs.VTokens.{BeginsNothing, Gap, HasNoEnd, IsLongest, LastGap, is_white}
use Rattle.verilog_lex.specs.Shown.{token_of}
use Rattle.verilog_lex.specs.declared.piece.Piece.{Piece}
use Rattle.verilog_lex.specs.declared.piece.Piece.TheVariants.{LastComment, Nothing, Space, Word}
use Rattle.verilog_lex.specs.declared.run.Class.{Class}
use Rattle.verilog_lex.specs.declared.run.Class.TheVariants.{Digit, HexDigit, Line, NameByte, White}

-- whether the byte is of the class
abbrev pub is_of : Class → ℕ → Bool
is_of White b = is_white b
is_of Line b = not (b == 10)
is_of Digit b = is_digit b
is_of HexDigit b = is_hex_digit b
is_of NameByte b = is_name_byte b

-- neither a letter nor `_` nor a digit
abbrev pub is_other : ℕ → Bool
is_other b = not (begins_word b) && not (is_digit b)

-- there is a first byte, and it passes
abbrev pub BeginsWith : (ℕ → Bool) → List ℕ → Type 0
BeginsWith test [] = ⊥
BeginsWith test (b ∷ bytes) = IsTrue (test b)

-- no first byte passes
abbrev pub StopsAt : (ℕ → Bool) → List ℕ → Type 0
StopsAt test [] = Unit {0}
StopsAt test (b ∷ bytes) = test b ≡ false

-- the longest front of bytes that pass has n bytes
pub record IsRun (test : ℕ → Bool) (bytes : List ℕ) (n : ℕ) : Type 0 where
  pub within : n ≤ length bytes
  pub passes : AllOf test (take n bytes)
  pub stops : StopsAt test (drop n bytes)

-- `'h` and hexadecimal digits stand first, and there are n of these digits
pub record IsTail (bytes : List ℕ) (n : ℕ) : Type 0 where
  pub rest : List ℕ
  pub bytes_are : bytes ≡ codes "'h" ++ rest
  pub some : 0 < n
  pub digits : IsRun is_hex_digit rest n

-- `'h` with a hexadecimal digit behind it doesn't stand first
abbrev pub HasNoTail : List ℕ → Type 0
HasNoTail bytes =
    (digits more : List ℕ) → AreHexDigits digits → codes "'h" ++ (digits ++ more) ≡ bytes → ⊥

-- the first n bytes are this sign, and no longer sign stands first
pub record IsSignAt (bytes sign : List ℕ) (n : ℕ) : Type 0 where
  pub within : n ≤ length bytes
  pub bytes_are : take n bytes ≡ sign
  pub form : IsTrue (is_sign sign)
  pub longest : (other more : List ℕ) → other ++ more ≡ bytes → IsTrue (is_sign other)
      → length other ≤ n

-- no sign stands first
abbrev pub BeginsNoSign : List ℕ → Type 0
BeginsNoSign bytes = (sign more : List ℕ) → sign ++ more ≡ bytes → IsTrue (is_sign sign) → ⊥

-- two bytes with which a longer sign begins
abbrev pub is_pair : ℕ → ℕ → Bool
is_pair a b =
    ((a == 62) && (b == 62))
    || (((a == 60) && ((b == 60) || (b == 61))) || ((a == 61) && (b == 61)))

-- whether such two bytes stand first
abbrev pub begins_pair : List ℕ → Bool
begins_pair (a ∷ b ∷ bytes) = is_pair a b
begins_pair _ = false

-- whether `//` or `/*` stands first
abbrev pub begins_comment : List ℕ → Bool
begins_comment (a ∷ b ∷ bytes) = (a == 47) && ((b == 47) || (b == 42))
begins_comment _ = false

-- the first n bytes are the longest token, and it is this one
pub record IsTokenAt (bytes : List ℕ) (token : TextToken) (n : ℕ) : Type 0 where
  pub within : n ≤ length bytes
  pub bytes_are : take n bytes ≡ token.bytes
  pub longest : IsLongest token.sort token.bytes (drop n bytes)

-- no token begins the bytes
abbrev pub BeginsNoToken : List ℕ → Type 0
BeginsNoToken bytes =
    (sort : Sort) (word more : List ℕ) → word ++ more ≡ bytes → HasForm sort word → ⊥

-- the first `*/` of the bytes stands behind n of them
pub record IsEndAt (bytes : List ℕ) (n : ℕ) : Type 0 where
  pub no_end : HasNoEnd (take n bytes)
  pub rest : List ℕ
  pub bytes_are : bytes ≡ take n bytes ++ (codes "*/" ++ rest)
  pub within : n + 2 ≤ length bytes

-- neither white space nor a comment nor a token begins the bytes, of which there are some
abbrev pub FaultAt : List ℕ → Type 0
FaultAt [] = ⊥
FaultAt (b ∷ bytes) = BeginsNothing b bytes

-- what stands first in the bytes
abbrev pub IsPiece : List ℕ → Piece → Type 0
IsPiece bytes (Space n) = (0 < n) × (n ≤ length bytes) × Gap (take n bytes)
IsPiece bytes LastComment = LastGap bytes
IsPiece bytes (Word token n) = IsTokenAt bytes (token_of token) n
IsPiece bytes Nothing = FaultAt bytes
