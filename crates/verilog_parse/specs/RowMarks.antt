-- The marks of the tokens of a row, and the words that stand among tokens.
use Rattle.std.specs.Prelude.{◌≡◌, ℕ, zero, suc, ◌+◌, ◌==◌, Bool, true, false, codes, if◌then◌else◌}
use Rattle.std.specs.Prelude.{List, [], ◌∷◌}
use Rattle.netlist.specs.declared.net.Op2.{Op2}
use Rattle.netlist.specs.declared.net.Op2.TheVariants.{LtS, Sar}
use Rattle.verilog_text.specs.Grammar.{keyword, literal, name, number, sign, signed}
use Rattle.verilog_text.specs.VForms.{Sort, Token}
use Rattle.verilog_text.specs.VForms.Sort.{literal as a_literal, name as a_name}
use Rattle.verilog_text.specs.VForms.Sort.{number as a_number, sign as a_sign}
use Rattle.verilog_text.specs.VTokens.{Placed, placed_token}
use Rattle.verilog_tree.specs.Marks.{Mark, anywhere, placed}
use Rattle.verilog_tree.specs.declared.item.Access.{Access}
use Rattle.verilog_tree.specs.declared.word.Line.{Line}
use Rattle.verilog_tree.specs.declared.word.Range.{Range}
use Rattle.verilog_tree.specs.declared.word.Word.{Word}
use Rattle.verilog_lex.specs.Shown.{keyword_bytes, sign_bytes}
use Rattle.verilog_lex.specs.declared.token.Sign.{Sign as SignOf}
use Rattle.verilog_parse.specs.Rows.{slots_of}
use Rattle.verilog_parse.specs.declared.rows.Row.{Row}
use Rattle.verilog_parse.specs.declared.rows.Row.TheVariants as row
use Rattle.verilog_parse.specs.declared.slot.Slot.{Slot}
use Rattle.verilog_parse.specs.declared.slot.Slot.TheVariants.{Binary, Keyword, Literal, Name}
use Rattle.verilog_parse.specs.declared.slot.Slot.TheVariants.{Number, Sign, Signed, Unary}

-- the token behind so many
abbrev pub nth : ℕ → List Placed → Placed
nth k [] = placed_token 0 a_name []
nth zero (t ∷ tokens) = t
nth (suc k) (t ∷ tokens) = nth k tokens

-- the bytes of a name, number or literal
abbrev pub bytes_in : Sort → List ℕ → List ℕ
bytes_in a_name bytes = bytes
bytes_in a_number bytes = bytes
bytes_in a_literal bytes = bytes
bytes_in _ bytes = []

abbrev pub word_bytes : Token → List ℕ
word_bytes t = bytes_in t.sort t.bytes

-- the word is the one behind so many tokens
pub record IsWordAt (w : Word) (k : ℕ) (tokens : List Placed) : Type 0 where
  pub at_is : w.at ≡ (nth k tokens).at
  pub bytes_are : w.bytes.now ≡ word_bytes (nth k tokens).token

-- the range is the one whose `[` is there
pub record IsRangeAt (r : Range) (k : ℕ) (tokens : List Placed) : Type 0 where
  pub from_is : IsWordAt r.from (k + 1) tokens
  pub to_is : IsWordAt r.to (k + 3) tokens

-- the line is the one whose `[` is there
pub record IsLineAt (l : Line) (k : ℕ) (tokens : List Placed) : Type 0 where
  pub range_is : IsRangeAt l.range k tokens
  pub name_is : IsWordAt l.name (k + 5) tokens

-- the address stands there, and behind it the number of words and the word at the address
pub record IsAccessAt (a : Access) (k : ℕ) (tokens : List Placed) : Type 0 where
  pub address_is : IsWordAt a.address k tokens
  pub count_is : IsWordAt a.count (k + 2) tokens
  pub memory_is : IsWordAt a.memory (k + 5) tokens
  pub again_is : IsWordAt a.again (k + 7) tokens

-- a token with its place where the tree keeps it
abbrev pub mark_if : Bool → ℕ → Token → Mark
mark_if kept at token = if kept then placed at token else anywhere token

-- the mark of a token that a slot took
abbrev pub slot_mark : Slot → Bool → Placed → Mark
slot_mark (Keyword k) kept t = mark_if kept t.at (keyword (keyword_bytes k))
slot_mark (Sign s) kept t = mark_if kept t.at (sign (sign_bytes s))
slot_mark Name kept t = placed t.at (name (word_bytes t.token))
slot_mark Number kept t = placed t.at (number (word_bytes t.token))
slot_mark Literal kept t = placed t.at (literal (word_bytes t.token))
slot_mark Signed kept t = anywhere signed
slot_mark Unary kept t = placed t.at (sign t.token.bytes)
slot_mark Binary kept t = placed t.at (sign t.token.bytes)

-- which keywords and signs of a row have their places in the tree
abbrev pub is_kept : Row → ℕ → Bool
is_kept row.LessSigned k = k == 7
is_kept row.ShiftSigned k = k == 7
is_kept row.LastPart k = k == 0
is_kept row.RamEdge k = k == 0
is_kept row.LastConnection k = k == 0
is_kept _ k = false

-- the marks of the tokens that slots took, from a place on
abbrev pub slot_marks : (ℕ → Bool) → List Slot → ℕ → List Placed → List Mark
slot_marks kept [] k tokens = []
slot_marks kept (s ∷ slots) k tokens =
    slot_mark s (kept k) (nth k tokens) ∷ slot_marks kept slots (suc k) tokens

-- the marks of a row's tokens
abbrev pub row_marks : Row → List Placed → List Mark
row_marks x tokens = slot_marks (is_kept x) (slots_of x) 0 tokens

-- the row is a whole item
abbrev pub is_whole : Row → Bool
is_whole row.Wire = true
is_whole row.Edge = true
is_whole row.ResetEdge = true
is_whole row.Constant = true
is_whole row.Copy = true
is_whole row.Cut = true
is_whole row.Unary = true
is_whole row.Binary = true
is_whole row.LessSigned = true
is_whole row.ShiftSigned = true
is_whole row.Choice = true
is_whole _ = false

-- the operator's operands are no signed numbers
abbrev pub IsPlain : Op2 → Type 0
IsPlain LtS = ⊥
IsPlain Sar = ⊥
IsPlain _ = Unit {0}

-- the sign is the one behind so many tokens, where a sign is there
abbrev pub IsSignAt : SignOf → ℕ → List Placed → Type 0
IsSignAt s k tokens =
    (nth k tokens).token.sort ≡ a_sign → (nth k tokens).token ≡ sign (sign_bytes s)

abbrev pub a_word_at : ℕ → List Placed → (List ℕ → Token) → Mark
a_word_at k tokens form =
    placed (nth k tokens).at (form (word_bytes (nth k tokens).token))

-- the marks of a word of a RAM
abbrev pub word_at : ℕ → List Placed → List Mark
word_at k tokens =
    a_word_at k tokens name ∷ anywhere (sign (codes "[")) ∷ a_word_at (k + 2) tokens number
    ∷ anywhere (sign (codes "]")) ∷ anywhere (sign (codes "=")) ∷ a_word_at (k + 5) tokens literal
    ∷ anywhere (sign (codes ";")) ∷ []

-- the marks of a connection
abbrev pub connection_at : ℕ → List Placed → List Mark
connection_at k tokens =
    anywhere (sign (codes ".")) ∷ a_word_at (k + 1) tokens name ∷ anywhere (sign (codes "("))
    ∷ a_word_at (k + 3) tokens name ∷ anywhere (sign (codes ")")) ∷ []
