-- What reading from a state gives: the marks of what was read, or the first wrong token.
use Rattle.std.specs.Prelude.{◌≡◌, ℕ, ◌<◌, max, List, [], ◌∷◌, ◌++◌, length, true}
use Rattle.std.specs.List.{All, Contains}
use Rattle.verilog_text.specs.VForms.{Token}
use Rattle.verilog_text.specs.VTokens.{Placed}
use Rattle.verilog_tree.specs.Marks.{AreMarked, Mark}
use Rattle.verilog_tree.specs.Syntax.{tokens_of}
use Rattle.verilog_lex.specs.Shown.{placed}
use Rattle.verilog_parse.specs.Follow.{MayFollow}
use Rattle.verilog_parse.specs.Rows.{rows_of, slots_of}
use Rattle.verilog_parse.specs.Slots.{fits, fitting}
use Rattle.verilog_parse.specs.declared.cursor.Cursor.{Cursor}
use Rattle.verilog_parse.specs.declared.cursor.Step.{Step}
use Rattle.verilog_parse.specs.declared.rows.Row.{Row}
use Rattle.verilog_parse.specs.declared.rows.State.{State}

-- the row is one of the state, and the tokens begin with it, which are n
pub record IsChosen (s : State) (tokens : List Token) (row : Row) (n : ℕ) : Type 0 where
  pub among : Contains (rows_of s) row
  pub fit : fitting (slots_of row) tokens ≡ length (slots_of row)
  pub length_is : n ≡ length (slots_of row)

-- how many tokens at most fit the front of one of these rows
abbrev pub longest : List Row → List Token → ℕ
longest [] tokens = 0
longest (row ∷ rows) tokens = max (fitting (slots_of row) tokens) (longest rows tokens)

-- the tokens don't begin with this row
abbrev pub IsNotFirst : List Token → Row → Type 0
IsNotFirst tokens row = fitting (slots_of row) tokens < length (slots_of row)

-- the tokens begin with no row of the state, and at most n of them fit the front of one
pub record NoneFits (s : State) (tokens : List Token) (n : ℕ) : Type 0 where
  pub none : All (IsNotFirst tokens) (rows_of s)
  pub most : n ≡ longest (rows_of s) tokens

-- the tokens that are left
abbrev pub left : Cursor → List Placed
left c = placed c.rest.now

-- these tokens, which fit the row, were read
pub record IsRowRead (row : Row) (c : Cursor) (tokens : List Placed) (c' : Cursor) : Type 0 where
  pub split : left c ≡ tokens ++ left c'
  pub fit : fits (slots_of row) (tokens_of tokens) ≡ true
  pub end_is : c'.end ≡ c.end

-- a row of the state was read
pub record IsStep (s : State) (c : Cursor) (step : Step) (c' : Cursor) : Type 0 where
  pub among : Contains (rows_of s) step.row
  pub read : IsRowRead step.row c (placed step.tokens.now) c'

-- the tokens that are left don't begin with the row
abbrev pub BeginsNoRow : Row → Cursor → Type 0
BeginsNoRow row c = IsNotFirst (tokens_of (left c)) row

-- what has these marks was read from one state to the other
pub record Reads (s : State) (c : Cursor) (marks : List Mark) (s' : State) (c' : Cursor)
    : Type 0 where
  pub front : List Placed
  pub split : left c ≡ front ++ left c'
  pub marked : AreMarked front marks
  pub back : (more : List Token) → MayFollow s' more → MayFollow s (tokens_of front ++ more)
  pub on : (more : List Token) → MayFollow s (tokens_of front ++ more) → MayFollow s' more
  pub end_is : c'.end ≡ c.end

-- nothing that may follow begins with these tokens and the first of the others, or, where there
-- are no others, is these tokens
abbrev pub Stops : State → List Placed → List Placed → Type 0
Stops s before [] = MayFollow s (tokens_of before) → ⊥
Stops s before (t ∷ after) =
    (more : List Token) → MayFollow s (tokens_of before ++ t.token ∷ more) → ⊥

-- the place of the first token, or the end
abbrev pub place_of : ℕ → List Placed → ℕ
place_of end [] = end
place_of end (t ∷ tokens) = t.at

-- the first token with which nothing that may follow goes on, or the end, is at this place
pub record IsWrong (s : State) (c : Cursor) (at : ℕ) : Type 0 where
  pub before : List Placed
  pub after : List Placed
  pub split : left c ≡ before ++ after
  pub begins : (more : List Token) × MayFollow s (tokens_of before ++ more)
  pub stops : Stops s before after
  pub place : at ≡ place_of c.end after
