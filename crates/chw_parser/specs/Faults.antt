-- Where tokens stop to be the beginning of a description.
use Rattle.std.specs.Prelude.{◌≡◌, ℕ, ◌+◌, ◌-◌, ◌<◌, ◌≤◌, List, [], ◌∷◌, ◌++◌}
use Rattle.chw_base.specs.declared.limits.TheConstants.{NESTING}
use Rattle.chw_grammar.specs.declared.program.Tree.{Tree}
use Rattle.chw_grammar.specs.declared.terminal.Terminal.{Terminal}
use Rattle.chw_grammar.specs.declared.terminal.Terminal.TheVariants as the
use Rattle.chw_grammar.specs.Grammar.{Reads}
use Rattle.chw_grammar.specs.Height.{tree_height}
use Rattle.chw_grammar.specs.Lexemes.{Lexeme, terminal}
use Rattle.chw_parser.specs.declared.parsing.ParseFault.{ParseFault}
use Rattle.chw_parser.specs.declared.parsing.ParseFault.TheVariants.{Syntax, Depth}

-- some description begins with these tokens
abbrev pub BeginsProgram : List Lexeme → Type 0
BeginsProgram front = (more : List Lexeme) × (tree : Tree) × Reads (front ++ more) tree

-- no description begins with these tokens and the first of the others, or, where there are no others, they are none
abbrev pub IsWrong : List Lexeme → List Lexeme → Type 0
IsWrong front [] = (tree : Tree) → Reads front tree → ⊥
IsWrong front (l ∷ rest) = (more : List Lexeme) (tree : Tree) → Reads (front ++ l ∷ more) tree → ⊥

-- how many brackets are open behind a token, where so many were before it
abbrev pub bracketed : ℕ → Terminal → ℕ
bracketed n the.Open = n + 1
bracketed n the.OpenBrace = n + 1
bracketed n the.OpenBracket = n + 1
bracketed n the.Close = n - 1
bracketed n the.CloseBrace = n - 1
bracketed n the.CloseBracket = n - 1
bracketed n _ = n

-- how many brackets are open behind these tokens
abbrev pub open_after : ℕ → List Lexeme → ℕ
open_after n [] = n
open_after n (l ∷ rest) = open_after (bracketed n (terminal l)) rest

-- behind no token are more than 200 brackets open
abbrev pub ShallowFrom : ℕ → List Lexeme → Type 0
ShallowFrom n [] = Unit {0}
ShallowFrom n (l ∷ rest) = (bracketed n (terminal l) ≤ NESTING) × ShallowFrom (bracketed n (terminal l)) rest

abbrev pub Shallow : List Lexeme → Type 0
Shallow = ShallowFrom 0

-- the place of the first token, or the end
abbrev pub place : ℕ → List Lexeme → ℕ
place end [] = end
place end (l ∷ rest) = l.at

-- in the tokens of a text of this length the first wrong token, or the end that came too early, is at this place, and no more than
-- 200 brackets are open before it
abbrev pub SyntaxAt : ℕ → List Lexeme → ℕ → Type 0
SyntaxAt end lexemes at =
    (front : List Lexeme) × (rest : List Lexeme) × (lexemes ≡ front ++ rest) × BeginsProgram front × Shallow front × IsWrong front rest × (at ≡ place end rest)

-- a description is too deep for one of two causes
pub data DepthAt (lexemes : List Lexeme) (at : ℕ) : Type 0 where
  -- with the token at this place first more than 200 brackets are open, and no token up to it is wrong
  nested : (front : List Lexeme) (l : Lexeme) (rest : List Lexeme) → lexemes ≡ front ++ l ∷ rest → BeginsProgram (front ++ l ∷ [])
      → Shallow front → NESTING < open_after 0 (front ++ l ∷ []) → at ≡ l.at → DepthAt lexemes at
  -- never are more than 200 brackets open, and the tree that is read whole is higher than 200: this is told at 0
  high : (tree : Tree) → Reads lexemes tree → Shallow lexemes → NESTING < tree_height tree → at ≡ 0 → DepthAt lexemes at

-- the fault is the first of the tokens
abbrev pub IsFault : ℕ → List Lexeme → ParseFault → Type 0
IsFault end lexemes (Syntax at) = SyntaxAt end lexemes at
IsFault end lexemes (Depth at) = DepthAt lexemes at
