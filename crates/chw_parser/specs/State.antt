-- How far the parser is.
use Rattle.std.specs.Prelude.{◌≡◌, ℕ, ◌≤◌, Bool, true, false, IsTrue, List, [], ◌∷◌, ◌++◌}
use Rattle.chw_base.specs.declared.limits.TheConstants.{NESTING}
use Rattle.chw_grammar.specs.declared.type_tree.KindTree.{KindTree}
use Rattle.chw_grammar.specs.declared.terminal.Terminal.{Terminal}
use Rattle.chw_grammar.specs.declared.word.Word.{Word as WordTree}
use Rattle.chw_grammar.specs.declared.program.Tree.{Tree}
use Rattle.chw_grammar.specs.Lexemes.{Lexeme, kind_terminal, next}
use Rattle.chw_grammar.specs.Grammar.{Reads}
use Rattle.parser_parts.specs.declared.parts.Parts.{Parts}
use Rattle.parser_parts.specs.declared.value.Value.{Value}
use Rattle.parser_parts.specs.declared.value.Value.TheVariants.{OneWord, OneKind, Whole}
use Rattle.parser_parts.specs.Parts.{Stands}
use Rattle.chw_parser.specs.declared.symbol.Symbol.{Symbol}
use Rattle.chw_parser.specs.declared.symbol.Symbol.TheVariants.{Token, Word, Kind, Reset, Part, Act}
use Rattle.chw_parser.specs.declared.symbol.Rule.TheVariants as rule
use Rattle.chw_parser.specs.declared.machine.Wanted.{Wanted}
use Rattle.chw_parser.specs.declared.machine.Wanted.TheVariants.{Take, Nothing, Refused}
use Rattle.chw_parser.specs.Ending.{Fine}
use Rattle.chw_parser.specs.Faults.{open_after, Shallow}
use Rattle.chw_parser.specs.Machine.{is_word, IsReset, Runs, Reading}

-- what stands for a description, before any token is read
abbrev pub start : List Symbol
start = Part rule.Program ∷ []

-- a symbol that is read by one token
abbrev pub IsLeaf : Symbol → Type 0
IsLeaf (Token x) = Unit {0}
IsLeaf (Word x) = Unit {0}
IsLeaf Kind = Unit {0}
IsLeaf Reset = Unit {0}
IsLeaf (Part x) = ⊥
IsLeaf (Act x) = ⊥

-- the symbols read the tokens, all of them, and make these parts of those for which the kept ones stand
pub record Goes (s : List Symbol) (ls : List Lexeme) (parts : Parts) (out : List Value) : Type 0 where
  pub before : List Value
  pub stands : Stands parts before
  pub runs : Runs s ls before out

-- before this terminal, the second symbols and parts go on as the first
pub record Ahead (x : Terminal) (s : List Symbol) (p : Parts) (s' : List Symbol) (p' : Parts) : Type 0 where
  pub runs : (more : List Lexeme) (out : List Value) → next more ≡ x → Goes s more p out → Goes s' more p' out
  pub reads : (more : List Lexeme) (n : ℕ) → next more ≡ x → Reading n s' more → (m : ℕ) × Reading m s more
  pub fine : Fine s → Fine s'

-- before this terminal, the symbols and parts don't go on
abbrev pub Refuses : Terminal → List Symbol → Parts → Type 0
Refuses x s p = (more : List Lexeme) (out : List Value) → next more ≡ x → Goes s more p out → ⊥

-- what is wanted next
abbrev pub IsWanted : Terminal → List Symbol → Parts → List Symbol → Parts → Wanted → Type 0
IsWanted x s p s' p' (Take y) = IsLeaf y × Ahead x s p (y ∷ s') p'
IsWanted x s p s' p' Nothing = Ahead x s p [] p'
IsWanted x s p s' p' Refused = Refuses x s p

-- the second parts are the first with this one on top
abbrev pub Gains : Value → Parts → Parts → Type 0
Gains v p p' = (vs : List Value) → Stands p vs → Stands p' (v ∷ vs)

-- whether the symbol takes a token of this terminal, as this word, and what it makes of the parts
abbrev pub IsTaken : Symbol → Terminal → WordTree → Parts → Parts → Bool → Type 0
IsTaken (Token y) x w p p' true = (x ≡ y) × (p' ≡ p)
IsTaken (Token y) x w p p' false = x ≡ y → ⊥
IsTaken (Word y) x w p p' true = IsTrue (is_word y x) × Gains (OneWord w) p p'
IsTaken (Word y) x w p p' false = is_word y x ≡ false
IsTaken Kind x w p p' true = (k : KindTree) × (x ≡ kind_terminal k) × Gains (OneKind k) p p'
IsTaken Kind x w p p' false = (k : KindTree) → x ≡ kind_terminal k → ⊥
IsTaken Reset x w p p' true = IsReset x w × (p' ≡ p)
IsTaken Reset x w p p' false = IsReset x w → ⊥
IsTaken (Part y) x w p p' b = Unit {0}
IsTaken (Act y) x w p p' b = Unit {0}

-- behind this token, the second symbols and parts go on as the first before it
pub record Behind (l : Lexeme) (s : List Symbol) (p : Parts) (s' : List Symbol) (p' : Parts) : Type 0 where
  pub runs : (more : List Lexeme) (out : List Value) → Goes s (l ∷ more) p out → Goes s' more p' out
  pub reads : (more : List Lexeme) (n : ℕ) → Reading n s' more → (m : ℕ) × Reading m s (l ∷ more)
  pub fine : Fine s → Fine s'

abbrev pub IsRead : Lexeme → List Symbol → Parts → List Symbol → Parts → Bool → Type 0
IsRead l s p s' p' true = Behind l s p s' p'
IsRead l s p s' p' false = (more : List Lexeme) (out : List Value) → Goes s (l ∷ more) p out → ⊥

-- these tokens were read, and these symbols and parts are left
pub record IsState (front : List Lexeme) (s : List Symbol) (p : Parts) : Type 0 where
  pub runs : (more : List Lexeme) (tree : Tree) → Reads (front ++ more) tree → Goes s more p (Whole tree ∷ [])
  pub reads : (more : List Lexeme) (n : ℕ) → Reading n s more → (m : ℕ) × Reading m start (front ++ more)
  pub fine : Fine s

-- the same, and so many brackets are open
pub record Progress (front : List Lexeme) (s : List Symbol) (p : Parts) (opened : ℕ) : Type 0 where
  pub state : IsState front s p
  pub count : opened ≡ open_after 0 front
  pub few : opened ≤ NESTING
  pub shallow : Shallow front
