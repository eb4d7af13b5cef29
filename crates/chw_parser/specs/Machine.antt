-- Reading by a stack of symbols: what the tokens that are left have to be, symbol by symbol.
use Rattle.std.specs.Prelude.{◌≡◌, ℕ, suc, Bool, IsTrue, Some, List, [], ◌∷◌, ◌++◌, codes}
use Rattle.chw_grammar.specs.declared.type_tree.KindTree.{KindTree}
use Rattle.chw_grammar.specs.declared.terminal.Terminal.{Terminal}
use Rattle.chw_grammar.specs.declared.word.Word.{Word as WordTree}
use Rattle.chw_grammar.specs.Lexemes.{Lexeme, terminal, kind_terminal, next, word_of}
use Rattle.chw_grammar.specs.Grammar.{is_lower, is_upper, is_numeral, is_literal}
use Rattle.parser_parts.specs.declared.action.Action.{Action}
use Rattle.chw_parser.specs.declared.symbol.Rule.{Rule}
use Rattle.chw_parser.specs.declared.symbol.WordSort.{WordSort}
use Rattle.chw_parser.specs.declared.symbol.WordSort.TheVariants as sort
use Rattle.chw_parser.specs.declared.symbol.Symbol.{Symbol}
use Rattle.chw_parser.specs.declared.symbol.Symbol.TheVariants.{Token, Word, Kind, Reset, Part, Act}
use Rattle.parser_parts.specs.declared.value.Value.{Value}
use Rattle.parser_parts.specs.declared.value.Value.TheVariants.{OneWord, OneKind}
use Rattle.chw_parser.specs.Productions.{production}
use Rattle.parser_parts.specs.Actions.{made}

-- whether a token is a word of the sort
abbrev pub is_word : WordSort → Terminal → Bool
is_word sort.Lower x = is_lower x
is_word sort.Upper x = is_upper x
is_word sort.Numeral x = is_numeral x
is_word sort.Literal x = is_literal x

-- a token of this terminal, which is this word, is the lower name `reset`
abbrev pub IsReset : Terminal → WordTree → Type 0
IsReset x w = IsTrue (is_lower x) × (w.bytes ≡ codes "reset")

-- the symbols read the tokens, all of them, and make of some parts these parts
pub data Runs : List Symbol → List Lexeme → List Value → List Value → Type 0 where
  all_read : {vs : List Value} → Runs [] [] vs vs
  token : {x : Terminal} {l : Lexeme} {s : List Symbol} {ls : List Lexeme} {vs out : List Value}
      → terminal l ≡ x → Runs s ls vs out → Runs (Token x ∷ s) (l ∷ ls) vs out
  word : {x : WordSort} {l : Lexeme} {s : List Symbol} {ls : List Lexeme} {vs out : List Value}
      → IsTrue (is_word x (terminal l)) → Runs s ls (OneWord (word_of l) ∷ vs) out → Runs (Word x ∷ s) (l ∷ ls) vs out
  kind : {l : Lexeme} {s : List Symbol} {ls : List Lexeme} {vs out : List Value} (k : KindTree)
      → terminal l ≡ kind_terminal k → Runs s ls (OneKind k ∷ vs) out → Runs (Kind ∷ s) (l ∷ ls) vs out
  reset : {l : Lexeme} {s : List Symbol} {ls : List Lexeme} {vs out : List Value}
      → IsReset (terminal l) (word_of l) → Runs s ls vs out → Runs (Reset ∷ s) (l ∷ ls) vs out
  part : {x : Rule} {s : List Symbol} {ls : List Lexeme} {vs out : List Value} (symbols : List Symbol)
      → production x (next ls) ≡ Some symbols → Runs (symbols ++ s) ls vs out → Runs (Part x ∷ s) ls vs out
  act : {x : Action} {s : List Symbol} {ls : List Lexeme} {vs out : List Value} (vs' : List Value)
      → made x vs ≡ Some vs' → Runs s ls vs' out → Runs (Act x ∷ s) ls vs out

-- the symbols read the tokens, all of them, in so many steps
pub data Reading : ℕ → List Symbol → List Lexeme → Type 0 where
  end : Reading 0 [] []
  on_token : {n : ℕ} {x : Terminal} {l : Lexeme} {s : List Symbol} {ls : List Lexeme}
      → terminal l ≡ x → Reading n s ls → Reading (suc n) (Token x ∷ s) (l ∷ ls)
  on_word : {n : ℕ} {x : WordSort} {l : Lexeme} {s : List Symbol} {ls : List Lexeme}
      → IsTrue (is_word x (terminal l)) → Reading n s ls → Reading (suc n) (Word x ∷ s) (l ∷ ls)
  on_kind : {n : ℕ} {l : Lexeme} {s : List Symbol} {ls : List Lexeme} (k : KindTree)
      → terminal l ≡ kind_terminal k → Reading n s ls → Reading (suc n) (Kind ∷ s) (l ∷ ls)
  on_reset : {n : ℕ} {l : Lexeme} {s : List Symbol} {ls : List Lexeme}
      → IsReset (terminal l) (word_of l) → Reading n s ls → Reading (suc n) (Reset ∷ s) (l ∷ ls)
  on_part : {n : ℕ} {x : Rule} {s : List Symbol} {ls : List Lexeme} (symbols : List Symbol)
      → production x (next ls) ≡ Some symbols → Reading n (symbols ++ s) ls → Reading (suc n) (Part x ∷ s) ls
  on_act : {n : ℕ} {x : Action} {s : List Symbol} {ls : List Lexeme} → Reading n s ls → Reading (suc n) (Act x ∷ s) ls
