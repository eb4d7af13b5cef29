-- Tokens that have a tree within the limits have no fault.
use Rattle.std.specs.Prelude.{◌≡◌, ℕ, zero, ◌≤◌, List, [], ◌∷◌, ◌++◌, map}
use Rattle.std.proofs.Common.{ap, ◌∙◌, subst, arith}
use Rattle.std.proofs.lemmas.List.{append-nil}
use Rattle.chw_base.specs.declared.limits.TheConstants.{NESTING}
use Rattle.chw_lexer.specs.Words.{Word as SortedBytes, word_of, words_of}
use Rattle.chw_lexer.specs.declared.token.Token.{Token}
use Rattle.chw_grammar.specs.declared.program.Tree.{Tree}
use Rattle.chw_grammar.specs.Grammar.{Reads}
use Rattle.chw_grammar.specs.Height.{tree_height}
use Rattle.chw_grammar.specs.Lexemes.{Lexeme, terminal, terminal_of, lexemes_of}
use Rattle.chw_grammar.proofs.Reprint.{sorted}
use Rattle.chw_parser.specs.declared.parsing.ParseFault.{ParseFault}
use Rattle.chw_parser.specs.declared.parsing.ParseFault.TheVariants.{Syntax, Depth}
use Rattle.chw_parser.specs.Faults.{bracketed, open_after, ShallowFrom, Shallow, IsWrong, DepthAt, nested, high, IsFault}

-- tokens of the same sorts and bytes open the same brackets
pub shallow_words : (n : ℕ) (ls : List Lexeme) (text : List ℕ) (tokens : List Token) → words_of text tokens ≡ map sorted ls → ShallowFrom n ls → ShallowFrom n (lexemes_of text tokens)
shallow_words n [] text [] same s = tt
shallow_words n [] text (t ∷ tokens) same s = cc
shallow_words n (l ∷ ls) text [] same s = tt
shallow_words n (l ∷ ls) text (t ∷ tokens) same s =
    let head : sorted l ≡ word_of text t = cc in
    let tail : words_of text tokens ≡ map sorted ls = cc in
    let alike : terminal l ≡ terminal_of (word_of text t).sort (word_of text t).bytes = ap (λ (w : SortedBytes). terminal_of w.sort w.bytes) head in
    subst (λ (m : ℕ). (m ≤ NESTING) × ShallowFrom m (lexemes_of text tokens)) (ap (λ x. bracketed n x) alike)
    (s.0, shallow_words (bracketed n (terminal l)) ls text tokens tail s.1)

-- behind no first part of them are more brackets open
within : (n : ℕ) (front : List Lexeme) (l : Lexeme) (rest : List Lexeme) → ShallowFrom n (front ++ l ∷ rest) → open_after n (front ++ l ∷ []) ≤ NESTING
within n [] l rest s = s.0
within n (m ∷ front) l rest s = within (bracketed n (terminal m)) front l rest s.1

right : (lexemes front rest : List Lexeme) (tree : Tree) → lexemes ≡ front ++ rest → Reads lexemes tree → IsWrong front rest → ⊥
right lexemes front [] tree is read wrong = wrong tree (subst (λ (z : List Lexeme). Reads z tree) (is ∙ append-nil front) read)
right lexemes front (l ∷ rest) tree is read wrong = wrong rest tree (subst (λ (z : List Lexeme). Reads z tree) is read)

deep : (lexemes : List Lexeme) (at : ℕ) (tree : Tree) → Reads lexemes tree → Shallow lexemes → tree_height tree ≤ NESTING
    → ((a b : Tree) → Reads lexemes a → Reads lexemes b → a ≡ b) → DepthAt lexemes at → ⊥
deep lexemes at tree read s low one (nested front l rest is begins shallow over place) =
    let inside = within zero front l rest (subst (λ (z : List Lexeme). ShallowFrom zero z) is s) in
    omega (arith, inside, over)
deep lexemes at tree read s low one (high other reads shallow over place) =
    let same = ap (λ (t : Tree). tree_height t) (one other tree reads read) in
    omega (arith, same, over, low)

pub no_fault : (end : ℕ) (lexemes : List Lexeme) (tree : Tree) (fault : ParseFault) → Reads lexemes tree → Shallow lexemes → tree_height tree ≤ NESTING
    → ((a b : Tree) → Reads lexemes a → Reads lexemes b → a ≡ b) → IsFault end lexemes fault → ⊥
no_fault end lexemes tree (Syntax at) read s low one fault = right lexemes fault.0 fault.1 tree fault.2 read fault.5
no_fault end lexemes tree (Depth at) read s low one fault = deep lexemes at tree read s low one fault
