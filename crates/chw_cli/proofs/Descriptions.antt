-- A description has no fault.
use Rattle.std.proofs.Common.{◌≡◌, ℕ, ◌≤◌, List, [], ◌∷◌, ◌++◌, length, ap, subst, arith}
use Rattle.std.proofs.lemmas.List.{append-nil}
use Rattle.chw_base.specs.declared.limits.TheConstants.{NESTING}
use Rattle.chw_cli.specs.Descriptions.{IsDescription, NoDescription}
use Rattle.chw_cli.specs.Descriptions.NoDescription.{lex, syntax, depth}
use Rattle.chw_cli.specs.declared.refusal.Refusal.{Refusal}
use Rattle.chw_grammar.specs.Grammar.{Reads}
use Rattle.chw_grammar.specs.Height.{tree_height}
use Rattle.chw_grammar.specs.Lexemes.{Lexeme, terminal, lexemes_of}
use Rattle.chw_grammar.specs.declared.program.Tree.{Tree}
use Rattle.chw_lexer.specs.Tokens.{Tokens, NoToken}
use Rattle.chw_lexer.specs.declared.token.Token.{Token}
use Rattle.chw_parser.specs.Faults.DepthAt.{nested, high}
use Rattle.chw_parser.specs.Faults.{bracketed, open_after, IsWrong, Shallow, ShallowFrom, SyntaxAt, DepthAt}

-- a text splits once, and then each of its bytes is split; tokens have one tree
abbrev pub OneSplitting : Type 0
OneSplitting = (text : List ℕ) (a b : List Token) → Tokens text a → Tokens text b → a ≡ b

abbrev pub NoLexFault : Type 0
NoLexFault = (text : List ℕ) (tokens : List Token) (at : ℕ) → Tokens text tokens → NoToken text at → ⊥

abbrev pub OneTree : Type 0
OneTree = (lexemes : List Lexeme) (a b : Tree) → Reads lexemes a → Reads lexemes b → a ≡ b

-- a text is one description
pub same_description : OneSplitting → OneTree → (text : List ℕ) (a b : Tree) → IsDescription text a → IsDescription text b → a ≡ b
same_description once one text a b d e =
    let same = once text d.tokens e.tokens d.split e.split in
    one (lexemes_of text e.tokens) a b (subst (λ ts. Reads (lexemes_of text ts) a) same d.reads) e.reads

-- tokens that are read have no wrong one
not_wrong : (front rest : List Lexeme) (tree : Tree) → Reads (front ++ rest) tree → IsWrong front rest → ⊥
not_wrong front [] tree r w = w tree (subst (λ ls. Reads ls tree) (append-nil front) r)
not_wrong front (l ∷ rest) tree r w = w rest tree r

no_syntax : (end at : ℕ) (lexemes : List Lexeme) (tree : Tree) → Reads lexemes tree → SyntaxAt end lexemes at → ⊥
no_syntax end at lexemes tree r (front, rest, is, begins, shallow, wrong, place) = not_wrong front rest tree (subst (λ ls. Reads ls tree) is r) wrong

-- where brackets stay few, they are few behind each first part
few_behind : (n : ℕ) (front rest : List Lexeme) (l : Lexeme) → ShallowFrom n (front ++ l ∷ rest) → open_after n (front ++ l ∷ []) ≤ NESTING
few_behind n [] rest l h = h.0
few_behind n (x ∷ front) rest l h = few_behind (bracketed n (terminal x)) front rest l h.1

no_depth : OneTree → (at : ℕ) (lexemes : List Lexeme) (tree : Tree) → Reads lexemes tree → Shallow lexemes → tree_height tree ≤ NESTING → DepthAt lexemes at → ⊥
no_depth one at lexemes tree r h low (nested front l rest is begins shallow deep place) =
    let few = few_behind 0 front rest l (subst Shallow is h) in absurd (omega arith)
no_depth one at lexemes tree r h low (high other r' shallow over place) =
    let same = ap tree_height (one lexemes tree other r r') in absurd (omega arith)

pub has_no_fault : OneSplitting → NoLexFault → OneTree → (text : List ℕ) (tree : Tree) (r : Refusal) → IsDescription text tree → NoDescription text r → ⊥
has_no_fault once never one text tree _ d (lex at f) = never text d.tokens at d.split f
has_no_fault once never one text tree _ d (syntax tokens at split f) =
    let same = once text tokens d.tokens split d.split in
    no_syntax (length text) at (lexemes_of text d.tokens) tree d.reads (subst (λ ts. SyntaxAt (length text) (lexemes_of text ts) at) same f)
has_no_fault once never one text tree _ d (depth tokens at split f) =
    let same = once text tokens d.tokens split d.split in
    no_depth one at (lexemes_of text d.tokens) tree d.reads d.shallow d.low (subst (λ ts. DepthAt (lexemes_of text ts) at) same f)
