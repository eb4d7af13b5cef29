-- Which texts are descriptions, with their programs, and why a text is none.
use Rattle.std.specs.Prelude.{ℕ, ◌≤◌, ◌↔◌, List, length}
use Rattle.chw_base.specs.declared.limits.TheConstants.{NESTING}
use Rattle.chw_lexer.specs.Tokens.{Tokens, NoToken}
use Rattle.chw_lexer.specs.declared.token.Token.{Token}
use Rattle.chw_grammar.specs.Grammar.{Reads}
use Rattle.chw_grammar.specs.Height.{tree_height}
use Rattle.chw_grammar.specs.Lexemes.{lexemes_of}
use Rattle.chw_grammar.specs.declared.program.Tree.{Tree}
use Rattle.chw_parser.specs.Faults.{IsFault, Shallow}
use Rattle.chw_parser.specs.declared.parsing.ParseFault.TheVariants as fault
use Rattle.chw_check.specs.Faults.{IsTypeFault}
use Rattle.chw_check.specs.declared.fault.TypeFault.{TypeFault}
use Rattle.chw_resolve.specs.Faults.{IsNameFault, IsWellNamed}
use Rattle.chw_resolve.specs.Programs.{IsProgramOf}
use Rattle.chw_resolve.specs.declared.fault.NameFault.{NameFault}
use Rattle.chw_terms.specs.Tidy.{IsTidy}
use Rattle.chw_terms.specs.declared.program.Program.{Program}
use Rattle.chw_typing.specs.Programs.{IsTyped}
use Rattle.answers.specs.Compilation.Compiling.{CompilesTo, EndsSmall}
use Rattle.netlist.specs.declared.net.Flat.{Flat}
use Rattle.netlist.specs.declared.net.Net.{Net}
use Rattle.chw_cli.specs.declared.refusal.Refusal.{Refusal}
use Rattle.chw_cli.specs.declared.refusal.Refusal.TheVariants.{Lex, Syntax, Depth, Names, Types}

-- the text is a description with this tree, within the limits on open brackets and on height
pub record IsDescription (text : List ℕ) (tree : Tree) : Type 0 where
  pub tokens : List Token
  pub split : Tokens text tokens
  pub reads : Reads (lexemes_of text tokens) tree
  pub shallow : Shallow (lexemes_of text tokens)
  pub low : tree_height tree ≤ NESTING

-- why a text is no description: no token begins at a place, or its tokens have a first fault
pub data NoDescription (text : List ℕ) : Refusal → Type 0 where
  lex : (at : ℕ) → NoToken text at → NoDescription text (Lex at)
  syntax : (tokens : List Token) (at : ℕ) → Tokens text tokens → IsFault (length text) (lexemes_of text tokens) (fault.Syntax at) → NoDescription text (Syntax at)
  depth : (tokens : List Token) (at : ℕ) → Tokens text tokens → IsFault (length text) (lexemes_of text tokens) (fault.Depth at) → NoDescription text Depth

-- the names of the description are as they should be, and this is its program: the one that is tidy
pub record HasProgram (tree : Tree) (p : Program) : Type 0 where
  pub named : IsWellNamed tree
  pub is : IsProgramOf tree p
  pub tidy : IsTidy p

-- the text is a description that is typed, and this is its tree
pub record IsTypedText (text : List ℕ) (tree : Tree) : Type 0 where
  pub description : IsDescription text tree
  pub program : Program
  pub is : HasProgram tree program
  pub typed : IsTyped program

-- why a text is no description that is typed
pub data IsWrongText (text : List ℕ) : Refusal → Type 0 where
  no_description : (r : Refusal) → NoDescription text r → IsWrongText text r
  wrong_names : (tree : Tree) (fault : NameFault) → IsDescription text tree → IsNameFault tree fault
      → IsWrongText text (Names fault)
  wrong_types : (tree : Tree) (p : Program) (fault : TypeFault) → IsDescription text tree → HasProgram tree p
      → IsTypeFault p fault → IsWrongText text (Types fault)

-- the text is a description that is typed, and its program is this one, which is compiled to some
-- net by so many steps at most
pub record Compiles (text : List ℕ) (budget : ℕ) (p : Program) : Type 0 where
  pub tree : Tree
  pub typed : IsTypedText text tree
  pub has : HasProgram tree p
  pub net : Net
  pub flat : Flat
  pub compiles : CompilesTo p budget net flat

-- the text is one of which the program is compiled by so many steps at most
abbrev pub IsCompiled : ℕ → List ℕ → Type 0
IsCompiled budget text = (p : Program) × Compiles text budget p

-- the text is a description that is typed, and its program is this one; its run of so many steps at
-- most ends in a state that is blocked nowhere, acyclic and small
pub record CanCompile (text : List ℕ) (budget : ℕ) (p : Program) : Type 0 where
  pub tree : Tree
  pub typed : IsTypedText text tree
  pub has : HasProgram tree p
  pub ends : EndsSmall p budget

-- the text is one of which the program can be compiled by so many steps at most
abbrev pub IsCompilable : ℕ → List ℕ → Type 0
IsCompilable budget text = (p : Program) × CanCompile text budget p

-- a text is one of which the program can be compiled exactly where it is one of which the program
-- is compiled to some net
abbrev pub CompilableIsCompiled : Type 0
CompilableIsCompiled =
    (budget : ℕ) (text : List ℕ) → IsCompilable budget text ↔ IsCompiled budget text
