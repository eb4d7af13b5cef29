-- The names of a tree that was read have the forms of their tokens.
use Rattle.std.proofs.Common.{ℕ, true, false, List, [], ◌∷◌, ◌++◌}
use Rattle.std.specs.List.{flat_map}
use Rattle.chw_lexer.proofs.SpacedWords.{forms}
use Rattle.chw_grammar.specs.declared.program.Declaration.{Declaration}
use Rattle.chw_grammar.specs.declared.program.Declaration.TheVariants as declaration
use Rattle.chw_grammar.specs.declared.program.Tree.{Tree}
use Rattle.chw_grammar.specs.declared.terminal.Terminal.TheVariants as the
use Rattle.chw_grammar.specs.declared.word.Word.{Word}
use Rattle.chw_grammar.specs.Lexemes.{Lexeme, lexemes_of}
use Rattle.chw_grammar.specs.Text.{sign, port_lexemes, port_names_lexemes, ports_lexemes}
use Rattle.chw_grammar.proofs.Formed.{Formed}
use Rattle.chw_grammar.proofs.FormedTrees.{DeclarationsFormed, tree_formed}
use Rattle.chw_grammar.proofs.Reprint.{formed_tokens}
use Rattle.chw_names.specs.declared.space.Space.TheVariants.{Domains}
use Rattle.chw_names.specs.Globals.{words_in}
use Rattle.chw_resolve.specs.Written.{WasRead}
use Rattle.chw_base.specs.Names.{IsUpper, IsLower}

-- the name of each word has the form
abbrev pub HaveForm : (List ℕ → Type 0) → List Word → Type 0
HaveForm Form [] = Unit {0}
HaveForm Form (w ∷ ws) = Form w.bytes × HaveForm Form ws

domains_upper : (ds : List Declaration) → DeclarationsFormed ds → HaveForm IsUpper (flat_map (words_in Domains) ds)
domains_upper [] formed = tt
domains_upper (declaration.Domain w false ∷ ds) formed = (formed.0.1.0, domains_upper ds formed.1)
domains_upper (declaration.Domain w true ∷ ds) formed = (formed.0.1.0, domains_upper ds formed.1)
domains_upper (declaration.Data w ps cs ∷ ds) formed = domains_upper ds formed.1
domains_upper (declaration.Def w t e ∷ ds) formed = domains_upper ds formed.1

more_lower : (ws : List Word) → Formed (flat_map port_lexemes ws) → HaveForm IsLower ws
more_lower [] formed = tt
more_lower (w ∷ ws) formed = (formed.1.0, more_lower ws formed.1.1)

names_lower : (ws : List Word) → Formed (port_names_lexemes ws) → HaveForm IsLower ws
names_lower [] formed = tt
names_lower (w ∷ ws) formed = (formed.0, more_lower ws formed.1)

formed_left : (a b : List Lexeme) → Formed (a ++ b) → Formed a
formed_left [] b formed = tt
formed_left (l ∷ a) b formed = (formed.0, formed_left a b formed.1)

formed_right : (a b : List Lexeme) → Formed (a ++ b) → Formed b
formed_right [] b formed = formed
formed_right (l ∷ a) b formed = formed_right a b formed.1

ports_lower : (ws : List Word) → Formed (ports_lexemes ws) → HaveForm IsLower ws
ports_lower ws formed = names_lower ws (formed_left (port_names_lexemes ws) (sign the.Close ∷ []) formed.1)

pub record NamesFormed (tree : Tree) : Type 0 where
  pub domains : HaveForm IsUpper (flat_map (words_in Domains) tree.declarations)
  pub inputs : HaveForm IsLower tree.top.inputs
  pub outputs : HaveForm IsLower tree.top.outputs

pub names_formed : {text : List ℕ} (tree : Tree) → WasRead text tree → NamesFormed tree
names_formed {text} tree read =
    let tokens = formed_tokens text read.tokens (forms text read.tokens read.split) in
    let formed = tree_formed (lexemes_of text read.tokens) tree read.reads tokens in
    let outs : List Lexeme = ports_lexemes tree.top.outputs ++ sign the.Semicolon ∷ [] in
    let last = formed_right (ports_lexemes tree.top.inputs) outs formed.1.1.1 in
    record {
      domains = domains_upper tree.declarations formed.0;
      inputs = ports_lower tree.top.inputs (formed_left (ports_lexemes tree.top.inputs) outs formed.1.1.1);
      outputs = ports_lower tree.top.outputs (formed_left (ports_lexemes tree.top.outputs) (sign the.Semicolon ∷ []) last);
    }
