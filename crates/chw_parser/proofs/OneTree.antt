-- Tokens have at most one tree, since the symbols read each.
use Rattle.std.specs.Prelude.{◌≡◌, List, [], ◌∷◌}
use Rattle.chw_grammar.specs.declared.program.Tree.{Tree}
use Rattle.chw_grammar.specs.Grammar.{Reads}
use Rattle.chw_grammar.specs.Lexemes.{Lexeme}
use Rattle.parser_parts.specs.declared.value.Value.{Value}
use Rattle.parser_parts.specs.declared.value.Value.TheVariants.{Whole}
use Rattle.chw_parser.proofs.Once.{one_run}
use Rattle.chw_parser.proofs.ReadPrograms.{tree_runs}

pub whole_same : (a b : Tree) (vs us : List Value) → Whole a ∷ vs ≡ Whole b ∷ us → a ≡ b
whole_same a b vs us e = cc

pub one_tree : (lexemes : List Lexeme) (a b : Tree) → Reads lexemes a → Reads lexemes b → a ≡ b
one_tree lexemes a b first second = whole_same a b [] [] (one_run (tree_runs lexemes a first) (tree_runs lexemes b second))
