-- The canonical text of a small description, by computation.
use Rattle.std.specs.Prelude.{◌≡◌, ℕ, true, false, List, [], ◌∷◌, ◌++◌, codes, refl}
use Rattle.chw_grammar.specs.declared.program.Tree.{Tree}
use Rattle.chw_grammar.specs.declared.program.Declaration.TheVariants.{Domain, Def}
use Rattle.chw_grammar.specs.declared.word.Word.{Word}
use Rattle.chw_grammar.specs.TypeTree.{Ty, type_arrow, type_named, type_numeral, no_types, type_and}
use Rattle.chw_grammar.specs.TermTree.{term_lambda, term_name}
use Rattle.chw_grammar.specs.Text.{Text}

abbrev w : List ℕ → Word
w bytes = record { at = 0; bytes = bytes }

abbrev signal : Ty
signal =
    type_named (w (codes "Signal")) (type_and (type_named (w (codes "Sys")) no_types)
    (type_and (type_named (w (codes "Unsigned")) (type_and (type_numeral (w (codes "8"))) no_types)) no_types))

abbrev example : Tree
example = record {
  declarations = Domain (w (codes "Sys")) false ∷ Domain (w (codes "Fast")) true ∷ Def (w (codes "main")) (type_arrow signal signal) (term_lambda (w (codes "x")) signal (term_name (w (codes "x")))) ∷ [];
  top = record { definition = w (codes "main"); inputs = w (codes "x") ∷ []; outputs = w (codes "o") ∷ [] };
}

pub example_text : Text example
    ≡ codes "domain Sys ;\ndomain Fast reset ;\n" ++ (codes "def main : Signal Sys ( Unsigned 8 ) -> Signal Sys ( Unsigned 8 ) = \\ ( x : Signal Sys ( Unsigned 8 ) ) . x ;\n"
    ++ codes "top main ( x ) ( o ) ;\n")
example_text = refl
