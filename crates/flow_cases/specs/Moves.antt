-- Alternatives that moved.
use Rattle.std.specs.Prelude.{ℕ, List, map}
use Rattle.chw_types.specs.TypeTree.{TypeTree}
use Rattle.chw_types.specs.TypeMoves.{sub}
use Rattle.chw_types.specs.TypeView.{trees_of}
use Rattle.chw_types.specs.Arguments.{arguments}
use Rattle.chw_terms.specs.declared.term.Alt.{Alt}
use Rattle.chw_terms.specs.TermMoves.{shift}
use Rattle.chw_terms.specs.TermTree.{case_of, binders}
use Rattle.chw_terms.specs.TermView.{alts_of}
use Rattle.rewriting.specs.Shapes.{shift_alts}

-- an alternative under so many more binders
abbrev pub alt_under : ℕ → Alt → Alt
alt_under by it =
    record { pattern = it.pattern; body = shift it.body (binders it.pattern) by }

-- an alternative whose body is looked at by a case with these alternatives
abbrev pub looked_at : List Alt → Alt → Alt
looked_at outer it =
    record {
      pattern = it.pattern;
      body = case_of it.body (shift_alts (alts_of outer) 0 (binders it.pattern));
    }

-- fields at the arguments of their data type
abbrev pub fields_put : List TypeTree → List TypeTree → List TypeTree
fields_put fields args = map (λ f. sub f (arguments (trees_of args))) fields
