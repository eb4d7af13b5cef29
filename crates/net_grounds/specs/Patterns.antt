-- What is promised of patterns.
use Rattle.std.specs.Prelude.{List, length, ◌≡◌}
use Rattle.chw_terms.specs.TermTree.{binders}
use Rattle.chw_terms.specs.declared.term.Pattern.{Pattern}
use Rattle.chw_types.specs.SameTypes.{SameTypes}
use Rattle.chw_types.specs.TypeTree.{TypeTree}
use Rattle.chw_types.specs.declared.declarations.Data.{Data}
use Rattle.chw_types.specs.declared.kind.Kind.{Kind}
use Rattle.chw_typing.specs.HeadTypes.{PatternOf}
use Rattle.chw_typing.specs.Programs.{IsSound}
use Rattle.chw_typing.specs.Scopes.{AreSame, HasKind, Setting}
use Rattle.chw_typing.specs.Typing.{Binds}

-- the pattern is for the type too, with fields that are the same
pub record PatternSame (datas : List Data) (v : TypeTree) (q : Pattern) (fields : List TypeTree)
    : Type 0 where
  pub types : List TypeTree
  pub of : PatternOf datas v q types
  pub same : AreSame fields types

-- facts on patterns
pub record PatternFacts : Type 0 where
  -- a pattern binds as many variables as it has binders
  pub binds :
      {s : Setting} {kinds : List Kind} {u : TypeTree} {q : Pattern} {bound : List TypeTree}
      → Binds s kinds u q bound → length bound ≡ binders q
  -- a pattern for a type has fields of one list of types
  pub one_pattern :
      {datas : List Data} {u v : TypeTree} {q r : Pattern} {ts us : List TypeTree}
      → PatternOf datas u q ts → PatternOf datas v r us → u ≡ v → q ≡ r → ts ≡ us
  -- the same of one pattern and one type
  pub pattern_once :
      {datas : List Data} {u : TypeTree} {q : Pattern} {fs gs : List TypeTree}
      → PatternOf datas u q fs → PatternOf datas u q gs → fs ≡ gs
  -- a pattern for a type is one for each that is the same, with fields that are the same
  pub pattern_same :
      {s : Setting} {u : TypeTree} {q : Pattern} {fields : List TypeTree}
      → PatternOf s.datas u q fields → IsSound s → (kinds : List Kind) (j : Kind) (v : TypeTree)
      → HasKind s kinds u j → SameTypes u v → PatternSame s.datas v q fields
