-- The fields of an alternative.
use Rattle.std.specs.Prelude.{◌≡◌, ℕ, List, ◌++◌}
use Rattle.chw_types.specs.TypeTree.{TypeTree}
use Rattle.chw_terms.specs.declared.term.Pattern.{Pattern}
use Rattle.chw_typing.specs.HeadTypes.{PatternOf}
use Rattle.net_built.specs.Circuits.{Ground}
use Rattle.net_built.specs.Data.{HaveWidths, field_cuts, variables_from}
use Rattle.net_built.specs.Terms.{Variable}
use Rattle.net_built.specs.Wires.{Piece, ◌▸◌}
use Rattle.value_build.specs.Added.{next}

-- fields of these types with their cuts were added, and their variables put into scope
pub record AreFields (ground : Ground) (it : Variable) (below : ℕ) (fields : List TypeTree)
    (before later : Piece) (outer inner : List Variable) : Type 0 where
  pub widths : List ℕ
  pub are : HaveWidths ground.datas fields widths
  pub cuts : later ≡ before ▸ field_cuts below it.wires widths (next before)
  pub bound : inner ≡ outer ++ variables_from (next before) fields widths

-- so those of a pattern
pub record IsBound (ground : Ground) (it : Variable) (below : ℕ) (q : Pattern)
    (before later : Piece) (outer inner : List Variable) : Type 0 where
  pub fields : List TypeTree
  pub binds : PatternOf ground.datas it.ty q fields
  pub are : AreFields ground it below fields before later outer inner
