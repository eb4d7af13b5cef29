-- Places at rest: no rule acts there or below, and nothing is blocked.
use Rattle.std.specs.Prelude.{ℕ, List, []}
use Rattle.std.specs.List.{AllByRecursion}
use Rattle.chw_types.specs.TypeTree.{TypeTree}
use Rattle.chw_terms.specs.References.{DataRefers}
use Rattle.chw_terms.specs.TermTree.{TermTree}
use Rattle.chw_terms.specs.declared.rule.Rule.{Rule}
use Rattle.chw_terms.specs.declared.scene.Mode.{Mode}
use Rattle.chw_terms.specs.declared.scene.Mode.TheVariants.{V, C, HV}
use Rattle.chw_typing.specs.Programs.{IsComplete}
use Rattle.chw_typing.specs.Typing.{HasType}
use Rattle.graph_order.specs.References.{HasNoCycle}
use Rattle.rewriting.specs.Active.{IsActive}
use Rattle.rewriting.specs.Instances.{HasInstance}
use Rattle.rewriting.specs.Named.{IsNamed}
use Rattle.rewriting.specs.Origins.{Origins, setting_at}
use Rattle.rewriting.specs.Spots.{Spot}
use Rattle.rule_types.specs.Laws.{IsTypedPlace}
use Rattle.normal_forms.specs.Blocked.{Block, BlocksAt}

-- no rule has an instance at the place or below it, and nothing blocks one of these places
pub record IsAtRest (o : Origins) (at : Spot) (e : TermTree) : Type 0 where
  pub still : (path : List ℕ) (to : Spot) (x new : TermTree) (r : Rule)
      → IsActive o at e path to x → HasInstance o to r x new → ⊥
  pub free : (path : List ℕ) (to : Spot) (x : TermTree) (b : Block)
      → IsActive o at e path to x → BlocksAt o to x b → ⊥

-- the mode of the bodies in which a place of this mode is: constants are in circuits alone
abbrev pub ground : Mode → Mode
ground V = V
ground HV = V
ground _ = C

-- a typed place at rest, of a complete term, where no data type leads back to itself and each
-- variable in scope has a type that is named in such bodies
pub record IsRestPlace (o : Origins) (at : Spot) (e : TermTree) (t : TypeTree) : Type 0 where
  pub place : IsTypedPlace o at
  pub acyclic : HasNoCycle (DataRefers o.program.datas)
  pub has : HasType (setting_at o) [] at.vars e t
  pub complete : IsComplete o.program.datas e
  pub named : AllByRecursion (IsNamed o.program.datas (ground at.mode)) at.vars
  pub rest : IsAtRest o at e
