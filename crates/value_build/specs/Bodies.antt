-- Bodies, from their lambdas to their modules.
use Rattle.std.specs.Prelude.{◌≡◌, ℕ, List, [], ◌∷◌, ◌++◌, length}
use Rattle.chw_base.specs.declared.index.WireId.{WireId}
use Rattle.chw_terms.specs.declared.scene.Sort.{Sort}
use Rattle.chw_terms.specs.TermTree.{TermTree}
use Rattle.chw_types.specs.TypeTree.{TypeTree}
use Rattle.netlist.specs.declared.net.Module.{Module}
use Rattle.net_built.specs.Bodies.{BodyBuilt, BlockBuilt}
use Rattle.net_built.specs.Circuits.{Ground}
use Rattle.net_built.specs.Data.{HasParts}
use Rattle.net_built.specs.Terms.{Variable, variable}
use Rattle.net_built.specs.Wires.{Piece, new_wires, present}
use Rattle.value_build.specs.declared.scope.Variable.{Variable as Held}
use Rattle.value_build.specs.InScope.{as_variables, in_scope}

-- inputs for a variable of this type come behind these inputs, and the variable into scope
pub record IsInput (ground : Ground) (sort : Sort) (t : TypeTree) (before later : List ℕ)
    (outer inner : List Held) : Type 0 where
  pub widths : List ℕ
  pub parts : HasParts ground.datas sort t widths
  pub inputs : later ≡ before ++ present widths
  pub bound : as_variables inner
      ≡ as_variables outer ++ variable t (new_wires (length before) widths) ∷ []

-- what is built of the inner term behind these inputs, in this scope, is built of the term
abbrev pub IsUnder : Ground → Sort → (e inner : TermTree) → List ℕ → List Held → Type 0
IsUnder ground sort e inner inputs scope =
    (more : List ℕ) (p : Piece) (outputs : List WireId)
    → BodyBuilt ground sort (in_scope scope) (length inputs) inner more p outputs
    → BodyBuilt ground sort [] 0 e (inputs ++ more) p outputs

-- the module has these inputs, and the cells of the block in this scope
pub record IsModuleBelow (ground : Ground) (sort : Sort) (scope : List Variable)
    (inputs : List ℕ) (e : TermTree) (built : Module) : Type 0 where
  pub cells : Piece
  pub block : BlockBuilt ground sort scope (length inputs) e cells built.outputs
  pub are_inputs : built.inputs ≡ length inputs
  pub are_widths : built.widths ≡ inputs ++ cells.widths
  pub are_cells : built.cells ≡ cells.cells
