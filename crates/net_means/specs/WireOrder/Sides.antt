-- A right side of a value in an instance, with the wires of what it looks at.
use Rattle.std.specs.Prelude.{◌≡◌, ℕ, List, [], ◌∷◌, length, Some, slice_get}
use Rattle.chw_base.specs.declared.index.WireId.{WireId}
use Rattle.chw_types.specs.declared.declarations.Data.{Data}
use Rattle.chw_types.specs.TypeTree.{TypeTree}
use Rattle.chw_terms.specs.TermTree.{TermTree}
use Rattle.chw_typing.specs.Programs.{IsSound}
use Rattle.chw_typing.specs.Scopes.{AreTermTypes}
use Rattle.chw_typing.specs.Typing.{HasTypeUpTo}
use Rattle.rewriting.specs.Origins.{Origins, setting_at}
use Rattle.chw_layout.specs.Measured.{HasWidth}
use Rattle.netlist.specs.declared.net.Net.{Net}
use Rattle.net_built.specs.Bodies.{ValueCells}
use Rattle.net_built.specs.Terms.{head_of, types_of, operands_of, Variable}
use Rattle.net_built.specs.Wires.{Piece, wire_count}
use Rattle.cell_bits.specs.Bearing.{HasCells}
use Rattle.net_means.specs.SideBits.Sides.{ground_of, types_in, LooksAt}

-- the type has a width, and there are as many wires as that asks for: none, or one
pub record HasItsWires (datas : List Data) (t : TypeTree) (wires : List WireId) : Type 0 where
  pub width : ℕ
  pub has : HasWidth datas t width
  pub many : length wires ≡ wire_count (width ∷ [])

-- a right side of this type and width among these variables, which have closed types: the instance
-- has its cells, and each variable at which it looks has its wires
pub record SideLaid (o : Origins) (order : List ℕ) (scope : List Variable) (net : Net)
    (path : List ℕ) (n w : ℕ) (t : TypeTree) (e : TermTree) (piece : Piece) : Type 0 where
  pub sound : IsSound (setting_at o)
  pub scoped : AreTermTypes (setting_at o) [] (types_in scope)
  pub typed : HasTypeUpTo (setting_at o) [] (types_in scope) e t
  pub wide : HasWidth o.program.datas t w
  pub built :
      ValueCells (ground_of o.program order) scope n w (head_of e) (types_of e) (operands_of e)
      piece
  pub cells : HasCells net path piece.cells
  pub held :
      (x : ℕ) (it : Variable) → LooksAt e x → slice_get scope x ≡ Some it
      → HasItsWires o.program.datas it.ty it.wires
