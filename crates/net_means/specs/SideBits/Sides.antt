-- A right side of a value in an instance: what it is given, and what it then has.
use Rattle.std.specs.Prelude.{◌≡◌, ℕ, zero, suc, Bool, List, [], ◌∷◌, map, Some, slice_get}
use Rattle.chw_base.specs.declared.index.WireId.{WireId}
use Rattle.chw_clock.specs.declared.event.Event.{Event}
use Rattle.chw_types.specs.TypeTree.{TypeTree, TypeTrees}
use Rattle.chw_prims.specs.declared.prim.Primitive.TheVariants.{VAt}
use Rattle.chw_terms.specs.declared.program.Program.{Program}
use Rattle.chw_terms.specs.TermTree.{TermTree, var, prim, vec_lit, Terms}
use Rattle.chw_typing.specs.Programs.{IsSound}
use Rattle.chw_typing.specs.Scopes.{AreTermTypes}
use Rattle.chw_typing.specs.Typing.{HasTypeUpTo}
use Rattle.rewriting.specs.Origins.{Origins, setting_at}
use Rattle.chw_layout.specs.Measured.{closed_value, HasWidth}
use Rattle.chw_meaning.specs.Values.{Thunk, closed, Thunks, thunk_at}
use Rattle.carrying.specs.Carrying.{Carries}
use Rattle.netlist.specs.declared.net.Net.{Net}
use Rattle.net_built.specs.Bodies.{ValueCells}
use Rattle.net_built.specs.Circuits.{Ground}
use Rattle.net_built.specs.Terms.{head_of, types_of, operands_of, list_of, Variable}
use Rattle.net_built.specs.Wires.{Piece}
use Rattle.cell_bits.specs.Bearing.{HasCells, Bears}

-- what the terms of a program are built over, with modules in this order
abbrev pub ground_of : Program → List ℕ → Ground
ground_of p order = record { datas = p.datas; order = order }

-- the types of the variables in scope
abbrev pub types_in : List Variable → List TypeTree
types_in scope = map (λ (v : Variable). v.ty) scope

-- the variable's thunk carries these bits, and in the instance its wires have them at the history
pub record VariableHas (p : Program) (net : Net) (path : List ℕ) (h : List Event) (γ : Thunks)
    (x : ℕ) (it : Variable) (b : List Bool) : Type 0 where
  pub thunk : Thunk
  pub there : thunk_at γ x ≡ Some thunk
  pub carries : Carries p it.ty thunk b
  pub bears : Bears net path h it.wires b

-- they do so of some bits
abbrev pub HasBits : Program → Net → List ℕ → List Event → Thunks → ℕ → Variable → Type 0
HasBits p net path h γ x it = (b : List Bool) × VariableHas p net path h γ x it b

-- of a head on these types the operand of this number doesn't matter: it is the index of `vat` on a
-- vector of one element
pub data IsIdle : TermTree → List TypeTree → ℕ → Type 0 where
  index_of_one : {m k a : TypeTree}
      → closed_value m ≡ zero → IsIdle (prim VAt) (m ∷ k ∷ a ∷ []) (suc zero)

-- a right side that is no case looks at these variables: at itself, at its elements, and at its
-- operands that matter
pub data LooksAt : TermTree → ℕ → Type 0 where
  at_itself : {x : ℕ} → LooksAt (var x) x
  at_element : {t : TypeTree} {es : Terms} {x : ℕ} (i : ℕ)
      → slice_get (list_of es) i ≡ Some (var x) → LooksAt (vec_lit t es) x
  at_operand : {e : TermTree} {x : ℕ} (i : ℕ)
      → slice_get (operands_of e) i ≡ Some (var x) → ¬ IsIdle (head_of e) (types_of e) i
      → LooksAt e x

-- a right side of this type and width among these variables, which have closed types: the instance
-- has its cells, and each variable at which it looks has bits
pub record SideGiven (o : Origins) (order : List ℕ) (scope : List Variable) (γ : Thunks)
    (net : Net) (path : List ℕ) (h : List Event) (n w : ℕ) (t : TypeTree) (e : TermTree)
    (piece : Piece) : Type 0 where
  pub sound : IsSound (setting_at o)
  pub scoped : AreTermTypes (setting_at o) [] (types_in scope)
  pub typed : HasTypeUpTo (setting_at o) [] (types_in scope) e t
  pub wide : HasWidth o.program.datas t w
  pub built :
      ValueCells (ground_of o.program order) scope n w (head_of e) (types_of e) (operands_of e)
      piece
  pub cells : HasCells net path piece.cells
  pub variables :
      (x : ℕ) (it : Variable) → LooksAt e x → slice_get scope x ≡ Some it
      → HasBits o.program net path h γ x it

-- its thunk carries bits of the type, and these wires have them
pub record SideHas (p : Program) (γ : Thunks) (δ : TypeTrees) (net : Net) (path : List ℕ)
    (h : List Event) (t : TypeTree) (e : TermTree) (wires : List WireId) : Type 0 where
  pub bits : List Bool
  pub carries : Carries p t (closed e γ δ) bits
  pub bears : Bears net path h wires bits
