-- Lifted made definitions with the wires of their operands.
use Rattle.std.specs.Prelude.{◌≡◌, ℕ, List, [], ◌∷◌, ◌++◌}
use Rattle.chw_base.specs.declared.index.WireId.{WireId}
use Rattle.chw_prims.specs.declared.prim.Primitive.{Primitive as Prim}
use Rattle.chw_terms.specs.TermTree.{TermTree, app, ty_app, prim}
use Rattle.chw_types.specs.TypeTree.{TypeTree}
use Rattle.net_built.specs.Circuits.{IsLifted}
use Rattle.net_built.specs.Terms.{Variable, wires_of_all}
use Rattle.circuit_build.specs.declared.arguments.Lifting.{Lifting}

-- a primitive at three types, on a function and a signal
abbrev pub on_signal : Prim → (d a b : TypeTree) → (f x : TermTree) → TermTree
on_signal p d a b f x = app (app (ty_app (ty_app (ty_app (prim p) d) a) b) f) x

-- a primitive on such arguments
abbrev pub lifting : Prim → Lifting → TermTree
lifting which p = on_signal which p.domain.now p.from.now p.to.now p.function.now p.signal.now

-- the term lifts the made definition on operands whose wires were put behind others
pub record IsLiftedOn (scope : List Variable) (m : ℕ) (u : TermTree) (before later : List WireId)
    : Type 0 where
  pub operands : List TermTree
  pub lifts : IsLifted m u operands
  pub are : later ≡ before ++ wires_of_all scope operands

-- so it does, and this signal is one more operand
pub record AreLiftedReads (scope : List Variable) (m : ℕ) (u x : TermTree)
    (before later : List WireId) : Type 0 where
  pub operands : List TermTree
  pub lifts : IsLifted m u operands
  pub are : later ≡ before ++ wires_of_all scope (operands ++ x ∷ [])
