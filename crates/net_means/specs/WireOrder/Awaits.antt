-- Which wires of instances settle by which others within one event, and ranks of wires.
use Rattle.std.specs.Prelude.{◌≡◌, ℕ, ◌<◌, List, ◌∷◌, Some, slice_get}
use Rattle.chw_base.specs.declared.index.WireId.{WireId}
use Rattle.netlist.specs.Feeds.{target}
use Rattle.netlist.specs.Operators.{KeepsNothing}
use Rattle.netlist.specs.Wires.{read_by}
use Rattle.netlist.specs.declared.net.Cell.{Cell}
use Rattle.netlist.specs.declared.net.Module.{Module}
use Rattle.netlist.specs.declared.net.Net.{Net}
use Rattle.use_laws.specs.ValueIn.{HasCellAt, HasUseAt, IsModuleAt}

-- within one event the first wire, of an instance, settles by the second, of an instance
pub data Settles (net : Net) : List ℕ → ℕ → List ℕ → ℕ → Type 0 where
  -- the wire of a cell that keeps nothing, by a wire that the cell reads
  by_cell : {path : List ℕ} {cell : Cell} {w : ℕ} {v : WireId} (k : ℕ)
      → HasCellAt net path cell → KeepsNothing cell → target cell ≡ Some w
      → slice_get (read_by cell) k ≡ Some v → Settles net path w path v.number
  -- an input of a used instance, by the wire that the use reads
  by_input : {path : List ℕ} {reads drives : List WireId} {r : WireId} (place j : ℕ)
      → HasUseAt net path place reads drives → slice_get reads j ≡ Some r
      → Settles net (place ∷ path) j path r.number
  -- a wire that a use drives, by the output of the used instance
  by_output : {path : List ℕ} {reads drives : List WireId} {inner : Module} {w o : WireId}
      (place j : ℕ)
      → HasUseAt net path place reads drives → IsModuleAt net (place ∷ path) inner
      → slice_get drives j ≡ Some w → slice_get inner.outputs j ≡ Some o
      → Settles net path w.number (place ∷ path) o.number
  -- and one by another
  by_more : {p q r : List ℕ} {w v u : ℕ}
      → Settles net p w q v → Settles net q v r u → Settles net p w r u

-- each of the first wires, of an instance, settles by each of the second, of an instance
abbrev pub AllSettle : Net → List ℕ → List WireId → List ℕ → List WireId → Type 0
AllSettle net p wires q others =
    (i j : ℕ) (w v : WireId) → slice_get wires i ≡ Some w → slice_get others j ≡ Some v
    → Settles net p w.number q v.number

-- a rank of the wires of instances that falls from each wire to those by which it settles
pub record Ranked (net : Net) : Type 0 where
  pub rank : List ℕ → ℕ → ℕ
  pub falls : (p q : List ℕ) (w v : ℕ) → Settles net p w q v → rank q v < rank p w
