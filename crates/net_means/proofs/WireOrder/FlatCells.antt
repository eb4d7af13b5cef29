-- The flat cells of an instance: those of its module, and the copies at its uses.
use Rattle.std.specs.Prelude.{map}
use Rattle.std.proofs.Common.{◌≡◌, ℕ, ◌+◌, List, ◌∷◌, take, Some, slice_get, refl, subst}
use Rattle.chw_base.specs.declared.index.WireId.{WireId}
use Rattle.net_flat.specs.Flattened.{IsFlatOf, NoUse, moved, wire_from}
use Rattle.net_flat.specs.Flattened as flattened
use Rattle.netlist.specs.Feeds.{target}
use Rattle.netlist.specs.NetValue.{HasCell}
use Rattle.netlist.specs.Operators.{KeepsNothing}
use Rattle.netlist.specs.Wires.{read_by}
use Rattle.netlist.specs.declared.net.Cell.{Cell}
use Rattle.netlist.specs.declared.net.Cell.TheVariants.{Copy, Use}
use Rattle.netlist.specs.declared.net.Flat.{Flat}
use Rattle.netlist.specs.declared.net.Module.{Module}
use Rattle.netlist.specs.declared.net.Net.{Net}
use Rattle.use_laws.specs.ValueIn.{HasCellAt, HasUseAt, IsModuleAt}
use Rattle.net_grounds.specs.Facts.{Facts}
use Rattle.net_means.proofs.WireOrder.Paths.{base_at, base_inside, instance_of, module_used}

-- a cell among the flat wires of an instance
pub target_moved : (base : ℕ) (cell : Cell) (w : ℕ) → target cell ≡ Some w → target (moved base cell) ≡ Some (base + w)
target_moved base (Use k reads drives) w e = absurd (cc)
target_moved base _ w e = cc

pub read_by_moved : (base : ℕ) (cell : Cell) → read_by (moved base cell) ≡ map (wire_from base) (read_by cell)
read_by_moved base (Use k reads drives) = refl
read_by_moved base _ = refl

pub keeps_moved : (base : ℕ) (cell : Cell) → KeepsNothing cell → KeepsNothing (moved base cell)
keeps_moved base (Use k reads drives) keeps = keeps
keeps_moved base _ keeps = keeps

no_use : (cell : Cell) → KeepsNothing cell → NoUse cell
no_use (Use k reads drives) keeps = keeps
no_use _ keeps = tt

-- the flat wire of this number
abbrev pub flat_wire : ℕ → WireId
flat_wire w = record { number = w }

module _ (facts : Facts) (net : Net) (flat : Flat) (f : IsFlatOf net flat) (path : List ℕ) where
  pub own_cell : (cell : Cell) → HasCellAt net path cell → KeepsNothing cell → HasCell flat (moved (base_at net path) cell)
  own_cell cell c keeps =
      let base = base_at net path in
      let inst = instance_of facts net path c.m c.at in
      (f.cells (moved base cell)).1 (flattened.own base inst.i c.place c.m cell inst.stands inst.found c.stands (no_use cell keeps))

  -- an input of a used instance copies what the use reads
  pub input_cell : (place j : ℕ) (reads drives : List WireId) (r : WireId) → HasUseAt net path place reads drives → slice_get reads j ≡ Some r
      → HasCell flat (Copy (flat_wire (base_at net (place ∷ path) + j)) (wire_from (base_at net path) r))
  input_cell place j reads drives r u e =
      let base = base_at net path in
      let inst = instance_of facts net path u.m u.at in
      subst (λ n. HasCell flat (Copy (flat_wire (n + j)) (wire_from base r))) (base_inside net path place u.m u.at)
      ((f.cells _).1 (flattened.input base inst.i u.m (take place u.m.cells) u.k reads drives inst.stands inst.found (facts.flat.stands_at u.m place u.k reads drives u.stands) j r e))

  -- a wire that a use drives copies an output of the used instance
  pub output_cell : (place j : ℕ) (reads drives : List WireId) (inner : Module) (w o : WireId) → HasUseAt net path place reads drives → IsModuleAt net (place ∷ path) inner
      → slice_get drives j ≡ Some w → slice_get inner.outputs j ≡ Some o → HasCell flat (Copy (wire_from (base_at net path) w) (wire_from (base_at net (place ∷ path)) o))
  output_cell place j reads drives inner w o u at d e =
      let base = base_at net path in
      let inst = instance_of facts net path u.m u.at in
      let found = module_used net path place reads drives inner u at in
      subst (λ n. HasCell flat (Copy (wire_from base w) (wire_from n o))) (base_inside net path place u.m u.at)
      ((f.cells _).1 (flattened.output base inst.i u.m (take place u.m.cells) u.k reads drives inst.stands inst.found (facts.flat.stands_at u.m place u.k reads drives u.stands) inner found j w o d e))
