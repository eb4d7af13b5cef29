-- The flat cells of an instance: those of its module, and the copies at its uses.
use Rattle.std.proofs.Common.{◌≡◌, ℕ, ◌+◌, Bool, List, [], ◌∷◌, take, Some, slice_get, refl, sym, subst}
use Rattle.chw_base.specs.declared.index.WireId.{WireId}
use Rattle.chw_clock.specs.declared.event.Event.{Event}
use Rattle.net_flat.specs.Flattened.{IsFlatOf, NoUse, moved, wire_from, wires_before}
use Rattle.net_flat.specs.Flattened as flattened
use Rattle.net_flat.proofs.Within.{stands_at}
use Rattle.netlist.specs.NetValue.{HasCell, NetValue}
use Rattle.netlist.specs.NetValue.NetValue.{operated}
use Rattle.netlist.specs.NetValue.ReadValues.{read_none, read_and}
use Rattle.netlist.specs.declared.net.Cell.{Cell}
use Rattle.netlist.specs.declared.net.Cell.TheVariants.{Copy}
use Rattle.netlist.specs.declared.net.Flat.{Flat}
use Rattle.netlist.specs.declared.net.Module.{Module}
use Rattle.netlist.specs.declared.net.Net.{Net}
use Rattle.use_laws.specs.ValueIn.{BeginsAt, HasCellAt, HasUseAt, IsModuleAt}
use Rattle.use_laws.proofs.Instances.{BeginsUsed, begins_by, instance_of, module_used}

-- the flat wire of this number
abbrev pub wire_at : ℕ → WireId
wire_at w = record { number = w }

-- a copy has the bits that it reads
pub copied : (flat : Flat) (h : List Event) (w a : WireId) (bits : List Bool) → HasCell flat (Copy w a) → NetValue flat h a.number bits
    → NetValue flat h w.number bits
copied flat h w a bits has v = operated (Copy w a) w.number h (bits ∷ []) has tt refl (read_and h a [] bits [] v (read_none h))

pub own_cell : (net : Net) (flat : Flat) (path : List ℕ) (base : ℕ) (cell : Cell) → IsFlatOf net flat → BeginsAt net path base
    → HasCellAt net path cell → NoUse cell → HasCell flat (moved base cell)
own_cell net flat path base cell f begins c own =
    let inst = instance_of net path base c.m begins c.at in
    (f.cells (moved base cell)).1 (flattened.own base inst.i c.place c.m cell inst.stands inst.found c.stands own)

-- an input of a used instance copies what the use reads
pub input_cell : (net : Net) (flat : Flat) (path : List ℕ) (place j base : ℕ) (reads drives : List WireId) (r : WireId) → IsFlatOf net flat
    → (b : BeginsUsed net path place base) → HasUseAt net path place reads drives → slice_get reads j ≡ Some r
    → HasCell flat (Copy (wire_at (base + j)) (wire_from b.outer r))
input_cell net flat path place j base reads drives r f b u e =
    let inst = instance_of net path b.outer u.m b.begins u.at in
    let before = take place u.m.cells in
    let here = (f.cells (Copy (wire_at (b.outer + wires_before net u.m before + j)) (wire_from b.outer r))).1
    (flattened.input b.outer inst.i u.m before u.k reads drives inst.stands inst.found (stands_at u.m place u.k reads drives u.stands) j r e) in
    subst (λ n. HasCell flat (Copy (wire_at (n + j)) (wire_from b.outer r))) (sym (begins_by net path place base u.m b u.at)) here

-- a wire that a use drives copies an output of the used instance
pub output_cell : (net : Net) (flat : Flat) (path : List ℕ) (place j base : ℕ) (reads drives : List WireId) (inner : Module) (w o : WireId)
    → IsFlatOf net flat → BeginsAt net path base → (u : HasUseAt net path place reads drives) → IsModuleAt net (place ∷ path) inner
    → slice_get drives j ≡ Some w → slice_get inner.outputs j ≡ Some o
    → HasCell flat (Copy (wire_from base w) (wire_from (base + wires_before net u.m (take place u.m.cells)) o))
output_cell net flat path place j base reads drives inner w o f begins u at d e =
    let inst = instance_of net path base u.m begins u.at in
    let found = module_used net path place reads drives inner u at in
    let before = take place u.m.cells in
    (f.cells (Copy (wire_from base w) (wire_from (base + wires_before net u.m before) o))).1
    (flattened.output base inst.i u.m before u.k reads drives inst.stands inst.found (stands_at u.m place u.k reads drives u.stands) inner found j w o d e)
