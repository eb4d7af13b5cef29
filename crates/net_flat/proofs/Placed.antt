-- Instances of a net, and the flat cells that are pushed for them.
use Rattle.std.proofs.Common.{◌≡◌, ℕ, ◌+◌, ◌<◌, ◌≤◌, List, length, map, Some, slice_get, get_or, sym, ap, subst, ◌∙◌, arith}
use Rattle.std.specs.Prelude.{slice_index_or}
use Rattle.std.proofs.lemmas.List.{length-map}
use Rattle.std.proofs.lemmas.Option.{slice_get_within}
use Rattle.chw_base.specs.declared.index.ModId.{ModId}
use Rattle.chw_base.specs.declared.index.WireId.{WireId}
use Rattle.chw_base.specs.declared.limits.TheConstants.{FLAT_WIRES}
use Rattle.net_rules.specs.WellFormed.{DriversHold, WellFormed}
use Rattle.net_rules.specs.declared.well_formed.NetCode.TheVariants.{Driver as DriverCode}
use Rattle.netlist.specs.declared.net.Cell.{Cell}
use Rattle.netlist.specs.declared.net.Cell.TheVariants.{Copy, Use}
use Rattle.netlist.specs.declared.net.Module.{Module}
use Rattle.netlist.specs.declared.net.Net.{Net}
use Rattle.net_flat.specs.Drivers.{ArePushed, Drives, IsCellFor, IsTable, StandsIn}
use Rattle.net_flat.specs.Entering.{Enters, Sized}
use Rattle.net_flat.specs.Flattened.{IsUse, moved, widths_in, wire_from, wires_before}
use Rattle.net_flat.specs.Instances.{AreOwn, IsOwn, IsPlaced, cell, output, top, used}
use Rattle.net_flat.specs.declared.instances.Instance.{Instance}
use Rattle.net_flat.specs.declared.tables.Driver.{Driver}
use Rattle.net_flat.specs.declared.tables.Driver.TheVariants.{Output, Place}
use Rattle.net_flat.proofs.Lists.{get_middle, item_at}
use Rattle.net_flat.proofs.Within.{UseAt, use_at}

-- a use stands behind the cells before it
pub use_there : (m : Module) (before : List Cell) (k : ModId) (reads drives : List WireId) → IsUse m.cells before k reads drives
    → slice_get m.cells (length before) ≡ Some (Use k reads drives)
use_there m before k reads drives u =
    subst (λ (cs : List Cell). slice_get cs (length before) ≡ Some (Use k reads drives)) (sym u.stands) (get_middle before (Use k reads drives) u.after)

pub use_of : (net : Net) (i : ℕ) (m : Module) (before : List Cell) (k : ModId) (reads drives : List WireId) → WellFormed net
    → slice_get net.modules i ≡ Some m → IsUse m.cells before k reads drives → UseAt net i m k reads drives
use_of net i m before k reads drives wf found u = use_at net i m (length before) k reads drives wf found (use_there m before k reads drives u)

-- the module of an instance is one of the net
pub placed_below : (net : Net) (x : Instance) → WellFormed net → IsPlaced net x → x.module.number < length net.modules
placed_below net _ wf (top k last) = omega arith
placed_below net _ wf (used x m before k reads drives p found u) =
    let at = use_of net x.module.number m before k reads drives wf found u in
    let here = slice_get_within net.modules x.module.number m found in
    omega (arith, at.earlier)

-- an instance that is not the top copies a wire for each input
pub placed_reads : (net : Net) (x : Instance) (m : Module) → WellFormed net → IsPlaced net x → slice_get net.modules x.module.number ≡ Some m
    → x.module.number + 1 < length net.modules → length x.reads ≡ m.inputs
placed_reads net _ m wf (top k last) found l = absurd (omega arith)
placed_reads net _ m wf (used x n before k reads drives p there u) found l =
    let at = use_of net x.module.number n before k reads drives wf there u in
    let both : Some at.used ≡ Some m = sym at.found ∙ found in
    let same : at.used ≡ m = cc in
    length-map reads (wire_from x.base) ∙ at.inputs ∙ ap (λ u. u.inputs) same

-- it has no more of them than the module has wires
pub few_reads : (net : Net) (x : Instance) (m : Module) → WellFormed net → IsPlaced net x → slice_get net.modules x.module.number ≡ Some m
    → length x.reads ≤ length m.widths
few_reads net _ m wf (top k last) found = omega arith
few_reads net _ m wf (used x n before k reads drives p there u) found =
    let at = use_of net x.module.number n before k reads drives wf there u in
    let here = slice_get_within net.modules x.module.number n there in
    let is = placed_reads net (record { «module» = k; base = x.base + wires_before net n before; reads = map (wire_from x.base) reads }) m wf
    (used x n before k reads drives p there u) found (omega (arith, at.earlier)) in
    let hold : DriversHold net k.number m = wf.rules k.number m found DriverCode in
    omega (arith, hold.inputs)

-- what drives a wire gives its flat cell
own_of : (net : Net) (base : ℕ) (m : Module) (w : ℕ) (d : Driver) (c : Cell) → Drives net base m w d → IsCellFor base m.cells w d c
    → IsOwn net base m w c
own_of net base m w (Place place) c r h =
    let both : Some r.cell ≡ Some h.0 = sym r.stands ∙ h.1 in
    let same : r.cell ≡ h.0 = cc in
    let is : moved base r.cell ≡ c = ap (λ (x : Cell). moved base x) same ∙ sym h.2 in
    subst (λ (x : Cell). IsOwn net base m w x) is (cell place w r.cell r.stands r.own r.drives)
own_of net base m w (Output o) c u h =
    let given = output u.before u.k u.reads u.drives u.stands u.used u.found u.j u.wire u.inner u.driven u.given in
    let at : IsOwn net base m w (Copy (record { number = base + w }) (wire_from (base + wires_before net m u.before) u.inner)) =
    subst (λ (n : ℕ). IsOwn net base m n (Copy (record { number = base + n }) (wire_from (base + wires_before net m u.before) u.inner))) u.same given in
    let is : Copy (record { number = base + w }) (wire_from (base + wires_before net m u.before) u.inner) ≡ c =
    ap (λ (v : WireId). Copy (record { number = base + w }) v) (sym u.«is») ∙ sym h in
    subst (λ (x : Cell). IsOwn net base m w x) is at

pub are_own : (net : Net) (base : ℕ) (m : Module) (table : List Driver) (before after : List Cell) → IsTable net base m table
    → (p : ArePushed base m table (length m.widths) before after) → AreOwn net base m p.own
are_own net base m table before after t p = record {
  all = p.all;
  each = λ j c s.
      let l = slice_get_within p.own j c s in
      let d = t.entries (m.inputs + j) (omega arith) (omega (arith, p.all)) in
      own_of net base m (m.inputs + j) (slice_index_or table (m.inputs + j) (Place 0)) c d (p.each j c s);
}

drives_stands : (net : Net) (base : ℕ) (m : Module) (w : ℕ) (d : Driver) → Drives net base m w d → StandsIn m.cells d
drives_stands net base m w (Place place) r = slice_get_within m.cells place r.cell r.stands
drives_stands net base m w (Output o) u = tt

pub table_stands : (net : Net) (base : ℕ) (m : Module) (table : List Driver) → IsTable net base m table
    → (w : ℕ) → m.inputs ≤ w → w < length m.widths → StandsIn m.cells (slice_index_or table w (Place 0))
table_stands net base m table t w from to = drives_stands net base m w (slice_index_or table w (Place 0)) (t.entries w from to)

-- an instance whose module was looked up in the net is entered
pub enters : (net : Net) (sizes : List ℕ) (x : Instance) (m : Module) (modules : List Module) → Sized net sizes → IsPlaced net x
    → x.base + length (widths_in net x.module.number) ≤ FLAT_WIRES → modules ≡ net.modules → m ≡ get_or modules x.module.number m → Enters net sizes x m
enters net sizes x m modules s p within same is =
    let below = placed_below net x s.well_formed p in
    record {
      sized = s;
      placed = p;
      found = item_at modules net.modules x.module.number m same (omega (arith, below, ap length same)) is;
      within = within;
    }
