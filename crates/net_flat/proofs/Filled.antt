-- A table of drivers that is filled cell by cell.
use Rattle.std.proofs.Common.{◌≡◌, ◌≢◌, ℕ, zero, suc, ◌+◌, ◌<◌, ◌≤◌, ◌⊎◌, inl, inr, List, [], ◌∷◌, ◌++◌, length, take, set, Some, None, slice_get, get_or-set_same, get_or-set_other, length-set, refl, sym, ap, subst, ◌∙◌, arith}
use Rattle.std.specs.Prelude.{flat_map, slice_index_or}
use Rattle.std.specs.List.{AllByRecursion}
use Rattle.std.proofs.lemmas.Bool.{cases_eq}
use Rattle.std.proofs.lemmas.Grind.{flat_map-append}
use Rattle.std.proofs.lemmas.List.{append-nil, append_assoc, take_all}
use Rattle.chw_base.specs.declared.index.WireId.{WireId}
use Rattle.net_rules.specs.WellFormed.{DriversHold, wire_driven_at}
use Rattle.net_rules.specs.declared.well_formed.NetCode.TheVariants.{Driver as DriverCode}
use Rattle.netlist.specs.Feeds.{target}
use Rattle.netlist.specs.Wires.{driven}
use Rattle.netlist.specs.declared.net.Cell.{Cell}
use Rattle.netlist.specs.declared.net.Cell.TheVariants.{Const, Copy, Join, Cut, Un, Bin, Mux, Reg, Ram, Use}
use Rattle.netlist.specs.declared.net.Module.{Module}
use Rattle.netlist.specs.declared.net.Net.{Net}
use Rattle.net_flat.specs.Drivers.{Drives, IsTable, drivers_written, outputs_written}
use Rattle.net_flat.specs.Entering.{Enters}
use Rattle.net_flat.specs.Flattened.{NoUse, wire_from, wires_before}
use Rattle.net_flat.specs.declared.instances.Instance.{Instance}
use Rattle.net_flat.specs.declared.tables.Driver.{Driver}
use Rattle.net_flat.specs.declared.tables.Driver.TheVariants.{Output, Place}
use Rattle.net_flat.proofs.Lists.{get_either, take_next}
use Rattle.net_flat.proofs.Within.{UseAt, outputs_there, stands_at, use_at}

-- the table has what drives each of these wires
abbrev pub Filled : Net → ℕ → Module → List WireId → List Driver → Type 0
Filled net base m ws table =
    (p : ℕ) (v : WireId) → slice_get ws p ≡ Some v → Drives net base m v.number (slice_index_or table v.number (Place 0))

-- one more wire
filled_push : (net : Net) (base : ℕ) (m : Module) (ws : List WireId) (table : List Driver) (v : WireId) (d : Driver)
    → Filled net base m ws table → Drives net base m v.number d → v.number < length table
    → Filled net base m (ws ++ v ∷ []) (set table v.number d)
filled_push net base m ws table v d filled drives l p u at = by (cases_eq u.number v.number) (get_either ws (v ∷ []) p u at)
  where
    by : (u.number ≡ v.number) ⊎ (u.number ≢ v.number) → (slice_get ws p ≡ Some u) ⊎ ((j : ℕ) × (p ≡ length ws + j) × (slice_get (v ∷ []) j ≡ Some u))
        → Drives net base m u.number (slice_index_or (set table v.number d) u.number (Place 0))
    by (inl e) h =
        let written : slice_index_or (set table v.number d) v.number (Place 0) ≡ d = get_or-set_same table v.number d (Place 0) l in
        subst (λ (n : ℕ). Drives net base m n (slice_index_or (set table v.number d) n (Place 0))) (sym e)
        (subst (λ (x : Driver). Drives net base m v.number x) (sym written) drives)
    by (inr ne) (inl h) =
        let kept : slice_index_or (set table v.number d) u.number (Place 0) ≡ slice_index_or table u.number (Place 0) =
        get_or-set_other table v.number u.number d (Place 0) ne in
        subst (λ (x : Driver). Drives net base m u.number x) (sym kept) (filled p u h)
    by (inr ne) (inr (zero, e, h)) = let same : v ≡ u = cc in absurd (ne (ap (λ w. w.number) (sym same)))
    by (inr ne) (inr (suc j, e, h)) = absurd (let n : None ≡ Some u = h in cc)

-- the outputs of a use
filled_outputs : (net : Net) (base : ℕ) (m : Module) (ws : List WireId) (table : List Driver) (next : ℕ) (ds os : List WireId)
    → Filled net base m ws table → length ds ≡ length os → AllByRecursion (λ w. w.number < length table) ds
    → ((j : ℕ) (v o : WireId) → slice_get ds j ≡ Some v → slice_get os j ≡ Some o → Drives net base m v.number (Output (wire_from next o)))
    → Filled net base m (ws ++ ds) (outputs_written next table ds os)
filled_outputs net base m ws table next [] os filled long within each =
    subst (λ (xs : List WireId). Filled net base m xs table) (sym (append-nil ws)) filled
filled_outputs net base m ws table next (d ∷ ds) [] filled long within each = absurd (omega arith)
filled_outputs net base m ws table next (d ∷ ds) (o ∷ os) filled long within each =
    let first = filled_push net base m ws table d (Output (wire_from next o)) filled (each zero d o refl refl) within.0 in
    let size : length table ≡ length (set table d.number (Output (wire_from next o))) = sym (length-set table d.number (Output (wire_from next o))) in
    let rest = filled_outputs net base m (ws ++ d ∷ []) (set table d.number (Output (wire_from next o))) next ds os first (omega arith)
    (subst (λ (n : ℕ). AllByRecursion (λ w. w.number < n) ds) size within.1) (λ j v x. each (suc j) v x) in
    subst (λ (xs : List WireId). Filled net base m xs (outputs_written next (set table d.number (Output (wire_from next o))) ds os)) (append_assoc ws (d ∷ []) ds) rest

-- a cell that is no use drives one wire
pub one_target : (modules : List Module) (next place : ℕ) (cell : Cell) (table : List Driver) → NoUse cell
    → (v : WireId) × (target cell ≡ Some v.number) × (driven cell ≡ v ∷ []) × (drivers_written modules next place cell table ≡ set table v.number (Place place))
one_target modules next place (Const w bits) table n = (w, refl, refl, refl)
one_target modules next place (Copy w a) table n = (w, refl, refl, refl)
one_target modules next place (Join w parts) table n = (w, refl, refl, refl)
one_target modules next place (Cut w a high low) table n = (w, refl, refl, refl)
one_target modules next place (Un w op a) table n = (w, refl, refl, refl)
one_target modules next place (Bin w op a b) table n = (w, refl, refl, refl)
one_target modules next place (Mux w c a b) table n = (w, refl, refl, refl)
one_target modules next place (Reg w domain initial a) table n = (w, refl, refl, refl)
one_target modules next place (Ram w domain words inputs) table n = (w, refl, refl, refl)
one_target modules next place (Use k reads drives) table n = absurd n

filled_own : (net : Net) (base : ℕ) (m : Module) (ws : List WireId) (table : List Driver) (next place : ℕ) (cell : Cell)
    → Filled net base m ws table → slice_get m.cells place ≡ Some cell → NoUse cell → AllByRecursion (λ w. w.number < length table) (driven cell)
    → Filled net base m (ws ++ driven cell) (drivers_written net.modules next place cell table)
filled_own net base m ws table next place cell filled here none within =
    let t = one_target net.modules next place cell table none in
    let l = subst (λ (xs : List WireId). AllByRecursion (λ w. w.number < length table) xs) t.2 within in
    let pushed = filled_push net base m ws table t.0 (Place place) filled (record { cell = cell; stands = here; own = none; drives = t.1 }) l.0 in
    subst (λ (xs : List WireId). Filled net base m (ws ++ xs) (drivers_written net.modules next place cell table)) (sym t.2)
    (subst (λ (ds : List Driver). Filled net base m (ws ++ t.0 ∷ []) ds) (sym t.3) pushed)

filled_cell : (net : Net) (sizes : List ℕ) (x : Instance) (m : Module) (ws : List WireId) (table : List Driver) (next place : ℕ) (cell : Cell)
    → Enters net sizes x m → Filled net x.base m ws table → slice_get m.cells place ≡ Some cell → AllByRecursion (λ w. w.number < length table) (driven cell)
    → next ≡ x.base + wires_before net m (take place m.cells)
    → Filled net x.base m (ws ++ driven cell) (drivers_written net.modules next place cell table)
filled_cell net sizes x m ws table next place (Use k reads drives) e filled here within at =
    let u = use_at net x.module.number m place k reads drives e.sized.well_formed e.found here in
    subst (λ (os : List WireId). Filled net x.base m (ws ++ drives) (outputs_written next table drives os)) (sym (outputs_there net.modules k.number u.used u.found))
    (filled_outputs net x.base m ws table next drives u.used.outputs filled u.outputs within (each u))
  where
    each : (u : UseAt net x.module.number m k reads drives) (j : ℕ) (v o : WireId) → slice_get drives j ≡ Some v → slice_get u.used.outputs j ≡ Some o
        → Drives net x.base m v.number (Output (wire_from next o))
    each u j v o d g = record {
      before = take place m.cells;
      k = k;
      reads = reads;
      drives = drives;
      stands = stands_at m place k reads drives here;
      used = u.used;
      found = u.found;
      j = j;
      wire = v;
      inner = o;
      driven = d;
      given = g;
      same = refl;
      «is» = ap (λ (n : ℕ). wire_from n o) at;
    }
filled_cell net sizes x m ws table next place cell e filled here within at =
    filled_own net x.base m ws table next place cell filled here tt within

-- one more cell
pub filled_next : (net : Net) (sizes : List ℕ) (x : Instance) (m : Module) (table : List Driver) (next place : ℕ) (cell : Cell)
    → Enters net sizes x m → Filled net x.base m (flat_map driven (take place m.cells)) table → slice_get m.cells place ≡ Some cell
    → AllByRecursion (λ w. w.number < length table) (driven cell) → next ≡ x.base + wires_before net m (take place m.cells)
    → Filled net x.base m (flat_map driven (take (place + 1) m.cells)) (drivers_written net.modules next place cell table)
filled_next net sizes x m table next place cell e filled here within at =
    let one = filled_cell net sizes x m (flat_map driven (take place m.cells)) table next place cell e filled here within at in
    let taken = ap (λ (cs : List Cell). flat_map driven cs) (take_next m.cells place cell here) in
    let parts = flat_map-append driven (take place m.cells) (cell ∷ []) in
    let end : flat_map driven (cell ∷ []) ≡ driven cell = append-nil (driven cell) in
    let all : flat_map driven (take (place + 1) m.cells) ≡ flat_map driven (take place m.cells) ++ driven cell =
    taken ∙ parts ∙ ap (λ (ws : List WireId). flat_map driven (take place m.cells) ++ ws) end in
    subst (λ (ws : List WireId). Filled net x.base m ws (drivers_written net.modules next place cell table)) (sym all) one

-- a wire by its number
wire_there : (ws : List WireId) (p w : ℕ) → wire_driven_at ws p ≡ Some w → (v : WireId) × (slice_get ws p ≡ Some v) × (v.number ≡ w)
wire_there [] p w e = absurd (let n : None ≡ Some w = e in cc)
wire_there (v ∷ ws) zero w e = let n : v.number ≡ w = cc in (v, refl, n)
wire_there (v ∷ ws) (suc p) w e = wire_there ws p w e

-- the whole table
pub table_filled : (net : Net) (sizes : List ℕ) (x : Instance) (m : Module) (table : List Driver) (end : ℕ) → Enters net sizes x m
    → length table ≡ length m.widths → length m.cells ≤ end → Filled net x.base m (flat_map driven (take end m.cells)) table
    → IsTable net x.base m table
table_filled net sizes x m table end e size all filled = record {
  size = size;
  entries = entry;
}
  where
    entry : (w : ℕ) → m.inputs ≤ w → w < length m.widths → Drives net x.base m w (slice_index_or table w (Place 0))
    entry w from to =
        let hold : DriversHold net x.module.number m = e.sized.well_formed.rules x.module.number m e.found DriverCode in
        let d = hold.drivers.driven w from to in
        let v = wire_there (flat_map driven m.cells) d.0 w d.1 in
        let whole = subst (λ (cs : List Cell). Filled net x.base m (flat_map driven cs) table) (take_all end m.cells all) filled in
        subst (λ (n : ℕ). Drives net x.base m n (slice_index_or table n (Place 0))) v.2 (whole d.0 v.0 v.1)
