-- What drives the flat wire of a wire of an instance.
use Rattle.std.proofs.Common.{◌≡◌, ℕ, zero, suc, ◌+◌, ◌<◌, ◌⊎◌, inl, inr, Bool, List, [], ◌∷◌, ◌++◌, length, take, Option, Some, None, slice_get, get_or, refl, sym, ap, subst, ◌∙◌, arith}
use Rattle.std.specs.Prelude.{flat_map, option_and_then, option_map}
use Rattle.std.specs.List.{AllByRecursion}
use Rattle.std.proofs.lemmas.Bool.{cases_lt}
use Rattle.std.proofs.lemmas.Option.{slice_get-get_or, slice_get_within}
use Rattle.chw_base.specs.declared.index.ModId.{ModId}
use Rattle.chw_base.specs.declared.index.WireId.{WireId}
use Rattle.chw_clock.specs.declared.event.Event.{Event}
use Rattle.net_flat.specs.Flattened.{IsFlatOf, NoUse, moved, wire_from, wires_before}
use Rattle.net_flat.proofs.Lists.{all_at, get_either}
use Rattle.net_flat.proofs.Within.{use_at}
use Rattle.net_rules.specs.WellFormed.{DriversHold, NamesExist, NamesHold, TopNamesHold, WellFormed, wire_driven_at}
use Rattle.net_rules.specs.declared.well_formed.NetCode.TheVariants.{Name, Driver}
use Rattle.netlist.specs.Feeds.{target}
use Rattle.netlist.specs.NetValue.{HasCell}
use Rattle.netlist.specs.Sound.{IsWire}
use Rattle.netlist.specs.Wires.{driven, read_by}
use Rattle.netlist.specs.declared.net.Cell.{Cell}
use Rattle.netlist.specs.declared.net.Cell.TheVariants.{Copy, Use}
use Rattle.netlist.specs.declared.net.Flat.{Flat}
use Rattle.netlist.specs.declared.net.Module.{Module}
use Rattle.netlist.specs.declared.net.Net.{Net}
use Rattle.netlist.proofs.Driven.{driven_wire}
use Rattle.use_laws.specs.ValueIn.{BeginsAt, HasCellAt, HasUseAt, IsModuleAt, ValueIn}
use Rattle.use_laws.specs.ValueIn.BeginsAt.{top as begins_top, used as begins_used}
use Rattle.use_laws.specs.ValueIn.IsModuleAt.{used}
use Rattle.use_laws.specs.ValueIn.ValueIn.{enters, leaves}
use Rattle.use_laws.proofs.FlatCells.{input_cell, output_cell, own_cell, wire_at}
use Rattle.use_laws.proofs.Instances.{BeginsUsed, InstanceOf, at_top, instance_of, module_used}
use Rattle.use_laws.proofs.Moved.{target_moved}

-- an instance, its first flat wire and its module
pub record InstanceAt (net : Net) (path : List ℕ) (base : ℕ) (m : Module) : Type 0 where
  pub at : IsModuleAt net path m
  pub begins : BeginsAt net path base

-- the flat cell is that of a cell of the instance's module, which drives the wire
pub record OwnCell (net : Net) (path : List ℕ) (base : ℕ) (m : Module) (w : ℕ) (c : Cell) : Type 0 where
  pub cell : Cell
  pub has : HasCellAt net path cell
  pub drives : target cell ≡ Some w
  pub read : AllByRecursion (IsWire m.widths) (read_by cell)
  pub «is» : c ≡ moved base cell

-- the flat cell copies a wire of another instance, whose bits the wire has
pub record PassedOn (net : Net) (path : List ℕ) (w : ℕ) (c : Cell) : Type 0 where
  pub other : List ℕ
  pub base : ℕ
  pub m : Module
  pub stands : InstanceAt net other base m
  pub from : ℕ
  pub within : from < length m.widths
  pub to : WireId
  pub «is» : c ≡ Copy to (wire_at (base + from))
  pub gives : (h : List Event) (bits : List Bool) → ValueIn net other h from bits → ValueIn net path h w bits

-- the wire is an input of the top, or a flat cell drives its flat wire
pub data WireSource (net : Net) (flat : Flat) (path : List ℕ) (base : ℕ) (m : Module) (w : ℕ) : Type 0 where
  top_input : path ≡ [] → base ≡ 0 → w < length net.ports.inputs → WireSource net flat path base m w
  flat_cell : (c : Cell) → HasCell flat c → target c ≡ Some (base + w) → OwnCell net path base m w c ⊎ PassedOn net path w c
      → WireSource net flat path base m w

-- where a wire is driven among cells
record DrivenIn (cells : List Cell) (w : ℕ) : Type 0 where
  place : ℕ
  cell : Cell
  stands : slice_get cells place ≡ Some cell
  j : ℕ
  v : WireId
  drives : slice_get (driven cell) j ≡ Some v
  number : v.number ≡ w

numbered : (o : Option WireId) (w : ℕ) → option_map (λ v. v.number) o ≡ Some w → (v : WireId) × (o ≡ Some v) × (v.number ≡ w)
numbered None w e = absurd (cc)
numbered (Some v) w e = let same : v.number ≡ w = cc in (v, refl, same)

driven_in : (cells : List Cell) (p w : ℕ) → wire_driven_at (flat_map driven cells) p ≡ Some w → DrivenIn cells w
driven_in [] p w e = absurd (cc)
driven_in (c ∷ cells) p w e =
    let found = numbered (slice_get (driven c ++ flat_map driven cells) p) w e in
    elim (get_either (driven c) (flat_map driven cells) p found.0 found.1) [
      | inl h ↦ record { place = zero; cell = c; stands = refl; j = p; v = found.0; drives = h; number = found.2 }
      | inr h ↦
          let rest = driven_in cells h.0 w (ap (λ (o : Option WireId). option_map (λ v. v.number) o) h.2 ∙ ap Some found.2) in
          record { place = suc rest.place; cell = rest.cell; stands = rest.stands; j = rest.j; v = rest.v; drives = rest.drives; number = rest.number }
    ]

only : {w v : WireId} (j : ℕ) → slice_get (w ∷ []) j ≡ Some v → Some w.number ≡ Some v.number
only zero e = let same = e in cc
only (suc j) e = absurd (cc)

target_driven : (cell : Cell) (j : ℕ) (v : WireId) → NoUse cell → slice_get (driven cell) j ≡ Some v → target cell ≡ Some v.number
target_driven (Use k reads drives) j v own e = absurd own
target_driven _ j v own e = only j e

module _ (net : Net) (flat : Flat) (wf : WellFormed net) (f : IsFlatOf net flat) where
  names_of : (base : ℕ) (m : Module) → InstanceOf net base m → (i : ℕ) × NamesHold net i m
  names_of base m inst = (inst.i, wf.rules inst.i m inst.found Name)

  -- what a cell of an instance's module names exists
  read_exist : (path : List ℕ) (base place : ℕ) (m : Module) (cell : Cell) → InstanceAt net path base m → slice_get m.cells place ≡ Some cell
      → AllByRecursion (IsWire m.widths) (read_by cell)
  read_exist path base place m cell st here =
      let names = names_of base m (instance_of net path base m st.begins st.at) in
      (all_at (NamesExist (length net.ports.domains) (take names.0 net.modules) m.widths) m.cells place cell names.1.cells here).read

  input_source : (path : List ℕ) (base : ℕ) (m : Module) (w : ℕ) → BeginsAt net path base → IsModuleAt net path m → w < m.inputs
      → WireSource net flat path base m w
  input_source _ _ m w begins_top at l =
      let t = at_top net m at in
      let names : NamesHold net t.0 m = wf.rules t.0 m t.1.stands Name in
      let ports : TopNamesHold net.ports m = names.top t.1.last in
      top_input refl refl (omega (arith, ports.inputs))
  input_source _ _ m w (begins_used path base place n k reads drives begins outer stands) at l =
      let u : HasUseAt net path place reads drives = record { k = k; m = n; at = outer; stands = stands } in
      let b : BeginsUsed net path place (base + wires_before net n (take place n.cells)) =
      record { outer = base; m = n; begins = begins; at = outer; «is» = refl } in
      let inst = instance_of net path base n begins outer in
      let a = use_at net inst.i n place k reads drives wf inst.found stands in
      let both : Some a.used ≡ Some m = sym a.found ∙ module_used net path place reads drives m u at in
      let same : a.used ≡ m = cc in
      let long : w < length reads = omega (arith, a.inputs, ap (λ (x : Module). x.inputs) same) in
      let r = get_or reads w (wire_at 0) in
      let here : slice_get reads w ≡ Some r = slice_get-get_or reads w (wire_at 0) long in
      let st : InstanceAt net path base n = record { at = outer; begins = begins } in
      flat_cell (Copy (wire_at (base + wires_before net n (take place n.cells) + w)) (wire_from base r))
      (input_cell net flat path place w (base + wires_before net n (take place n.cells)) reads drives r f b u here) refl
      (inr (record {
        other = path;
        base = base;
        m = n;
        stands = st;
        from = r.number;
        within = all_at (IsWire n.widths) reads w r (read_exist path base place n (Use k reads drives) st stands) here;
        to = wire_at (base + wires_before net n (take place n.cells) + w);
        «is» = refl;
        gives = λ h bits v. enters path place w reads drives r h bits u here v;
      }))

  use_source : (path : List ℕ) (base place : ℕ) (m : Module) (k : ModId) (reads drives : List WireId) (j : ℕ) (v : WireId) → InstanceAt net path base m
      → slice_get m.cells place ≡ Some (Use k reads drives) → slice_get drives j ≡ Some v → WireSource net flat path base m v.number
  use_source path base place m k reads drives j v st here d =
      let inst = instance_of net path base m st.begins st.at in
      let a = use_at net inst.i m place k reads drives wf inst.found here in
      let u : HasUseAt net path place reads drives = record { k = k; m = m; at = st.at; stands = here } in
      let inner : IsModuleAt net (place ∷ path) a.used = used path place m a.used k reads drives st.at here a.found in
      let next = base + wires_before net m (take place m.cells) in
      let o = get_or a.used.outputs j (wire_at 0) in
      let given : slice_get a.used.outputs j ≡ Some o =
      slice_get-get_or a.used.outputs j (wire_at 0) (omega (arith, slice_get_within drives j v d, a.outputs)) in
      let names : NamesHold net k.number a.used = wf.rules k.number a.used a.found Name in
      flat_cell (Copy (wire_from base v) (wire_from next o))
      (output_cell net flat path place j base reads drives a.used v o f st.begins u inner d given) refl
      (inr (record {
        other = place ∷ path;
        base = next;
        m = a.used;
        stands = record { at = inner; begins = begins_used path base place m k reads drives st.begins st.at here };
        from = o.number;
        within = all_at (IsWire a.used.widths) a.used.outputs j o names.outputs given;
        to = wire_from base v;
        «is» = refl;
        gives = λ h bits x. leaves path place j reads drives a.used v o h bits u inner d given x;
      }))

  own_source : (path : List ℕ) (base place : ℕ) (m : Module) (cell : Cell) (j : ℕ) (v : WireId) → NoUse cell → InstanceAt net path base m
      → slice_get m.cells place ≡ Some cell → slice_get (driven cell) j ≡ Some v → WireSource net flat path base m v.number
  own_source path base place m cell j v own st here d =
      let has : HasCellAt net path cell = record { m = m; at = st.at; place = place; stands = here } in
      let t = target_driven cell j v own d in
      flat_cell (moved base cell) (own_cell net flat path base cell f st.begins has own) (target_moved base cell v.number t)
      (inl (record { cell = cell; has = has; drives = t; read = read_exist path base place m cell st here; «is» = refl }))

  cell_source : (path : List ℕ) (base place : ℕ) (m : Module) (cell : Cell) (j : ℕ) (v : WireId) → InstanceAt net path base m
      → slice_get m.cells place ≡ Some cell → slice_get (driven cell) j ≡ Some v → WireSource net flat path base m v.number
  cell_source path base place m (Use k reads drives) j v st here d = use_source path base place m k reads drives j v st here d
  cell_source path base place m cell j v st here d = own_source path base place m cell j v tt st here d

  pub source : (path : List ℕ) (base : ℕ) (m : Module) (w : ℕ) → InstanceAt net path base m → w < length m.widths → WireSource net flat path base m w
  source path base m w st l = elim (cases_lt w m.inputs) [
    | inl h ↦ input_source path base m w st.begins st.at h
    | inr h ↦
        let inst = instance_of net path base m st.begins st.at in
        let hold : DriversHold net inst.i m = wf.rules inst.i m inst.found Driver in
        let at = hold.drivers.driven w h l in
        let d = driven_in m.cells at.0 w at.1 in
        subst (λ n. WireSource net flat path base m n) d.number (cell_source path base d.place m d.cell d.j d.v st d.stands d.drives)
  ]

  -- a flat wire is driven by one flat cell, and no input is
  wire_of_cell : (c : Cell) (n : ℕ) → (has : HasCell flat c) → target c ≡ Some n → n ≡ f.m.inputs + has.0
  wire_of_cell c n has t =
      driven_wire f.m.inputs flat.cells f.in_order has.0 n (ap (λ (o : Option Cell). option_and_then target o) has.1 ∙ t)

  same_cell : (c d : Cell) (n : ℕ) → HasCell flat c → HasCell flat d → target c ≡ Some n → target d ≡ Some n → c ≡ d
  same_cell c d n p q t s =
      let place : p.0 ≡ q.0 = omega (arith, wire_of_cell c n p t, wire_of_cell d n q s) in
      let both : Some c ≡ Some d = sym p.1 ∙ ap (λ k. slice_get flat.cells k) place ∙ q.1 in
      cc

  pub drives_no_input : (c : Cell) (n : ℕ) → HasCell flat c → target c ≡ Some n → n < length net.ports.inputs → ⊥
  drives_no_input c n has t l =
      let names : NamesHold net f.place f.m = wf.rules f.place f.m f.top.stands Name in
      let ports : TopNamesHold net.ports f.m = names.top f.top.last in
      omega (arith, wire_of_cell c n has t, ports.inputs)

  -- a flat cell that drives the flat wire of a wire is the instance's own, or passes bits on
  pub by_flat_cell : (path : List ℕ) (base : ℕ) (m : Module) (w n : ℕ) (c : Cell) → InstanceAt net path base m → w < length m.widths
      → HasCell flat c → target c ≡ Some n → n ≡ base + w → OwnCell net path base m w c ⊎ PassedOn net path w c
  by_flat_cell path base m w n c st l has t e = from (source path base m w st l)
    where
      from : WireSource net flat path base m w → OwnCell net path base m w c ⊎ PassedOn net path w c
      from (top_input p zero_base within) = absurd (drives_no_input c n has t (omega arith))
      from (flat_cell d there s either) =
          let same = same_cell d c n there has (s ∙ ap Some (sym e)) t in
          subst (λ x. OwnCell net path base m w x ⊎ PassedOn net path w x) same either
