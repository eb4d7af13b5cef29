-- What the flat wire of a wire of an instance has, the wire has.
use Rattle.std.proofs.Common.{◌≡◌, ℕ, ◌+◌, ◌<◌, ◌≤◌, ◌⊎◌, inl, inr, Bool, List, [], ◌∷◌, length, map, Option, Some, None, slice_get, refl, sym, ap, subst, ◌∙◌, arith}
use Rattle.std.specs.List.{AllByRecursion}
use Rattle.chw_base.specs.declared.index.DomId.{DomId}
use Rattle.chw_base.specs.declared.index.WireId.{WireId}
use Rattle.chw_bits.specs.Bits.{number_of}
use Rattle.chw_clock.specs.Histories.{before}
use Rattle.chw_clock.specs.declared.event.Event.{Event}
use Rattle.net_flat.specs.Flattened.{IsFlatOf, wire_from}
use Rattle.net_rules.specs.WellFormed.{WellFormed}
use Rattle.netlist.specs.Feeds.{target}
use Rattle.netlist.specs.NetValue.{HasCell, HasRam, Memory, NetValue, ReadValues, WordAt, zeros}
use Rattle.netlist.specs.NetValue.NetValue.{input, operated, first, later, unread, outside, shown}
use Rattle.netlist.specs.NetValue.ReadValues.{read_none, read_and}
use Rattle.netlist.specs.NetValue.WordAt.{unwritten, written, kept}
use Rattle.netlist.specs.Operators.{KeepsNothing, operator}
use Rattle.netlist.specs.Sound.{IsWire}
use Rattle.netlist.specs.Wires.{read_by}
use Rattle.netlist.specs.declared.net.Cell.{Cell}
use Rattle.netlist.specs.declared.net.Cell.TheVariants.{Copy, Ram, Reg}
use Rattle.netlist.specs.declared.net.Flat.{Flat}
use Rattle.netlist.specs.declared.net.Module.{Module}
use Rattle.netlist.specs.declared.net.Net.{Net}
use Rattle.use_laws.specs.ValueIn.{HasCellAt, HasRamAt, HasWidthAt, ReadIn, ValueIn, WordIn}
use Rattle.use_laws.specs.ValueIn as net_of
use Rattle.use_laws.proofs.FlatCells.{wire_at}
use Rattle.use_laws.proofs.FlatWidths.{inner_width}
use Rattle.use_laws.proofs.Instances.{instance_of}
use Rattle.use_laws.proofs.Moved.{keeps_unmoved, memory_of, moved_memory, operator_moved, read_by_moved, register_of}
use Rattle.use_laws.proofs.Sources.{OwnCell, PassedOn, WireSource, InstanceAt, by_flat_cell, drives_no_input, flat_cell, source, top_input}

-- what is read of no wire, and of one
no_reading : (net : Net) (path : List ℕ) (h : List Event) (values : List (List Bool)) → ReadIn net path h [] values → values ≡ []
no_reading net _ _ _ (net_of.read_none path h) = refl

record OneReading (net : Net) (path : List ℕ) (h : List Event) (w : ℕ) (values : List (List Bool)) : Type 0 where
  bits : List Bool
  «is» : values ≡ bits ∷ []
  value : ValueIn net path h w bits

one_reading : (net : Net) (path : List ℕ) (h : List Event) (w : WireId) (values : List (List Bool)) → ReadIn net path h (w ∷ []) values
    → OneReading net path h w.number values
one_reading net _ _ _ _ (net_of.read_and path h w wires bits values v vs) =
    record { bits = bits; «is» = ap (λ xs. bits ∷ xs) (no_reading net path h values vs); value = v }

-- the register of an instance's module that a flat register is
record IsRegisterAt (net : Net) (path : List ℕ) (base : ℕ) (m : Module) (w : ℕ) (a : WireId) (domain : DomId) (initial : List Bool) : Type 0 where
  driven : WireId
  read : WireId
  has : HasCellAt net path (Reg driven domain initial read)
  driven_is : driven.number ≡ w
  read_is : a.number ≡ base + read.number
  within : read.number < length m.widths

register_at : (net : Net) (path : List ℕ) (base : ℕ) (m : Module) (w : ℕ) (v a : WireId) (domain : DomId) (initial : List Bool)
    → OwnCell net path base m w (Reg v domain initial a) ⊎ PassedOn net path w (Reg v domain initial a)
    → IsRegisterAt net path base m w a domain initial
register_at net path base m w v a domain initial (inr p) = let e = p.«is» in absurd (cc)
register_at net path base m w v a domain initial (inl o) =
    let r = register_of base o.cell v a domain initial (sym o.«is») in
    let t : target (Reg r.driven domain initial r.read) ≡ Some w = subst (λ c. target c ≡ Some w) r.«is» o.drives in
    let within : AllByRecursion (IsWire m.widths) (r.read ∷ []) = subst (λ c. AllByRecursion (IsWire m.widths) (read_by c)) r.«is» o.read in
    record {
      driven = r.driven;
      read = r.read;
      has = subst (λ c. HasCellAt net path c) r.«is» o.has;
      driven_is = cc;
      read_is = r.read_is;
      within = within.0;
    }

-- the RAM of an instance's module that a flat RAM is
record IsMemoryAt (net : Net) (path : List ℕ) (base : ℕ) (m : Module) (w : ℕ) (ram : Memory) : Type 0 where
  driven : WireId
  inner : Memory
  has : HasRamAt net path driven inner
  driven_is : driven.number ≡ w
  ram_is : ram ≡ moved_memory base inner
  within : AllByRecursion (IsWire m.widths) (read_by (Ram driven inner.domain inner.words inner.inputs))

memory_at : (net : Net) (path : List ℕ) (base : ℕ) (m : Module) (w : ℕ) (v : WireId) (ram : Memory)
    → OwnCell net path base m w (Ram v ram.domain ram.words ram.inputs) ⊎ PassedOn net path w (Ram v ram.domain ram.words ram.inputs)
    → IsMemoryAt net path base m w ram
memory_at net path base m w v ram (inr p) = let e = p.«is» in absurd (cc)
memory_at net path base m w v ram (inl o) =
    let r = memory_of base o.cell v ram (sym o.«is») in
    let t : target (Ram r.driven r.inner.domain r.inner.words r.inner.inputs) ≡ Some w = subst (λ c. target c ≡ Some w) r.«is» o.drives in
    record {
      driven = r.driven;
      inner = r.inner;
      has = subst (λ c. HasCellAt net path c) r.«is» o.has;
      driven_is = cc;
      ram_is = r.ram_is;
      within = subst (λ c. AllByRecursion (IsWire m.widths) (read_by c)) r.«is» o.read;
    }

module _ (net : Net) (flat : Flat) (wf : WellFormed net) (f : IsFlatOf net flat) where
  -- the wires of an instance whose flat wires are read have these bits
  abbrev Rest : List Event → List WireId → List (List Bool) → Type 0
  Rest h wires values = (path : List ℕ) (base : ℕ) (m : Module) (inner : List WireId) → InstanceAt net path base m
      → AllByRecursion (IsWire m.widths) inner → wires ≡ map (wire_from base) inner → ReadIn net path h inner values

  -- an input of the flat net is a wire of the top, since every other flat wire is driven
  input_back : (path : List ℕ) (base : ℕ) (m : Module) (w n : ℕ) (present : Event) (past : List Event) (bits : List Bool) → InstanceAt net path base m
      → w < length m.widths → n ≡ base + w → n < length flat.ports.inputs → slice_get present.inputs n ≡ Some bits
      → ValueIn net path (present ∷ past) w bits
  input_back path base m w n present past bits st l e within at = from (source net flat wf f path base m w st l)
    where
      from : WireSource net flat path base m w → ValueIn net path (present ∷ past) w bits
      from (top_input p zero_base inside) =
          let same : n ≡ w = omega arith in
          let here = subst (λ k. slice_get present.inputs k ≡ Some bits) same at in
          subst (λ x. ValueIn net x (present ∷ past) w bits) (sym p) (net_of.input w present past bits inside here)
      from (flat_cell c has t either) =
          let inside : n < length net.ports.inputs = subst (λ ports. n < length ports.inputs) f.ports within in
          absurd (drives_no_input net flat wf f c n has (t ∙ ap Some (sym e)) inside)

  -- a flat cell that keeps nothing is one of the module, or a copy of a wire of another instance
  operated_back : (path : List ℕ) (base : ℕ) (m : Module) (w : ℕ) (c : Cell) (h : List Event) (values : List (List Bool)) → InstanceAt net path base m
      → KeepsNothing c → Rest h (read_by c) values → OwnCell net path base m w c ⊎ PassedOn net path w c
      → ValueIn net path h w (operator c values)
  operated_back path base m w c h values st keeps rest (inl o) =
      let reads = ap read_by o.«is» ∙ read_by_moved base o.cell in
      let gives = ap (λ x. operator x values) o.«is» ∙ operator_moved base o.cell values in
      let inner = keeps_unmoved base o.cell (subst KeepsNothing o.«is» keeps) in
      subst (λ bits. ValueIn net path h w bits) (sym gives)
      (net_of.operated path o.cell w h values o.has inner o.drives (rest path base m (read_by o.cell) st o.read reads))
  operated_back path base m w c h values st keeps rest (inr p) =
      let one = one_reading net p.other h (wire_at p.from) values
      (rest p.other p.base p.m (wire_at p.from ∷ []) p.stands (p.within, tt) (ap read_by p.«is»)) in
      let gives : operator c values ≡ one.bits = ap (λ x. operator x values) p.«is» ∙ ap (λ xs. operator (Copy p.to (wire_at (p.base + p.from))) xs) one.«is» in
      subst (λ bits. ValueIn net path h w bits) (sym gives) (p.gives h one.bits one.value)

  -- a wire has the width of its flat wire
  width_back : (path : List ℕ) (base : ℕ) (m : Module) (w n : ℕ) (v : WireId) (width : ℕ) → InstanceAt net path base m → w < length m.widths → n ≡ base + w
      → v.number ≡ w → slice_get flat.widths n ≡ Some width → HasWidthAt net path v width
  width_back path base m w n v width st l e same wide =
      let there : slice_get flat.widths (base + w) ≡ Some width = subst (λ k. slice_get flat.widths k ≡ Some width) e wide in
      let here = inner_width net flat base m w width wf f (instance_of net path base m st.begins st.at) l there in
      record { m = m; at = st.at; wide = subst (λ k. slice_get m.widths k ≡ Some width) (sym same) here }

  -- a flat register and a flat RAM are those of the module
  register_back : (path : List ℕ) (base : ℕ) (m : Module) (w : ℕ) (v a : WireId) (domain : DomId) (initial : List Bool) → InstanceAt net path base m
      → w < length m.widths → HasCell flat (Reg v domain initial a) → v.number ≡ base + w → IsRegisterAt net path base m w a domain initial
  register_back path base m w v a domain initial st l has e =
      register_at net path base m w v a domain initial (by_flat_cell net flat wf f path base m w v.number (Reg v domain initial a) st l has refl e)

  memory_back : (path : List ℕ) (base : ℕ) (m : Module) (w : ℕ) (v : WireId) (ram : Memory) → InstanceAt net path base m → w < length m.widths
      → HasRam flat v ram → v.number ≡ base + w → IsMemoryAt net path base m w ram
  memory_back path base m w v ram st l has e =
      memory_at net path base m w v ram (by_flat_cell net flat wf f path base m w v.number (Ram v ram.domain ram.words ram.inputs) st l has refl e)

  before_back : (h : List Event) (ram inner : Memory) (base : ℕ) (o : Option (List Event)) → ram ≡ moved_memory base inner → before h ram.domain ≡ o
      → before h inner.domain ≡ o
  before_back h ram inner base o e at = ap (λ (x : Memory). before h x.domain) (sym e) ∙ at

  mutual
    pub value_back : (h : List Event) (n : ℕ) (bits : List Bool) (path : List ℕ) (base : ℕ) (m : Module) (w : ℕ) → NetValue flat h n bits
        → InstanceAt net path base m → w < length m.widths → n ≡ base + w → ValueIn net path h w bits
    value_back _ _ _ path base m w (input n present past bits within at) st l e = input_back path base m w n present past bits st l e within at
    value_back _ _ _ path base m w (operated c n h values has keeps t reads) st l e =
        operated_back path base m w c h values st keeps
        (λ path base m inner st within same. reading_back h (read_by c) values path base m inner reads st within same)
        (by_flat_cell net flat wf f path base m w n c st l has t e)
    value_back _ _ _ path base m w (first v a domain initial h has none) st l e =
        let r = register_back path base m w v a domain initial st l has e in
        subst (λ k. ValueIn net path h k initial) r.driven_is (net_of.first path r.driven r.read domain initial h r.has none)
    value_back _ _ _ path base m w (later v a domain initial bits h past has at x) st l e =
        let r = register_back path base m w v a domain initial st l has e in
        subst (λ k. ValueIn net path h k bits) r.driven_is
        (net_of.later path r.driven r.read domain initial bits h past r.has at (value_back past a.number bits path base m r.read.number x st r.within r.read_is))
    value_back _ _ _ path base m w (unread v ram width h has wide none) st l e =
        let r = memory_back path base m w v ram st l has e in
        subst (λ k. ValueIn net path h k (zeros width)) r.driven_is
        (net_of.unread path r.driven r.inner width h r.has (width_back path base m w v.number r.driven width st l e r.driven_is wide)
        (before_back h ram r.inner base None r.ram_is none))
    value_back _ _ _ path base m w (outside v ram width h past address has wide at x past_end) st l e =
        let r = memory_back path base m w v ram st l has e in
        subst (λ k. ValueIn net path h k (zeros width)) r.driven_is
        (net_of.outside path r.driven r.inner width h past address r.has (width_back path base m w v.number r.driven width st l e r.driven_is wide)
        (before_back h ram r.inner base (Some past) r.ram_is at)
        (value_back past ram.inputs.read.number address path base m r.inner.inputs.read.number x st r.within.0 (ap (λ (y : Memory). y.inputs.read.number) r.ram_is))
        (subst (λ (y : Memory). length y.words ≤ number_of address) r.ram_is past_end))
    value_back _ _ _ path base m w (shown v ram h past address bits has at x inside held) st l e =
        let r = memory_back path base m w v ram st l has e in
        subst (λ k. ValueIn net path h k bits) r.driven_is
        (net_of.shown path r.driven r.inner h past address bits r.has (before_back h ram r.inner base (Some past) r.ram_is at)
        (value_back past ram.inputs.read.number address path base m r.inner.inputs.read.number x st r.within.0 (ap (λ (y : Memory). y.inputs.read.number) r.ram_is))
        (subst (λ (y : Memory). number_of address < length y.words) r.ram_is inside)
        (word_back ram past (number_of address) bits path base m r.inner held st r.within r.ram_is))

    reading_back : (h : List Event) (wires : List WireId) (values : List (List Bool)) (path : List ℕ) (base : ℕ) (m : Module) (inner : List WireId)
        → ReadValues flat h wires values → InstanceAt net path base m → AllByRecursion (IsWire m.widths) inner → wires ≡ map (wire_from base) inner
        → ReadIn net path h inner values
    reading_back _ _ _ path base m [] (read_none h) st within e = net_of.read_none path h
    reading_back _ _ _ path base m (x ∷ inner) (read_none h) st within e = absurd (cc)
    reading_back _ _ _ path base m [] (read_and h w wires bits values v vs) st within e = absurd (cc)
    reading_back _ _ _ path base m (x ∷ inner) (read_and h w wires bits values v vs) st within e =
        let first_is : w ≡ wire_from base x = cc in
        let rest_are : wires ≡ map (wire_from base) inner = cc in
        net_of.read_and path h x inner bits values
        (value_back h w.number bits path base m x.number v st within.0 (ap (λ (y : WireId). y.number) first_is))
        (reading_back h wires values path base m inner vs st within.1 rest_are)

    word_back : (ram : Memory) (h : List Event) (address : ℕ) (bits : List Bool) (path : List ℕ) (base : ℕ) (m : Module) (inner : Memory)
        → WordAt flat ram h address bits → InstanceAt net path base m
        → AllByRecursion (IsWire m.widths) (inner.inputs.read ∷ inner.inputs.enable ∷ inner.inputs.place ∷ inner.inputs.value ∷ [])
        → ram ≡ moved_memory base inner → WordIn net path inner h address bits
    word_back _ _ _ _ path base m inner (unwritten ram h address bits none at) st within e =
        net_of.unwritten path inner h address bits (before_back h ram inner base None e none)
        (subst (λ (y : Memory). slice_get y.words address ≡ Some bits) e at)
    word_back _ _ _ _ path base m inner (written ram h past address enable place bits at on p t v) st within e =
        net_of.written path inner h past address enable place bits (before_back h ram inner base (Some past) e at)
        (value_back past ram.inputs.enable.number enable path base m inner.inputs.enable.number on st within.1.0 (ap (λ (y : Memory). y.inputs.enable.number) e))
        (value_back past ram.inputs.place.number place path base m inner.inputs.place.number p st within.1.1.0 (ap (λ (y : Memory). y.inputs.place.number) e))
        t
        (value_back past ram.inputs.value.number bits path base m inner.inputs.value.number v st within.1.1.1.0 (ap (λ (y : Memory). y.inputs.value.number) e))
    word_back _ _ _ _ path base m inner (kept ram h past address enable place bits at on p t held) st within e =
        net_of.kept path inner h past address enable place bits (before_back h ram inner base (Some past) e at)
        (value_back past ram.inputs.enable.number enable path base m inner.inputs.enable.number on st within.1.0 (ap (λ (y : Memory). y.inputs.enable.number) e))
        (value_back past ram.inputs.place.number place path base m inner.inputs.place.number p st within.1.1.0 (ap (λ (y : Memory). y.inputs.place.number) e))
        t
        (word_back ram past address bits path base m inner held st within e)
