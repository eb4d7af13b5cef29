-- What a wire of an instance has, its flat wire has.
use Rattle.std.proofs.Common.{◌≡◌, ℕ, ◌+◌, ◌<◌, Bool, List, [], ◌∷◌, length, map, take, Some, slice_get, sym, subst, arith}
use Rattle.chw_base.specs.declared.index.WireId.{WireId}
use Rattle.chw_bits.specs.Bits.{number_of}
use Rattle.chw_clock.specs.declared.event.Event.{Event}
use Rattle.net_flat.specs.Flattened.{IsFlatOf, moved, wire_from, wires_before}
use Rattle.net_rules.specs.WellFormed.{WellFormed}
use Rattle.netlist.specs.Feeds.{target}
use Rattle.netlist.specs.NetValue.{HasRam, Memory, NetValue, ReadValues, WordAt}
use Rattle.netlist.specs.NetValue as flat_net
use Rattle.netlist.specs.Operators.{KeepsNothing, operator}
use Rattle.netlist.specs.Wires.{read_by}
use Rattle.netlist.specs.declared.net.Cell.{Cell}
use Rattle.netlist.specs.declared.net.Cell.TheVariants.{Ram, Reg}
use Rattle.netlist.specs.declared.net.Flat.{Flat}
use Rattle.netlist.specs.declared.net.Net.{Net}
use Rattle.use_laws.specs.ValueIn.{BeginsAt, HasCellAt, HasRamAt, HasWidthAt, ReadIn, ValueIn, WordIn}
use Rattle.use_laws.specs.ValueIn.BeginsAt.{used as begins_used}
use Rattle.use_laws.specs.ValueIn.ValueIn.{input, enters, leaves, operated, first, later, unread, outside, shown}
use Rattle.use_laws.specs.ValueIn.ReadIn.{read_none, read_and}
use Rattle.use_laws.specs.ValueIn.WordIn.{unwritten, written, kept}
use Rattle.use_laws.proofs.FlatCells.{copied, input_cell, output_cell, own_cell, wire_at}
use Rattle.use_laws.proofs.FlatWidths.{flat_width}
use Rattle.use_laws.proofs.Instances.{begins_first, begins_inner, instance_of}
use Rattle.use_laws.proofs.Moved.{keeps_moved, moved_memory, no_use, operator_moved, read_by_moved, target_moved}

module _ (net : Net) (flat : Flat) (wf : WellFormed net) (f : IsFlatOf net flat) where
  flat_input : (base w : ℕ) (present : Event) (past : List Event) (bits : List Bool) → BeginsAt net [] base → w < length net.ports.inputs
      → slice_get present.inputs w ≡ Some bits → NetValue flat (present ∷ past) (base + w) bits
  flat_input base w present past bits begins l e =
      let zero_base = begins_first net base begins in
      let same : w ≡ base + w = omega arith in
      let there : w < length flat.ports.inputs = subst (λ ports. w < length ports.inputs) (sym f.ports) l in
      subst (λ n. NetValue flat (present ∷ past) n bits) same (flat_net.input w present past bits there e)

  flat_operated : (path : List ℕ) (base w : ℕ) (cell : Cell) (h : List Event) (values : List (List Bool)) → BeginsAt net path base
      → HasCellAt net path cell → KeepsNothing cell → target cell ≡ Some w → ReadValues flat h (map (wire_from base) (read_by cell)) values
      → NetValue flat h (base + w) (operator cell values)
  flat_operated path base w cell h values begins has keeps t reads =
      let there = own_cell net flat path base cell f begins has (no_use cell keeps) in
      let read = subst (λ wires. ReadValues flat h wires values) (sym (read_by_moved base cell)) reads in
      subst (λ bits. NetValue flat h (base + w) bits) (operator_moved base cell values)
      (flat_net.operated (moved base cell) (base + w) h values there (keeps_moved base cell keeps) (target_moved base cell w t) read)

  flat_ram : (path : List ℕ) (base : ℕ) (w : WireId) (ram : Memory) → BeginsAt net path base → HasRamAt net path w ram
      → HasRam flat (wire_from base w) (moved_memory base ram)
  flat_ram path base w ram begins has = own_cell net flat path base (Ram w ram.domain ram.words ram.inputs) f begins has tt

  width_there : (path : List ℕ) (base : ℕ) (w : WireId) (width : ℕ) → BeginsAt net path base → HasWidthAt net path w width
      → slice_get flat.widths (base + w.number) ≡ Some width
  width_there path base w width begins has =
      flat_width net flat base has.m w.number width wf f (instance_of net path base has.m begins has.at) has.wide

  mutual
    pub value_there : (path : List ℕ) (h : List Event) (w : ℕ) (bits : List Bool) (base : ℕ) → ValueIn net path h w bits → BeginsAt net path base
        → NetValue flat h (base + w) bits
    value_there _ _ _ _ base (input w present past bits l e) begins = flat_input base w present past bits begins l e
    value_there _ _ _ _ base (enters path place j reads drives r h bits u e v) begins =
        let b = begins_inner net path place base begins in
        copied flat h (wire_at (base + j)) (wire_from b.outer r) bits (input_cell net flat path place j base reads drives r f b u e)
        (value_there path h r.number bits b.outer v b.begins)
    value_there _ _ _ _ base (leaves path place j reads drives inner w o h bits u at d e v) begins =
        let next = base + wires_before net u.m (take place u.m.cells) in
        copied flat h (wire_from base w) (wire_from next o) bits (output_cell net flat path place j base reads drives inner w o f begins u at d e)
        (value_there (place ∷ path) h o.number bits next v (begins_used path base place u.m u.k reads drives begins u.at u.stands))
    value_there _ _ _ _ base (operated path cell w h values has keeps t reads) begins =
        flat_operated path base w cell h values begins has keeps t (reading_there path h (read_by cell) values base reads begins)
    value_there _ _ _ _ base (first path w a domain initial h has e) begins =
        flat_net.first (wire_from base w) (wire_from base a) domain initial h (own_cell net flat path base (Reg w domain initial a) f begins has tt) e
    value_there _ _ _ _ base (later path w a domain initial bits h past has e v) begins =
        flat_net.later (wire_from base w) (wire_from base a) domain initial bits h past
        (own_cell net flat path base (Reg w domain initial a) f begins has tt) e (value_there path past a.number bits base v begins)
    value_there _ _ _ _ base (unread path w ram width h has wide e) begins =
        flat_net.unread (wire_from base w) (moved_memory base ram) width h (flat_ram path base w ram begins has) (width_there path base w width begins wide) e
    value_there _ _ _ _ base (outside path w ram width h past address has wide e v l) begins =
        flat_net.outside (wire_from base w) (moved_memory base ram) width h past address (flat_ram path base w ram begins has)
        (width_there path base w width begins wide) e (value_there path past ram.inputs.read.number address base v begins) l
    value_there _ _ _ _ base (shown path w ram h past address bits has e v l held) begins =
        flat_net.shown (wire_from base w) (moved_memory base ram) h past address bits (flat_ram path base w ram begins has) e
        (value_there path past ram.inputs.read.number address base v begins) l (word_there path ram past (number_of address) bits base held begins)

    reading_there : (path : List ℕ) (h : List Event) (wires : List WireId) (values : List (List Bool)) (base : ℕ) → ReadIn net path h wires values
        → BeginsAt net path base → ReadValues flat h (map (wire_from base) wires) values
    reading_there _ _ _ _ base (read_none path h) begins = flat_net.read_none h
    reading_there _ _ _ _ base (read_and path h w wires bits values v vs) begins =
        flat_net.read_and h (wire_from base w) (map (wire_from base) wires) bits values (value_there path h w.number bits base v begins)
        (reading_there path h wires values base vs begins)

    word_there : (path : List ℕ) (ram : Memory) (h : List Event) (address : ℕ) (bits : List Bool) (base : ℕ) → WordIn net path ram h address bits
        → BeginsAt net path base → WordAt flat (moved_memory base ram) h address bits
    word_there _ _ _ _ _ base (unwritten path ram h address bits e at) begins = flat_net.unwritten (moved_memory base ram) h address bits e at
    word_there _ _ _ _ _ base (written path ram h past address enable place bits e on at t v) begins =
        flat_net.written (moved_memory base ram) h past address enable place bits e (value_there path past ram.inputs.enable.number enable base on begins)
        (value_there path past ram.inputs.place.number place base at begins) t (value_there path past ram.inputs.value.number bits base v begins)
    word_there _ _ _ _ _ base (kept path ram h past address enable place bits e on at t held) begins =
        flat_net.kept (moved_memory base ram) h past address enable place bits e (value_there path past ram.inputs.enable.number enable base on begins)
        (value_there path past ram.inputs.place.number place base at begins) t (word_there path ram past address bits base held begins)
