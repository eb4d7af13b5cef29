-- The net of single bits keeps the bits of all wires.
use Rattle.std.proofs.Common.{◌≡◌, ℕ, zero, suc, ◌<◌, ◌≤◌, ◌==◌, Bool, List, [], ◌∷◌, length, Some, slice_get, refl, sym, ap, subst, ◌∙◌, arith, if◌then◌else◌, inl, inr, ◌⊎◌}
use Rattle.std.specs.Prelude.{map, slice_index}
use Rattle.std.proofs.lemmas.Bool.{cases_eq, eq-eqb, ne_eqb}
use Rattle.std.proofs.lemmas.Option.{get_or_from_slice_get, same_Some}
use Rattle.chw_base.specs.declared.index.DomId.{DomId}
use Rattle.chw_base.specs.declared.index.WireId.{WireId}
use Rattle.chw_clock.specs.Histories.{FitsPorts}
use Rattle.chw_clock.specs.declared.event.Event.{Event}
use Rattle.chw_clock.specs.declared.event.Port.{Port}
use Rattle.chw_clock.specs.declared.event.Ports.{Ports}
use Rattle.netlist.specs.NetValue.{HasCell, NetValue, ReadValues, zeros}
use Rattle.netlist.specs.NetValue.NetValue.{first, input, later, operated, outside, shown, unread}
use Rattle.netlist.specs.NetValue.ReadValues.{read_and, read_none}
use Rattle.netlist.specs.Operators.{KeepsNothing}
use Rattle.netlist.specs.Orders.{HasNoLoop}
use Rattle.netlist.specs.Sound.{Sound}
use Rattle.netlist.specs.declared.net.Cell.{Cell}
use Rattle.netlist.specs.declared.net.Cell.TheVariants.{Const, Copy, Join, Cut, Un, Bin, Mux, Ram, Reg, Use}
use Rattle.netlist.specs.Wires.{read_by}
use Rattle.netlist.specs.declared.net.Flat.{Flat}
use Rattle.netlist.specs.declared.net.Op2.{Op2}
use Rattle.netlist.specs.declared.net.Op2.TheVariants.{Add, Sub, Mul, And, Or, Xor, Eq, LtU, LtS, Shl, Shr, Sar}
use Rattle.netlist.specs.declared.net.RamIn.{RamIn}
use Rattle.netlist.proofs.Before.{before_fits, before_shorter, taken_fits, taken_shorter}
use Rattle.netlist.proofs.Lengths.{value_width}
use Rattle.bit_laws.specs.BitNames.{place_name, wire_name, word_names}
use Rattle.bit_laws.specs.Bitnet.{BitValue, Bitnet, HaveBits, bit_at}
use Rattle.bit_laws.specs.Bitnet.BitValue.{of_input}
use Rattle.bit_laws.specs.Blast.{blast, on_each, output_names, output_nodes, word}
use Rattle.bit_laws.specs.CellLaws.{GivesBits, HasWord, HaveWords}
use Rattle.bit_laws.specs.Gates.Gate.{buffer}
use Rattle.bit_laws.specs.Keeping.{KeepsWord, KeptBefore}
use Rattle.bit_laws.proofs.Cells.{comparison_bits, logic_bits, mux_bits, sum_bits, unary_bits, wiring_bits}
use Rattle.bit_laws.proofs.Nodes.{length-word_names, outputs_there, word_length}
use Rattle.bit_laws.proofs.Rams.{ram_outside, ram_shows, ram_unread}
use Rattle.bit_laws.proofs.Registers.{register_first, register_later}
use Rattle.bit_laws.proofs.WideCells.{product_bits, shift_bits}
use Rattle.bit_laws.proofs.Words.{HasNodes, buffers_have, parted}
use Rattle.verilog_text.specs.Names.{output_name}

-- the bit at a place is within the word
bit_step : (y : Bool) (bits : List Bool) (j : ℕ) (x : Bool) → (bit_at bits j ≡ Some x → j < length bits)
    → (if j == length bits then Some y else bit_at bits j) ≡ Some x → j < suc (length bits)
bit_step y bits j x rest e = by_place (cases_eq j (length bits))
  where
    by_place : (j ≡ length bits) ⊎ (j ≡ length bits → ⊥) → j < suc (length bits)
    by_place (inl is) = omega arith
    by_place (inr apart) =
        let deeper : bit_at bits j ≡ Some x =
        subst (λ t. (if t then Some y else bit_at bits j) ≡ Some x) (ne_eqb j (length bits) apart) e in
        let less = rest deeper in omega (arith, less)

pub bit_within : (bits : List Bool) (j : ℕ) (x : Bool) → bit_at bits j ≡ Some x → j < length bits
bit_within [] j x e = absurd (cc)
bit_within (y ∷ bits) j x e = bit_step y bits j x (λ f. bit_within bits j x f) e

-- the names of a word's places have its bits, if each has the bit at its place
have_each : (ports : Ports) (b : Bitnet) (h : List Event) (name : List ℕ) (bits : List Bool)
    → ((j : ℕ) (x : Bool) → bit_at bits j ≡ Some x → BitValue ports b h (place_name name j) x)
    → HaveBits ports b h (word_names name (length bits)) bits
have_each ports b h name [] each = tt
have_each ports b h name (y ∷ bits) each = (
  each (length bits) y (ap (λ t. if t then Some y else bit_at bits (length bits)) (eq-eqb (length bits) (length bits) refl)),
  have_each ports b h name bits (λ j x e. each j x (deeper j x e)),
)
  where
    deeper : (j : ℕ) (x : Bool) → bit_at bits j ≡ Some x → (if j == length bits then Some y else bit_at bits j) ≡ Some x
    deeper j x e =
        let less = bit_within bits j x e in
        ap (λ t. if t then Some y else bit_at bits j) (ne_eqb j (length bits) (λ g. omega (arith, less, g))) ∙ e

-- an input has its bits
input_word : (flat : Flat) (present : Event) (past : List Event) (w : ℕ) (bits : List Bool) → w < length flat.ports.inputs
    → slice_get present.inputs w ≡ Some bits → slice_get flat.widths w ≡ Some (length bits) → HasWord flat (present ∷ past) w bits
input_word flat present past w bits less e wide =
    subst (λ n. HaveBits flat.ports (blast flat) (present ∷ past) (word_names (wire_name flat.ports w) n) bits)
    (sym (get_or_from_slice_get flat.widths w (length bits) 0 wide))
    (have_each flat.ports (blast flat) (present ∷ past) (wire_name flat.ports w) bits
    (λ j x at. of_input w j present past bits x less e at))

-- a buffer for each bit of an output
output_there : (flat : Flat) (ports : List Port) (wires : List WireId) (k : ℕ) (port : Port) (o : WireId) → slice_get ports k ≡ Some port
    → slice_get wires k ≡ Some o → HasNodes (blast flat) (output_nodes flat ports wires)
    → HasNodes (blast flat) (on_each buffer (output_names flat.ports port) (word flat o.number))
output_there flat [] wires k port o e f all = absurd (cc)
output_there flat (p ∷ ports) [] k port o e f all = absurd (cc)
output_there flat (p ∷ ports) (v ∷ wires) zero port o e f all =
    let s = parted (blast flat) (on_each buffer (output_names flat.ports p) (word flat v.number)) (output_nodes flat ports wires) all in
    subst (λ q. HasNodes (blast flat) (on_each buffer (output_names flat.ports q) (word flat o.number))) (same_Some p port e)
    (subst (λ u. HasNodes (blast flat) (on_each buffer (output_names flat.ports p) (word flat u.number))) (same_Some v o f) s.0)
output_there flat (p ∷ ports) (v ∷ wires) (suc k) port o e f all =
    let s = parted (blast flat) (on_each buffer (output_names flat.ports p) (word flat v.number)) (output_nodes flat ports wires) all in
    output_there flat ports wires k port o e f s.1

-- an output is as wide as its wire
output_width : (widths : List ℕ) (ports : List Port) (wires : List WireId) (k : ℕ) (port : Port) (o : WireId) → slice_get ports k ≡ Some port
    → slice_get wires k ≡ Some o
    → map (λ (w : WireId). slice_get widths w.number) wires ≡ map (λ (p : Port). Some p.width) ports
    → slice_get widths o.number ≡ Some port.width
output_width widths [] wires k port o e f g = absurd (cc)
output_width widths (p ∷ ports) [] k port o e f g = absurd (cc)
output_width widths (p ∷ ports) (v ∷ wires) zero port o e f g =
    let first_port : p ≡ port = same_Some p port e in
    let first_wire : v ≡ o = same_Some v o f in
    let wide : slice_get widths v.number ≡ Some p.width = cc in
    ap (λ (u : WireId). slice_get widths u.number) (sym first_wire) ∙ wide ∙ ap (λ (q : Port). Some q.width) first_port
output_width widths (p ∷ ports) (v ∷ wires) (suc k) port o e f g =
    let rest : map (λ (w : WireId). slice_get widths w.number) wires ≡ map (λ (p : Port). Some p.width) ports = cc in
    output_width widths ports wires k port o e f rest

module _ (flat : Flat) (sound : Sound flat) (no_loop : HasNoLoop flat) where
  binary_bits : (h : List Event) (op : Op2) (v a c : WireId) → HasCell flat (Bin v op a c) → GivesBits flat h (Bin v op a c)
  binary_bits h Add v a c has = sum_bits flat h sound (Bin v Add a c) has tt
  binary_bits h Sub v a c has = sum_bits flat h sound (Bin v Sub a c) has tt
  binary_bits h Mul v a c has = product_bits flat h sound (Bin v Mul a c) has tt
  binary_bits h And v a c has = logic_bits flat h sound (Bin v And a c) has tt
  binary_bits h Or v a c has = logic_bits flat h sound (Bin v Or a c) has tt
  binary_bits h Xor v a c has = logic_bits flat h sound (Bin v Xor a c) has tt
  binary_bits h Eq v a c has = comparison_bits flat h sound (Bin v Eq a c) has tt
  binary_bits h LtU v a c has = comparison_bits flat h sound (Bin v LtU a c) has tt
  binary_bits h LtS v a c has = comparison_bits flat h sound (Bin v LtS a c) has tt
  binary_bits h Shl v a c has = shift_bits flat h sound (Bin v Shl a c) has tt
  binary_bits h Shr v a c has = shift_bits flat h sound (Bin v Shr a c) has tt
  binary_bits h Sar v a c has = shift_bits flat h sound (Bin v Sar a c) has tt

  operated_bits : (h : List Event) (cell : Cell) → HasCell flat cell → KeepsNothing cell → GivesBits flat h cell
  operated_bits h (Const v bits) has keeps = wiring_bits flat h sound (Const v bits) has tt
  operated_bits h (Copy v a) has keeps = wiring_bits flat h sound (Copy v a) has tt
  operated_bits h (Join v parts) has keeps = wiring_bits flat h sound (Join v parts) has tt
  operated_bits h (Cut v a high low) has keeps = wiring_bits flat h sound (Cut v a high low) has tt
  operated_bits h (Un v op a) has keeps = unary_bits flat h sound op v a has
  operated_bits h (Bin v op a c) has keeps = binary_bits h op v a c has
  operated_bits h (Mux v c a d) has keeps = mux_bits flat h sound v c a d has
  operated_bits h (Reg v domain initial a) has keeps = absurd keeps
  operated_bits h (Ram v domain words inputs) has keeps = absurd keeps
  operated_bits h (Use m reads drives) has keeps = absurd keeps

  -- the zeros of a RAM's width
  ram_zeros : (h : List Event) (w : WireId) (width : ℕ) → slice_get flat.widths w.number ≡ Some width
      → HasWord flat h w.number (zeros (slice_index flat.widths w.number)) → HasWord flat h w.number (zeros width)
  ram_zeros h w width e v = subst (λ n. HasWord flat h w.number (zeros n)) (get_or_from_slice_get flat.widths w.number width 0 e) v

  limited : (h : List Event) → KeptBefore flat h
      → (past : List Event) (v : ℕ) → length past < length h → FitsPorts flat.ports past → KeepsWord flat past v
  limited h early past v less fits = early past v less fits

  mutual
    -- a wire keeps its bits, where all did before
    value_kept : (h : List Event) (w : ℕ) (bits : List Bool) → FitsPorts flat.ports h → KeptBefore flat h → NetValue flat h w bits → HasWord flat h w bits
    value_kept _ _ _ fits early (input w present past bits less e) =
        input_word flat present past w bits less e (value_width flat sound (present ∷ past) w bits fits (input w present past bits less e))
    value_kept _ _ _ fits early (operated cell w h values has keeps t reads) =
        operated_bits h cell has keeps w values t (reads_kept h (read_by cell) values fits early reads)
    value_kept _ _ _ fits early (first w a domain initial h has e) =
        register_first flat h sound fits w a domain initial has no_loop early e
    value_kept _ _ _ fits early (later w a domain initial bits h past has e v) =
        register_later flat h sound fits w a domain initial has past bits e
        (early past a.number (taken_shorter flat.ports h past domain fits e) (taken_fits flat.ports h past domain fits e) bits v)
    value_kept _ _ _ fits early (unread w ram width h has wide e) =
        ram_zeros h w width wide (ram_unread flat sound no_loop w ram.domain ram.words ram.inputs has (length h) (limited h early) h e)
    value_kept _ _ _ fits early (outside w ram width h past address has wide e v le) =
        ram_zeros h w width wide
        (ram_outside flat sound no_loop w ram.domain ram.words ram.inputs has (length h) (limited h early) h past address e
        (before_shorter flat.ports h past ram.domain fits e) (before_fits flat.ports h past ram.domain fits e) v le)
    value_kept _ _ _ fits early (shown w ram h past address bits has e v less word_there) =
        ram_shows flat sound no_loop w ram.domain ram.words ram.inputs has (length h) (limited h early) h past address bits e
        (before_shorter flat.ports h past ram.domain fits e) (before_fits flat.ports h past ram.domain fits e) v less
        (shown w ram h past address bits has e v less word_there)

    reads_kept : (h : List Event) (wires : List WireId) (values : List (List Bool)) → FitsPorts flat.ports h → KeptBefore flat h
        → ReadValues flat h wires values → HaveWords flat h wires values
    reads_kept _ _ _ fits early (read_none h) = tt
    reads_kept _ _ _ fits early (read_and h w wires bits values v vs) =
        (value_kept h w.number bits fits early v, reads_kept h wires values fits early vs)

  -- so all histories keep the bits of all wires
  kept_to : (n : ℕ) (h : List Event) (w : ℕ) (bits : List Bool) → length h ≤ n → FitsPorts flat.ports h → NetValue flat h w bits → HasWord flat h w bits
  kept_to zero h w bits le fits v =
      value_kept h w bits fits (λ past w less past_fits bits v. absurd (omega (arith, le, less))) v
  kept_to (suc n) h w bits le fits v =
      value_kept h w bits fits (λ past w less past_fits bits v. kept_to n past w bits (omega (arith, le, less)) past_fits v) v

  pub wires_kept : (h : List Event) (w : ℕ) (bits : List Bool) → FitsPorts flat.ports h → NetValue flat h w bits → HasWord flat h w bits
  wires_kept h w bits fits v = kept_to (length h) h w bits (omega arith) fits v

  pub outputs_kept : (h : List Event) (k : ℕ) (port : Port) (o : WireId) (bits : List Bool) → FitsPorts flat.ports h
      → slice_get flat.ports.outputs k ≡ Some port → slice_get flat.outputs k ≡ Some o → NetValue flat h o.number bits
      → HaveBits flat.ports (blast flat) h (output_names flat.ports port) bits
  outputs_kept h k port o bits fits e f v =
      let wide = output_width flat.widths flat.ports.outputs flat.outputs k port o e f sound.outputs in
      let long : length (output_names flat.ports port) ≡ length (word flat o.number) =
      length-word_names (output_name flat.ports.domains port) port.width ∙ sym (word_length flat o.number port.width wide) in
      buffers_have flat.ports (blast flat) h (output_names flat.ports port) (word flat o.number) bits long
      (output_there flat flat.ports.outputs flat.outputs k port o e f (outputs_there flat)) (wires_kept h o.number bits fits v)

  -- a register, and a RAM, where all wires kept theirs before
  pub registers_keep : (h : List Event) (v a : WireId) (domain : DomId) (initial : List Bool) → FitsPorts flat.ports h
      → HasCell flat (Reg v domain initial a) → KeptBefore flat h → KeepsWord flat h v.number
  registers_keep h v a domain initial fits has early bits value = value_kept h v.number bits fits early value

  pub rams_keep : (h : List Event) (w : WireId) (domain : DomId) (words : List (List Bool)) (inputs : RamIn) → FitsPorts flat.ports h
      → HasCell flat (Ram w domain words inputs) → KeptBefore flat h → KeepsWord flat h w.number
  rams_keep h w domain words inputs fits has early bits value = value_kept h w.number bits fits early value
