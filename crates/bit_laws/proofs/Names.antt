-- All names that the nodes read are known.
use Rattle.std.proofs.Common.{◌≡◌, ℕ, zero, suc, ◌+◌, ◌-◌, ◌<◌, ◌≤◌, Bool, true, false, List, [], ◌∷◌, ◌++◌, length, map, take, drop, get_or, reverse, Some, slice_get, refl, sym, ap, subst, ◌∙◌, arith, if◌then◌else◌, cond, inl, inr, ◌⊎◌}
use Rattle.std.specs.List.{AllByRecursion}
use Rattle.std.specs.Prelude.{flat_map, slice_index, slice_index_or}
use Rattle.std.proofs.lemmas.Bool.{cases_lt, lt-ltb}
use Rattle.std.proofs.lemmas.List.{reverse-append}
use Rattle.std.proofs.lemmas.Option.{get_or_from_slice_get, same_Some, slice_get_within}
use Rattle.chw_base.specs.declared.index.DomId.{DomId}
use Rattle.chw_base.specs.declared.index.WireId.{WireId}
use Rattle.chw_base.specs.declared.limits.TheConstants.{ADDRESS_BITS}
use Rattle.chw_clock.specs.Histories.{has_reset, is_one_of}
use Rattle.chw_clock.specs.declared.event.Port.{Port}
use Rattle.netlist.specs.Feeds.{target}
use Rattle.netlist.specs.NetValue.{HasCell}
use Rattle.netlist.specs.Sound.{DrivesFrom, IsWire, Sound}
use Rattle.netlist.specs.declared.net.Cell.{Cell}
use Rattle.netlist.specs.declared.net.Cell.TheVariants.{Const, Copy, Join, Cut, Un, Bin, Mux, Reg, Ram, Use}
use Rattle.netlist.specs.declared.net.Flat.{Flat}
use Rattle.netlist.specs.declared.net.Op1.{Op1}
use Rattle.netlist.specs.declared.net.Op1.TheVariants.{Not, RedAnd, RedOr, RedXor}
use Rattle.netlist.specs.declared.net.Op2.{Op2}
use Rattle.netlist.specs.declared.net.Op2.TheVariants.{Add, Sub, Mul, And, Or, Xor, Eq, LtU, LtS, Shl, Shr, Sar}
use Rattle.netlist.proofs.Places.{all_at}
use Rattle.verilog_text.specs.Names.{clock_name, input_name, reset_name, wire_text}
use Rattle.verilog_text.specs.Text.{clock_names}
use Rattle.bit_laws.specs.BitNames.{further, place_name, wire_name, word_names}
use Rattle.bit_laws.specs.Bitnet.{clock_of, reset_of}
use Rattle.bit_laws.specs.Blast.{blast, input_names, nodes_of, on_each, output_names, output_nodes, part_of, word}
use Rattle.bit_laws.specs.Driven.{HasName, IsKnown, KnowsNames, NamesOnly}
use Rattle.bit_laws.specs.Gates.Gate.{both, buffer, differing, either, inverse}
use Rattle.bit_laws.proofs.CellOrder.{as_wire, cell_drives, fits, some, wide}
use Rattle.bit_laws.proofs.Known.{Driven, DrivenAre, add_names, down_names, equal_names, further_driven, less_names, multiply_names, place_driven, ram_names, reduction_names, register_names, sign_names, signed_names, subtract_names, up_names}
use Rattle.bit_laws.proofs.Nodes.{HasItem, item_left, item_mapped, item_right, word_length, word_some}
use Rattle.bit_laws.proofs.Once.{mapped_at}
use Rattle.bit_laws.proofs.Order.{InOrder}
use Rattle.bit_laws.proofs.Reading.{AllP, Reads, all_dropped, all_joined, all_taken, both_read, constants_read, each_read, mux_read, reads_joined}

-- a name at each place of a word
each_place : (P : List ℕ → Type 0) (name : List ℕ) (n : ℕ) → ((j : ℕ) → j < n → P (place_name name j)) → AllByRecursion P (word_names name n)
each_place P name zero each = tt
each_place P name (suc n) each = (each n (omega arith), each_place P name n (λ j less. each j (omega arith)))

place_there : (name : List ℕ) (n j : ℕ) → j < n → HasItem (word_names name n) (place_name name j)
place_there name zero j less = absurd (omega arith)
place_there name (suc n) j less = by_case (cases_lt j n) (λ l. place_there name n j l)
  where
    by_case : (j < n) ⊎ (n ≤ j) → (j < n → HasItem (word_names name n) (place_name name j)) → HasItem (word_names name (suc n)) (place_name name j)
    by_case (inl l) rest = let it = rest l in (suc it.0, it.1)
    by_case (inr l) rest = let same : n ≡ j = omega arith in (zero, ap (λ i. Some (place_name name i)) same)

turned_there : (xs : List (List ℕ)) (x : List ℕ) → HasItem xs x → HasItem (reverse xs) x
turned_there [] x has = absurd (let none = has.1 in cc)
turned_there (y ∷ xs) x (zero, e) =
    subst (λ ys. HasItem ys x) (sym (reverse-append (y ∷ []) xs)) (item_right (reverse xs) (y ∷ []) x (zero, e))
turned_there (y ∷ xs) x (suc k, e) =
    subst (λ ys. HasItem ys x) (sym (reverse-append (y ∷ []) xs)) (item_left (reverse xs) (y ∷ []) x (turned_there xs x (k, e)))

-- each domain's clock is among the names of clocks, and its reset where it has one
clock_there : (resets : List DomId) (k : ℕ) (domains : List (List ℕ)) (i : ℕ) → i < length domains
    → HasItem (clock_names resets k domains) (clock_name (get_or domains i []))
clock_there resets k [] i less = absurd (omega arith)
clock_there resets k (d ∷ domains) zero less = (zero, refl)
clock_there resets k (d ∷ domains) (suc i) less =
    by_reset (is_one_of resets (record { number = k })) (clock_there resets (k + 1) domains i (omega arith))
  where
    by_reset : (t : Bool) → HasItem (clock_names resets (k + 1) domains) (clock_name (get_or domains i []))
        → HasItem (clock_name d ∷ (cond t (reset_name d ∷ []) [] ++ clock_names resets (k + 1) domains)) (clock_name (get_or domains i []))
    by_reset true has = (suc (suc has.0), has.1)
    by_reset false has = (suc has.0, has.1)

reset_there : (resets : List DomId) (k : ℕ) (domains : List (List ℕ)) (i : ℕ) → i < length domains → is_one_of resets (record { number = k + i }) ≡ true
    → HasItem (clock_names resets k domains) (reset_name (get_or domains i []))
reset_there resets k [] i less e = absurd (omega arith)
reset_there resets k (d ∷ domains) zero less e = by_reset (is_one_of resets (record { number = k })) here
  where
    here : is_one_of resets (record { number = k }) ≡ true
    here = let same : k ≡ k + 0 = omega arith in ap (λ (n : ℕ). is_one_of resets (record { number = n })) same ∙ e

    by_reset : (t : Bool) → t ≡ true
        → HasItem (clock_name d ∷ (cond t (reset_name d ∷ []) [] ++ clock_names resets (k + 1) domains)) (reset_name d)
    by_reset true f = (suc zero, refl)
    by_reset false f = absurd (cc)
reset_there resets k (d ∷ domains) (suc i) less e = by_reset (is_one_of resets (record { number = k })) (reset_there resets (k + 1) domains i (omega arith) later)
  where
    later : is_one_of resets (record { number = k + 1 + i }) ≡ true
    later = let same : k + 1 + i ≡ k + suc i = omega arith in ap (λ (n : ℕ). is_one_of resets (record { number = n })) same ∙ e

    by_reset : (t : Bool) → HasItem (clock_names resets (k + 1) domains) (reset_name (get_or domains i []))
        → HasItem (clock_name d ∷ (cond t (reset_name d ∷ []) [] ++ clock_names resets (k + 1) domains)) (reset_name (get_or domains i []))
    by_reset true has = (suc (suc has.0), has.1)
    by_reset false has = (suc has.0, has.1)

-- the cell that drives a wire
driving : (w : ℕ) (cells : List Cell) → DrivesFrom w cells → (v : ℕ) → w ≤ v → v < w + length cells
    → (cell : Cell) × HasItem cells cell × (target cell ≡ Some v)
driving w [] drive v from below = absurd (omega arith)
driving w (cell ∷ cells) drive v from below = by_case (cases_lt w v) (λ l. driving (w + 1) cells drive.1 v (omega arith) (omega arith))
  where
    by_case : (w < v) ⊎ (v ≤ w) → (w < v → (c : Cell) × HasItem cells c × (target c ≡ Some v)) → (c : Cell) × HasItem (cell ∷ cells) c × (target c ≡ Some v)
    by_case (inl l) rest = let it = rest l in (it.0, (suc it.1.0, it.1.1), it.2)
    by_case (inr l) rest = let same : w ≡ v = omega arith in (cell, (zero, refl), drive.0 ∙ ap Some same)

-- the width of an input's port is that of its wire
port_width : (ports : List Port) (widths : List ℕ) (n k : ℕ) (port : Port) → map (λ (p : Port). p.width) ports ≡ take n widths
    → slice_get ports k ≡ Some port → slice_get widths k ≡ Some port.width
port_width [] widths n k port e f = absurd (cc)
port_width (p ∷ ports) widths zero k port e f = absurd (cc)
port_width (p ∷ ports) [] (suc n) k port e f = absurd (cc)
port_width (p ∷ ports) (m ∷ widths) (suc n) zero port e f =
    let first : p.width ≡ m = cc in let same = same_Some p port f in ap Some (sym first ∙ ap (λ (q : Port). q.width) same)
port_width (p ∷ ports) (m ∷ widths) (suc n) (suc k) port e f =
    let rest : map (λ (q : Port). q.width) ports ≡ take n widths = cc in port_width ports widths n k port rest f

port_of : (ports : List Port) (k : ℕ) → k < length ports → (p : Port) × (slice_get ports k ≡ Some p)
port_of [] k less = absurd (omega arith)
port_of (p ∷ ports) zero less = (p, refl)
port_of (p ∷ ports) (suc k) less = port_of ports k (omega arith)

module _ (flat : Flat) (sound : Sound flat) where
  abbrev Read : List ℕ → Type 0
  Read name = IsKnown (blast flat) name

  abbrev Clock : List ℕ → Type 0
  Clock name = HasName (blast flat).inputs name

  -- what a node of a cell drives is known
  driven_known : (cell : Cell) (name : List ℕ) → HasCell flat cell → Driven (nodes_of flat cell) name → IsKnown (blast flat) name
  driven_known cell name has d =
      inr (
        d.node,
        item_left (flat_map (nodes_of flat) flat.cells) (output_nodes flat flat.ports.outputs flat.outputs) d.node
            (item_mapped (nodes_of flat) flat.cells cell d.node has d.has),
        d.is,
      )

  clock_known : (domain : DomId) → domain.number < length flat.ports.domains → Clock (clock_of flat.ports domain)
  clock_known domain less =
      item_left (clock_names flat.ports.resets 0 flat.ports.domains) (flat_map (λ (port : Port). reverse (input_names flat.ports port)) flat.ports.inputs)
      (clock_of flat.ports domain) (clock_there flat.ports.resets 0 flat.ports.domains domain.number less)

  reset_known : (domain : DomId) → domain.number < length flat.ports.domains → has_reset flat.ports domain ≡ true → Read (reset_of flat.ports domain)
  reset_known domain less e =
      let same : 0 + domain.number ≡ domain.number = omega arith in
      inl (item_left (clock_names flat.ports.resets 0 flat.ports.domains) (flat_map (λ (port : Port). reverse (input_names flat.ports port)) flat.ports.inputs)
      (reset_of flat.ports domain)
      (reset_there flat.ports.resets 0 flat.ports.domains domain.number less
      (ap (λ (n : ℕ). is_one_of flat.ports.resets (record { number = n })) same ∙ e)))

  -- the bits of each wire are known
  input_known : (w j : ℕ) → w < length flat.ports.inputs → j < slice_index flat.widths w → Read (place_name (wire_name flat.ports w) j)
  input_known w j less below =
      let p = port_of flat.ports.inputs w less in
      let e = port_width flat.ports.inputs flat.widths (length flat.ports.inputs) w p.0 sound.inputs p.1 in
      let broad : slice_index flat.widths w ≡ p.0.width = get_or_from_slice_get flat.widths w p.0.width 0 e in
      let named : wire_name flat.ports w ≡ input_name flat.ports.domains p.0 =
      ap (λ t. if t then slice_index_or (map (input_name flat.ports.domains) flat.ports.inputs) w [] else wire_text w) (lt-ltb w (length flat.ports.inputs) less)
      ∙ get_or_from_slice_get (map (input_name flat.ports.domains) flat.ports.inputs) w (input_name flat.ports.domains p.0) []
      (mapped_at (input_name flat.ports.domains) flat.ports.inputs w p.0 p.1) in
      let there : HasItem (reverse (input_names flat.ports p.0)) (place_name (input_name flat.ports.domains p.0) j) =
      turned_there (input_names flat.ports p.0) (place_name (input_name flat.ports.domains p.0) j)
      (place_there (input_name flat.ports.domains p.0) p.0.width j (omega (arith, broad, below))) in
      subst (λ name. Read (place_name name j)) (sym named)
      (inl (item_right (clock_names flat.ports.resets 0 flat.ports.domains) (flat_map (λ (port : Port). reverse (input_names flat.ports port)) flat.ports.inputs)
      (place_name (input_name flat.ports.domains p.0) j)
      (item_mapped (λ (port : Port). reverse (input_names flat.ports port)) flat.ports.inputs p.0 (place_name (input_name flat.ports.domains p.0) j) (w, p.1) there)))

  wire_known : (w j : ℕ) → w < length flat.widths → j < slice_index flat.widths w → Read (place_name (wire_name flat.ports w) j)
  wire_known w j less below = by_case (cases_lt w (length flat.ports.inputs))
    where
      by_case : (w < length flat.ports.inputs) ⊎ (length flat.ports.inputs ≤ w) → Read (place_name (wire_name flat.ports w) j)
      by_case (inl l) = input_known w j l below
      by_case (inr l) =
          let all = sound.all in
          let it = driving (length flat.ports.inputs) flat.cells sound.in_order w l (omega (arith, all, less)) in
          let d = cell_drives flat sound it.0 w it.1 it.2 in
          driven_known it.0 (place_name (wire_name flat.ports w) j) it.1
          (place_driven (wire_name flat.ports w) w (nodes_of flat it.0) 0 0 d.0 (slice_index flat.widths w) d.1 j (omega arith) below)

  word_known : (w : ℕ) → w < length flat.widths → AllP Read Clock (word flat w)
  word_known w less = each_place Read (wire_name flat.ports w) (slice_index flat.widths w) (λ j below. wire_known w j less below)

  at_width : (w n : ℕ) → slice_get flat.widths w ≡ Some n → AllP Read Clock (word flat w)
  at_width w n e = word_known w (slice_get_within flat.widths w n e)

  -- the further names of a cell below its count
  furthers_known : (cell : Cell) (w count places : ℕ) → HasCell flat cell → InOrder (wire_name flat.ports w) w (nodes_of flat cell) 0 0 count places
      → (x : ℕ) → x < count → Read (further w x)
  furthers_known cell w count places has order x less =
      driven_known cell (further w x) has (further_driven (wire_name flat.ports w) w (nodes_of flat cell) 0 0 count places order x (omega arith) less)

  joins_known : (parts : List WireId) → AllByRecursion (IsWire flat.widths) parts → AllP Read Clock (flat_map (λ (p : WireId). word flat p.number) parts)
  joins_known [] all = tt
  joins_known (p ∷ parts) all =
      all_joined Read (word flat p.number) (flat_map (λ (p : WireId). word flat p.number) parts) (word_known p.number all.0) (joins_known parts all.1)

  abbrev CellReads : Cell → Type 0
  CellReads cell = Reads Read Clock (nodes_of flat cell)

  -- a further name that a cell drives is known
  driven_are : (cell : Cell) (w : ℕ) → HasCell flat cell → DrivenAre Read Clock (wire_name flat.ports w) w (slice_index flat.widths w) (nodes_of flat cell)
  driven_are cell w has count order x less = furthers_known cell w count (slice_index flat.widths w) has order x less

  unary_known : (op : Op1) (v a : WireId) → HasCell flat (Un v op a) → CellReads (Un v op a)
  unary_known Not v a has =
      let f = fits flat sound (Un v Not a) has in each_read Read Clock inverse (word flat v.number) (word flat a.number) (at_width a.number f.0 f.2)
  unary_known RedAnd v a has =
      let f = fits flat sound (Un v RedAnd a) has in
      reduction_names Read Clock (wire_name flat.ports v.number) v.number (slice_index flat.widths v.number) both (word flat a.number)
      (wide flat sound v.number 1 f.0) (word_some flat a.number sound f.1) (driven_are (Un v RedAnd a) v.number has) (word_known a.number f.1)
  unary_known RedOr v a has =
      let f = fits flat sound (Un v RedOr a) has in
      reduction_names Read Clock (wire_name flat.ports v.number) v.number (slice_index flat.widths v.number) either (word flat a.number)
      (wide flat sound v.number 1 f.0) (word_some flat a.number sound f.1) (driven_are (Un v RedOr a) v.number has) (word_known a.number f.1)
  unary_known RedXor v a has =
      let f = fits flat sound (Un v RedXor a) has in
      reduction_names Read Clock (wire_name flat.ports v.number) v.number (slice_index flat.widths v.number) differing (word flat a.number)
      (wide flat sound v.number 1 f.0) (word_some flat a.number sound f.1) (driven_are (Un v RedXor a) v.number has) (word_known a.number f.1)

  binary_known : (op : Op2) (v a c : WireId) → HasCell flat (Bin v op a c) → CellReads (Bin v op a c)
  binary_known Add v a c has =
      let f = fits flat sound (Bin v Add a c) has in
      add_names Read Clock (wire_name flat.ports v.number) v.number (slice_index flat.widths v.number) (word flat a.number) (word flat c.number)
      (as_wire flat sound a.number v.number f.0 f.3 f.2) (as_wire flat sound c.number v.number f.0 f.4 f.2)
      (driven_are (Bin v Add a c) v.number has) (at_width a.number f.0 f.3) (at_width c.number f.0 f.4)
  binary_known Sub v a c has =
      let f = fits flat sound (Bin v Sub a c) has in
      subtract_names Read Clock (wire_name flat.ports v.number) v.number (slice_index flat.widths v.number) (word flat a.number) (word flat c.number)
      (as_wire flat sound a.number v.number f.0 f.3 f.2) (as_wire flat sound c.number v.number f.0 f.4 f.2)
      (driven_are (Bin v Sub a c) v.number has) (at_width a.number f.0 f.3) (at_width c.number f.0 f.4)
  binary_known Mul v a c has =
      let f = fits flat sound (Bin v Mul a c) has in
      multiply_names Read Clock (wire_name flat.ports v.number) v.number (slice_index flat.widths v.number) (word flat a.number) (word flat c.number)
      (as_wire flat sound a.number v.number f.0 f.3 f.2) (some flat sound c.number f.0 f.4)
      (driven_are (Bin v Mul a c) v.number has) (at_width a.number f.0 f.3) (at_width c.number f.0 f.4)
  binary_known And v a c has =
      let f = fits flat sound (Bin v And a c) has in
      both_read Read Clock both (word flat v.number) (word flat a.number) (word flat c.number) (at_width a.number f.0 f.2) (at_width c.number f.0 f.3)
  binary_known Or v a c has =
      let f = fits flat sound (Bin v Or a c) has in
      both_read Read Clock either (word flat v.number) (word flat a.number) (word flat c.number) (at_width a.number f.0 f.2) (at_width c.number f.0 f.3)
  binary_known Xor v a c has =
      let f = fits flat sound (Bin v Xor a c) has in
      both_read Read Clock differing (word flat v.number) (word flat a.number) (word flat c.number) (at_width a.number f.0 f.2) (at_width c.number f.0 f.3)
  binary_known Eq v a c has =
      let f = fits flat sound (Bin v Eq a c) has in
      equal_names Read Clock (wire_name flat.ports v.number) v.number (slice_index flat.widths v.number) (word flat a.number) (word flat c.number)
      (wide flat sound v.number 1 f.0) (word_length flat a.number f.1.0 f.1.1 ∙ sym (word_length flat c.number f.1.0 f.1.2))
      (driven_are (Bin v Eq a c) v.number has) (at_width a.number f.1.0 f.1.1) (at_width c.number f.1.0 f.1.2)
  binary_known LtU v a c has =
      let f = fits flat sound (Bin v LtU a c) has in
      less_names Read Clock (wire_name flat.ports v.number) v.number (slice_index flat.widths v.number) (word flat a.number) (word flat c.number)
      (wide flat sound v.number 1 f.0) (word_length flat a.number f.1.0 f.1.1 ∙ sym (word_length flat c.number f.1.0 f.1.2))
      (driven_are (Bin v LtU a c) v.number has) (at_width a.number f.1.0 f.1.1) (at_width c.number f.1.0 f.1.2)
  binary_known LtS v a c has =
      let f = fits flat sound (Bin v LtS a c) has in
      signed_names Read Clock (wire_name flat.ports v.number) v.number (slice_index flat.widths v.number) (word flat a.number) (word flat c.number)
      (wide flat sound v.number 1 f.0) (some flat sound a.number f.1.0 f.1.1) (word_length flat a.number f.1.0 f.1.1 ∙ sym (word_length flat c.number f.1.0 f.1.2))
      (driven_are (Bin v LtS a c) v.number has) (at_width a.number f.1.0 f.1.1) (at_width c.number f.1.0 f.1.2)
  binary_known Shl v a c has =
      let f = fits flat sound (Bin v Shl a c) has in
      up_names Read Clock (wire_name flat.ports v.number) v.number (slice_index flat.widths v.number) (word flat a.number) (word flat c.number)
      (as_wire flat sound a.number v.number f.1.0 f.1.2 f.1.1) (driven_are (Bin v Shl a c) v.number has) (at_width a.number f.1.0 f.1.2) (word_known c.number f.0)
  binary_known Shr v a c has =
      let f = fits flat sound (Bin v Shr a c) has in
      down_names Read Clock (wire_name flat.ports v.number) v.number (slice_index flat.widths v.number) (word flat a.number) (word flat c.number)
      (as_wire flat sound a.number v.number f.1.0 f.1.2 f.1.1) (driven_are (Bin v Shr a c) v.number has) (at_width a.number f.1.0 f.1.2) (word_known c.number f.0)
  binary_known Sar v a c has =
      let f = fits flat sound (Bin v Sar a c) has in
      sign_names Read Clock (wire_name flat.ports v.number) v.number (slice_index flat.widths v.number) (word flat a.number) (word flat c.number)
      (some flat sound a.number f.1.0 f.1.2) (as_wire flat sound a.number v.number f.1.0 f.1.2 f.1.1) (driven_are (Bin v Sar a c) v.number has) (at_width a.number f.1.0 f.1.2) (word_known c.number f.0)

  cell_known : (cell : Cell) → HasCell flat cell → CellReads cell
  cell_known (Const v bits) has = constants_read Read Clock (word flat v.number) bits
  cell_known (Copy v a) has =
      let f = fits flat sound (Copy v a) has in each_read Read Clock buffer (word flat v.number) (word flat a.number) (at_width a.number f.0 f.2)
  cell_known (Join v parts) has =
      let f = fits flat sound (Join v parts) has in
      each_read Read Clock buffer (word flat v.number) (flat_map (λ (p : WireId). word flat p.number) parts) (joins_known parts f.0)
  cell_known (Cut v a high low) has =
      let f = fits flat sound (Cut v a high low) has in
      each_read Read Clock buffer (word flat v.number) (part_of high low (word flat a.number))
      (all_taken Read Clock (high + 1 - low) (drop (length (word flat a.number) - 1 - high) (word flat a.number)) (all_dropped Read Clock (length (word flat a.number) - 1 - high) (word flat a.number) (at_width a.number f.2.0 f.2.2)))
  cell_known (Un v op a) has = unary_known op v a has
  cell_known (Bin v op a c) has = binary_known op v a c has
  cell_known (Mux v c a d) has =
      let f = fits flat sound (Mux v c a d) has in
      mux_read Read Clock (word flat c.number) (word flat v.number) (word flat a.number) (word flat d.number) (at_width c.number 1 f.0)
      (at_width a.number f.1.0 f.1.2) (at_width d.number f.1.0 f.1.3)
  cell_known (Reg v domain initial a) has =
      let f = fits flat sound (Reg v domain initial a) has in
      register_names Read Clock (wire_name flat.ports v.number) v.number (slice_index flat.widths v.number) (has_reset flat.ports domain)
      (clock_of flat.ports domain) (reset_of flat.ports domain) (word flat a.number) initial (as_wire flat sound a.number v.number (length initial) f.2 f.1)
      (sym (wide flat sound v.number (length initial) f.1)) (λ t. reset_known domain f.0 t) (clock_known domain f.0)
      (driven_are (Reg v domain initial a) v.number has) (at_width a.number (length initial) f.2)
  cell_known (Ram v domain words inputs) has =
      let g = fits flat sound (Ram v domain words inputs) has in
      let f = g.1 in
      ram_names Read Clock (wire_name flat.ports v.number) v.number (slice_index flat.widths v.number) (clock_of flat.ports domain)
      (record {
        read = word flat inputs.read.number;
        enable = word flat inputs.enable.number;
        place = word flat inputs.place.number;
        value = word flat inputs.value.number;
      }) words (as_wire flat sound inputs.value.number v.number f.5.0 f.5.2 f.5.1)
      (subst (λ n. AllByRecursion (λ (bits : List Bool). length bits ≡ n) words) (sym (wide flat sound v.number f.5.0 f.5.1)) f.5.3)
      (clock_known domain g.0) (driven_are (Ram v domain words inputs) v.number has) (at_width inputs.read.number ADDRESS_BITS f.2)
      (at_width inputs.enable.number 1 f.3) (at_width inputs.place.number ADDRESS_BITS f.4) (at_width inputs.value.number f.5.0 f.5.2)
  cell_known (Use m reads drives) has = tt

  -- the outputs' buffers read wires
  outputs_known : (ports : List Port) (wires : List WireId) → map (λ (w : WireId). slice_get flat.widths w.number) wires ≡ map (λ (p : Port). Some p.width) ports
      → Reads Read Clock (output_nodes flat ports wires)
  outputs_known [] wires e = tt
  outputs_known (p ∷ ports) [] e = tt
  outputs_known (p ∷ ports) (w ∷ wires) e =
      let first_wide : slice_get flat.widths w.number ≡ Some p.width = cc in
      let rest_wide : map (λ (w : WireId). slice_get flat.widths w.number) wires ≡ map (λ (p : Port). Some p.width) ports = cc in
      reads_joined Read Clock (on_each buffer (output_names flat.ports p) (word flat w.number)) (output_nodes flat ports wires)
      (each_read Read Clock buffer (output_names flat.ports p) (word flat w.number) (at_width w.number p.width first_wide))
      (outputs_known ports wires rest_wide)

  cells_known : (cells : List Cell) → ((cell : Cell) → HasItem cells cell → HasCell flat cell) → Reads Read Clock (flat_map (nodes_of flat) cells)
  cells_known [] each = tt
  cells_known (cell ∷ cells) each =
      reads_joined Read Clock (nodes_of flat cell) (flat_map (nodes_of flat) cells) (cell_known cell (each cell (zero, refl)))
      (cells_known cells (λ c there. each c (suc there.0, there.1)))

  pub knows_names : KnowsNames (blast flat)
  knows_names node has =
      all_at (NamesOnly Read Clock) (flat_map (nodes_of flat) flat.cells ++ output_nodes flat flat.ports.outputs flat.outputs) has.0 node
      (reads_joined Read Clock (flat_map (nodes_of flat) flat.cells) (output_nodes flat flat.ports.outputs flat.outputs)
      (cells_known flat.cells (λ cell there. there)) (outputs_known flat.ports.outputs flat.outputs sound.outputs)) has.1
