-- The bits that the cells of a memory have.
use Rattle.std.specs.Prelude.{slice_get}
use Rattle.std.proofs.Common.{◌≡◌, ◌<◌, ◌+◌, ◌-◌, ℕ, suc, Bool, true, false, List, [], ◌∷◌, ◌++◌, length, take, drop, Some, refl, ap, ◌∙◌, subst, arith, length-append}
use Rattle.std.proofs.lemmas.Bool.Decides.{Decides-eqb}
use Rattle.std.proofs.lemmas.List.{length-take-le}
use Rattle.chw_base.specs.declared.index.DomId.{DomId}
use Rattle.chw_base.specs.declared.index.WireId.{WireId}
use Rattle.chw_bits.specs.Bits.{number_of, cut_of}
use Rattle.chw_clock.specs.declared.event.Event.{Event}
use Rattle.netlist.specs.declared.net.Cell.{Cell}
use Rattle.netlist.specs.declared.net.Cell.TheVariants.{Cut, Ram}
use Rattle.netlist.specs.declared.net.Net.{Net}
use Rattle.netlist.specs.NetValue.{Memory, writes}
use Rattle.use_laws.specs.ValueIn.{ValueIn, HasRamAt, HasWidthAt}
use Rattle.net_built.specs.Memories.{past_all, address, address_wire, memory}
use Rattle.net_built.specs.Wires.{wire, new_wires, Piece, one, ◌▸◌, after, last_wire, last_wires}
use Rattle.net_built.specs.Words.{only}
use Rattle.cell_bits.specs.AddressLaws.{narrow}
use Rattle.cell_bits.specs.Bearing.{HasCells, Bears}
use Rattle.net_grounds.specs.Facts.{Facts}
use Rattle.net_means.proofs.Pieces.{has_first, has_second}
use Rattle.net_means.specs.CircuitBits.Memories.{HasWidths}

-- the pieces of a memory in order: the three cuts, the two addresses
abbrev pub enable_cut : (width k n : ℕ) → List WireId → Piece
enable_cut width k n write = one 1 (Cut (wire n) (only write) (k + width) (k + width))

abbrev pub place_cut : (width k n : ℕ) → List WireId → Piece
place_cut width k n write = one k (Cut (wire (n + 1)) (only write) (k + width - 1) width)

abbrev pub cuts_before : (width k n : ℕ) → List WireId → Piece
cuts_before width k n write = enable_cut width k n write ▸ place_cut width k n write

abbrev pub value_cut : (width k n : ℕ) → List WireId → Piece
value_cut width k n write = one width (Cut (wire (after n (cuts_before width k n write))) (only write) (width - 1) 0)

abbrev pub cuts : (width k n : ℕ) → List WireId → Piece
cuts width k n write = cuts_before width k n write ▸ value_cut width k n write

abbrev pub place_wires : (k n : ℕ) → List WireId
place_wires k n = new_wires (n + 1) (k ∷ [])

abbrev pub read_address : (width k n : ℕ) (read write : List WireId) → Piece
read_address width k n read write = address k (after n (cuts width k n write)) read

abbrev pub place_address : (width k n : ℕ) (read write : List WireId) → Piece
place_address width k n read write = address k (after (after n (cuts width k n write)) (read_address width k n read write)) (place_wires k n)

abbrev pub before_ram : (width k n : ℕ) (read write : List WireId) → Piece
before_ram width k n read write = cuts width k n write ▸ read_address width k n read write ▸ place_address width k n read write

abbrev pub ram_wire : (width k n : ℕ) (read write : List WireId) → ℕ
ram_wire width k n read write = after (after (after n (cuts width k n write)) (read_address width k n read write)) (place_address width k n read write)

-- the memory itself
abbrev pub ram_of : (width k n : ℕ) → DomId → List (List Bool) → (read write : List WireId) → Memory
ram_of width k n domain words read write = record {
  domain = domain;
  words = words;
  inputs = record {
    read = address_wire k (after n (cuts width k n write)) read;
    enable = wire n;
    place = address_wire k (after (after n (cuts width k n write)) (read_address width k n read write)) (place_wires k n);
    value = last_wire n (cuts width k n write);
  };
}

abbrev pub ram_cell : (width k n : ℕ) → DomId → List (List Bool) → (read write : List WireId) → Cell
ram_cell width k n domain words read write =
    let ram : Memory = ram_of width k n domain words read write in
    Ram (wire (ram_wire width k n read write)) ram.domain ram.words ram.inputs

-- the bits that the three cuts take of a write
enable_bit : (k width : ℕ) (bit : Bool) (rest : List Bool) → length rest ≡ k + width → cut_of (k + width) (k + width) (bit ∷ rest) ≡ bit ∷ []
enable_bit k width bit rest size =
    let count : k + width + 1 - (k + width) ≡ 1 = omega arith in
    let from : length (bit ∷ rest) - 1 - (k + width) ≡ 0 = omega (arith, size) in
    λ i. take (count i) (drop (from i) (bit ∷ rest))

place_bits : (k width : ℕ) (bit : Bool) (rest : List Bool) → 0 < width → length rest ≡ k + width → cut_of (k + width - 1) width (bit ∷ rest) ≡ take k rest
place_bits k width bit rest some size =
    let count : k + width - 1 + 1 - width ≡ k = omega (arith, some) in
    let from : length (bit ∷ rest) - 1 - (k + width - 1) ≡ 1 = omega (arith, size, some) in
    λ i. take (count i) (drop (from i) (bit ∷ rest))

value_bits : (k width : ℕ) (bit : Bool) (rest : List Bool) → 0 < width → length rest ≡ k + width → cut_of (width - 1) 0 (bit ∷ rest) ≡ take width (drop k rest)
value_bits k width bit rest some size =
    let count : width - 1 + 1 - 0 ≡ width = omega (arith, some) in
    let from : length (bit ∷ rest) - 1 - (width - 1) ≡ suc k = omega (arith, size, some) in
    λ i. take (count i) (drop (from i) (bit ∷ rest))

taken_length : (k more : ℕ) (rest : List Bool) → length rest ≡ k + more → length (take k rest) ≡ k
taken_length k more rest e = length-take-le k rest (omega (arith, e))

-- whether the word at an address is written
pub idle : (place : List Bool) (i : ℕ) → writes (false ∷ []) place i ≡ false
idle place i = refl

pub written_here : Facts → (place : List Bool) (i : ℕ) → i < past_all → number_of place ≡ i → writes (true ∷ []) (narrow place) i ≡ true
written_here facts place i small e =
    let number : number_of (narrow place) ≡ i = omega (arith, facts.data_cells.narrow_number place, small, e) in
    (Decides-eqb (number_of (narrow place)) i).1 number

pub written_elsewhere : Facts → (place : List Bool) (i : ℕ) → i < past_all → ¬ (number_of place ≡ i) → writes (true ∷ []) (narrow place) i ≡ false
written_elsewhere facts place i small e = by (writes (true ∷ []) (narrow place) i) refl
  where
    by : (b : Bool) → writes (true ∷ []) (narrow place) i ≡ b → b ≡ false
    by false is = refl
    by true is =
        let number : number_of (narrow place) ≡ i = (Decides-eqb (number_of (narrow place)) i).0 is in
        absurd (e (omega (arith, facts.data_cells.narrow_number place, small, number)))

-- what a memory has at its inputs, where an address is read, and the rest of a write stands behind its first bit
pub record Inputs (net : Net) (path : List ℕ) (g : List Event) (ram : Memory) (k width : ℕ) (address : List Bool) (bit : Bool) (rest : List Bool) : Type 0 where
  pub read : ValueIn net path g ram.inputs.read.number (narrow address)
  pub enable : ValueIn net path g ram.inputs.enable.number (bit ∷ [])
  pub place : ValueIn net path g ram.inputs.place.number (narrow (take k rest))
  pub value : ValueIn net path g ram.inputs.value.number (take width (drop k rest))

module _ (facts : Facts) (net : Net) (path : List ℕ) (w k n : ℕ) (domain : DomId) (words : List (List Bool)) (read write : List WireId) (has : HasCells net path (memory (suc w) k n domain words read write).cells) where
  behind_cuts : HasCells net path (read_address (suc w) k n read write ▸ place_address (suc w) k n read write ▸ one (suc w) (ram_cell (suc w) k n domain words read write)).cells
  behind_cuts = has_second (cuts (suc w) k n write).cells (read_address (suc w) k n read write ▸ place_address (suc w) k n read write ▸ one (suc w) (ram_cell (suc w) k n domain words read write)).cells has

  behind_read : HasCells net path (place_address (suc w) k n read write ▸ one (suc w) (ram_cell (suc w) k n domain words read write)).cells
  behind_read = has_second (read_address (suc w) k n read write).cells (place_address (suc w) k n read write ▸ one (suc w) (ram_cell (suc w) k n domain words read write)).cells behind_cuts

  cut_cells : HasCells net path (cuts (suc w) k n write).cells
  cut_cells = has_first (cuts (suc w) k n write).cells (read_address (suc w) k n read write ▸ place_address (suc w) k n read write ▸ one (suc w) (ram_cell (suc w) k n domain words read write)).cells has

  first_cells : HasCells net path (cuts_before (suc w) k n write).cells
  first_cells = has_first (cuts_before (suc w) k n write).cells (value_cut (suc w) k n write).cells cut_cells

  pub has_ram : HasRamAt net path (wire (ram_wire (suc w) k n read write)) (ram_of (suc w) k n domain words read write)
  has_ram = has_second (place_address (suc w) k n read write).cells (one (suc w) (ram_cell (suc w) k n domain words read write)).cells behind_read 0 _ refl

  pub has_inputs : (g : List Event) (address : List Bool) (bit : Bool) (rest : List Bool) → Bears net path g read address → length address ≡ k → Bears net path g write (bit ∷ rest) → length rest ≡ k + suc w
      → Inputs net path g (ram_of (suc w) k n domain words read write) k (suc w) address bit rest
  has_inputs g address bit rest reads narrow_enough bears size =
      let some : 0 < suc w = omega arith in
      let v : ValueIn net path g (only write).number (bit ∷ rest) = facts.cells.wire_value net path g bears (omega arith) in
      let place : Bears net path g (place_wires k n) (take k rest) =
      facts.cells.one_bears net path g (n + 1) k (Cut (wire (n + 1)) (only write) (k + suc w - 1) (suc w)) (take k rest) (taken_length k (suc w) rest size)
      (has_second (enable_cut (suc w) k n write).cells (place_cut (suc w) k n write).cells first_cells)
      (λ lt cell. subst (λ bits. ValueIn net path g (n + 1) bits) (place_bits k (suc w) bit rest some size) (facts.cells.cut_value net path g (n + 1) (k + suc w - 1) (suc w) (only write) (bit ∷ rest) cell v)) in
      let at : ℕ = after n (cuts_before (suc w) k n write) in
      let long = length-append (cuts_before (suc w) k n write).widths (value_cut (suc w) k n write).widths in
      let last : at ≡ after n (cuts (suc w) k n write) - 1 = omega (arith, long) in
      let value : ValueIn net path g at (take (suc w) (drop k rest)) =
      subst (λ bits. ValueIn net path g at bits) (value_bits k (suc w) bit rest some size)
      (facts.cells.cut_value net path g at (suc w - 1) 0 (only write) (bit ∷ rest) (has_second (cuts_before (suc w) k n write).cells (value_cut (suc w) k n write).cells cut_cells 0 _ refl) v) in
      record {
        read = facts.data_cells.address_bears net path g k (after n (cuts (suc w) k n write)) read address reads narrow_enough
            (has_first (read_address (suc w) k n read write).cells (place_address (suc w) k n read write ▸ one (suc w) (ram_cell (suc w) k n domain words read write)).cells behind_cuts);
        enable = subst (λ bits. ValueIn net path g n bits) (enable_bit k (suc w) bit rest size)
            (facts.cells.cut_value net path g n (k + suc w) (k + suc w) (only write) (bit ∷ rest) (first_cells 0 _ refl) v);
        place = facts.data_cells.address_bears net path g k (after (after n (cuts (suc w) k n write)) (read_address (suc w) k n read write)) (place_wires k n) (take k rest) place (taken_length k (suc w) rest size)
            (has_first (place_address (suc w) k n read write).cells (one (suc w) (ram_cell (suc w) k n domain words read write)).cells behind_read);
        value = subst (λ i. ValueIn net path g i (take (suc w) (drop k rest))) last value;
      }

  -- its wire is the last one of the piece
  pub last_of_memory : last_wires n (memory (suc w) k n domain words read write) (suc w ∷ []) ≡ new_wires (ram_wire (suc w) k n read write) (suc w ∷ [])
  last_of_memory =
      let q = (cuts (suc w) k n write).widths in
      let r = (read_address (suc w) k n read write).widths in
      let s = (place_address (suc w) k n read write).widths in
      let one_more = length-append q (r ++ (s ++ suc w ∷ [])) in
      let two_more = length-append r (s ++ suc w ∷ []) in
      let three_more = length-append s (suc w ∷ []) in
      facts.cells.last_at n (ram_wire (suc w) k n read write) (suc w) (memory (suc w) k n domain words read write) (λ some. omega (arith, one_more, two_more, three_more))

  pub has_width : HasWidths net path n (memory (suc w) k n domain words read write).widths → HasWidthAt net path (wire (ram_wire (suc w) k n read write)) (suc w)
  has_width widths =
      let q = (cuts (suc w) k n write).widths in
      let r = (read_address (suc w) k n read write).widths in
      let s = (place_address (suc w) k n read write).widths in
      let i : ℕ = length q + (length r + length s) in
      let there : slice_get (q ++ (r ++ (s ++ suc w ∷ []))) i ≡ Some (suc w) = past q (r ++ (s ++ suc w ∷ [])) (length r + length s) ∙ past r (s ++ suc w ∷ []) (length s) ∙ at_end s (suc w) in
      let place : n + i ≡ ram_wire (suc w) k n read write = omega arith in
      subst (λ x. HasWidthAt net path (wire x) (suc w)) place (widths i (suc w) there)
    where
      past : (front behind : List ℕ) (i : ℕ) → slice_get (front ++ behind) (length front + i) ≡ slice_get behind i
      past [] behind i = let none : 0 + i ≡ i = omega arith in ap (slice_get behind) none
      past (x ∷ front) behind i =
          let one : suc (length front) + i ≡ suc (length front + i) = omega arith in
          ap (slice_get (x ∷ (front ++ behind))) one ∙ past front behind i

      at_end : (front : List ℕ) (x : ℕ) → slice_get (front ++ x ∷ []) (length front) ≡ Some x
      at_end [] x = refl
      at_end (y ∷ front) x = at_end front x
