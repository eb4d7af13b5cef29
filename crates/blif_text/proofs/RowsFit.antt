-- The rows of all gates fit what they read, and the clocks of latches are those of domains.
use Rattle.std.proofs.Common.{◌≡◌, ℕ, zero, suc, ◌+◌, ◌*◌, ◌^◌, ◌<◌, Bool, true, false, List, [], ◌∷◌, ◌++◌, length, map, drop, refl, ap, ◌∙◌, length-append, arith, if◌then◌else◌}
use Rattle.std.specs.Prelude.{flat_map, slice_index}
use Rattle.std.specs.List.{AllByRecursion}
use Rattle.std.proofs.lemmas.List.{length-map}
use Rattle.std.proofs.lemmas.Option.{get_or_from_slice_get}
use Rattle.chw_base.specs.Names.{AllOf}
use Rattle.chw_base.specs.declared.index.DomId.{DomId}
use Rattle.chw_base.specs.declared.index.WireId.{WireId}
use Rattle.chw_bits.specs.Bits.{bits_of}
use Rattle.chw_clock.specs.Histories.{has_reset}
use Rattle.chw_clock.specs.declared.event.Port.{Port}
use Rattle.netlist.specs.Sound.{FitsCell}
use Rattle.netlist.specs.declared.net.Cell.{Cell}
use Rattle.netlist.specs.declared.net.Cell.TheVariants.{Const, Copy, Join, Cut, Un, Bin, Mux, Reg, Ram, Use}
use Rattle.netlist.specs.declared.net.Flat.{Flat}
use Rattle.netlist.specs.declared.net.Op1.{Op1}
use Rattle.netlist.specs.declared.net.Op1.TheVariants.{Not, RedAnd, RedOr, RedXor}
use Rattle.netlist.specs.declared.net.Op2.{Op2}
use Rattle.netlist.specs.declared.net.Op2.TheVariants.{Add, Sub, Mul, And, Or, Xor, Eq, LtU, LtS, Shl, Shr, Sar}
use Rattle.bit_laws.specs.BitNames.{further, furthers, wire_name}
use Rattle.bit_laws.specs.Bitnet.{Node, clock_of, reset_of}
use Rattle.bit_laws.specs.Bitnet.Node.{latch, table}
use Rattle.bit_laws.specs.Blast.{RamNames, all_zeros, binary_nodes, choices, choices_by, constants, difference_nodes, equal_nodes, fold_end, folded, gate_of, less_nodes, masked, moved_down, moved_up, nodes_of, on_both, on_each, output_names, output_nodes, part_of, product_count, product_names, product_nodes, ram_nodes, ram_shown, ram_words, reduction, register_nodes, reset_nodes, row_nodes, shift_down, shift_nodes, shift_up, shifted_names, shown_names, sign_nodes, signed_nodes, sum_nodes, unary_nodes, word, word_nodes}
use Rattle.bit_laws.specs.Gates.{Gate, digit_of, rows_of}
use Rattle.bit_laws.specs.Gates.Gate.{added, address, alike, always, both, buffer, choice, cleared, differing, either, inverse, less, most, never, odd}
use Rattle.blif_text.specs.Right.{IsRow}
use Rattle.blif_text.specs.Statements.{is_mark}
use Rattle.blif_text.proofs.Bytes.{all_append}
use Rattle.blif_text.proofs.Printing.{word_width}

-- the rows of a gate of so many bits
abbrev RowsOf : ℕ → Gate → Type 0
RowsOf count gate = AllByRecursion (IsRow count) (rows_of gate)

of_never : RowsOf 0 never
of_never = tt

of_constant : (bit : Bool) → RowsOf 0 (if bit then always else never)
of_constant true = ((tt, refl), tt)
of_constant false = tt

of_buffer : RowsOf 1 buffer
of_buffer = (((refl, tt), refl), tt)

of_inverse : RowsOf 1 inverse
of_inverse = (((refl, tt), refl), tt)

of_both : RowsOf 2 both
of_both = (((refl, (refl, tt)), refl), tt)

of_either : RowsOf 2 either
of_either = (((refl, (refl, tt)), refl), (((refl, (refl, tt)), refl), tt))

of_differing : RowsOf 2 differing
of_differing = (((refl, (refl, tt)), refl), (((refl, (refl, tt)), refl), tt))

of_alike : RowsOf 2 alike
of_alike = (((refl, (refl, tt)), refl), (((refl, (refl, tt)), refl), tt))

of_cleared : RowsOf 2 cleared
of_cleared = (((refl, (refl, tt)), refl), tt)

-- either gate of a register with a reset
of_reset : (bit : Bool) → RowsOf 2 (if bit then either else cleared)
of_reset true = of_either
of_reset false = of_cleared

of_odd : RowsOf 3 odd
of_odd = (
  ((refl, (refl, (refl, tt))), refl),
  (((refl, (refl, (refl, tt))), refl), (((refl, (refl, (refl, tt))), refl), (((refl, (refl, (refl, tt))), refl), tt))),
)

of_most : RowsOf 3 most
of_most = (((refl, (refl, (refl, tt))), refl), (((refl, (refl, (refl, tt))), refl), (((refl, (refl, (refl, tt))), refl), tt)))

of_choice : RowsOf 3 choice
of_choice = (((refl, (refl, (refl, tt))), refl), (((refl, (refl, (refl, tt))), refl), tt))

of_less : RowsOf 3 less
of_less = (((refl, (refl, (refl, tt))), refl), (((refl, (refl, (refl, tt))), refl), (((refl, (refl, (refl, tt))), refl), tt)))

of_added : RowsOf 3 added
of_added = (((refl, (refl, (refl, tt))), refl), (((refl, (refl, (refl, tt))), refl), tt))

digits_marks : (bits : List Bool) → AllOf is_mark (map digit_of bits)
digits_marks [] = tt
digits_marks (true ∷ bits) = (refl, digits_marks bits)
digits_marks (false ∷ bits) = (refl, digits_marks bits)

of_address : (bits : List Bool) (count : ℕ) → length bits ≡ count → RowsOf count (address bits)
of_address bits count long = ((digits_marks bits, length-map bits digit_of ∙ long), tt)

length-bits_of : (width n : ℕ) → length (bits_of width n) ≡ width
length-bits_of zero n = refl
length-bits_of (suc width) n = ap suc (length-bits_of width n)

module _ (Q : List ℕ → Type 0) where
  abbrev pub Fit : Node → Type 0
  Fit (table reads drives rows) = AllByRecursion (IsRow (length reads)) rows
  Fit (latch takes drives clock initial) = Q clock

  abbrev Fits : List Node → Type 0
  Fits nodes = AllByRecursion Fit nodes

  joined : (xs ys : List Node) → Fits xs → Fits ys → Fits (xs ++ ys)
  joined xs ys first second = all_append Fit xs ys first second

  constants_fit : (outs : List (List ℕ)) (bits : List Bool) → Fits (constants outs bits)
  constants_fit [] bits = tt
  constants_fit (o ∷ outs) [] = tt
  constants_fit (o ∷ outs) (b ∷ bits) = joined (constants outs bits) (gate_of (if b then always else never) [] o ∷ []) (constants_fit outs bits) (of_constant b, tt)

  each_fit : (gate : Gate) (outs xs : List (List ℕ)) → RowsOf 1 gate → Fits (on_each gate outs xs)
  each_fit gate [] xs rows = tt
  each_fit gate (o ∷ outs) [] rows = tt
  each_fit gate (o ∷ outs) (x ∷ xs) rows = joined (on_each gate outs xs) (gate_of gate (x ∷ []) o ∷ []) (each_fit gate outs xs rows) (rows, tt)

  both_fit : (gate : Gate) (outs xs ys : List (List ℕ)) → RowsOf 2 gate → Fits (on_both gate outs xs ys)
  both_fit gate [] xs ys rows = tt
  both_fit gate (o ∷ outs) [] ys rows = tt
  both_fit gate (o ∷ outs) (x ∷ xs) [] rows = tt
  both_fit gate (o ∷ outs) (x ∷ xs) (y ∷ ys) rows =
      joined (on_both gate outs xs ys) (gate_of gate (x ∷ y ∷ []) o ∷ []) (both_fit gate outs xs ys rows) (rows, tt)

  choices_fit : (c : List ℕ) (outs xs ys : List (List ℕ)) → Fits (choices c outs xs ys)
  choices_fit c [] xs ys = tt
  choices_fit c (o ∷ outs) [] ys = tt
  choices_fit c (o ∷ outs) (x ∷ xs) [] = tt
  choices_fit c (o ∷ outs) (x ∷ xs) (y ∷ ys) =
      joined (choices c outs xs ys) (gate_of choice (c ∷ x ∷ y ∷ []) o ∷ []) (choices_fit c outs xs ys) (of_choice, tt)

  mux_fit : (cs outs xs ys : List (List ℕ)) → Fits (choices_by cs outs xs ys)
  mux_fit [] outs xs ys = tt
  mux_fit (c ∷ cs) outs xs ys = choices_fit c outs xs ys

  folded_fit : (gate : Gate) (k : ℕ) (xs : List (List ℕ)) → RowsOf 2 gate → Fits (folded gate k xs)
  folded_fit gate k [] rows = tt
  folded_fit gate k (x ∷ []) rows = (of_buffer, tt)
  folded_fit gate k (x ∷ y ∷ xs) rows =
      joined (folded gate k (y ∷ xs)) (gate_of gate (further k (length xs) ∷ x ∷ []) (further k (length (y ∷ xs))) ∷ []) (folded_fit gate k (y ∷ xs) rows) (rows, tt)

  reduction_fit : (gate : Gate) (k : ℕ) (outs xs : List (List ℕ)) → RowsOf 2 gate → Fits (reduction gate k outs xs)
  reduction_fit gate k outs xs rows =
      joined (folded gate k xs) (on_each buffer outs (fold_end k xs ∷ [])) (folded_fit gate k xs rows) (each_fit buffer outs (fold_end k xs ∷ []) of_buffer)

  sum_fit : (k : ℕ) (outs xs ys : List (List ℕ)) → Fits (sum_nodes k outs xs ys)
  sum_fit k [] xs ys = tt
  sum_fit k (o ∷ outs) [] ys = tt
  sum_fit k (o ∷ outs) (x ∷ xs) [] = tt
  sum_fit k (o ∷ outs) (x ∷ xs) (y ∷ ys) = joined (sum_nodes k outs xs ys) _ (sum_fit k outs xs ys) (of_odd, (of_most, tt))

  difference_fit : (k : ℕ) (outs xs ys : List (List ℕ)) → Fits (difference_nodes k outs xs ys)
  difference_fit k [] xs ys = tt
  difference_fit k (o ∷ outs) [] ys = tt
  difference_fit k (o ∷ outs) (x ∷ xs) [] = tt
  difference_fit k (o ∷ outs) (x ∷ xs) (y ∷ ys) =
      joined (difference_nodes k outs xs ys) _ (difference_fit k outs xs ys) (of_inverse, (of_odd, (of_most, tt)))

  equal_fit : (k : ℕ) (xs ys : List (List ℕ)) → Fits (equal_nodes k xs ys)
  equal_fit k [] ys = tt
  equal_fit k (x ∷ xs) [] = tt
  equal_fit k (x ∷ xs) (y ∷ ys) = joined (equal_nodes k xs ys) _ (equal_fit k xs ys) (of_alike, (of_both, tt))

  less_fit : (k : ℕ) (xs ys : List (List ℕ)) → Fits (less_nodes k xs ys)
  less_fit k [] ys = tt
  less_fit k (x ∷ xs) [] = tt
  less_fit k (x ∷ xs) (y ∷ ys) = joined (less_nodes k xs ys) _ (less_fit k xs ys) (of_less, tt)

  signed_fit : (k : ℕ) (xs ys : List (List ℕ)) → Fits (signed_nodes k xs ys)
  signed_fit k [] ys = tt
  signed_fit k (x ∷ xs) [] = tt
  signed_fit k (x ∷ xs) (y ∷ ys) = joined (less_nodes k xs ys) _ (less_fit k xs ys) (of_less, tt)

  row_fit : (k c : ℕ) (ps xs : List (List ℕ)) (y : List ℕ) → Fits (row_nodes k c ps xs y)
  row_fit k c [] xs y = tt
  row_fit k c (p ∷ ps) [] y = tt
  row_fit k c (p ∷ ps) (x ∷ xs) y = joined (row_nodes k c ps xs y) _ (row_fit k c ps xs y) (of_both, (of_odd, (of_most, tt)))

  masked_fit : (outs xs : List (List ℕ)) (y : List ℕ) → Fits (masked outs xs y)
  masked_fit [] xs y = tt
  masked_fit (o ∷ outs) [] y = tt
  masked_fit (o ∷ outs) (x ∷ xs) y = joined (masked outs xs y) _ (masked_fit outs xs y) (of_both, tt)

  product_fit : (k : ℕ) (xs ys : List (List ℕ)) → Fits (product_nodes k xs ys)
  product_fit k xs [] = tt
  product_fit k xs (y ∷ []) = masked_fit (furthers k 0 (length xs)) xs y
  product_fit k xs (y ∷ z ∷ ys) =
      joined (product_nodes k xs (z ∷ ys)) _ (product_fit k xs (z ∷ ys))
      (of_never, row_fit k (product_count xs (z ∷ ys)) (product_names k xs (z ∷ ys)) (drop (length (z ∷ ys)) xs) y)

  shift_fit : (moved : ℕ → List (List ℕ) → List (List ℕ)) (k : ℕ) (xs ss : List (List ℕ)) → Fits (shift_nodes moved k xs ss)
  shift_fit moved k xs [] = tt
  shift_fit moved k xs (s ∷ ss) =
      joined (shift_nodes moved k xs ss) _ (shift_fit moved k xs ss)
      (choices_fit s (shifted_names k xs (s ∷ ss)) (moved (2 ^ length ss) (shifted_names k xs ss)) (shifted_names k xs ss))

  sign_fit : (k : ℕ) (xs : List (List ℕ)) → Fits (sign_nodes k xs)
  sign_fit k [] = tt
  sign_fit k (x ∷ xs) = (of_buffer, tt)

  up_fit : (k : ℕ) (outs xs ss : List (List ℕ)) → Fits (shift_up k outs xs ss)
  up_fit k outs xs ss = (
    of_never,
    joined (shift_nodes (λ places. moved_up places (further k 0)) k xs ss) _ (shift_fit (λ places. moved_up places (further k 0)) k xs ss)
        (each_fit buffer outs (shifted_names k xs ss) of_buffer),
  )

  down_fit : (k : ℕ) (outs xs ss : List (List ℕ)) → Fits (shift_down k outs xs ss)
  down_fit k outs xs ss =
      joined (shift_nodes (λ places. moved_down places (further k 0)) k xs ss) _ (shift_fit (λ places. moved_down places (further k 0)) k xs ss)
      (each_fit buffer outs (shifted_names k xs ss) of_buffer)

  unary_fit : (op : Op1) (k : ℕ) (outs xs : List (List ℕ)) → Fits (unary_nodes op k outs xs)
  unary_fit Not k outs xs = each_fit inverse outs xs of_inverse
  unary_fit RedAnd k outs xs = reduction_fit both k outs xs of_both
  unary_fit RedOr k outs xs = reduction_fit either k outs xs of_either
  unary_fit RedXor k outs xs = reduction_fit differing k outs xs of_differing

  binary_fit : (op : Op2) (k : ℕ) (outs xs ys : List (List ℕ)) → Fits (binary_nodes op k outs xs ys)
  binary_fit Add k outs xs ys = (of_never, sum_fit k outs xs ys)
  binary_fit Sub k outs xs ys = (of_constant true, difference_fit k outs xs ys)
  binary_fit Mul k outs xs ys = joined (product_nodes k xs ys) _ (product_fit k xs ys) (each_fit buffer outs (product_names k xs ys) of_buffer)
  binary_fit And k outs xs ys = both_fit both outs xs ys of_both
  binary_fit Or k outs xs ys = both_fit either outs xs ys of_either
  binary_fit Xor k outs xs ys = both_fit differing outs xs ys of_differing
  binary_fit Eq k outs xs ys =
      (of_constant true, joined (equal_nodes k xs ys) _ (equal_fit k xs ys) (each_fit buffer outs (further k (2 * length xs) ∷ []) of_buffer))
  binary_fit LtU k outs xs ys = (of_never, joined (less_nodes k xs ys) _ (less_fit k xs ys) (each_fit buffer outs (further k (length xs) ∷ []) of_buffer))
  binary_fit LtS k outs xs ys =
      (of_never, joined (signed_nodes k xs ys) _ (signed_fit k xs ys) (each_fit buffer outs (further k (length xs) ∷ []) of_buffer))
  binary_fit Shl k outs xs ys = up_fit k outs xs ys
  binary_fit Shr k outs xs ys = (of_never, down_fit k outs xs ys)
  binary_fit Sar k outs xs ys = joined (sign_nodes k xs) _ (sign_fit k xs) (down_fit k outs xs ys)

  register_fit : (clock : List ℕ) (outs xs : List (List ℕ)) (bits : List Bool) → Q clock → Fits (register_nodes clock outs xs bits)
  register_fit clock [] xs bits q = tt
  register_fit clock (o ∷ outs) [] bits q = tt
  register_fit clock (o ∷ outs) (x ∷ xs) [] q = tt
  register_fit clock (o ∷ outs) (x ∷ xs) (b ∷ bits) q =
      joined (register_nodes clock outs xs bits) (latch x o clock b ∷ []) (register_fit clock outs xs bits q) (q, tt)

  reset_fit : (k : ℕ) (clock reset : List ℕ) (outs xs : List (List ℕ)) (bits : List Bool) → Q clock → Fits (reset_nodes k clock reset outs xs bits)
  reset_fit k clock reset [] xs bits q = tt
  reset_fit k clock reset (o ∷ outs) [] bits q = tt
  reset_fit k clock reset (o ∷ outs) (x ∷ xs) [] q = tt
  reset_fit k clock reset (o ∷ outs) (x ∷ xs) (b ∷ bits) q =
      joined (reset_nodes k clock reset outs xs bits)
      (gate_of (if b then either else cleared) (x ∷ reset ∷ []) (further k (length xs)) ∷ latch (further k (length xs)) o clock b ∷ [])
      (reset_fit k clock reset outs xs bits q) (of_reset b, (q, tt))

  stored_fit : (k x : ℕ) (clock : List ℕ) (cs values : List (List ℕ)) (bits : List Bool) → Q clock → Fits (word_nodes k x clock cs values bits)
  stored_fit k x clock [] values bits q = tt
  stored_fit k x clock (c ∷ cs) [] bits q = tt
  stored_fit k x clock (c ∷ cs) (v ∷ values) [] q = tt
  stored_fit k x clock (c ∷ cs) (v ∷ values) (b ∷ bits) q =
      joined (word_nodes k x clock cs values bits) _ (stored_fit k x clock cs values bits q) (q, (of_choice, (of_added, tt)))

  words_fit : (k width x at : ℕ) (clock : List ℕ) (names : RamNames) (cs : List (List ℕ)) (words : List (List Bool)) → Q clock → length names.enable ≡ 1
      → Fits (ram_words k width x at clock names cs words)
  words_fit k width x at clock names cs [] q one = tt
  words_fit k width x at clock names cs (bits ∷ words) q one = (
    of_address (true ∷ bits_of (length names.place) at) (length (names.enable ++ names.place)) written,
    (
      of_address (bits_of (length names.read) at) (length names.read) (length-bits_of (length names.read) at),
      joined (word_nodes k x clock cs names.value bits) _ (stored_fit k x clock cs names.value bits q)
          (words_fit k width (x + (2 + 3 * width)) (at + 1) clock names (shown_names k x width) words q one),
    ),
  )
    where
      written : length (true ∷ bits_of (length names.place) at) ≡ length (names.enable ++ names.place)
      written = let own = length-bits_of (length names.place) at in let sum = length-append names.enable names.place in omega (arith, own, sum, one)

  ram_fit : (k width : ℕ) (clock : List ℕ) (outs : List (List ℕ)) (names : RamNames) (words : List (List Bool)) → Q clock → length names.enable ≡ 1
      → Fits (ram_nodes k width clock outs names words)
  ram_fit k width clock outs names words q one =
      joined (constants (furthers k 0 width) (all_zeros width)) _ (constants_fit (furthers k 0 width) (all_zeros width))
      (joined (ram_words k width width 0 clock names (furthers k 0 width) words) _ (words_fit k width width 0 clock names (furthers k 0 width) words q one)
      (register_fit clock outs (ram_shown k width width (furthers k 0 width) words) (all_zeros width) q))

  module _ (flat : Flat) (clocks : (domain : DomId) → domain.number < length flat.ports.domains → Q (clock_of flat.ports domain)) where
    cell_fit : (cell : Cell) → FitsCell (length flat.ports.domains) flat.widths cell → Fits (nodes_of flat cell)
    cell_fit (Const w bits) fits = constants_fit (word flat w.number) bits
    cell_fit (Copy w a) fits = each_fit buffer (word flat w.number) (word flat a.number) of_buffer
    cell_fit (Join w parts) fits = each_fit buffer (word flat w.number) (flat_map (λ (p : WireId). word flat p.number) parts) of_buffer
    cell_fit (Cut w a high low) fits = each_fit buffer (word flat w.number) (part_of high low (word flat a.number)) of_buffer
    cell_fit (Un w op a) fits = unary_fit op w.number (word flat w.number) (word flat a.number)
    cell_fit (Bin w op a b) fits = binary_fit op w.number (word flat w.number) (word flat a.number) (word flat b.number)
    cell_fit (Mux w c a b) fits = mux_fit (word flat c.number) (word flat w.number) (word flat a.number) (word flat b.number)
    cell_fit (Reg w domain initial a) fits = at (has_reset flat.ports domain)
      where
        at : (has : Bool) → Fits (if has then reset_nodes w.number (clock_of flat.ports domain) (reset_of flat.ports domain) (word flat w.number) (word flat a.number) initial
            else register_nodes (clock_of flat.ports domain) (word flat w.number) (word flat a.number) initial)
        at true = reset_fit w.number (clock_of flat.ports domain) (reset_of flat.ports domain) (word flat w.number) (word flat a.number) initial (clocks domain fits.0)
        at false = register_fit (clock_of flat.ports domain) (word flat w.number) (word flat a.number) initial (clocks domain fits.0)
    cell_fit (Ram w domain words inputs) fits =
        ram_fit w.number (slice_index flat.widths w.number) (clock_of flat.ports domain) (word flat w.number) (record {
          read = word flat inputs.read.number;
          enable = word flat inputs.enable.number;
          place = word flat inputs.place.number;
          value = word flat inputs.value.number;
        }) words (clocks domain fits.0)
        (word_width (wire_name flat.ports inputs.enable.number) (slice_index flat.widths inputs.enable.number)
        ∙ get_or_from_slice_get flat.widths inputs.enable.number 1 0 fits.1.3)
    cell_fit (Use m reads drives) fits = tt

    cells_fit : (cells : List Cell) → AllByRecursion (FitsCell (length flat.ports.domains) flat.widths) cells → Fits (flat_map (nodes_of flat) cells)
    cells_fit [] fits = tt
    cells_fit (cell ∷ cells) fits = joined (nodes_of flat cell) (flat_map (nodes_of flat) cells) (cell_fit cell fits.0) (cells_fit cells fits.1)

    outputs_fit : (ports : List Port) (wires : List WireId) → Fits (output_nodes flat ports wires)
    outputs_fit [] wires = tt
    outputs_fit (port ∷ ports) [] = tt
    outputs_fit (port ∷ ports) (w ∷ wires) =
        joined (on_each buffer (output_names flat.ports port) (word flat w.number)) (output_nodes flat ports wires)
        (each_fit buffer (output_names flat.ports port) (word flat w.number) of_buffer) (outputs_fit ports wires)

    pub all_fit : AllByRecursion (FitsCell (length flat.ports.domains) flat.widths) flat.cells
        → Fits (flat_map (nodes_of flat) flat.cells ++ output_nodes flat flat.ports.outputs flat.outputs)
    all_fit fits = joined (flat_map (nodes_of flat) flat.cells) (output_nodes flat flat.ports.outputs flat.outputs) (cells_fit flat.cells fits) (outputs_fit flat.ports.outputs flat.outputs)
