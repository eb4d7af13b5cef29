-- How many nodes cells and outputs become.
use Rattle.std.proofs.Common.{◌≡◌, ℕ, suc, ◌+◌, ◌-◌, ◌*◌, ◌<◌, ◌≤◌, Bool, true, false, List, [], ◌∷◌, ◌++◌, length, map, Some, slice_get, refl, sym, ap, subst, ◌∙◌, arith, if◌then◌else◌}
use Rattle.std.specs.List.{AllByRecursion, flat_map}
use Rattle.std.specs.Prelude.{slice_index, sum_by}
use Rattle.std.proofs.lemmas.List.{length-append, length-drop}
use Rattle.std.proofs.lemmas.List.Sums.{sum_by-cons}
use Rattle.std.proofs.lemmas.Option.{get_or_from_slice_get, slice_get_within}
use Rattle.chw_base.specs.declared.index.WireId.{WireId}
use Rattle.chw_clock.specs.Histories.{has_reset}
use Rattle.chw_clock.specs.declared.event.Port.{Port}
use Rattle.netlist.specs.Sound.{Fits1, Fits2, FitsCell, Sound, width_of_all}
use Rattle.netlist.specs.declared.net.Cell.{Cell}
use Rattle.netlist.specs.declared.net.Cell.TheVariants.{Const, Copy, Join, Cut, Un, Bin, Mux, Reg, Ram, Use}
use Rattle.netlist.specs.declared.net.Flat.{Flat}
use Rattle.netlist.specs.declared.net.Op1.{Op1}
use Rattle.netlist.specs.declared.net.Op1.TheVariants.{Not, RedAnd, RedOr, RedXor}
use Rattle.netlist.specs.declared.net.Op2.{Op2}
use Rattle.netlist.specs.declared.net.Op2.TheVariants.{Add, Sub, Mul, And, Or, Xor, Eq, LtU, LtS, Shl, Shr, Sar}
use Rattle.verilog_text.specs.Names.{output_name}
use Rattle.bit_laws.specs.BitNames.{further, wire_name}
use Rattle.bit_laws.specs.Bitnet.{Node, clock_of, reset_of}
use Rattle.bit_laws.specs.Blast.{binary_nodes, blast, equal_nodes, fold_end, folded, less_nodes, moved_down, moved_up, nodes_of, on_each, output_names, output_nodes, part_of, product_count, product_names, product_nodes, reduction, register_nodes, reset_nodes, shift_nodes, shifted_names, sign_nodes, signed_nodes, unary_nodes, word}
use Rattle.bit_laws.specs.Gates.{Gate}
use Rattle.bit_laws.specs.Gates.Gate.{both, buffer, differing, either, inverse}
use Rattle.bit_blast.specs.Counting.{binary_count, cell_count, rows_count, unary_count, width_in}
use Rattle.bit_blast.proofs.Counted.{length-choices_by, length-constants, length-difference_nodes, length-equal_nodes, length-folded, length-less_nodes, length-moved_down, length-moved_up, length-on_both, length-on_each, length-part_of, length-product_names, length-product_nodes, length-ram_nodes, length-register_nodes, length-reset_nodes, length-shift_nodes, length-shifted_names, length-signed_nodes, length-sum_nodes, length-word_names}
use Rattle.bit_blast.proofs.Joins.{joined_length}
use Rattle.bit_blast.proofs.Widths.{width_known}

rows_counted : (xs ys : List (List ℕ)) → product_count xs ys ≡ rows_count (length xs) (length ys)
rows_counted xs [] = refl
rows_counted xs (y ∷ []) = refl
rows_counted xs (y ∷ z ∷ ys) = omega (arith, rows_counted xs (z ∷ ys), length-drop (length (z ∷ ys)) xs)

-- a register, by whether its domain has a reset
register_length : (t : Bool) (k : ℕ) (clock reset : List ℕ) (outs xs : List (List ℕ)) (bits : List Bool) → length outs ≡ length xs
    → length outs ≡ length bits
    → length (if t then reset_nodes k clock reset outs xs bits else register_nodes clock outs xs bits) ≡ (if t then 2 * length outs else length outs)
register_length true k clock reset outs xs bits e f = length-reset_nodes k clock reset outs xs bits e f
register_length false k clock reset outs xs bits e f = length-register_nodes clock outs xs bits e f

buffers_behind : (ns : List Node) (outs xs : List (List ℕ)) (k : ℕ) → length outs ≡ length xs → length ns ≡ k
    → length (ns ++ on_each buffer outs xs) ≡ k + length outs
buffers_behind ns outs xs k e f = omega (arith, length-append ns (on_each buffer outs xs), length-on_each buffer outs xs e)

-- a reduction, which needs a bit
reduction_length : (gate : Gate) (k : ℕ) (outs xs : List (List ℕ)) → length outs ≡ 1 → length (reduction gate k outs xs) ≡ length xs + 1
reduction_length gate k outs xs one =
    buffers_behind (folded gate k xs) outs (fold_end k xs ∷ []) (length xs) one (length-folded gate k xs) ∙ ap (λ (n : ℕ). length xs + n) one

sign_length : (k : ℕ) (xs : List (List ℕ)) → 1 ≤ length xs → length (sign_nodes k xs) ≡ 1
sign_length k [] some = absurd (omega arith)
sign_length k (x ∷ xs) some = refl

-- the stages of a shift, and the buffers behind them
stages_length : (moved : ℕ → List (List ℕ) → List (List ℕ)) (k : ℕ) (outs xs ss : List (List ℕ))
    → ((places : ℕ) (ys : List (List ℕ)) → length (moved places ys) ≡ length ys) → length outs ≡ length xs
    → length (shift_nodes moved k xs ss ++ on_each buffer outs (shifted_names k xs ss)) ≡ length ss * length xs + length outs
stages_length moved k outs xs ss keeps e =
    buffers_behind (shift_nodes moved k xs ss) outs (shifted_names k xs ss) (length ss * length xs) (e ∙ sym (length-shifted_names k xs ss))
    (length-shift_nodes moved k xs ss keeps)

-- numbers of nodes by those of their parts
after_one : (n p q : ℕ) → n ≡ p + q → suc n ≡ 1 + p + q
after_one n p q e = omega arith

one_more : (n p q : ℕ) → n ≡ p + q → 1 + n ≡ 1 + p + q
one_more n p q e = omega arith

module _ (flat : Flat) (sound : Sound flat) where
  long : (w : ℕ) → length (word flat w) ≡ width_in flat w
  long w = length-word_names (wire_name flat.ports w) (slice_index flat.widths w)

  wide : (w n : ℕ) → slice_get flat.widths w ≡ Some n → length (word flat w) ≡ n
  wide w n e = long w ∙ get_or_from_slice_get flat.widths w n 0 e

  alike : (a b n : ℕ) → slice_get flat.widths a ≡ Some n → slice_get flat.widths b ≡ Some n → length (word flat a) ≡ length (word flat b)
  alike a b n e f = wide a n e ∙ sym (wide b n f)

  some : (a n : ℕ) → slice_get flat.widths a ≡ Some n → 1 ≤ length (word flat a)
  some a n e = omega (arith, long a, (width_known flat a sound (slice_get_within flat.widths a n e)).0)

  unary_length : (op : Op1) (w a : WireId) → Fits1 flat.widths op w a
      → length (unary_nodes op w.number (word flat w.number) (word flat a.number)) ≡ unary_count op (width_in flat a.number)
  unary_length Not w a f =
      length-on_each inverse (word flat w.number) (word flat a.number) (alike w.number a.number f.0 f.1 f.2)
      ∙ alike w.number a.number f.0 f.1 f.2 ∙ long a.number
  unary_length RedAnd w a f =
      reduction_length both w.number (word flat w.number) (word flat a.number) (wide w.number 1 f.0) ∙ ap (λ (n : ℕ). n + 1) (long a.number)
  unary_length RedOr w a f =
      reduction_length either w.number (word flat w.number) (word flat a.number) (wide w.number 1 f.0) ∙ ap (λ (n : ℕ). n + 1) (long a.number)
  unary_length RedXor w a f =
      reduction_length differing w.number (word flat w.number) (word flat a.number) (wide w.number 1 f.0) ∙ ap (λ (n : ℕ). n + 1) (long a.number)

  shifted : (w a b : WireId) (n : ℕ) → slice_get flat.widths w.number ≡ Some n → slice_get flat.widths a.number ≡ Some n
      → 1 + length (word flat b.number) * length (word flat a.number) + length (word flat w.number)
      ≡ 1 + width_in flat b.number * width_in flat a.number + width_in flat a.number
  shifted w a b n e f =
      ap (λ (i : ℕ). 1 + i * length (word flat a.number) + length (word flat w.number)) (long b.number)
      ∙ ap (λ (i : ℕ). 1 + width_in flat b.number * i + length (word flat w.number)) (long a.number)
      ∙ ap (λ (i : ℕ). 1 + width_in flat b.number * width_in flat a.number + i) (alike w.number a.number n e f ∙ long a.number)

  binary_length : (op : Op2) (w a b : WireId) → Fits2 flat.widths op w a b
      → length (binary_nodes op w.number (word flat w.number) (word flat a.number) (word flat b.number))
      ≡ binary_count op (width_in flat a.number) (width_in flat b.number)
  binary_length Add w a b f =
      let own = alike w.number a.number f.0 f.2 f.3 in
      omega (arith, length-sum_nodes w.number (word flat w.number) (word flat a.number) (word flat b.number) own (alike w.number b.number f.0 f.2 f.4), own, long a.number)
  binary_length Sub w a b f =
      let own = alike w.number a.number f.0 f.2 f.3 in
      omega (arith, length-difference_nodes w.number (word flat w.number) (word flat a.number) (word flat b.number) own (alike w.number b.number f.0 f.2 f.4), own, long a.number)
  binary_length Mul w a b f =
      let n = width_in flat a.number in
      let own = alike w.number a.number f.0 f.2 f.3 in
      let other : length (word flat b.number) ≡ n = alike b.number a.number f.0 f.4 f.3 ∙ long a.number in
      let some_bit = some b.number f.0 f.4 in
      buffers_behind (product_nodes w.number (word flat a.number) (word flat b.number)) (word flat w.number) (product_names w.number (word flat a.number) (word flat b.number)) (product_count (word flat a.number) (word flat b.number))
      (own ∙ sym (length-product_names w.number (word flat a.number) (word flat b.number) some_bit)) (length-product_nodes w.number (word flat a.number) (word flat b.number) some_bit)
      ∙ ap (λ (i : ℕ). i + length (word flat w.number)) (rows_counted (word flat a.number) (word flat b.number) ∙ ap (λ (i : ℕ). rows_count i (length (word flat b.number))) (long a.number) ∙ ap (λ (i : ℕ). rows_count n i) other)
      ∙ ap (λ (i : ℕ). rows_count n n + i) (own ∙ long a.number)
  binary_length And w a b f =
      let own = alike w.number a.number f.0 f.1 f.2 in
      length-on_both both (word flat w.number) (word flat a.number) (word flat b.number) own (alike w.number b.number f.0 f.1 f.3) ∙ own ∙ long a.number
  binary_length Or w a b f =
      let own = alike w.number a.number f.0 f.1 f.2 in
      length-on_both either (word flat w.number) (word flat a.number) (word flat b.number) own (alike w.number b.number f.0 f.1 f.3) ∙ own ∙ long a.number
  binary_length Xor w a b f =
      let own = alike w.number a.number f.0 f.1 f.2 in
      length-on_both differing (word flat w.number) (word flat a.number) (word flat b.number) own (alike w.number b.number f.0 f.1 f.3) ∙ own ∙ long a.number
  binary_length Eq w a b f =
      let one = wide w.number 1 f.0 in
      let d = buffers_behind (equal_nodes w.number (word flat a.number) (word flat b.number)) (word flat w.number) (further w.number (2 * length (word flat a.number)) ∷ []) (2 * length (word flat a.number)) one
      (length-equal_nodes w.number (word flat a.number) (word flat b.number) (alike a.number b.number f.1.0 f.1.1 f.1.2)) in
      omega (arith, d, one, long a.number)
  binary_length LtU w a b f =
      let one = wide w.number 1 f.0 in
      let d = buffers_behind (less_nodes w.number (word flat a.number) (word flat b.number)) (word flat w.number) (further w.number (length (word flat a.number)) ∷ []) (length (word flat a.number)) one
      (length-less_nodes w.number (word flat a.number) (word flat b.number) (alike a.number b.number f.1.0 f.1.1 f.1.2)) in
      omega (arith, d, one, long a.number)
  binary_length LtS w a b f =
      let one = wide w.number 1 f.0 in
      let d = buffers_behind (signed_nodes w.number (word flat a.number) (word flat b.number)) (word flat w.number) (further w.number (length (word flat a.number)) ∷ []) (length (word flat a.number)) one
      (length-signed_nodes w.number (word flat a.number) (word flat b.number) (alike a.number b.number f.1.0 f.1.1 f.1.2)) in
      omega (arith, d, one, long a.number)
  binary_length Shl w a b f =
      let moved = λ (places : ℕ) (names : List (List ℕ)). moved_up places (further w.number 0) names in
      after_one (length (shift_nodes moved w.number (word flat a.number) (word flat b.number) ++ on_each buffer (word flat w.number) (shifted_names w.number (word flat a.number) (word flat b.number)))) (length (word flat b.number) * length (word flat a.number)) (length (word flat w.number))
      (stages_length moved w.number (word flat w.number) (word flat a.number) (word flat b.number) (λ places names. length-moved_up (further w.number 0) places names) (alike w.number a.number f.1.0 f.1.1 f.1.2))
      ∙ shifted w a b f.1.0 f.1.1 f.1.2
  binary_length Shr w a b f =
      let moved = λ (places : ℕ) (names : List (List ℕ)). moved_down places (further w.number 0) names in
      after_one (length (shift_nodes moved w.number (word flat a.number) (word flat b.number) ++ on_each buffer (word flat w.number) (shifted_names w.number (word flat a.number) (word flat b.number)))) (length (word flat b.number) * length (word flat a.number)) (length (word flat w.number))
      (stages_length moved w.number (word flat w.number) (word flat a.number) (word flat b.number) (λ places names. length-moved_down (further w.number 0) places names) (alike w.number a.number f.1.0 f.1.1 f.1.2))
      ∙ shifted w a b f.1.0 f.1.1 f.1.2
  binary_length Sar w a b f =
      let moved = λ (places : ℕ) (names : List (List ℕ)). moved_down places (further w.number 0) names in
      let rest = shift_nodes moved w.number (word flat a.number) (word flat b.number) ++ on_each buffer (word flat w.number) (shifted_names w.number (word flat a.number) (word flat b.number)) in
      length-append (sign_nodes w.number (word flat a.number)) rest
      ∙ ap (λ (i : ℕ). i + length rest) (sign_length w.number (word flat a.number) (some a.number f.1.0 f.1.2))
      ∙ one_more (length rest) (length (word flat b.number) * length (word flat a.number)) (length (word flat w.number))
      (stages_length moved w.number (word flat w.number) (word flat a.number) (word flat b.number) (λ places names. length-moved_down (further w.number 0) places names) (alike w.number a.number f.1.0 f.1.1 f.1.2))
      ∙ shifted w a b f.1.0 f.1.1 f.1.2

  pub cell_length : (cell : Cell) → FitsCell (length flat.ports.domains) flat.widths cell → length (nodes_of flat cell) ≡ cell_count flat cell
  cell_length (Const w bits) f = length-constants (word flat w.number) bits (wide w.number (length bits) f) ∙ long w.number
  cell_length (Copy w a) f = length-on_each buffer (word flat w.number) (word flat a.number) (alike w.number a.number f.0 f.1 f.2) ∙ long w.number
  cell_length (Join w parts) f =
      length-on_each buffer (word flat w.number) (flat_map (λ (p : WireId). word flat p.number) parts)
      (wide w.number (width_of_all flat.widths parts) f.1 ∙ sym (joined_length flat parts)) ∙ long w.number
  cell_length (Cut w a high low) f =
      let within : high < length (word flat a.number) = omega (arith, f.2.1, wide a.number f.2.0 f.2.2) in
      let part = length-part_of high low (word flat a.number) f.0 within in
      let own = wide w.number (high - low + 1) f.1 in
      let order = f.0 in
      length-on_each buffer (word flat w.number) (part_of high low (word flat a.number)) (omega (arith, part, own, order)) ∙ long w.number
  cell_length (Un w op a) f = unary_length op w a f
  cell_length (Bin w op a b) f = binary_length op w a b f
  cell_length (Mux w c a b) f =
      length-choices_by (word flat c.number) (word flat w.number) (word flat a.number) (word flat b.number) (wide c.number 1 f.0) (alike w.number a.number f.1.0 f.1.1 f.1.2)
      (alike w.number b.number f.1.0 f.1.1 f.1.3) ∙ long w.number
  cell_length (Reg w domain initial a) f =
      register_length (has_reset flat.ports domain) w.number (clock_of flat.ports domain) (reset_of flat.ports domain) (word flat w.number) (word flat a.number) initial
      (alike w.number a.number (length initial) f.1 f.2) (wide w.number (length initial) f.1)
      ∙ ap (λ (n : ℕ). if has_reset flat.ports domain then 2 * n else n) (long w.number)
  cell_length (Ram w domain words inputs) f =
      let g = f.1 in
      let own = get_or_from_slice_get flat.widths w.number g.5.0 0 g.5.1 in
      length-ram_nodes w.number (width_in flat w.number) (clock_of flat.ports domain) (word flat w.number)
      (record {
        read = word flat inputs.read.number;
        enable = word flat inputs.enable.number;
        place = word flat inputs.place.number;
        value = word flat inputs.value.number;
      }) words (long w.number) (alike inputs.value.number w.number g.5.0 g.5.2 g.5.1 ∙ long w.number)
      (subst (λ (i : ℕ). AllByRecursion (λ (bits : List Bool). length bits ≡ i) words) (sym own) g.5.3)
  cell_length (Use m reads drives) f = absurd f

  pub cells_length : (cells : List Cell) → AllByRecursion (FitsCell (length flat.ports.domains) flat.widths) cells
      → length (flat_map (nodes_of flat) cells) ≡ sum_by (cell_count flat) cells
  cells_length [] all = refl
  cells_length (cell ∷ cells) all =
      length-append (nodes_of flat cell) (flat_map (nodes_of flat) cells)
      ∙ ap (λ (n : ℕ). n + length (flat_map (nodes_of flat) cells)) (cell_length cell all.0)
      ∙ ap (λ (n : ℕ). cell_count flat cell + n) (cells_length cells all.1)
      ∙ sym (sum_by-cons (cell_count flat) cell cells)

  pub outputs_length : (ports : List Port) (wires : List WireId)
      → map (λ (w : WireId). slice_get flat.widths w.number) wires ≡ map (λ (port : Port). Some port.width) ports
      → (length (output_nodes flat ports wires) ≡ sum_by (λ (port : Port). port.width) ports)
      × (length wires ≤ sum_by (λ (port : Port). port.width) ports)
  outputs_length [] [] e = (refl, omega arith)
  outputs_length [] (w ∷ wires) e = absurd (cc)
  outputs_length (p ∷ ports) [] e = absurd (cc)
  outputs_length (p ∷ ports) (w ∷ wires) e =
      let first : slice_get flat.widths w.number ≡ Some p.width = cc in
      let others : map (λ (v : WireId). slice_get flat.widths v.number) wires ≡ map (λ (port : Port). Some port.width) ports = cc in
      let own = on_each buffer (output_names flat.ports p) (word flat w.number) in
      let this : length own ≡ p.width =
      length-on_each buffer (output_names flat.ports p) (word flat w.number)
      (length-word_names (output_name flat.ports.domains p) p.width ∙ sym (wide w.number p.width first))
      ∙ length-word_names (output_name flat.ports.domains p) p.width in
      let rest = outputs_length ports wires others in
      let all = sum_by-cons (λ (port : Port). port.width) p ports in
      let both = length-append own (output_nodes flat ports wires) in
      let more : 1 ≤ p.width = omega (arith, some w.number p.width first, wide w.number p.width first) in
      (omega (arith, this, rest.0, all, both), omega (arith, rest.1, all, more))

  -- the nodes of the net
  pub nodes_length : length (blast flat).nodes ≡ sum_by (cell_count flat) flat.cells + sum_by (λ (port : Port). port.width) flat.ports.outputs
  nodes_length =
      length-append (flat_map (nodes_of flat) flat.cells) (output_nodes flat flat.ports.outputs flat.outputs)
      ∙ ap (λ (n : ℕ). n + length (output_nodes flat flat.ports.outputs flat.outputs)) (cells_length flat.cells sound.cells)
      ∙ ap (λ (n : ℕ). sum_by (cell_count flat) flat.cells + n) (outputs_length flat.ports.outputs flat.outputs sound.outputs).0

  pub outputs_few : length flat.outputs ≤ length (blast flat).nodes
  outputs_few = omega (arith, nodes_length, (outputs_length flat.ports.outputs flat.outputs sound.outputs).1)
