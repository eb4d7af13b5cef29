-- The nodes of each cell drive names in order.
use Rattle.std.proofs.Common.{◌≡◌, ℕ, suc, ◌+◌, ◌-◌, ◌*◌, ◌<◌, ◌≤◌, min, Bool, true, false, List, [], ◌∷◌, ◌++◌, length, take, drop, replicate, Some, slice_get, refl, sym, subst, ◌∙◌, arith, if◌then◌else◌, inl}
use Rattle.std.specs.List.{AllByRecursion}
use Rattle.std.specs.Prelude.{flat_map, slice_index}
use Rattle.std.proofs.lemmas.List.{length-append, length-drop, length-replicate, length-take}
use Rattle.std.proofs.lemmas.Option.{get_or_from_slice_get, same_Some, slice_get_within}
use Rattle.chw_base.specs.declared.index.WireId.{WireId}
use Rattle.chw_clock.specs.Histories.{has_reset}
use Rattle.netlist.specs.Feeds.{target}
use Rattle.netlist.specs.NetValue.{HasCell}
use Rattle.netlist.specs.Sound.{FitsCell, Sound, width_of_all}
use Rattle.netlist.specs.declared.net.Cell.{Cell}
use Rattle.netlist.specs.declared.net.Cell.TheVariants.{Const, Copy, Join, Cut, Un, Bin, Mux, Reg, Ram, Use}
use Rattle.netlist.specs.declared.net.Flat.{Flat}
use Rattle.netlist.specs.declared.net.Op1.{Op1}
use Rattle.netlist.specs.declared.net.Op1.TheVariants.{Not, RedAnd, RedOr, RedXor}
use Rattle.netlist.specs.declared.net.Op2.{Op2}
use Rattle.netlist.specs.declared.net.Op2.TheVariants.{Add, Sub, Mul, And, Or, Xor, Eq, LtU, LtS, Shl, Shr, Sar}
use Rattle.netlist.proofs.Lengths.{fits_cell}
use Rattle.bit_laws.specs.BitNames.{further, furthers, wire_name, word_names}
use Rattle.bit_laws.specs.Bitnet.{Node, clock_of, reset_of}
use Rattle.bit_laws.specs.Blast.{RamNames, all_zeros, binary_nodes, choices_by, constants, equal_nodes, fold_end, folded, less_nodes, moved_down, moved_up, on_each, part_of, product_count, product_names, product_nodes, ram_nodes, ram_shown, ram_words, reduction, register_nodes, reset_nodes, shift_nodes, shifted_names, signed_nodes, word}
use Rattle.bit_laws.specs.Driven.{CellDrives}
use Rattle.bit_laws.specs.Gates.{Gate}
use Rattle.bit_laws.specs.Gates.Gate.{both, buffer, differing, either, inverse}
use Rattle.bit_laws.proofs.Nodes.{joined_length, word_length, word_some}
use Rattle.bit_laws.proofs.Order.{InOrder, both_drive, choices_drive, constants_drive, counted, difference_drive, each_drive, equal_drive, folded_drive, further_constants, in_both, length-product_names, less_drive, product_drive, ram_drive, register_drive, reset_drive, shift_drive, signed_drive, sum_drive}
use Rattle.bit_laws.proofs.Products.{length-furthers}
use Rattle.bit_laws.proofs.RamWords.{length-ram_shown}
use Rattle.bit_laws.proofs.Shifts.{length-shifted_names}

-- nodes drive names in order up to some count
abbrev pub Ordered : List ℕ → ℕ → List Node → ℕ → Type 0
Ordered name k nodes places = (count : ℕ) × InOrder name k nodes 0 0 count places

pub part_length : (high low : ℕ) (names : List (List ℕ)) → low ≤ high → high < length names → length (part_of high low names) ≡ high + 1 - low
part_length high low names order within =
    omega (arith, length-take (high + 1 - low) (drop (length names - 1 - high) names), length-drop (length names - 1 - high) names)

pub up_long : (f : List ℕ) (places : ℕ) (xs : List (List ℕ)) → length (moved_up places f xs) ≡ length xs
up_long f places xs =
    length-append (drop places xs) (replicate (min places (length xs)) f)
    ∙ omega (arith, length-drop places xs, length-replicate (min places (length xs)) f)

pub down_long : (f : List ℕ) (places : ℕ) (xs : List (List ℕ)) → length (moved_down places f xs) ≡ length xs
down_long f places xs =
    length-append (replicate (min places (length xs)) f) (take (length xs - places) xs)
    ∙ omega (arith, length-take (length xs - places) xs, length-replicate (min places (length xs)) f)

module _ (name : List ℕ) (k n : ℕ) where
  abbrev pub outs : List (List ℕ)
  outs = word_names name n

  abbrev pub reduction_order : (gate : Gate) (xs : List (List ℕ)) → n ≡ 1 → 1 ≤ length xs → Ordered name k (reduction gate k outs xs) n
  reduction_order gate [] one some = absurd (omega arith)
  reduction_order gate (a ∷ xs) one some = (
    length (a ∷ xs),
    in_both name k (folded gate k (a ∷ xs)) (on_each buffer outs (fold_end k (a ∷ xs) ∷ [])) 0 0 (length (a ∷ xs)) 0 (length (a ∷ xs)) n
        (folded_drive name k gate a xs 0) (each_drive name k buffer n (fold_end k (a ∷ xs) ∷ []) (length (a ∷ xs)) (sym one)),
  )

  abbrev pub add_order : (xs ys : List (List ℕ)) → length xs ≡ n → length ys ≡ n → Ordered name k (binary_nodes Add k outs xs ys) n
  add_order xs ys e f = (suc n, inl (refl, sum_drive name k n xs ys e f))

  abbrev pub subtract_order : (xs ys : List (List ℕ)) → length xs ≡ n → length ys ≡ n → Ordered name k (binary_nodes Sub k outs xs ys) n
  subtract_order xs ys e f = (2 * n + 1, inl (refl, difference_drive name k n xs ys e f))

  abbrev pub multiply_order : (xs ys : List (List ℕ)) → length xs ≡ n → 1 ≤ length ys → Ordered name k (binary_nodes Mul k outs xs ys) n
  multiply_order xs ys e some = (
    product_count xs ys,
    in_both name k (product_nodes k xs ys) (on_each buffer outs (product_names k xs ys)) 0 0 (product_count xs ys) 0 (product_count xs ys) n
        (product_drive name k xs ys 0 some)
        (each_drive name k buffer n (product_names k xs ys) (product_count xs ys) (length-product_names name k xs ys some ∙ e)),
  )

  abbrev pub equal_order : (xs ys : List (List ℕ)) → n ≡ 1 → length xs ≡ length ys → Ordered name k (binary_nodes Eq k outs xs ys) n
  equal_order xs ys one e = (
    2 * length xs + 1,
    inl (
      refl,
      in_both name k (equal_nodes k xs ys) (on_each buffer outs (further k (2 * length xs) ∷ [])) 1 0 (2 * length xs + 1) 0 (2 * length xs + 1) n
          (equal_drive name k xs ys 0 e) (each_drive name k buffer n (further k (2 * length xs) ∷ []) (2 * length xs + 1) (sym one)),
    ),
  )

  abbrev pub less_order : (xs ys : List (List ℕ)) → n ≡ 1 → length xs ≡ length ys → Ordered name k (binary_nodes LtU k outs xs ys) n
  less_order xs ys one e = (
    suc (length xs),
    inl (
      refl,
      in_both name k (less_nodes k xs ys) (on_each buffer outs (further k (length xs) ∷ [])) 1 0 (suc (length xs)) 0 (suc (length xs)) n
          (less_drive name k xs ys 0 e) (each_drive name k buffer n (further k (length xs) ∷ []) (suc (length xs)) (sym one)),
    ),
  )

  abbrev pub signed_order : (xs ys : List (List ℕ)) → n ≡ 1 → 1 ≤ length xs → length xs ≡ length ys → Ordered name k (binary_nodes LtS k outs xs ys) n
  signed_order [] ys one some e = absurd (omega arith)
  signed_order (a ∷ xs) [] one some e = absurd (omega arith)
  signed_order (a ∷ xs) (b ∷ ys) one some e = (
    suc (length (a ∷ xs)),
    inl (
      refl,
      in_both name k (signed_nodes k (a ∷ xs) (b ∷ ys)) (on_each buffer outs (further k (length (a ∷ xs)) ∷ [])) 1 0 (suc (length (a ∷ xs))) 0
          (suc (length (a ∷ xs))) n
          (signed_drive name k a b xs ys 0 (omega arith)) (each_drive name k buffer n (further k (length (a ∷ xs)) ∷ []) (suc (length (a ∷ xs))) (sym one)),
    ),
  )

  -- the stages of a shift, and the buffers behind them
  pub stages_order : (moved : ℕ → List (List ℕ) → List (List ℕ)) (xs ss : List (List ℕ))
      → ((places : ℕ) (ys : List (List ℕ)) → length (moved places ys) ≡ length ys) → length xs ≡ n
      → InOrder name k (shift_nodes moved k xs ss ++ on_each buffer outs (shifted_names k xs ss)) 1 0 (1 + length ss * length xs) n
  stages_order moved xs ss keeps e =
      in_both name k (shift_nodes moved k xs ss) (on_each buffer outs (shifted_names k xs ss)) 1 0 (1 + length ss * length xs) 0
      (1 + length ss * length xs) n (shift_drive name k moved xs ss 0 keeps)
      (each_drive name k buffer n (shifted_names k xs ss) (1 + length ss * length xs) (length-shifted_names k xs ss ∙ e))

  abbrev pub up_order : (xs ss : List (List ℕ)) → length xs ≡ n → Ordered name k (binary_nodes Shl k outs xs ss) n
  up_order xs ss e =
      (1 + length ss * length xs, inl (refl, stages_order (λ places. moved_up places (further k 0)) xs ss (λ places ys. up_long (further k 0) places ys) e))

  abbrev pub down_order : (xs ss : List (List ℕ)) → length xs ≡ n → Ordered name k (binary_nodes Shr k outs xs ss) n
  down_order xs ss e =
      (1 + length ss * length xs, inl (refl, stages_order (λ places. moved_down places (further k 0)) xs ss (λ places ys. down_long (further k 0) places ys) e))

  abbrev pub sign_order : (xs ss : List (List ℕ)) → 1 ≤ length xs → length xs ≡ n → Ordered name k (binary_nodes Sar k outs xs ss) n
  sign_order [] ss some e = absurd (omega arith)
  sign_order (a ∷ xs) ss some e = (
    1 + length ss * length (a ∷ xs),
    inl (refl, stages_order (λ places. moved_down places (further k 0)) (a ∷ xs) ss (λ places ys. down_long (further k 0) places ys) e),
  )

  abbrev pub mux_order : (cs xs ys : List (List ℕ)) → length cs ≡ 1 → length xs ≡ n → length ys ≡ n → Ordered name k (choices_by cs outs xs ys) n
  mux_order [] xs ys one e f = absurd (omega arith)
  mux_order (c ∷ cs) xs ys one e f = (0, choices_drive name k c n xs ys 0 e f)

  -- a register, by whether its domain has a reset
  abbrev pub register_order : (t : Bool) (clock reset : List ℕ) (xs : List (List ℕ)) (bits : List Bool) → length xs ≡ n → length bits ≡ n
      → Ordered name k (if t then reset_nodes k clock reset outs xs bits else register_nodes clock outs xs bits) n
  register_order true clock reset xs bits e f = (n, reset_drive name k clock reset n xs bits e f)
  register_order false clock reset xs bits e f = (0, register_drive name k clock n xs bits 0 e f)

  abbrev pub ram_order : (clock : List ℕ) (names : RamNames) (words : List (List Bool)) → length names.value ≡ n
      → AllByRecursion (λ (bits : List Bool). length bits ≡ n) words → Ordered name k (ram_nodes k n clock outs names words) n
  ram_order clock names words e all =
      let first = constants (furthers k 0 n) (all_zeros n) in
      let middle = ram_words k n n 0 clock names (furthers k 0 n) words in
      let last = register_nodes clock outs (ram_shown k n n (furthers k 0 n) words) (all_zeros n) in
      let count = n + length words * (2 + 3 * n) in
      let long = length-furthers k 0 n in (
        count,
        in_both name k first (middle ++ last) 0 0 n 0 count n
            (counted name k first 0 0 (0 + n) 0 n 0 (omega arith) refl (further_constants name k n (all_zeros n) 0 0 (length-replicate n false)))
            (in_both name k middle last n 0 count 0 count n (ram_drive name k n n 0 clock names (furthers k 0 n) words 0 long e all)
            (register_drive name k clock n (ram_shown k n n (furthers k 0 n) words) (all_zeros n) count
            (length-ram_shown k n n (furthers k 0 n) words long) (length-replicate n false))),
      )

module _ (flat : Flat) (sound : Sound flat) where
  pub fits : (cell : Cell) → HasCell flat cell → FitsCell (length flat.ports.domains) flat.widths cell
  fits cell has = fits_cell flat cell sound has

  pub wide : (w n : ℕ) → slice_get flat.widths w ≡ Some n → slice_index flat.widths w ≡ n
  wide w n e = get_or_from_slice_get flat.widths w n 0 e

  -- a word is as long as another wire is wide
  pub as_wire : (a v n : ℕ) → slice_get flat.widths a ≡ Some n → slice_get flat.widths v ≡ Some n → length (word flat a) ≡ slice_index flat.widths v
  as_wire a v n e f = word_length flat a n e ∙ sym (wide v n f)

  pub some : (a n : ℕ) → slice_get flat.widths a ≡ Some n → 1 ≤ length (word flat a)
  some a n e = word_some flat a sound (slice_get_within flat.widths a n e)

  binary_drives : (op : Op2) (v a c : WireId) → HasCell flat (Bin v op a c) → CellDrives flat (Bin v op a c) v.number
  binary_drives Add v a c has =
      let f = fits (Bin v Add a c) has in
      add_order (wire_name flat.ports v.number) v.number (slice_index flat.widths v.number) (word flat a.number) (word flat c.number)
      (as_wire a.number v.number f.0 f.3 f.2) (as_wire c.number v.number f.0 f.4 f.2)
  binary_drives Sub v a c has =
      let f = fits (Bin v Sub a c) has in
      subtract_order (wire_name flat.ports v.number) v.number (slice_index flat.widths v.number) (word flat a.number) (word flat c.number)
      (as_wire a.number v.number f.0 f.3 f.2) (as_wire c.number v.number f.0 f.4 f.2)
  binary_drives Mul v a c has =
      let f = fits (Bin v Mul a c) has in
      multiply_order (wire_name flat.ports v.number) v.number (slice_index flat.widths v.number) (word flat a.number) (word flat c.number)
      (as_wire a.number v.number f.0 f.3 f.2) (some c.number f.0 f.4)
  binary_drives And v a c has =
      let f = fits (Bin v And a c) has in (
        0,
        both_drive (wire_name flat.ports v.number) v.number both (slice_index flat.widths v.number) (word flat a.number) (word flat c.number) 0
            (as_wire a.number v.number f.0 f.2 f.1) (as_wire c.number v.number f.0 f.3 f.1),
      )
  binary_drives Or v a c has =
      let f = fits (Bin v Or a c) has in (
        0,
        both_drive (wire_name flat.ports v.number) v.number either (slice_index flat.widths v.number) (word flat a.number) (word flat c.number) 0
            (as_wire a.number v.number f.0 f.2 f.1) (as_wire c.number v.number f.0 f.3 f.1),
      )
  binary_drives Xor v a c has =
      let f = fits (Bin v Xor a c) has in (
        0,
        both_drive (wire_name flat.ports v.number) v.number differing (slice_index flat.widths v.number) (word flat a.number) (word flat c.number) 0
            (as_wire a.number v.number f.0 f.2 f.1) (as_wire c.number v.number f.0 f.3 f.1),
      )
  binary_drives Eq v a c has =
      let f = fits (Bin v Eq a c) has in
      equal_order (wire_name flat.ports v.number) v.number (slice_index flat.widths v.number) (word flat a.number) (word flat c.number)
      (wide v.number 1 f.0) (word_length flat a.number f.1.0 f.1.1 ∙ sym (word_length flat c.number f.1.0 f.1.2))
  binary_drives LtU v a c has =
      let f = fits (Bin v LtU a c) has in
      less_order (wire_name flat.ports v.number) v.number (slice_index flat.widths v.number) (word flat a.number) (word flat c.number)
      (wide v.number 1 f.0) (word_length flat a.number f.1.0 f.1.1 ∙ sym (word_length flat c.number f.1.0 f.1.2))
  binary_drives LtS v a c has =
      let f = fits (Bin v LtS a c) has in
      signed_order (wire_name flat.ports v.number) v.number (slice_index flat.widths v.number) (word flat a.number) (word flat c.number)
      (wide v.number 1 f.0) (some a.number f.1.0 f.1.1) (word_length flat a.number f.1.0 f.1.1 ∙ sym (word_length flat c.number f.1.0 f.1.2))
  binary_drives Shl v a c has =
      let f = fits (Bin v Shl a c) has in
      up_order (wire_name flat.ports v.number) v.number (slice_index flat.widths v.number) (word flat a.number) (word flat c.number)
      (as_wire a.number v.number f.1.0 f.1.2 f.1.1)
  binary_drives Shr v a c has =
      let f = fits (Bin v Shr a c) has in
      down_order (wire_name flat.ports v.number) v.number (slice_index flat.widths v.number) (word flat a.number) (word flat c.number)
      (as_wire a.number v.number f.1.0 f.1.2 f.1.1)
  binary_drives Sar v a c has =
      let f = fits (Bin v Sar a c) has in
      sign_order (wire_name flat.ports v.number) v.number (slice_index flat.widths v.number) (word flat a.number) (word flat c.number)
      (some a.number f.1.0 f.1.2) (as_wire a.number v.number f.1.0 f.1.2 f.1.1)

  unary_drives : (op : Op1) (v a : WireId) → HasCell flat (Un v op a) → CellDrives flat (Un v op a) v.number
  unary_drives Not v a has =
      let f = fits (Un v Not a) has in (
        0,
        each_drive (wire_name flat.ports v.number) v.number inverse (slice_index flat.widths v.number) (word flat a.number) 0
            (as_wire a.number v.number f.0 f.2 f.1),
      )
  unary_drives RedAnd v a has =
      let f = fits (Un v RedAnd a) has in
      reduction_order (wire_name flat.ports v.number) v.number (slice_index flat.widths v.number) both (word flat a.number) (wide v.number 1 f.0)
      (word_some flat a.number sound f.1)
  unary_drives RedOr v a has =
      let f = fits (Un v RedOr a) has in
      reduction_order (wire_name flat.ports v.number) v.number (slice_index flat.widths v.number) either (word flat a.number) (wide v.number 1 f.0)
      (word_some flat a.number sound f.1)
  unary_drives RedXor v a has =
      let f = fits (Un v RedXor a) has in
      reduction_order (wire_name flat.ports v.number) v.number (slice_index flat.widths v.number) differing (word flat a.number) (wide v.number 1 f.0)
      (word_some flat a.number sound f.1)

  at_driven : (cell : Cell) (v w : ℕ) → Some v ≡ Some w → CellDrives flat cell v → CellDrives flat cell w
  at_driven cell v w t d = subst (λ n. CellDrives flat cell n) (same_Some v w t) d

  pub cell_drives : (cell : Cell) (w : ℕ) → HasCell flat cell → target cell ≡ Some w → CellDrives flat cell w
  cell_drives (Const v bits) w has t =
      at_driven (Const v bits) v.number w t
      (0, constants_drive (wire_name flat.ports v.number) v.number (slice_index flat.widths v.number) bits 0 (sym (wide v.number (length bits) (fits (Const v bits) has))))
  cell_drives (Copy v a) w has t =
      let f = fits (Copy v a) has in
      at_driven (Copy v a) v.number w t
      (0, each_drive (wire_name flat.ports v.number) v.number buffer (slice_index flat.widths v.number) (word flat a.number) 0 (as_wire a.number v.number f.0 f.2 f.1))
  cell_drives (Join v parts) w has t =
      let f = fits (Join v parts) has in
      at_driven (Join v parts) v.number w t (
        0,
        each_drive (wire_name flat.ports v.number) v.number buffer (slice_index flat.widths v.number) (flat_map (λ (p : WireId). word flat p.number) parts) 0
            (joined_length flat parts ∙ sym (wide v.number (width_of_all flat.widths parts) f.1)),
      )
  cell_drives (Cut v a high low) w has t =
      let f = fits (Cut v a high low) has in
      let long = word_length flat a.number f.2.0 f.2.2 in
      let part = part_length high low (word flat a.number) f.0 (let l : high < length (word flat a.number) = omega (arith, long, f.2.1) in l) in
      let own = wide v.number (high - low + 1) f.1 in
      let le = f.0 in
      at_driven (Cut v a high low) v.number w t (
        0,
        each_drive (wire_name flat.ports v.number) v.number buffer (slice_index flat.widths v.number) (part_of high low (word flat a.number)) 0
            (omega (arith, part, own, le)),
      )
  cell_drives (Un v op a) w has t = at_driven (Un v op a) v.number w t (unary_drives op v a has)
  cell_drives (Bin v op a c) w has t = at_driven (Bin v op a c) v.number w t (binary_drives op v a c has)
  cell_drives (Mux v c a d) w has t =
      let f = fits (Mux v c a d) has in
      at_driven (Mux v c a d) v.number w t
      (mux_order (wire_name flat.ports v.number) v.number (slice_index flat.widths v.number) (word flat c.number) (word flat a.number) (word flat d.number)
      (word_length flat c.number 1 f.0) (as_wire a.number v.number f.1.0 f.1.2 f.1.1) (as_wire d.number v.number f.1.0 f.1.3 f.1.1))
  cell_drives (Reg v domain initial a) w has t =
      let f = fits (Reg v domain initial a) has in
      at_driven (Reg v domain initial a) v.number w t
      (register_order (wire_name flat.ports v.number) v.number (slice_index flat.widths v.number) (has_reset flat.ports domain) (clock_of flat.ports domain)
      (reset_of flat.ports domain) (word flat a.number) initial (as_wire a.number v.number (length initial) f.2 f.1) (sym (wide v.number (length initial) f.1)))
  cell_drives (Ram v domain words inputs) w has t =
      let f = (fits (Ram v domain words inputs) has).1 in
      let own = wide v.number f.5.0 f.5.1 in
      at_driven (Ram v domain words inputs) v.number w t
      (ram_order (wire_name flat.ports v.number) v.number (slice_index flat.widths v.number) (clock_of flat.ports domain)
      (record {
        read = word flat inputs.read.number;
        enable = word flat inputs.enable.number;
        place = word flat inputs.place.number;
        value = word flat inputs.value.number;
      }) words (as_wire inputs.value.number v.number f.5.0 f.5.2 f.5.1)
      (subst (λ n. AllByRecursion (λ (bits : List Bool). length bits ≡ n) words) (sym own) f.5.3))
  cell_drives (Use m reads drives) w has t = absurd (cc)
