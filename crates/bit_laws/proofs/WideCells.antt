-- What the nodes of products and shifts give.
use Rattle.std.proofs.Common.{◌≡◌, ℕ, ◌≤◌, Bool, false, List, [], ◌∷◌, ◌++◌, length, sym, subst, ◌∙◌, arith}
use Rattle.std.proofs.lemmas.Option.{slice_get_within}
use Rattle.chw_base.specs.declared.index.WireId.{WireId}
use Rattle.chw_clock.specs.declared.event.Event.{Event}
use Rattle.chw_clock.specs.declared.event.Ports.{Ports}
use Rattle.netlist.specs.NetValue.{HasCell}
use Rattle.netlist.specs.Operators.{operator, operator2}
use Rattle.netlist.specs.Sound.{Sound}
use Rattle.netlist.specs.declared.net.Cell.{Cell}
use Rattle.netlist.specs.declared.net.Cell.TheVariants.{Bin}
use Rattle.netlist.specs.declared.net.Flat.{Flat}
use Rattle.netlist.specs.declared.net.Op2.TheVariants.{Mul, Shl, Shr, Sar}
use Rattle.bit_laws.specs.BitNames.{further}
use Rattle.bit_laws.specs.Bitnet.{BitValue, Bitnet, HaveBits}
use Rattle.bit_laws.specs.Blast.{binary_nodes, blast, moved_down, moved_up, on_each, product_names, product_nodes, shift_nodes, shifted_names, word}
use Rattle.bit_laws.specs.CellLaws.{GivesBits, IsProduct, IsShift}
use Rattle.bit_laws.specs.Gates.Gate.{buffer, never}
use Rattle.bit_laws.proofs.Cells.{as_wide, at_target, fits, two_words}
use Rattle.bit_laws.proofs.Nodes.{nodes_there, word_some}
use Rattle.bit_laws.proofs.Products.{length-product_of, product_is, product_of, products_have}
use Rattle.bit_laws.proofs.Shifts.{KeepsLength, down_has, down_keeps, length-shifted_names, shift_down_is, shift_signed_is, shift_up_is, shifted_of, shifts_have, up_has, up_keeps}
use Rattle.bit_laws.proofs.Words.{HasNodes, buffers_have, gate_bit, have_length, parted}

module _ (ports : Ports) (b : Bitnet) (h : List Event) where
  multiply_has : (k : ℕ) (outs xs ys : List (List ℕ)) (us vs : List Bool) → length outs ≡ length xs → length xs ≡ length ys → 1 ≤ length xs
      → HasNodes b (binary_nodes Mul k outs xs ys) → HaveBits ports b h xs us → HaveBits ports b h ys vs
      → HaveBits ports b h outs (operator2 Mul us vs)
  multiply_has k outs xs ys us vs e f some all v w =
      let s = parted b (product_nodes k xs ys) (on_each buffer outs (product_names k xs ys)) all in
      let r = products_have ports b h k xs ys us vs (omega arith) (omega arith) s.0 v w in
      let wide = have_length ports b h xs us v in
      let high = have_length ports b h ys vs w in
      let long = have_length ports b h (product_names k xs ys) (product_of us vs) r in
      let count = length-product_of us vs (omega (arith, high)) in
      let first : length outs ≡ length (product_names k xs ys) = omega (arith, long, count, wide) in
      subst (λ z. HaveBits ports b h outs z) (product_is us vs (omega (arith, wide)) (omega (arith, wide, high)))
      (buffers_have ports b h outs (product_names k xs ys) (product_of us vs) first s.1 r)

  -- the word after the stages goes to the outputs
  shifted_has : (k : ℕ) (moved : ℕ → List (List ℕ) → List (List ℕ)) (move : ℕ → List Bool → List Bool) (outs xs ss : List (List ℕ))
      (us vs : List Bool) → length outs ≡ length xs → KeepsLength move
      → ((places : ℕ) (names : List (List ℕ)) (bits : List Bool) → HaveBits ports b h names bits → HaveBits ports b h (moved places names) (move places bits))
      → HasNodes b (shift_nodes moved k xs ss ++ on_each buffer outs (shifted_names k xs ss)) → HaveBits ports b h xs us → HaveBits ports b h ss vs
      → HaveBits ports b h outs (shifted_of move us vs)
  shifted_has k moved move outs xs ss us vs e keeps both all v w =
      let s = parted b (shift_nodes moved k xs ss) (on_each buffer outs (shifted_names k xs ss)) all in
      buffers_have ports b h outs (shifted_names k xs ss) (shifted_of move us vs) (e ∙ sym (length-shifted_names k xs ss)) s.1
      (shifts_have ports b h k moved move keeps both xs ss us vs s.0 v w)

  shift_up_has : (k : ℕ) (outs xs ss : List (List ℕ)) (us vs : List Bool) → length outs ≡ length xs
      → HasNodes b (binary_nodes Shl k outs xs ss) → HaveBits ports b h xs us → HaveBits ports b h ss vs
      → HaveBits ports b h outs (operator2 Shl us vs)
  shift_up_has k outs xs ss us vs e all v w =
      let t : BitValue ports b h (further k 0) false = gate_bit ports b h never [] (further k 0) [] all.0 tt in
      subst (λ z. HaveBits ports b h outs z) (shift_up_is us vs)
      (shifted_has k (λ places. moved_up places (further k 0)) (λ places. moved_up places false) outs xs ss us vs e (up_keeps false)
      (λ places names bits u. up_has ports b h k places (further k 0) false names bits t u) all.1 v w)

  shift_down_has : (k : ℕ) (outs xs ss : List (List ℕ)) (us vs : List Bool) → length outs ≡ length xs
      → HasNodes b (binary_nodes Shr k outs xs ss) → HaveBits ports b h xs us → HaveBits ports b h ss vs
      → HaveBits ports b h outs (operator2 Shr us vs)
  shift_down_has k outs xs ss us vs e all v w =
      let t : BitValue ports b h (further k 0) false = gate_bit ports b h never [] (further k 0) [] all.0 tt in
      subst (λ z. HaveBits ports b h outs z) (shift_down_is us vs)
      (shifted_has k (λ places. moved_down places (further k 0)) (λ places. moved_down places false) outs xs ss us vs e (down_keeps false)
      (λ places names bits u. down_has ports b h k places (further k 0) false names bits t u) all.1 v w)

  shift_signed_has : (k : ℕ) (outs xs ss : List (List ℕ)) (us vs : List Bool) → length outs ≡ length xs → 1 ≤ length xs
      → HasNodes b (binary_nodes Sar k outs xs ss) → HaveBits ports b h xs us → HaveBits ports b h ss vs
      → HaveBits ports b h outs (operator2 Sar us vs)
  shift_signed_has k outs [] ss us vs e some all v w = absurd (omega arith)
  shift_signed_has k outs (n ∷ xs) ss [] vs e some all v w = absurd v
  shift_signed_has k outs (n ∷ xs) ss (x ∷ us) vs e some all v w =
      let t : BitValue ports b h (further k 0) x = gate_bit ports b h buffer (n ∷ []) (further k 0) (x ∷ []) all.0 (v.0, tt) in
      subst (λ z. HaveBits ports b h outs z) (shift_signed_is x us vs)
      (shifted_has k (λ places. moved_down places (further k 0)) (λ places. moved_down places x) outs (n ∷ xs) ss (x ∷ us) vs e (down_keeps x)
      (λ places names bits u. down_has ports b h k places (further k 0) x names bits t u) all.1 v w)

module _ (flat : Flat) (h : List Event) (sound : Sound flat) where
  multiply_bits : (v a c : WireId) → HasCell flat (Bin v Mul a c) → GivesBits flat h (Bin v Mul a c)
  multiply_bits v a c has w values t reads =
      let f = fits flat h sound (Bin v Mul a c) has in
      two_words flat h sound a c (operator (Bin v Mul a c)) w
      (λ x y s u. at_target flat h v.number w (operator2 Mul x y) t
      (multiply_has flat.ports (blast flat) h v.number (word flat v.number) (word flat a.number) (word flat c.number) x y
      (as_wide flat v.number a.number f.0 f.2 f.3) (as_wide flat a.number c.number f.0 f.3 f.4)
      (word_some flat a.number sound (slice_get_within flat.widths a.number f.0 f.3)) (nodes_there flat (Bin v Mul a c) has) s u)) values reads

  shift_up_bits : (v a c : WireId) → HasCell flat (Bin v Shl a c) → GivesBits flat h (Bin v Shl a c)
  shift_up_bits v a c has w values t reads =
      let f = fits flat h sound (Bin v Shl a c) has in
      two_words flat h sound a c (operator (Bin v Shl a c)) w
      (λ x y s u. at_target flat h v.number w (operator2 Shl x y) t
      (shift_up_has flat.ports (blast flat) h v.number (word flat v.number) (word flat a.number) (word flat c.number) x y
      (as_wide flat v.number a.number f.1.0 f.1.1 f.1.2) (nodes_there flat (Bin v Shl a c) has) s u)) values reads

  shift_down_bits : (v a c : WireId) → HasCell flat (Bin v Shr a c) → GivesBits flat h (Bin v Shr a c)
  shift_down_bits v a c has w values t reads =
      let f = fits flat h sound (Bin v Shr a c) has in
      two_words flat h sound a c (operator (Bin v Shr a c)) w
      (λ x y s u. at_target flat h v.number w (operator2 Shr x y) t
      (shift_down_has flat.ports (blast flat) h v.number (word flat v.number) (word flat a.number) (word flat c.number) x y
      (as_wide flat v.number a.number f.1.0 f.1.1 f.1.2) (nodes_there flat (Bin v Shr a c) has) s u)) values reads

  shift_signed_bits : (v a c : WireId) → HasCell flat (Bin v Sar a c) → GivesBits flat h (Bin v Sar a c)
  shift_signed_bits v a c has w values t reads =
      let f = fits flat h sound (Bin v Sar a c) has in
      two_words flat h sound a c (operator (Bin v Sar a c)) w
      (λ x y s u. at_target flat h v.number w (operator2 Sar x y) t
      (shift_signed_has flat.ports (blast flat) h v.number (word flat v.number) (word flat a.number) (word flat c.number) x y
      (as_wide flat v.number a.number f.1.0 f.1.1 f.1.2)
      (word_some flat a.number sound (slice_get_within flat.widths a.number f.1.0 f.1.2)) (nodes_there flat (Bin v Sar a c) has) s u)) values reads

  pub product_bits : (cell : Cell) → HasCell flat cell → IsProduct cell → GivesBits flat h cell
  product_bits (Bin v Mul a c) has kind = multiply_bits v a c has
  product_bits _ has kind = absurd kind

  pub shift_bits : (cell : Cell) → HasCell flat cell → IsShift cell → GivesBits flat h cell
  shift_bits (Bin v Shl a c) has kind = shift_up_bits v a c has
  shift_bits (Bin v Shr a c) has kind = shift_down_bits v a c has
  shift_bits (Bin v Sar a c) has kind = shift_signed_bits v a c has
  shift_bits _ has kind = absurd kind
