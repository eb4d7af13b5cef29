-- What the nodes of each kind of cell give.
use Rattle.std.proofs.Common.{◌≡◌, ℕ, ◌+◌, ◌-◌, ◌<◌, ◌≤◌, Bool, List, [], ◌∷◌, length, Some, slice_get, sym, subst, ◌∙◌, arith}
use Rattle.std.specs.Prelude.{flat_map}
use Rattle.std.proofs.lemmas.Option.{same_Some, slice_get_within}
use Rattle.chw_base.specs.declared.index.WireId.{WireId}
use Rattle.chw_bits.specs.Bits.{cut_of}
use Rattle.chw_bits.proofs.RoundTrips.{length-cut_of}
use Rattle.chw_clock.specs.declared.event.Event.{Event}
use Rattle.netlist.specs.NetValue.{HasCell}
use Rattle.netlist.specs.Operators.{operator, operator1, operator2}
use Rattle.netlist.specs.Sound.{FitsCell, Sound, width_of_all}
use Rattle.netlist.specs.declared.net.Cell.{Cell}
use Rattle.netlist.specs.declared.net.Cell.TheVariants.{Const, Copy, Join, Cut, Un, Bin, Mux, Reg, Ram, Use}
use Rattle.netlist.specs.declared.net.Flat.{Flat}
use Rattle.netlist.specs.declared.net.Op1.{Op1}
use Rattle.netlist.specs.declared.net.Op1.TheVariants.{Not, RedAnd, RedOr, RedXor}
use Rattle.netlist.specs.declared.net.Op2.TheVariants.{Add, Sub, And, Or, Xor, Eq, LtU, LtS}
use Rattle.netlist.proofs.Lengths.{fits_cell}
use Rattle.bit_laws.specs.Blast.{blast, part_of, word}
use Rattle.bit_laws.specs.CellLaws.{GivesBits, HasWord, HaveWords, IsComparison, IsLogic, IsReduction, IsSum, IsWiring}
use Rattle.bit_laws.proofs.Nodes.{joined_length, joins_have, nodes_there, part_has, word_length, word_some}
use Rattle.bit_laws.proofs.Operations.{add_has, and_has, equal_has, less_has, mux_has, not_has, or_has, red_and_has, red_or_has, red_xor_has, signed_less_has, subtract_has, xor_has}
use Rattle.bit_laws.proofs.Words.{buffers_have, constants_have, have_length}

-- the wire that a cell drives, by its number
pub at_target : (flat : Flat) (h : List Event) (v w : ℕ) (bits : List Bool) → Some v ≡ Some w → HasWord flat h v bits → HasWord flat h w bits
at_target flat h v w bits t x = subst (λ n. HasWord flat h n bits) (same_Some v w t) x

-- wires of one width have words of one length
pub as_wide : (flat : Flat) (v w n : ℕ) → slice_get flat.widths v ≡ Some n → slice_get flat.widths w ≡ Some n → length (word flat v) ≡ length (word flat w)
as_wide flat v w n e f = word_length flat v n e ∙ sym (word_length flat w n f)

module _ (flat : Flat) (h : List Event) (sound : Sound flat) where
  -- one operand, and two: the words that a cell reads are as many
  pub one_word : (a : WireId) (give : List (List Bool) → List Bool) (w : ℕ)
      → ((x : List Bool) → HasWord flat h a.number x → HasWord flat h w (give (x ∷ []))) → (values : List (List Bool))
      → HaveWords flat h (a ∷ []) values → HasWord flat h w (give values)
  one_word a give w each [] v = absurd v
  one_word a give w each (x ∷ []) v = each x v.0
  one_word a give w each (x ∷ y ∷ values) v = absurd v.1

  pub two_words : (a c : WireId) (give : List (List Bool) → List Bool) (w : ℕ)
      → ((x y : List Bool) → HasWord flat h a.number x → HasWord flat h c.number y → HasWord flat h w (give (x ∷ y ∷ []))) → (values : List (List Bool))
      → HaveWords flat h (a ∷ c ∷ []) values → HasWord flat h w (give values)
  two_words a c give w each [] v = absurd v
  two_words a c give w each (x ∷ []) v = absurd v.1
  two_words a c give w each (x ∷ y ∷ []) v = each x y v.0 v.1.0
  two_words a c give w each (x ∷ y ∷ z ∷ values) v = absurd v.1.1

  three_words : (a c d : WireId) (give : List (List Bool) → List Bool) (w : ℕ)
      → ((x y z : List Bool) → HasWord flat h a.number x → HasWord flat h c.number y → HasWord flat h d.number z → HasWord flat h w (give (x ∷ y ∷ z ∷ [])))
      → (values : List (List Bool)) → HaveWords flat h (a ∷ c ∷ d ∷ []) values → HasWord flat h w (give values)
  three_words a c d give w each [] v = absurd v
  three_words a c d give w each (x ∷ []) v = absurd v.1
  three_words a c d give w each (x ∷ y ∷ []) v = absurd v.1.1
  three_words a c d give w each (x ∷ y ∷ z ∷ []) v = each x y z v.0 v.1.0 v.1.1.0
  three_words a c d give w each (x ∷ y ∷ z ∷ u ∷ values) v = absurd v.1.1.1

  pub fits : (cell : Cell) → HasCell flat cell → FitsCell (length flat.ports.domains) flat.widths cell
  fits cell has = fits_cell flat cell sound has

  -- the part of a word is as long as the wire of the cut
  cut_long : (v a high low n : ℕ) (x : List Bool) → low ≤ high → slice_get flat.widths v ≡ Some (high - low + 1) → high < n
      → slice_get flat.widths a ≡ Some n → HasWord flat h a x → length (word flat v) ≡ length (part_of high low (word flat a))
  cut_long v a high low n x le e less f u =
      let long = have_length flat.ports (blast flat) h (word flat a) x u in
      let wide = word_length flat a n f in
      let part = have_length flat.ports (blast flat) h (part_of high low (word flat a)) (cut_of high low x) (part_has flat.ports (blast flat) h high low (word flat a) x u) in
      let cut = length-cut_of x high low le (let l : high < length x = omega (arith, long, wide) in l) in
      let own = word_length flat v (high - low + 1) e in
      omega (arith, own, part, cut)

  pub wiring_bits : (cell : Cell) → HasCell flat cell → IsWiring cell → GivesBits flat h cell
  wiring_bits (Const v bits) has kind w values t reads =
      at_target flat h v.number w bits t
      (constants_have flat.ports (blast flat) h (word flat v.number) bits (word_length flat v.number (length bits) (fits (Const v bits) has))
      (nodes_there flat (Const v bits) has))
  wiring_bits (Copy v a) has kind w values t reads =
      let f = fits (Copy v a) has in
      one_word a (operator (Copy v a)) w
      (λ x u. at_target flat h v.number w x t
      (buffers_have flat.ports (blast flat) h (word flat v.number) (word flat a.number) x (as_wide flat v.number a.number f.0 f.1 f.2)
      (nodes_there flat (Copy v a) has) u)) values reads
  wiring_bits (Join v parts) has kind w values t reads =
      let f = fits (Join v parts) has in
      at_target flat h v.number w (flat_map (λ bits. bits) values) t
      (buffers_have flat.ports (blast flat) h (word flat v.number) (flat_map (λ (p : WireId). word flat p.number) parts) (flat_map (λ bits. bits) values)
      (word_length flat v.number (width_of_all flat.widths parts) f.1 ∙ sym (joined_length flat parts)) (nodes_there flat (Join v parts) has) (joins_have flat h parts values reads))
  wiring_bits (Cut v a high low) has kind w values t reads =
      let f = fits (Cut v a high low) has in
      one_word a (operator (Cut v a high low)) w
      (λ x u. at_target flat h v.number w (cut_of high low x) t
      (buffers_have flat.ports (blast flat) h (word flat v.number) (part_of high low (word flat a.number)) (cut_of high low x)
      (cut_long v.number a.number high low f.2.0 x f.0 f.1 f.2.1 f.2.2 u)
      (nodes_there flat (Cut v a high low) has) (part_has flat.ports (blast flat) h high low (word flat a.number) x u))) values reads
  wiring_bits (Un v op a) has kind w values t reads = absurd kind
  wiring_bits (Bin v op a c) has kind w values t reads = absurd kind
  wiring_bits (Mux v c a d) has kind w values t reads = absurd kind
  wiring_bits (Reg v domain initial a) has kind w values t reads = absurd kind
  wiring_bits (Ram v domain words inputs) has kind w values t reads = absurd kind
  wiring_bits (Use m reads_ drives) has kind w values t reads = absurd kind

  pub unary_bits : (op : Op1) (v a : WireId) → HasCell flat (Un v op a) → GivesBits flat h (Un v op a)
  unary_bits Not v a has w values t reads =
      let f = fits (Un v Not a) has in
      one_word a (operator (Un v Not a)) w
      (λ x u. at_target flat h v.number w (operator1 Not x) t
      (not_has flat.ports (blast flat) h v.number (word flat v.number) (word flat a.number) x (as_wide flat v.number a.number f.0 f.1 f.2)
      (nodes_there flat (Un v Not a) has) u)) values reads
  unary_bits RedAnd v a has w values t reads =
      let f = fits (Un v RedAnd a) has in
      one_word a (operator (Un v RedAnd a)) w
      (λ x u. at_target flat h v.number w (operator1 RedAnd x) t
      (red_and_has flat.ports (blast flat) h v.number (word flat v.number) (word flat a.number) x (word_length flat v.number 1 f.0)
      (word_some flat a.number sound f.1) (nodes_there flat (Un v RedAnd a) has) u)) values reads
  unary_bits RedOr v a has w values t reads =
      let f = fits (Un v RedOr a) has in
      one_word a (operator (Un v RedOr a)) w
      (λ x u. at_target flat h v.number w (operator1 RedOr x) t
      (red_or_has flat.ports (blast flat) h v.number (word flat v.number) (word flat a.number) x (word_length flat v.number 1 f.0)
      (word_some flat a.number sound f.1) (nodes_there flat (Un v RedOr a) has) u)) values reads
  unary_bits RedXor v a has w values t reads =
      let f = fits (Un v RedXor a) has in
      one_word a (operator (Un v RedXor a)) w
      (λ x u. at_target flat h v.number w (operator1 RedXor x) t
      (red_xor_has flat.ports (blast flat) h v.number (word flat v.number) (word flat a.number) x (word_length flat v.number 1 f.0)
      (word_some flat a.number sound f.1) (nodes_there flat (Un v RedXor a) has) u)) values reads

  pub mux_bits : (v c a d : WireId) → HasCell flat (Mux v c a d) → GivesBits flat h (Mux v c a d)
  mux_bits v c a d has w values t reads =
      let f = fits (Mux v c a d) has in
      three_words c a d (operator (Mux v c a d)) w
      (λ on x y s u z. at_target flat h v.number w (operator (Mux v c a d) (on ∷ x ∷ y ∷ [])) t
      (mux_has flat.ports (blast flat) h (word flat c.number) (word flat v.number) (word flat a.number) (word flat d.number) on x y
      (word_length flat c.number 1 f.0) (as_wide flat v.number a.number f.1.0 f.1.1 f.1.2) (as_wide flat v.number d.number f.1.0 f.1.1 f.1.3)
      (nodes_there flat (Mux v c a d) has) s u z)) values reads

  -- both operands are as wide as the result
  and_bits : (v a c : WireId) → HasCell flat (Bin v And a c) → GivesBits flat h (Bin v And a c)
  and_bits v a c has w values t reads =
      let f = fits (Bin v And a c) has in
      two_words a c (operator (Bin v And a c)) w
      (λ x y s u. at_target flat h v.number w (operator2 And x y) t
      (and_has flat.ports (blast flat) h v.number (word flat v.number) (word flat a.number) (word flat c.number) x y
      (as_wide flat v.number a.number f.0 f.1 f.2) (as_wide flat v.number c.number f.0 f.1 f.3) (nodes_there flat (Bin v And a c) has) s u)) values reads

  or_bits : (v a c : WireId) → HasCell flat (Bin v Or a c) → GivesBits flat h (Bin v Or a c)
  or_bits v a c has w values t reads =
      let f = fits (Bin v Or a c) has in
      two_words a c (operator (Bin v Or a c)) w
      (λ x y s u. at_target flat h v.number w (operator2 Or x y) t
      (or_has flat.ports (blast flat) h v.number (word flat v.number) (word flat a.number) (word flat c.number) x y
      (as_wide flat v.number a.number f.0 f.1 f.2) (as_wide flat v.number c.number f.0 f.1 f.3) (nodes_there flat (Bin v Or a c) has) s u)) values reads

  xor_bits : (v a c : WireId) → HasCell flat (Bin v Xor a c) → GivesBits flat h (Bin v Xor a c)
  xor_bits v a c has w values t reads =
      let f = fits (Bin v Xor a c) has in
      two_words a c (operator (Bin v Xor a c)) w
      (λ x y s u. at_target flat h v.number w (operator2 Xor x y) t
      (xor_has flat.ports (blast flat) h v.number (word flat v.number) (word flat a.number) (word flat c.number) x y
      (as_wide flat v.number a.number f.0 f.1 f.2) (as_wide flat v.number c.number f.0 f.1 f.3) (nodes_there flat (Bin v Xor a c) has) s u)) values reads

  pub add_bits : (v a c : WireId) → HasCell flat (Bin v Add a c) → GivesBits flat h (Bin v Add a c)
  add_bits v a c has w values t reads =
      let f = fits (Bin v Add a c) has in
      two_words a c (operator (Bin v Add a c)) w
      (λ x y s u. at_target flat h v.number w (operator2 Add x y) t
      (add_has flat.ports (blast flat) h v.number (word flat v.number) (word flat a.number) (word flat c.number) x y
      (as_wide flat v.number a.number f.0 f.2 f.3) (as_wide flat v.number c.number f.0 f.2 f.4) (nodes_there flat (Bin v Add a c) has) s u)) values reads

  pub subtract_bits : (v a c : WireId) → HasCell flat (Bin v Sub a c) → GivesBits flat h (Bin v Sub a c)
  subtract_bits v a c has w values t reads =
      let f = fits (Bin v Sub a c) has in
      two_words a c (operator (Bin v Sub a c)) w
      (λ x y s u. at_target flat h v.number w (operator2 Sub x y) t
      (subtract_has flat.ports (blast flat) h v.number (word flat v.number) (word flat a.number) (word flat c.number) x y
      (as_wide flat v.number a.number f.0 f.2 f.3) (as_wide flat v.number c.number f.0 f.2 f.4) (nodes_there flat (Bin v Sub a c) has) s u)) values reads

  equal_bits : (v a c : WireId) → HasCell flat (Bin v Eq a c) → GivesBits flat h (Bin v Eq a c)
  equal_bits v a c has w values t reads =
      let f = fits (Bin v Eq a c) has in
      two_words a c (operator (Bin v Eq a c)) w
      (λ x y s u. at_target flat h v.number w (operator2 Eq x y) t
      (equal_has flat.ports (blast flat) h v.number (word flat v.number) (word flat a.number) (word flat c.number) x y
      (word_length flat v.number 1 f.0) (as_wide flat a.number c.number f.1.0 f.1.1 f.1.2) (nodes_there flat (Bin v Eq a c) has) s u)) values reads

  less_bits : (v a c : WireId) → HasCell flat (Bin v LtU a c) → GivesBits flat h (Bin v LtU a c)
  less_bits v a c has w values t reads =
      let f = fits (Bin v LtU a c) has in
      two_words a c (operator (Bin v LtU a c)) w
      (λ x y s u. at_target flat h v.number w (operator2 LtU x y) t
      (less_has flat.ports (blast flat) h v.number (word flat v.number) (word flat a.number) (word flat c.number) x y
      (word_length flat v.number 1 f.0) (as_wide flat a.number c.number f.1.0 f.1.1 f.1.2) (nodes_there flat (Bin v LtU a c) has) s u)) values reads

  signed_less_bits : (v a c : WireId) → HasCell flat (Bin v LtS a c) → GivesBits flat h (Bin v LtS a c)
  signed_less_bits v a c has w values t reads =
      let f = fits (Bin v LtS a c) has in
      two_words a c (operator (Bin v LtS a c)) w
      (λ x y s u. at_target flat h v.number w (operator2 LtS x y) t
      (signed_less_has flat.ports (blast flat) h v.number (word flat v.number) (word flat a.number) (word flat c.number) x y
      (word_length flat v.number 1 f.0) (word_some flat a.number sound (slice_get_within flat.widths a.number f.1.0 f.1.1))
      (as_wide flat a.number c.number f.1.0 f.1.1 f.1.2) (nodes_there flat (Bin v LtS a c) has) s u)) values reads

  pub logic_bits : (cell : Cell) → HasCell flat cell → IsLogic cell → GivesBits flat h cell
  logic_bits (Un v Not a) has kind = unary_bits Not v a has
  logic_bits (Un v RedAnd a) has kind = absurd kind
  logic_bits (Un v RedOr a) has kind = absurd kind
  logic_bits (Un v RedXor a) has kind = absurd kind
  logic_bits (Bin v And a c) has kind = and_bits v a c has
  logic_bits (Bin v Or a c) has kind = or_bits v a c has
  logic_bits (Bin v Xor a c) has kind = xor_bits v a c has
  logic_bits (Mux v c a d) has kind = mux_bits v c a d has
  logic_bits _ has kind = absurd kind

  pub reduction_bits : (cell : Cell) → HasCell flat cell → IsReduction cell → GivesBits flat h cell
  reduction_bits (Un v RedAnd a) has kind = unary_bits RedAnd v a has
  reduction_bits (Un v RedOr a) has kind = unary_bits RedOr v a has
  reduction_bits (Un v RedXor a) has kind = unary_bits RedXor v a has
  reduction_bits _ has kind = absurd kind

  pub sum_bits : (cell : Cell) → HasCell flat cell → IsSum cell → GivesBits flat h cell
  sum_bits (Bin v Add a c) has kind = add_bits v a c has
  sum_bits (Bin v Sub a c) has kind = subtract_bits v a c has
  sum_bits _ has kind = absurd kind

  pub comparison_bits : (cell : Cell) → HasCell flat cell → IsComparison cell → GivesBits flat h cell
  comparison_bits (Bin v Eq a c) has kind = equal_bits v a c has
  comparison_bits (Bin v LtU a c) has kind = less_bits v a c has
  comparison_bits (Bin v LtS a c) has kind = signed_less_bits v a c has
  comparison_bits _ has kind = absurd kind
