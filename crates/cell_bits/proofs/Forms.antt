-- The wires of each form of piece for a primitive on words.
use Rattle.std.proofs.Common.{◌≡◌, ℕ, zero, suc, ◌+◌, ◌-◌, ◌<◌, ◌≤◌, arith, Bool, false, not, List, [], ◌∷◌, ◌++◌, length, map, take, drop, replicate, refl, sym, ap, ◌∙◌, subst, length-append}
use Rattle.std.specs.Prelude.{flat_map}
use lib.IntN.{ℤ}
use Rattle.std.proofs.lemmas.List.{append-nil, length-map, length-replicate, nil_from_length}
use Rattle.chw_base.specs.declared.index.WireId.{WireId}
use Rattle.chw_bits.specs.Bits.{cut_of}
use Rattle.chw_bits.specs.Integers.{residue_of, word_of}
use Rattle.chw_bits.proofs.Numbers.{length-bits_of}
use Rattle.chw_clock.specs.declared.event.Event.{Event}
use Rattle.chw_types.specs.declared.kind.Scalar.{Scalar}
use Rattle.chw_types.specs.declared.kind.Scalar.TheVariants.{U, S, B}
use Rattle.netlist.specs.Operators.{operator1, operator2}
use Rattle.netlist.specs.declared.net.Cell.{Cell}
use Rattle.netlist.specs.declared.net.Cell.TheVariants.{Const, Copy, Join, Cut, Un, Bin}
use Rattle.netlist.specs.declared.net.Net.{Net}
use Rattle.netlist.specs.declared.net.Op1.{Op1}
use Rattle.netlist.specs.declared.net.Op1.TheVariants.{Not}
use Rattle.netlist.specs.declared.net.Op2.{Op2}
use Rattle.prim_bits.specs.Words.{integer_of}
use Rattle.use_laws.specs.ValueIn.{ValueIn, ReadIn, read_none, read_and}
use Rattle.net_built.specs.Wires.{wire, Piece, one, ◌▸◌, after, last_wire, last_wires}
use Rattle.net_built.specs.Words.{only, zeros, binary, compared, shifted, reduced, extended, widened, sliced, copied}
use Rattle.cell_bits.specs.Bearing.{HasCells, Bears}
use Rattle.cell_bits.proofs.Extending.{extended_word, same_word, zeros_word, zeros_alone, signed_copies}
use Rattle.cell_bits.proofs.Settling.{has_first, has_second, one_bears, then_bears, only_bears, last_bears, reads_only, reads_all, parts_of, reads_part, joined_part, reads_copies, joined_copies}

-- an operand of a width
pub record IsOperand (net : Net) (path : List ℕ) (h : List Event) (a : List WireId) (x : List Bool) (n : ℕ) : Type 0 where
  pub bears : Bears net path h a x
  pub wide : length x ≡ n

-- two operands, of these widths
pub record AreOperands (net : Net) (path : List ℕ) (h : List Event) (a b : List WireId) (x y : List Bool) (n m : ℕ) : Type 0 where
  pub left : IsOperand net path h a x n
  pub right : IsOperand net path h b y m

-- the last wire of a piece has these bits, where the instance has its cells
abbrev pub Gives : Net → List ℕ → List Event → (at : ℕ) → Piece → List Bool → Type 0
Gives net path h at p bits = HasCells net path p.cells → Bears net path h (last_wires at p (length bits ∷ [])) bits

reads_both : {net : Net} {path : List ℕ} {h : List Event} {a b : List WireId} {x y : List Bool} → Bears net path h a x → Bears net path h b y → 0 < length x → 0 < length y → ReadIn net path h (only a ∷ only b ∷ []) (x ∷ y ∷ [])
reads_both {net} {path} {h} {a} {b} {x} {y} left right some other =
    read_and path h (only a) (only b ∷ []) x (y ∷ []) (only_bears left some) (reads_only right other)

-- an operator on two operands that have bits where the result has
bin_bears : {net : Net} {path : List ℕ} {h : List Event} {a b : List WireId} {x y : List Bool} {n m : ℕ} (op : Op2) (w at : ℕ) (bits : List Bool) → AreOperands net path h a b x y n m → (0 < w → 0 < n) → (0 < w → 0 < m) → operator2 op x y ≡ bits → length bits ≡ w
    → Gives net path h at (one w (Bin (wire at) op (only a) (only b))) bits
bin_bears {a} {b} {x} {y} {n} {m} op w at bits o some other is wide has =
    one_bears w at (Bin (wire at) op (only a) (only b)) (x ∷ y ∷ []) bits wide (λ l. is) tt refl
    (λ l. let p = some l in let q = other l in reads_both o.left.bears o.right.bears (omega (arith, o.left.wide)) (omega (arith, o.right.wide))) has

pub binary_bears : {net : Net} {path : List ℕ} {h : List Event} {a b : List WireId} {x y : List Bool} {n : ℕ} (op : Op2) (at : ℕ) (bits : List Bool) → AreOperands net path h a b x y n n → operator2 op x y ≡ bits → length bits ≡ n → Gives net path h at (binary op n at a b) bits
binary_bears {n} op at bits o is wide has = bin_bears op n at bits o (λ l. l) (λ l. l) is wide has

pub compared_bears : {net : Net} {path : List ℕ} {h : List Event} {a b : List WireId} {x y : List Bool} (n : ℕ) (op : Op2) (at : ℕ) (bits : List Bool) → AreOperands net path h a b x y n n → operator2 op x y ≡ bits → length bits ≡ 1 → Gives net path h at (compared op n at a b) bits
compared_bears {net} {path} {h} {a} {b} {x} {y} zero op at bits o is wide has =
    let given : operator2 op [] [] ≡ bits = sym (λ i. operator2 op (nil_from_length x o.left.wide i) (nil_from_length y o.right.wide i)) ∙ is in
    one_bears 1 at (Const (wire at) (operator2 op [] [])) [] bits wide (λ l. given) tt refl (λ l. read_none path h) has
compared_bears (suc n) op at bits o is wide has = bin_bears op 1 at bits o (λ l. omega arith) (λ l. omega arith) is wide has

copy_bears : {net : Net} {path : List ℕ} {h : List Event} {a : List WireId} {x : List Bool} {n : ℕ} (at : ℕ) (bits : List Bool) → IsOperand net path h a x n → x ≡ bits → length bits ≡ n → Gives net path h at (one n (Copy (wire at) (only a))) bits
copy_bears {a} {x} {n} at bits o is wide has =
    one_bears n at (Copy (wire at) (only a)) (x ∷ []) bits wide (λ l. is) tt refl (λ l. reads_only o.bears (omega (arith, o.wide, l))) has

pub shifted_bears : {net : Net} {path : List ℕ} {h : List Event} {a b : List WireId} {x y : List Bool} {n : ℕ} (k : ℕ) (op : Op2) (at : ℕ) (bits : List Bool) → AreOperands net path h a b x y n k → operator2 op x [] ≡ x → operator2 op x y ≡ bits → length bits ≡ n → Gives net path h at (shifted op n k at a b) bits
shifted_bears {x} {y} zero op at bits o stays is wide has =
    let given : x ≡ bits = sym stays ∙ ap (operator2 op x) (sym (nil_from_length y o.right.wide)) ∙ is in
    copy_bears at bits o.left given wide has
shifted_bears {n} (suc k) op at bits o stays is wide has = bin_bears op n at bits o (λ l. l) (λ l. omega arith) is wide has

pub reduced_bears : {net : Net} {path : List ℕ} {h : List Event} {a : List WireId} {x : List Bool} (n : ℕ) (op : Op1) (at : ℕ) (bits : List Bool) → IsOperand net path h a x n → operator1 op x ≡ bits → length bits ≡ 1 → Gives net path h at (reduced op n at a) bits
reduced_bears {path} {h} {x} zero op at bits o is wide has =
    let given : operator1 op [] ≡ bits = ap (operator1 op) (sym (nil_from_length x o.wide)) ∙ is in
    one_bears 1 at (Const (wire at) (operator1 op [])) [] bits wide (λ l. given) tt refl (λ l. read_none path h) has
reduced_bears {a} {x} (suc n) op at bits o is wide has =
    one_bears 1 at (Un (wire at) op (only a)) (x ∷ []) bits wide (λ l. is) tt refl (λ l. reads_only o.bears (omega (arith, o.wide))) has

pub flipped_bears : {net : Net} {path : List ℕ} {h : List Event} {a : List WireId} {x : List Bool} {n : ℕ} (at : ℕ) → IsOperand net path h a x n → Gives net path h at (one n (Un (wire at) Not (only a))) (map not x)
flipped_bears {a} {x} {n} at o has =
    one_bears n at (Un (wire at) Not (only a)) (x ∷ []) (map not x) (length-map x not ∙ o.wide) (λ l. refl) tt refl (λ l. reads_only o.bears (omega (arith, o.wide, l))) has

pub copied_bears : {net : Net} {path : List ℕ} {h : List Event} {a : List WireId} {x : List Bool} {n : ℕ} (at : ℕ) → IsOperand net path h a x n → Gives net path h at (copied n at a) x
copied_bears {x} at o has = copy_bears at x o refl o.wide has

-- a part of an operand that has bits for it
pub sliced_bears : {net : Net} {path : List ℕ} {h : List Event} {a : List WireId} {x : List Bool} (l n at : ℕ) (bits : List Bool) → Bears net path h a x → l + n ≤ length x → (0 < n → cut_of (l + n - 1) l x ≡ bits) → length bits ≡ n → Gives net path h at (sliced l n at a) bits
sliced_bears {a} {x} l n at bits bears fits is wide has =
    one_bears n at (Cut (wire at) (only a) (l + n - 1) l) (x ∷ []) bits wide is tt refl (λ some. reads_only bears (omega (arith, fits, some))) has

pub joined_bears : {net : Net} {path : List ℕ} {h : List Event} {a b : List WireId} {x y : List Bool} {n m : ℕ} (at : ℕ) → AreOperands net path h a b x y n m → Gives net path h at (one (n + m) (Join (wire at) (a ++ b))) (x ++ y)
joined_bears {net} {path} {h} {a} {b} {x} {y} {n} {m} at o has =
    let both : flat_map (λ bits. bits) (parts_of x ++ (parts_of y ++ [])) ≡ x ++ y =
    joined_part x (parts_of y ++ []) ∙ ap (λ bits. x ++ bits) (joined_part y [] ∙ append-nil y) in
    let reads : ReadIn net path h (a ++ (b ++ [])) (parts_of x ++ (parts_of y ++ [])) = reads_part (b ++ []) (parts_of y ++ []) o.left.bears (reads_part [] [] o.right.bears (read_none path h)) in
    one_bears (n + m) at (Join (wire at) (a ++ b)) (parts_of x ++ (parts_of y ++ [])) (x ++ y) (omega (arith, length-append x y, o.left.wide, o.right.wide)) (λ l. both) tt refl
    (λ l. subst (λ ws. ReadIn net path h (a ++ ws) (parts_of x ++ (parts_of y ++ []))) (append-nil b) reads) has

-- zeros before an operand with bits
zeros_before : {net : Net} {path : List ℕ} {h : List Event} {a : List WireId} {x : List Bool} (n m at : ℕ) (bits : List Bool) → IsOperand net path h a x (suc n) → zeros (suc m) ++ x ≡ bits → length bits ≡ suc n + suc m
    → Gives net path h at (one (suc m) (Const (wire at) (zeros (suc m))) ▸ one (suc n + suc m) (Join (wire (at + 1)) (wire at ∷ a))) bits
zeros_before {net} {path} {h} {a} {x} n m at bits o is wide has =
    let low = zeros (suc m) in
    let p : Piece = one (suc m) (Const (wire at) low) in
    let q : Piece = one (suc n + suc m) (Join (wire (at + 1)) (wire at ∷ a)) in
    let first : Bears net path h (last_wires at p (length low ∷ [])) low =
    one_bears (suc m) at (Const (wire at) low) [] low (length-replicate (suc m) false) (λ l. refl) tt refl (λ l. read_none path h) (has_first p.cells q.cells has) in
    let place : at + 1 - 1 ≡ at = omega arith in
    let value : ValueIn net path h at low = subst (λ k. ValueIn net path h k low) place (last_bears at p low first (omega (arith, length-replicate (suc m) false))) in
    let given : low ++ (x ++ []) ≡ bits = ap (λ rest. low ++ rest) (append-nil x) ∙ is in
    let reads : ReadIn net path h (wire at ∷ a) (low ∷ x ∷ []) = read_and path h (wire at) a low (x ∷ []) value (reads_all o.bears (omega (arith, o.wide))) in
    then_bears at p q (length bits ∷ []) bits
    (one_bears (suc n + suc m) (at + 1) (Join (wire (at + 1)) (wire at ∷ a)) (low ∷ x ∷ []) bits wide (λ l. given) tt refl (λ l. reads) (has_second p.cells q.cells has))

word_length : (w : ℕ) (z : ℤ) → length (word_of w z) ≡ w
word_length w z = length-bits_of w (residue_of w z)

-- the first bit of a word
first_bit : (n : ℕ) (sign : Bool) (x : List Bool) → length (sign ∷ x) ≡ suc n → cut_of n n (sign ∷ x) ≡ sign ∷ []
first_bit n sign x e =
    let one_bit : n + 1 - n ≡ 1 = omega arith in
    let from : length (sign ∷ x) - 1 - n ≡ 0 = omega (arith, e) in
    (λ i. take (one_bit i) (drop (from i) (sign ∷ x)))

-- copies of the sign before an operand with bits
sign_before : {net : Net} {path : List ℕ} {h : List Event} {a : List WireId} {x : List Bool} (n m at : ℕ) (sign : Bool) (bits : List Bool) → IsOperand net path h a (sign ∷ x) (suc n) → replicate (suc m) sign ++ sign ∷ x ≡ bits → length bits ≡ suc n + suc m
    → Gives net path h at (one 1 (Cut (wire at) (only a) n n) ▸ one (suc n + suc m) (Join (wire (at + 1)) (replicate (suc m) (wire at) ++ a))) bits
sign_before {net} {path} {h} {a} {x} n m at sign bits o is wide has =
    let word = sign ∷ x in
    let some : 0 < length word = omega (arith, o.wide) in
    let p : Piece = one 1 (Cut (wire at) (only a) n n) in
    let q : Piece = one (suc n + suc m) (Join (wire (at + 1)) (replicate (suc m) (wire at) ++ a)) in
    let first : Bears net path h (last_wires at p (1 ∷ [])) (sign ∷ []) =
    one_bears 1 at (Cut (wire at) (only a) n n) (word ∷ []) (sign ∷ []) refl (λ l. first_bit n sign x o.wide) tt refl (λ l. reads_only o.bears some) (has_first p.cells q.cells has) in
    let place : at + 1 - 1 ≡ at = omega arith in
    let value : ValueIn net path h at (sign ∷ []) = subst (λ k. ValueIn net path h k (sign ∷ [])) place (last_bears at p (sign ∷ []) first (omega arith)) in
    let values = replicate (suc m) (sign ∷ []) ++ word ∷ [] in
    let given : flat_map (λ bits. bits) values ≡ bits =
    joined_copies (suc m) sign (word ∷ []) ∙ ap (λ rest. replicate (suc m) sign ++ rest) (append-nil word) ∙ is in
    let reads : ReadIn net path h (replicate (suc m) (wire at) ++ a) values = reads_copies (suc m) (wire at) (sign ∷ []) a (word ∷ []) value (reads_all o.bears some) in
    then_bears at p q (length bits ∷ []) bits
    (one_bears (suc n + suc m) (at + 1) (Join (wire (at + 1)) (replicate (suc m) (wire at) ++ a)) values bits wide (λ l. given) tt refl (λ l. reads) (has_second p.cells q.cells has))

signed_bears : {net : Net} {path : List ℕ} {h : List Event} {a : List WireId} (x : List Bool) (n m at : ℕ) → IsOperand net path h a x (suc n) → Gives net path h at (extended S (suc n) (suc m) at a) (word_of (suc n + suc m) (integer_of S x))
signed_bears [] n m at o has = absurd (omega (arith, o.wide))
signed_bears (sign ∷ x) n m at o has =
    sign_before n m at sign _ o (extended_word S (suc n) (suc m) (replicate (suc m) sign) (sign ∷ x) o.wide (length-replicate (suc m) sign) (signed_copies (suc m) sign x))
    (length-bits_of (suc n + suc m) _) has

-- the word of an operand's integer, with m more bits
pub extended_bears : {net : Net} {path : List ℕ} {h : List Event} {a : List WireId} {x : List Bool} (s : Scalar) (n m at : ℕ) → IsOperand net path h a x n → Gives net path h at (extended s n m at a) (word_of (n + m) (integer_of s x))
extended_bears {x} s n zero at o has =
    let same : n + 0 ≡ n = omega arith in
    copy_bears at (word_of (n + 0) (integer_of s x)) o (same_word s n x o.wide) (length-bits_of (n + 0) _ ∙ same) has
extended_bears {net} {path} {h} {x} s zero (suc m) at o has =
    let same : 0 + suc m ≡ suc m = omega arith in
    let given : zeros (suc m) ≡ word_of (0 + suc m) (integer_of s x) = zeros_alone s (suc m) x o.wide in
    one_bears (suc m) at (Const (wire at) (zeros (suc m))) [] (word_of (0 + suc m) (integer_of s x)) (length-bits_of (0 + suc m) _ ∙ same) (λ l. given) tt refl (λ l. read_none path h) has
extended_bears {x} U (suc n) (suc m) at o has = zeros_before n m at _ o (zeros_word U (suc n) (suc m) x (λ word. refl) o.wide) (length-bits_of (suc n + suc m) _) has
extended_bears {x} B (suc n) (suc m) at o has = zeros_before n m at _ o (zeros_word B (suc n) (suc m) x (λ word. refl) o.wide) (length-bits_of (suc n + suc m) _) has
extended_bears {x} S (suc n) (suc m) at o has = signed_bears x n m at o has

-- both operands are made as wide as the result
pub widened_bears : {net : Net} {path : List ℕ} {h : List Event} {a b : List WireId} {x y : List Bool} (s : Scalar) (op : Op2) (width n k at : ℕ) (bits : List Bool) → n ≤ width → k ≤ width → AreOperands net path h a b x y n k → operator2 op (word_of width (integer_of s x)) (word_of width (integer_of s y)) ≡ bits → length bits ≡ width
    → Gives net path h at (widened s op width n k at a b) bits
widened_bears {net} {path} {h} {a} {b} {x} {y} s op width n k at bits more other o is wide has =
    let p : Piece = extended s n (width - n) at a in
    let q : Piece = extended s k (width - k) (after at p) b in
    let c : ℕ = after (after at p) q in
    let cell : Cell = Bin (wire c) op (last_wire at p) (last_wire (after at p) q) in
    let r : Piece = one width cell in
    let rest : HasCells net path (q.cells ++ r.cells) = has_second p.cells (q.cells ++ r.cells) has in
    let left : n + (width - n) ≡ width = omega (arith, more) in
    let right : k + (width - k) ≡ width = omega (arith, other) in
    let v : List Bool = word_of (n + (width - n)) (integer_of s x) in
    let w : List Bool = word_of (k + (width - k)) (integer_of s y) in
    let given : operator2 op v w ≡ bits = (λ i. operator2 op (word_of (left i) (integer_of s x)) (word_of (right i) (integer_of s y))) ∙ is in
    let reads : 0 < width → ReadIn net path h (last_wire at p ∷ last_wire (after at p) q ∷ []) (v ∷ w ∷ []) =
    λ l. read_and path h (last_wire at p) (last_wire (after at p) q ∷ []) v (w ∷ [])
    (last_bears at p v (extended_bears s n (width - n) at o.left (has_first p.cells (q.cells ++ r.cells) has)) (omega (arith, l, word_length (n + (width - n)) (integer_of s x))))
    (read_and path h (last_wire (after at p) q) [] w []
    (last_bears (after at p) q w (extended_bears s k (width - k) (after at p) o.right (has_first q.cells r.cells rest)) (omega (arith, l, word_length (k + (width - k)) (integer_of s y))))
    (read_none path h)) in
    then_bears at p (q ▸ r) (length bits ∷ []) bits
    (then_bears (after at p) q r (length bits ∷ []) bits
    (one_bears width c cell (v ∷ w ∷ []) bits wide (λ l. given) tt refl reads (has_second q.cells r.cells rest)))
