-- The number of what an operator makes, from the bits that a word of the machine has.
use Rattle.std.proofs.Common.{◌≡◌, ℕ, ◌+◌, ◌*◌, ◌<◌, ◌≤◌, ◌^◌, ◌&&◌, ◌||◌, Bool, not, List, [], ◌∷◌, ◌++◌, length, take, get_or, sym, ap, ◌∙◌, arith}
use Rattle.std.specs.Prelude.{flat_map}
use Rattle.std.proofs.lemmas.List.{append-nil, length-map, map_more}
use Rattle.std.proofs.lemmas.List.Concat.{flat_map-append}
use Rattle.chw_base.specs.declared.index.WireId.{WireId}
use Rattle.chw_bits.specs.Bits.{bits_of, number_of}
use Rattle.chw_bits.specs.Bitwise.{differ}
use Rattle.chw_bits.proofs.Numbers.{length-bits_of, number_of-append}
use Rattle.chw_bits.proofs.WordResults.{number_kept}
use Rattle.netlist.specs.Operators.{operator1, operator2}
use Rattle.netlist.specs.declared.net.Op1.{Op1}
use Rattle.netlist.specs.declared.net.Op1.TheVariants.{Not, RedAnd, RedOr, RedXor}
use Rattle.netlist.specs.declared.net.Op2.{Op2}
use Rattle.netlist.specs.declared.net.Op2.TheVariants.{Add, Sub, Mul, And, Or, Xor, Eq, LtU, LtS, Shl, Shr, Sar}
use Rattle.net_sim.specs.Operands.{Suit}
use Rattle.net_sim.specs.Tables.{value_in, values_in}
use Rattle.net_sim.proofs.BitLists.{length-bit_by_bit}
use Rattle.net_sim.proofs.Keeping.{number_from_bits}

-- the bits of a word of the machine are those of the word that it is the number of
read_bits : (w a : ℕ) (x : List Bool) → w ≡ length x → x ≡ bits_of (length x) a → bits_of w a ≡ x
read_bits w a x width is = ap (λ k. bits_of k a) width ∙ sym is

pub from_word : (F : ℕ → List Bool → List Bool) (w n a : ℕ) (x : List Bool) → w ≡ length x → x ≡ bits_of (length x) a
    → bits_of w n ≡ F w (bits_of w a) → n < 2 ^ w → n ≡ number_of (F (length x) x)
from_word F w n a x width is bits below =
    number_from_bits w n (F (length x) x)
    (bits ∙ ap (λ k. F k (bits_of w a)) width ∙ ap (F (length x)) (read_bits w a x width is)) below

pub from_words : (F : ℕ → List Bool → List Bool → List Bool) (w n a b : ℕ) (x y : List Bool) → w ≡ length x → length x ≡ length y
    → x ≡ bits_of (length x) a → y ≡ bits_of (length y) b → bits_of w n ≡ F w (bits_of w a) (bits_of w b) → n < 2 ^ w
    → n ≡ number_of (F (length x) x y)
from_words F w n a b x y width same left right bits below =
    number_from_bits w n (F (length x) x y)
    (bits ∙ ap (λ k. F k (bits_of w a) (bits_of w b)) width
    ∙ ap (λ u. F (length x) u (bits_of w b)) (read_bits w a x width left)
    ∙ ap (F (length x) x) (read_bits w b y (width ∙ same) right)) below

-- the bits of wires side by side, with one wire more
pub join_more : (table : List (List Bool)) (parts : List WireId) (i : ℕ) (d : WireId) → i < length parts
    → flat_map (λ bits. bits) (values_in table (take (i + 1) parts))
    ≡ flat_map (λ bits. bits) (values_in table (take i parts)) ++ value_in table (get_or parts i d).number
join_more table parts i d lt =
    ap (flat_map (λ bits. bits)) (map_more (λ (w : WireId). value_in table w.number) parts i d lt)
    ∙ flat_map-append (λ bits. bits) (values_in table (take i parts)) (value_in table (get_or parts i d).number ∷ [])
    ∙ ap (λ bits. flat_map (λ bits. bits) (values_in table (take i parts)) ++ bits) (append-nil (value_in table (get_or parts i d).number))

-- the number of bits with a word after them
pub number_more : (width n more b r : ℕ) (front x : List Bool) → n ≡ number_of front → n < 2 ^ width → more ≡ length x → x ≡ bits_of (length x) b
    → bits_of (width + more) r ≡ bits_of width n ++ bits_of more b → r < 2 ^ (width + more) → r ≡ number_of (front ++ x)
number_more width n more b r front x is below wide is_x bits whole =
    number_from_bits (width + more) r (bits_of width n ++ bits_of more b) bits whole
    ∙ ap (λ low. number_of (bits_of width n ++ low)) (read_bits more b x wide is_x)
    ∙ number_of-append (bits_of width n) x
    ∙ ap (λ k. k * 2 ^ length x + number_of x) (number_kept width n below ∙ is)
    ∙ sym (number_of-append front x)

-- what an operator makes of a narrow word is narrow
pub operator1_narrow : (op : Op1) (x : List Bool) → length x ≤ 128 → length (operator1 op x) ≤ 128
operator1_narrow Not x le = omega (arith, length-map x not)
operator1_narrow RedAnd x le = omega arith
operator1_narrow RedOr x le = omega arith
operator1_narrow RedXor x le = omega arith

made_narrow : (n m : ℕ) → n ≤ 128 → length (bits_of n m) ≤ 128
made_narrow n m le = omega (arith, length-bits_of n m)

pub operator2_narrow : (op : Op2) (x y : List Bool) → Suit op x y → length x ≤ 128 → length (operator2 op x y) ≤ 128
operator2_narrow Add x y suit le = made_narrow (length x) _ le
operator2_narrow Sub x y suit le = made_narrow (length x) _ le
operator2_narrow Mul x y suit le = made_narrow (length x) _ le
operator2_narrow And x y suit le = omega (arith, length-bit_by_bit (λ a b. a && b) x y suit)
operator2_narrow Or x y suit le = omega (arith, length-bit_by_bit (λ a b. a || b) x y suit)
operator2_narrow Xor x y suit le = omega (arith, length-bit_by_bit differ x y suit)
operator2_narrow Eq x y suit le = omega arith
operator2_narrow LtU x y suit le = omega arith
operator2_narrow LtS x y suit le = omega arith
operator2_narrow Shl x y suit le = made_narrow (length x) _ le
operator2_narrow Shr x y suit le = made_narrow (length x) _ le
operator2_narrow Sar x y suit le = made_narrow (length x) _ le
