-- What the cells make of bits: the operators of IEEE 1364-2005, clause 5.1, over two values.
use Rattle.std.specs.Prelude.{◌%◌, ◌^◌, ◌==◌, nat_lt, int_lt, pos, ◌+ℤ◌, ◌-ℤ◌, ◌*ℤ◌}
use Rattle.std.specs.Prelude.{Bool, not, ◌&&◌, ◌||◌, if◌then◌else◌}
use Rattle.std.specs.Prelude.{List, [], ◌∷◌, map, count_by, flat_map, length}
use Rattle.std.specs.Int.{int_div_euclid}
use Rattle.std.specs.List.{list_all, list_any}
use Rattle.chw_bits.specs.Bits.{cut_of, number_of}
use Rattle.chw_bits.specs.Bitwise.{bit_by_bit, differ, one_bit}
use Rattle.chw_bits.specs.Integers.{signed, word_of}
use Rattle.netlist.specs.declared.net.Cell.{Cell}
use Rattle.netlist.specs.declared.net.Cell.TheVariants.{Const, Copy, Join, Cut, Un, Bin, Mux, Reg}
use Rattle.netlist.specs.declared.net.Cell.TheVariants.{Ram, Use}
use Rattle.netlist.specs.declared.net.Op1.{Op1}
use Rattle.netlist.specs.declared.net.Op1.TheVariants.{Not, RedAnd, RedOr, RedXor}
use Rattle.netlist.specs.declared.net.Op2.{Op2}
use Rattle.netlist.specs.declared.net.Op2.TheVariants.{Add, Sub, Mul, And, Or, Xor, Eq, LtU, LtS}
use Rattle.netlist.specs.declared.net.Op2.TheVariants.{Shl, Shr, Sar}

-- `~`, and the reductions `&`, `|` and `^`, of a word
abbrev pub operator1 : Op1 → List Bool → List Bool
operator1 Not x = map not x
operator1 RedAnd x = one_bit (list_all (λ bit. bit) x)
operator1 RedOr x = one_bit (list_any (λ bit. bit) x)
operator1 RedXor x = one_bit (count_by (λ bit. bit) x % 2 == 1)

-- `+ - * & | ^ == <`, `<` of signed words, `<< >>`, and `>>>` of a signed word. What is computed
-- as an integer is cut to the width of the left word.
abbrev pub operator2 : Op2 → List Bool → List Bool → List Bool
operator2 Add x y = word_of (length x) (pos (number_of x) +ℤ pos (number_of y))
operator2 Sub x y = word_of (length x) (pos (number_of x) -ℤ pos (number_of y))
operator2 Mul x y = word_of (length x) (pos (number_of x) *ℤ pos (number_of y))
operator2 And x y = bit_by_bit (λ a b. a && b) x y
operator2 Or x y = bit_by_bit (λ a b. a || b) x y
operator2 Xor x y = bit_by_bit differ x y
operator2 Eq x y = one_bit (number_of x == number_of y)
operator2 LtU x y = one_bit (nat_lt (number_of x) (number_of y))
operator2 LtS x y = one_bit (int_lt (signed x) (signed y))
operator2 Shl x y = word_of (length x) (pos (number_of x) *ℤ pos (2 ^ number_of y))
operator2 Shr x y = word_of (length x) (int_div_euclid (pos (number_of x)) (pos (2 ^ number_of y)))
operator2 Sar x y = word_of (length x) (int_div_euclid (signed x) (pos (2 ^ number_of y)))

-- what a cell that keeps nothing gives for the bits of the wires that it reads, in order
abbrev pub operator : Cell → List (List Bool) → List Bool
operator (Const w bits) values = bits
operator (Copy w a) (x ∷ []) = x
operator (Join w parts) values = flat_map (λ bits. bits) values
operator (Cut w a high low) (x ∷ []) = cut_of high low x
operator (Un w op a) (x ∷ []) = operator1 op x
operator (Bin w op a b) (x ∷ y ∷ []) = operator2 op x y
operator (Mux w c a b) (on ∷ x ∷ y ∷ []) = if number_of on == 1 then x else y
operator _ _ = []

-- the cell has its bits from what it reads in the same event: it is no register, RAM or use
abbrev pub KeepsNothing : Cell → Type 0
KeepsNothing (Reg w domain initial a) = ⊥
KeepsNothing (Ram w domain words inputs) = ⊥
KeepsNothing (Use m reads drives) = ⊥
KeepsNothing _ = Unit {0}
