-- Which words operators take.
use Rattle.std.specs.Prelude.{◌≡◌, ℕ, ◌<◌, ◌≤◌, Bool, false, ◌&&◌, ◌||◌, List, length}
use Rattle.chw_bits.specs.Bitwise.{differ}
use Rattle.chw_bits.specs.Bits.{number_of}
use Rattle.net_sim.specs.Tables.{value_in}
use Rattle.netlist.specs.declared.net.Cell.{Cell}
use Rattle.netlist.specs.declared.net.Cell.TheVariants.{Cut, Un, Bin}
use Rattle.netlist.specs.declared.net.Op2.{Op2}
use Rattle.netlist.specs.declared.net.Op2.TheVariants.{Add, Sub, Mul, And, Or, Xor, Shl, Shr, Sar}

-- the words are of one width, unless one is shifted by the other
abbrev pub Suit : Op2 → List Bool → List Bool → Type 0
Suit Shl left right = Unit {0}
Suit Shr left right = Unit {0}
Suit Sar left right = Unit {0}
Suit _ left right = length left ≡ length right

-- what an operator makes of two bits
abbrev pub bit_of_two : Op2 → Bool → Bool → Bool
bit_of_two And x y = x && y
bit_of_two Or x y = x || y
bit_of_two Xor x y = differ x y
bit_of_two _ x y = false

-- the operator is a sum, a difference or a product
abbrev pub IsArithmetic : Op2 → Type 0
IsArithmetic Add = Unit {0}
IsArithmetic Sub = Unit {0}
IsArithmetic Mul = Unit {0}
IsArithmetic _ = ⊥

-- the operator is no sum, difference or product, and one of the words that it takes is wide
pub record IsWide (op : Op2) (left right : List Bool) : Type 0 where
  pub kind : IsArithmetic op → ⊥
  pub one : length left ≤ 128 → length right ≤ 128 → ⊥

-- the number of these bits, which are at most 128
pub record IsNumberOf (bits : List Bool) (n : ℕ) : Type 0 where
  pub number : n ≡ number_of bits
  pub narrow : length bits ≤ 128

-- the cell is no sum, difference or product, and one of the words that it is an operator on, or
-- the one that it is cut from, is wide
abbrev pub IsOfWide : List (List Bool) → Cell → Type 0
IsOfWide table (Cut w a high low) = 128 < length (value_in table a.number)
IsOfWide table (Un w op a) = 128 < length (value_in table a.number)
IsOfWide table (Bin w op a b) = IsWide op (value_in table a.number) (value_in table b.number)
IsOfWide table _ = Unit {0}
