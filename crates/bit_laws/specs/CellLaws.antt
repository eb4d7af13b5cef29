-- What is said of the bits of cells: a wire has the bits of a word, and what a cell gives.
use Rattle.std.specs.Prelude.{◌≡◌, ℕ, Bool, List, [], ◌∷◌, Some}
use Rattle.chw_base.specs.declared.index.WireId.{WireId}
use Rattle.chw_clock.specs.declared.event.Event.{Event}
use Rattle.netlist.specs.Feeds.{target}
use Rattle.netlist.specs.NetValue.{HasCell}
use Rattle.netlist.specs.Operators.{operator}
use Rattle.netlist.specs.Sound.{Sound}
use Rattle.netlist.specs.Wires.{read_by}
use Rattle.netlist.specs.declared.net.Cell.{Cell}
use Rattle.netlist.specs.declared.net.Cell.TheVariants.{Const, Copy, Join, Cut, Un, Bin, Mux}
use Rattle.netlist.specs.declared.net.Flat.{Flat}
use Rattle.netlist.specs.declared.net.Op1.TheVariants.{Not, RedAnd, RedOr, RedXor}
use Rattle.netlist.specs.declared.net.Op2.TheVariants.{Add, Sub, Mul, And, Or, Xor, Eq, LtU, LtS}
use Rattle.netlist.specs.declared.net.Op2.TheVariants.{Shl, Shr, Sar}
use Rattle.bit_laws.specs.Bitnet.{HaveBits}
use Rattle.bit_laws.specs.Blast.{blast, word}

-- at the history the names of a wire's bits have these bits, in the net of single bits
abbrev pub HasWord : Flat → List Event → ℕ → List Bool → Type 0
HasWord flat h w bits = HaveBits flat.ports (blast flat) h (word flat w) bits

-- the same of wires, one by one
abbrev pub HaveWords : Flat → List Event → List WireId → List (List Bool) → Type 0
HaveWords flat h [] [] = Unit {0}
HaveWords flat h (w ∷ wires) (bits ∷ values) =
    HasWord flat h w.number bits × HaveWords flat h wires values
HaveWords flat h _ _ = ⊥

-- where all that the cell reads has its bits, its wire has the bits that its operator makes of them
abbrev pub GivesBits : Flat → List Event → Cell → Type 0
GivesBits flat h cell =
    (w : ℕ) (values : List (List Bool)) → target cell ≡ Some w
    → HaveWords flat h (read_by cell) values
    → HasWord flat h w (operator cell values)

-- in a sound flat net the cells of one kind do so
abbrev pub AllGiveBits : (Cell → Type 0) → Type 0
AllGiveBits Kind =
    (flat : Flat) (h : List Event) (cell : Cell) → Sound flat → HasCell flat cell → Kind cell
    → GivesBits flat h cell

-- the cell is a constant, or moves bits
abbrev pub IsWiring : Cell → Type 0
IsWiring (Const w bits) = Unit {0}
IsWiring (Copy w a) = Unit {0}
IsWiring (Join w parts) = Unit {0}
IsWiring (Cut w a high low) = Unit {0}
IsWiring _ = ⊥

-- it works bit by bit, or chooses
abbrev pub IsLogic : Cell → Type 0
IsLogic (Un w Not a) = Unit {0}
IsLogic (Bin w And a b) = Unit {0}
IsLogic (Bin w Or a b) = Unit {0}
IsLogic (Bin w Xor a b) = Unit {0}
IsLogic (Mux w c a b) = Unit {0}
IsLogic _ = ⊥

-- it makes one bit of all bits of a word
abbrev pub IsReduction : Cell → Type 0
IsReduction (Un w RedAnd a) = Unit {0}
IsReduction (Un w RedOr a) = Unit {0}
IsReduction (Un w RedXor a) = Unit {0}
IsReduction _ = ⊥

-- it adds or subtracts
abbrev pub IsSum : Cell → Type 0
IsSum (Bin w Add a b) = Unit {0}
IsSum (Bin w Sub a b) = Unit {0}
IsSum _ = ⊥

-- it compares words
abbrev pub IsComparison : Cell → Type 0
IsComparison (Bin w Eq a b) = Unit {0}
IsComparison (Bin w LtU a b) = Unit {0}
IsComparison (Bin w LtS a b) = Unit {0}
IsComparison _ = ⊥

-- it multiplies
abbrev pub IsProduct : Cell → Type 0
IsProduct (Bin w Mul a b) = Unit {0}
IsProduct _ = ⊥

-- it moves a word by a number of places
abbrev pub IsShift : Cell → Type 0
IsShift (Bin w Shl a b) = Unit {0}
IsShift (Bin w Shr a b) = Unit {0}
IsShift (Bin w Sar a b) = Unit {0}
IsShift _ = ⊥
