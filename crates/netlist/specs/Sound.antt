-- What a flat net meets as a module: widths that agree, and one cell for each wire that is no input.
use Rattle.std.specs.Prelude.{◌≡◌, ℕ, ◌+◌, ◌-◌, ◌<◌, ◌≤◌, Bool, List, [], ◌∷◌, length, map, take, sum_by, Option, Some, slice_get, slice_index}
use Rattle.std.specs.List.{AllByRecursion}
use Rattle.chw_base.specs.declared.limits.TheConstants.{ADDRESS_BITS, ARITHMETIC_BITS, FLAT_WIRES, RAM_WORDS, WIRE_BITS}
use Rattle.chw_base.specs.declared.index.WireId.{WireId}
use Rattle.netlist.specs.Feeds.{target}
use Rattle.netlist.specs.declared.net.Cell.{Cell}
use Rattle.netlist.specs.declared.net.Cell.TheVariants.{Const, Copy, Join, Cut, Un, Bin, Mux, Reg, Ram, Use}
use Rattle.netlist.specs.declared.net.Flat.{Flat}
use Rattle.netlist.specs.declared.net.Op1.{Op1}
use Rattle.netlist.specs.declared.net.Op1.TheVariants.{Not}
use Rattle.netlist.specs.declared.net.Op2.{Op2}
use Rattle.netlist.specs.declared.net.Op2.TheVariants.{Add, Sub, Mul, And, Or, Xor, Eq, LtU, LtS, Shl, Shr, Sar}

-- a wire may have this width
abbrev pub IsWireWidth : ℕ → Type 0
IsWireWidth n = (1 ≤ n) × (n ≤ WIRE_BITS)

-- the wire exists, and has this width
abbrev pub HasWidth : List ℕ → WireId → ℕ → Type 0
HasWidth widths w n = slice_get widths w.number ≡ Some n

-- the wire exists
abbrev pub IsWire : List ℕ → WireId → Type 0
IsWire widths w = w.number < length widths

-- the width of wires side by side
abbrev pub width_of_all : List ℕ → List WireId → ℕ
width_of_all widths wires = sum_by (λ w. slice_index widths w.number) wires

-- the result and the operand of an operator on one wire have widths that agree
abbrev pub Fits1 : List ℕ → Op1 → WireId → WireId → Type 0
Fits1 widths Not w a = (n : ℕ) × HasWidth widths w n × HasWidth widths a n
Fits1 widths _ w a = HasWidth widths w 1 × IsWire widths a

-- all three are of one width
abbrev pub AreEqual : List ℕ → WireId → WireId → WireId → Type 0
AreEqual widths w a b = (n : ℕ) × HasWidth widths w n × HasWidth widths a n × HasWidth widths b n

-- all three are of one width, on which arithmetic is done
abbrev pub AreArithmetic : List ℕ → WireId → WireId → WireId → Type 0
AreArithmetic widths w a b = (n : ℕ) × (n ≤ ARITHMETIC_BITS) × HasWidth widths w n × HasWidth widths a n × HasWidth widths b n

-- the operands are of one width, and the result is one bit
abbrev pub AreCompared : List ℕ → WireId → WireId → WireId → Type 0
AreCompared widths w a b = HasWidth widths w 1 × ((n : ℕ) × HasWidth widths a n × HasWidth widths b n)

-- the left operand is as wide as the result, and the right one has any width
abbrev pub AreShifted : List ℕ → WireId → WireId → WireId → Type 0
AreShifted widths w a b = IsWire widths b × ((n : ℕ) × HasWidth widths w n × HasWidth widths a n)

-- the result and the operands of an operator on two wires have widths that agree
abbrev pub Fits2 : List ℕ → Op2 → WireId → WireId → WireId → Type 0
Fits2 widths Add w a b = AreArithmetic widths w a b
Fits2 widths Sub w a b = AreArithmetic widths w a b
Fits2 widths Mul w a b = AreArithmetic widths w a b
Fits2 widths And w a b = AreEqual widths w a b
Fits2 widths Or w a b = AreEqual widths w a b
Fits2 widths Xor w a b = AreEqual widths w a b
Fits2 widths Eq w a b = AreCompared widths w a b
Fits2 widths LtU w a b = AreCompared widths w a b
Fits2 widths LtS w a b = AreCompared widths w a b
Fits2 widths Shl w a b = AreShifted widths w a b
Fits2 widths Shr w a b = AreShifted widths w a b
Fits2 widths Sar w a b = AreShifted widths w a b

-- a RAM has from one word to the most that it may have, as wide as its wire, and addresses of one width
abbrev pub FitsRam : List ℕ → WireId → List (List Bool) → WireId → WireId → WireId → WireId → Type 0
FitsRam widths w words read enable place value =
    (1 ≤ length words) × (length words ≤ RAM_WORDS) × HasWidth widths read ADDRESS_BITS × HasWidth widths enable 1 × HasWidth widths place ADDRESS_BITS
    × ((n : ℕ) × HasWidth widths w n × HasWidth widths value n × AllByRecursion (λ word. length word ≡ n) words)

-- a cell among this many domains and wires of these widths: what it names exists, widths agree, and it is no use
abbrev pub FitsCell : ℕ → List ℕ → Cell → Type 0
FitsCell domains widths (Const w bits) = HasWidth widths w (length bits)
FitsCell domains widths (Copy w a) = (n : ℕ) × HasWidth widths w n × HasWidth widths a n
FitsCell domains widths (Join w parts) = AllByRecursion (IsWire widths) parts × HasWidth widths w (width_of_all widths parts)
FitsCell domains widths (Cut w a high low) =
    (low ≤ high) × HasWidth widths w (high - low + 1) × ((n : ℕ) × (high < n) × HasWidth widths a n)
FitsCell domains widths (Un w op a) = Fits1 widths op w a
FitsCell domains widths (Bin w op a b) = Fits2 widths op w a b
FitsCell domains widths (Mux w c a b) = HasWidth widths c 1 × AreEqual widths w a b
FitsCell domains widths (Reg w domain initial a) =
    (domain.number < domains) × HasWidth widths w (length initial) × HasWidth widths a (length initial)
FitsCell domains widths (Ram w domain words inputs) =
    (domain.number < domains) × FitsRam widths w words inputs.read inputs.enable inputs.place inputs.value
FitsCell domains widths (Use m reads drives) = ⊥

-- of so many wires, each but the first ones, which are inputs, is driven at exactly one place
pub record EachOnce (inputs wires : ℕ) (driven_at : ℕ → Option ℕ) : Type 0 where
  -- no input is driven
  pub free : (place w : ℕ) → driven_at place ≡ Some w → inputs ≤ w
  -- every other wire is driven
  pub driven : (w : ℕ) → inputs ≤ w → w < wires → (place : ℕ) × (driven_at place ≡ Some w)
  -- no wire is driven at two places
  pub once : (p q w : ℕ) → driven_at p ≡ Some w → driven_at q ≡ Some w → p ≡ q

-- the cells drive the wires in order, from this one on
abbrev pub DrivesFrom : ℕ → List Cell → Type 0
DrivesFrom w [] = Unit {0}
DrivesFrom w (cell ∷ cells) = (target cell ≡ Some w) × DrivesFrom (w + 1) cells

-- a flat net that is well formed as a module
pub record Sound (flat : Flat) : Type 0 where
  -- there are at most as many wires as the limit
  pub few : length flat.widths ≤ FLAT_WIRES
  -- a wire has from 1 to 4,096 bits
  pub widths : AllByRecursion IsWireWidth flat.widths
  -- the first wires are the inputs of the ports
  pub inputs : map (λ port. port.width) flat.ports.inputs ≡ take (length flat.ports.inputs) flat.widths
  -- the outputs are wires as wide as those of the ports
  pub outputs : map (λ w. slice_get flat.widths w.number) flat.outputs ≡ map (λ port. Some port.width) flat.ports.outputs
  -- what each cell names exists, and its widths agree
  pub cells : AllByRecursion (FitsCell (length flat.ports.domains) flat.widths) flat.cells
  -- the cells drive the wires that are no inputs, in order, each one
  pub in_order : DrivesFrom (length flat.ports.inputs) flat.cells
  pub all : length flat.ports.inputs + length flat.cells ≡ length flat.widths
