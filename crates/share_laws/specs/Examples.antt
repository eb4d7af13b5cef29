-- Small flat nets: wires that are equal or not, bits that are known, and a shared net.
use Rattle.std.specs.Prelude.{ℕ, List, [], ◌∷◌, ◌++◌, codes, map}
use Rattle.chw_clock.specs.declared.event.Port.{Port}
use Rattle.netlist.specs.Examples.{bit, byte, dom, one_clock, wire}
use Rattle.netlist.specs.declared.net.Cell.{Cell}
use Rattle.netlist.specs.declared.net.Cell.TheVariants.{Const, Copy, Cut, Un, Bin, Mux, Reg}
use Rattle.netlist.specs.declared.net.Flat.{Flat}
use Rattle.netlist.specs.declared.net.Op1.TheVariants.{Not, RedAnd, RedOr}
use Rattle.netlist.specs.declared.net.Op2.TheVariants.{Add}
use Rattle.share_laws.specs.Same.{IsKnown, Same}
use Rattle.share_laws.specs.Shares.{Shares}

abbrev pub port_of : ℕ → Port
port_of width = record { name = codes "x"; dom = dom 0; width = width }

-- a flat net of one domain, with inputs of these widths and other wires of these, with these wires
-- as outputs, each with its width, and with these cells
abbrev pub flat_of : List ℕ → List ℕ → List (ℕ × ℕ) → List Cell → Flat
flat_of inputs widths outputs cells = record {
  ports = record {
    domains = one_clock;
    resets = [];
    inputs = map port_of inputs;
    outputs = map (λ (output : ℕ × ℕ). port_of output.1) outputs;
  };
  widths = inputs ++ widths;
  outputs = map (λ (output : ℕ × ℕ). wire output.0) outputs;
  cells = cells;
}

-- a register of the domain
abbrev pub register : (w initial a : ℕ) → Cell
register w initial a = Reg (wire w) (dom 0) (byte initial) (wire a)

-- twice the same registers and the same operator after them
abbrev pub two_pipelines : Flat
two_pipelines =
    flat_of (8 ∷ []) (8 ∷ 8 ∷ 8 ∷ 8 ∷ 8 ∷ 8 ∷ []) ((5, 8) ∷ (6, 8) ∷ [])
    (register 1 0 0 ∷ register 2 0 0 ∷ Un (wire 3) Not (wire 1) ∷ Un (wire 4) Not (wire 2)
    ∷ register 5 7 3 ∷ register 6 7 4 ∷ [])

abbrev pub PipelinesAreSame : Type 0
PipelinesAreSame = Same two_pipelines 5 6

-- two registers of one wire, whose initial bits are those of 0 and of 1
abbrev pub two_initials : Flat
two_initials =
    flat_of (8 ∷ []) (8 ∷ 8 ∷ []) ((1, 8) ∷ (2, 8) ∷ []) (register 1 0 0 ∷ register 2 1 0 ∷ [])

abbrev pub InitialsDiffer : Type 0
InitialsDiffer = Same two_initials 1 2 → ⊥

-- 1 + 1, and a constant 2
abbrev pub sum_of_constants : Flat
sum_of_constants =
    flat_of [] (8 ∷ 8 ∷ 8 ∷ []) ((1, 8) ∷ (2, 8) ∷ [])
    (Const (wire 0) (byte 1) ∷ Bin (wire 1) Add (wire 0) (wire 0) ∷ Const (wire 2) (byte 2) ∷ [])

abbrev pub SumIsKnown : Type 0
SumIsKnown = IsKnown sum_of_constants 1 (byte 2) × Same sum_of_constants 1 2

-- a choice between two inputs whose condition is a constant 1
abbrev pub known_choice : Flat
known_choice =
    flat_of (8 ∷ 8 ∷ []) (1 ∷ 8 ∷ []) ((3, 8) ∷ [])
    (Const (wire 2) (bit 1) ∷ Mux (wire 3) (wire 2) (wire 0) (wire 1) ∷ [])

abbrev pub ChoiceIsFirst : Type 0
ChoiceIsFirst = Same known_choice 3 0

-- a copy of an input, and a bit of the copy
abbrev pub bit_of_copy : Flat
bit_of_copy =
    flat_of (8 ∷ []) (8 ∷ 1 ∷ []) ((1, 8) ∷ (2, 1) ∷ [])
    (Copy (wire 1) (wire 0) ∷ Cut (wire 2) (wire 1) 0 0 ∷ [])

-- the input itself, and its bit
abbrev pub bit_of_input : Flat
bit_of_input =
    flat_of (8 ∷ []) (1 ∷ []) ((0, 8) ∷ (1, 1) ∷ []) (Cut (wire 1) (wire 0) 0 0 ∷ [])

-- What is shared has the ports of the other. The outputs are named alike here.
abbrev pub CopyGoes : Type 0
CopyGoes = Shares bit_of_copy bit_of_input

-- two counters that are alike: the register of each takes its own number plus 1
abbrev pub two_counters : Flat
two_counters =
    flat_of [] (8 ∷ 8 ∷ 8 ∷ 8 ∷ 8 ∷ []) ((0, 8) ∷ (1, 8) ∷ [])
    (register 0 0 2 ∷ register 1 0 3 ∷ Bin (wire 2) Add (wire 0) (wire 4)
    ∷ Bin (wire 3) Add (wire 1) (wire 4) ∷ Const (wire 4) (byte 1) ∷ [])

-- `Same` is the least equality: the registers would be equal if their sums were, and the sums if
-- the registers were, so neither are.
abbrev pub CountersDiffer : Type 0
CountersDiffer = Same two_counters 0 1 → ⊥

-- so both stay
abbrev pub CountersStay : Type 0
CountersStay = Shares two_counters two_counters

-- a copy before the cell that it copies, and a cell that no output needs
abbrev pub early_copy : Flat
early_copy =
    flat_of (8 ∷ []) (1 ∷ 1 ∷ 1 ∷ []) ((1, 1) ∷ [])
    (Copy (wire 1) (wire 2) ∷ Un (wire 2) RedOr (wire 0) ∷ Un (wire 3) RedAnd (wire 0) ∷ [])

-- the cell that is copied
abbrev pub one_reduction : Flat
one_reduction = flat_of (8 ∷ []) (1 ∷ []) ((1, 1) ∷ []) (Un (wire 1) RedOr (wire 0) ∷ [])

abbrev pub CopiedCellStays : Type 0
CopiedCellStays = Shares early_copy one_reduction
