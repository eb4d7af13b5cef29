-- Which cells steps stand for, and what the wires have on which they rest.
use Rattle.std.specs.Prelude.{◌≡◌, ℕ, ◌+◌, ◌-◌, ◌<◌, ◌≤◌, ◌^◌, Bool, List, length, map, Some}
use Rattle.std.specs.Prelude.{slice_get, slice_index, slice_index_or}
use Rattle.chw_base.specs.declared.index.WireId.{WireId}
use Rattle.net_sim.specs.Tables.{given_in, value_in}
use Rattle.net_sim.specs.declared.step.Step.{Step}
use Rattle.net_sim.specs.declared.step.Step.TheVariants.{Rest, Whole, Move, Choose, Two, Flip}
use Rattle.net_sim.specs.declared.step.Step.TheVariants.{Part}
use Rattle.netlist.specs.Feeds.{target}
use Rattle.netlist.specs.NetValue.{HasCell}
use Rattle.netlist.specs.Operators.{KeepsNothing}
use Rattle.netlist.specs.Sound.{IsWire}
use Rattle.netlist.specs.declared.net.Cell.{Cell}
use Rattle.netlist.specs.declared.net.Cell.TheVariants.{Const, Cut, Un, Bin, Mux, Reg, Ram, Use}
use Rattle.netlist.specs.declared.net.Flat.{Flat}
use Rattle.netlist.specs.declared.net.Op1.TheVariants.{Not}
use Rattle.netlist.specs.declared.net.Op2.{Op2}
use Rattle.netlist.specs.declared.net.Op2.TheVariants.{LtS, Shl, Shr, Sar}

-- the wires of constants have their bits
abbrev pub HaveConstants : Flat → List (List Bool) → Type 0
HaveConstants flat table =
    (w : WireId) (bits : List Bool) → HasCell flat (Const w bits) → value_in table w.number ≡ bits

-- the wire of the cell has its bits, if the cell is a constant
abbrev pub IsHeld : List (List Bool) → Cell → Type 0
IsHeld table cell =
    (w : WireId) (bits : List Bool) → cell ≡ Const w bits → value_in table w.number ≡ bits

-- the cell is a constant, or keeps something
abbrev pub Rests : Cell → Type 0
Rests (Const w bits) = Unit {0}
Rests (Reg w domain initial a) = Unit {0}
Rests (Ram w domain words inputs) = Unit {0}
Rests (Use m reads drives) = Unit {0}
Rests _ = ⊥

-- the operator is one that a step has
abbrev pub IsQuick : Op2 → Type 0
IsQuick LtS = ⊥
IsQuick Shl = ⊥
IsQuick Shr = ⊥
IsQuick Sar = ⊥
IsQuick _ = Unit {0}

-- the wire has at most 64 bits
abbrev pub IsSmall : List ℕ → WireId → Type 0
IsSmall widths w = slice_index widths w.number ≤ 64

-- just the lowest bits are set, as many as the wire has
abbrev pub IsMaskOf : List ℕ → WireId → ℕ → Type 0
IsMaskOf widths w mask = mask ≡ 2 ^ slice_index widths w.number - 1

-- the cell gives its wire the bits of another
pub record IsMove (widths : List ℕ) (cell : Cell) (to from : WireId) : Type 0 where
  pub small : IsSmall widths to
  pub there : IsWire widths from
  pub keeps : KeepsNothing cell
  pub drives : target cell ≡ Some to.number
  pub gives : (table : List (List Bool)) → map length table ≡ widths
      → given_in table cell ≡ value_in table from.number

-- all wires are small, the operator is one that a step has, and the mask has the left one's width
pub record IsTwo (widths : List ℕ) (to : WireId) (op : Op2) (left right : WireId) (mask : ℕ)
    : Type 0 where
  pub small : IsSmall widths to
  pub small_left : IsSmall widths left
  pub small_right : IsSmall widths right
  pub quick : IsQuick op
  pub masks : IsMaskOf widths left mask

-- both wires are small, and the mask has the width of the part
pub record IsPart (widths : List ℕ) (to from : WireId) (high low mask : ℕ) : Type 0 where
  pub small : IsSmall widths to
  pub small_from : IsSmall widths from
  pub masks : mask ≡ 2 ^ (high + 1 - low) - 1

-- the step does to a table what the cell does
abbrev pub IsStepOf : List ℕ → Cell → Step → Type 0
IsStepOf widths cell Rest = Rests cell
IsStepOf widths cell Whole = Unit {0}
IsStepOf widths cell (Move to from) = IsMove widths cell to from
IsStepOf widths cell (Choose to on first second) =
    (cell ≡ Mux to on first second) × IsSmall widths to
IsStepOf widths cell (Two to op left right mask) =
    (cell ≡ Bin to op left right) × IsTwo widths to op left right mask
IsStepOf widths cell (Flip to from mask) =
    (cell ≡ Un to Not from) × IsSmall widths to × IsMaskOf widths to mask
IsStepOf widths cell (Part to from low mask) =
    (high : ℕ) × (cell ≡ Cut to from high low) × IsPart widths to from high low mask

-- there is a step for each of the first places
pub record StepsBefore (flat : Flat) (places : List ℕ) (steps : List Step) (limit : ℕ)
    : Type 0 where
  pub count : length steps ≡ limit
  pub each : (k : ℕ) (none : Step) (cell : Cell) → k < limit
      → slice_get flat.cells (slice_index places k) ≡ Some cell
      → IsStepOf flat.widths cell (slice_index_or steps k none)

-- there is a step for each place
abbrev pub HaveSteps : Flat → List ℕ → List Step → Type 0
HaveSteps flat places steps = StepsBefore flat places steps (length places)
