-- What is counted and summed up of a program that is compiled and simulated.
use Rattle.std.specs.Prelude.{◌≡◌, ℕ, ◌≤◌, ◌%◌, ◌^◌, Bool, true, false, List, [], length}
use Rattle.std.specs.Prelude.{Some, count_by, slice_get}
use Rattle.chw_clock.specs.declared.event.Event.{Event}
use Rattle.chw_clock.specs.declared.event.Port.{Port}
use Rattle.chw_clock.specs.declared.event.Ports.{Ports}
use Rattle.chw_terms.specs.declared.program.Program.{Program}
use Rattle.answers.specs.Compilation.Compiling.{CompilesTo, HasCounts}
use Rattle.netlist.specs.declared.net.Cell.{Cell}
use Rattle.netlist.specs.declared.net.Cell.TheVariants.{Reg}
use Rattle.netlist.specs.declared.net.Flat.{Flat}
use Rattle.netlist.specs.declared.net.Net.{Net}
use Rattle.answers.specs.SimAnswer.Simulation.{IsStimulus, MeantAt}
use Rattle.answers.specs.MakeAnswer.Sums.{odd_sum}
use Rattle.answers.specs.declared.make_answer.tally.Tally.{Tally}

-- the cell is a register
abbrev pub is_register : Cell → Bool
is_register (Reg w domain initial a) = true
is_register _ = false

-- how many cells of the flat net are registers
abbrev pub registers_of : Flat → ℕ
registers_of flat = count_by is_register flat.cells

-- the program is compiled to a net and a flat net, by so many steps that end in a state of so many
-- made definitions; the flat net has so many cells, and so many of them are registers
pub record IsCounted (p : Program) (budget : ℕ) (tally : Tally) : Type 0 where
  pub counts : HasCounts p budget tally.rewrites tally.definitions
  pub net : Net
  pub flat : Flat
  pub compiles : CompilesTo p budget net flat
  pub cells : tally.cells ≡ length flat.cells
  pub registers : tally.registers ≡ registers_of flat

-- the text is a stimulus of values for the program, and the bits of what the program means at the
-- first output have this sum at the events of odd number, modulo 2 to the 64
pub record IsSummed (p : Program) (text : List ℕ) (sum : ℕ) : Type 0 where
  pub ports : Ports
  pub events : List Event
  pub stimulus : IsStimulus p text ports events
  pub outputs : List (List (List Bool))
  pub meant : MeantAt p (length ports.outputs) [] events outputs
  pub sum_is : sum ≡ odd_sum outputs % 2 ^ 64

-- the first output, if there is one, has at most 32 bits
abbrev pub IsNarrow : Ports → Type 0
IsNarrow ports = (port : Port) → slice_get ports.outputs 0 ≡ Some port → port.width ≤ 32

-- both
pub record IsTally (p : Program) (budget : ℕ) (text : List ℕ) (tally : Tally) : Type 0 where
  pub counted : IsCounted p budget tally
  pub summed : IsSummed p text tally.sum
