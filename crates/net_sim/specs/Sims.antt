-- A table of a flat net, in which the net is stepped event by event.
use Rattle.std.specs.Prelude.{◌≡◌, ℕ, Bool, List, length, map}
use Rattle.chw_clock.specs.declared.event.Event.{Event}
use Rattle.net_sim.specs.Stepping.{Settled, ShowsValues, StandsFor, word_in}
use Rattle.net_sim.specs.Steps.{HaveConstants, HaveSteps}
use Rattle.net_sim.specs.Tables.{value_in}
use Rattle.net_sim.specs.Ticking.{HaveKeepers, HaveSizes, MemoriesFit}
use Rattle.net_sim.specs.declared.sim.Sim.{Sim}
use Rattle.netlist.specs.NetValue.{ReadValues}
use Rattle.netlist.specs.Orders.{IsOrder}
use Rattle.netlist.specs.Sound.{Sound}

-- the bits of the wire of this number
abbrev pub value_of : Sim → ℕ → List Bool
value_of sim w = value_in sim.words.items w

-- the word at an address of the RAM that drives the wire of this number
abbrev pub word_of : Sim → (w address : ℕ) → List Bool
word_of sim w address = word_in sim.memories.items w address

-- the table stands for these past events
abbrev pub SimStandsFor : Sim → List Event → Type 0
SimStandsFor sim past = StandsFor sim.flat.now sim.words.items sim.memories.items past

-- the table is settled for the event
abbrev pub IsSettledFor : Sim → Event → Type 0
IsSettledFor sim event = Settled sim.flat.now sim.words.items event

-- each wire has the bits of the table at this history
abbrev pub SimShows : Sim → List Event → Type 0
SimShows sim h = ShowsValues sim.flat.now sim.words.items h

-- the outputs have the bits of the table at this history
abbrev pub SimGives : Sim → List Event → Type 0
SimGives sim h = ReadValues sim.flat.now h sim.flat.now.outputs sim.outputs.items

-- The net is sound, the order is one of its cells, and there is a step for each of them. The table
-- has words of the wires' widths with the bits of all constants, a memory for each RAM, and bits of
-- the outputs' widths.
pub record IsTable (sim : Sim) : Type 0 where
  pub sound : Sound sim.flat.now
  pub order : IsOrder sim.flat.now sim.order.now.cells
  pub steps : HaveSteps sim.flat.now sim.order.now.cells sim.steps.items
  pub keepers : HaveKeepers sim.flat.now sim.keepers.items (length sim.flat.now.cells)
  pub widths : map length sim.words.items ≡ sim.flat.now.widths
  pub constants : HaveConstants sim.flat.now sim.words.items
  pub next : map length sim.next.items ≡ map length sim.words.items
  pub memories : MemoriesFit sim.words.items sim.memories.items
  pub sizes : HaveSizes sim.flat.now sim.memories.items
  pub room : length sim.room.items ≡ 8192
  pub outputs : map length sim.outputs.items ≡ map (λ port. port.width) sim.flat.now.ports.outputs
