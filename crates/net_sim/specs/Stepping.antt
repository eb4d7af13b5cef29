-- What a table of a flat net says: which past it stands for, and which event it is settled for.
use Rattle.std.specs.Prelude.{◌≡◌, ℕ, ◌<◌, Bool, List, [], ◌∷◌, length, Some}
use Rattle.std.specs.Prelude.{slice_get, slice_index_or}
use Rattle.chw_base.specs.declared.index.DomId.{DomId}
use Rattle.chw_base.specs.declared.index.WireId.{WireId}
use Rattle.chw_clock.specs.declared.event.Event.{Event}
use Rattle.net_sim.specs.Tables.{given_in, value_in}
use Rattle.netlist.specs.Feeds.{target}
use Rattle.netlist.specs.NetValue.{HasCell, HasRam, Memory, NetValue, WordAt}
use Rattle.netlist.specs.Operators.{KeepsNothing}
use Rattle.netlist.specs.declared.net.Cell.{Cell}
use Rattle.netlist.specs.declared.net.Cell.TheVariants.{Reg}
use Rattle.netlist.specs.declared.net.Flat.{Flat}

-- the word at an address of the RAM that drives the wire of this number
abbrev pub word_in : List (List (List Bool)) → (w address : ℕ) → List Bool
word_in memories w address = value_in (slice_index_or memories w []) address

-- The table stands for these past events: whatever the next event is, each register and each RAM
-- shows what it has there, and each word of each RAM is the one that it has there.
pub record StandsFor (flat : Flat) (table : List (List Bool)) (memories : List (List (List Bool)))
    (past : List Event) : Type 0 where
  pub registers : (present : Event) (w a : WireId) (domain : DomId) (initial : List Bool)
      → HasCell flat (Reg w domain initial a)
      → NetValue flat (present ∷ past) w.number (value_in table w.number)
  pub rams : (present : Event) (w : WireId) (ram : Memory) → HasRam flat w ram
      → NetValue flat (present ∷ past) w.number (value_in table w.number)
  pub words : (present : Event) (w : WireId) (ram : Memory) (address : ℕ) → HasRam flat w ram
      → address < length ram.words
      → WordAt flat ram (present ∷ past) address (word_in memories w.number address)

-- The table is settled for an event: the inputs have its bits, and each cell that keeps nothing
-- has made its wire's bits of what it reads.
pub record Settled (flat : Flat) (table : List (List Bool)) (event : Event) : Type 0 where
  pub inputs : (w : ℕ) → w < length flat.ports.inputs
      → slice_get event.inputs w ≡ Some (value_in table w)
  pub cells : (cell : Cell) (w : ℕ) → HasCell flat cell → KeepsNothing cell
      → target cell ≡ Some w → value_in table w ≡ given_in table cell

-- each wire has the bits of the table at this history
abbrev pub ShowsValues : Flat → List (List Bool) → List Event → Type 0
ShowsValues flat table h =
    (w : ℕ) → w < length flat.widths → NetValue flat h w (value_in table w)
