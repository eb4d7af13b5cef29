-- What an event changes: what registers and RAMs show after it, and the words of RAMs.
use Rattle.std.specs.Prelude.{◌≡◌, ℕ, ◌<◌, ◌==◌, ◌&&◌, Bool, true, List, [], length, Some}
use Rattle.std.specs.Prelude.{◌+◌, ◌≤◌, zero, suc, slice_get, slice_index}
use Rattle.std.specs.Prelude.{if◌then◌else◌, nat_lt, slice_index_or, slice_set}
use Rattle.chw_base.specs.declared.index.WireId.{WireId}
use Rattle.chw_bits.specs.Bits.{number_of}
use Rattle.chw_clock.specs.Histories.{resets, ticks}
use Rattle.chw_clock.specs.declared.event.Event.{Event}
use Rattle.net_sim.specs.Tables.{value_in}
use Rattle.netlist.specs.Feeds.{target}
use Rattle.netlist.specs.NetValue.{HasCell, HasRam, Memory, zeros}
use Rattle.netlist.specs.declared.net.Cell.{Cell}
use Rattle.netlist.specs.declared.net.Cell.TheVariants.{Reg, Ram}
use Rattle.netlist.specs.declared.net.Flat.{Flat}

-- the cell is a register or a RAM whose domain ticks
abbrev pub Moves : Event → Cell → Type 0
Moves event (Reg w domain initial a) = ticks event domain ≡ true
Moves event (Ram w domain words inputs) = ticks event domain ≡ true
Moves event _ = ⊥

-- the cell is a RAM whose domain ticks
abbrev pub MovesWords : Event → Cell → Type 0
MovesWords event (Ram w domain words inputs) = ticks event domain ≡ true
MovesWords event _ = ⊥

-- the word at an address of a memory, and zeros where there is none
abbrev pub shown_word : (memory : List (List Bool)) (address width : ℕ) → List Bool
shown_word memory address width =
    if nat_lt address (length memory) then value_in memory address else zeros width

-- what a register or a RAM shows after an event in which it moves
abbrev pub moved_bits : Event → List (List Bool) → List (List (List Bool)) → Cell → List Bool
moved_bits event table memories (Reg w domain initial a) =
    if resets event domain then initial else value_in table a.number
moved_bits event table memories (Ram w domain words inputs) =
    shown_word (slice_index_or memories w.number []) (number_of (value_in table inputs.read.number))
    (length (value_in table w.number))
moved_bits event table memories _ = []

-- the words of a memory after a write: none is changed without enable, or if none is at the place
abbrev pub written_words : (enable place value : List Bool) → List (List Bool) → List (List Bool)
written_words enable place value memory =
    if number_of enable == 1 && nat_lt (number_of place) (length memory)
    then slice_set memory (number_of place) value else memory

-- the words of a RAM after an event in which it moves
abbrev pub moved_words : List (List Bool) → Cell → List (List Bool) → List (List Bool)
moved_words table (Ram w domain words inputs) memory =
    written_words (value_in table inputs.enable.number) (value_in table inputs.place.number)
    (value_in table inputs.value.number) memory
moved_words table _ memory = memory

-- Cells of one kind write what is theirs into a list, by the wires that they drive.

-- the cell has written its item, if it is of the kind, and no other is changed
pub record Writes (X : Type 0) (none : X) (Kind : Cell → Type 0) (made : ℕ → Cell → X → X)
    (cell : Cell) (old new : List X) : Type 0 where
  pub item : Kind cell → (w : ℕ) → target cell ≡ Some w
      → new ≡ slice_set old w (made w cell (slice_index_or old w none))
  pub stays : (Kind cell → ⊥) → new ≡ old

-- the cells before a place have written theirs, and no other is changed
pub record WrittenBefore (X : Type 0) (none : X) (Kind : Cell → Type 0) (made : ℕ → Cell → X → X)
    (flat : Flat) (old new : List X) (i : ℕ) : Type 0 where
  pub items : (j w : ℕ) (cell : Cell) → j < i → slice_get flat.cells j ≡ Some cell → Kind cell
      → target cell ≡ Some w
      → slice_index_or new w none ≡ made w cell (slice_index_or old w none)
  pub others : (w : ℕ)
      → ((j : ℕ) (cell : Cell) → j < i → slice_get flat.cells j ≡ Some cell → Kind cell
      → target cell ≡ Some w → ⊥)
      → slice_index_or new w none ≡ slice_index_or old w none

-- There is a memory for each wire of the table, and its words have the wire's width.
pub record MemoriesFit (table : List (List Bool)) (memories : List (List (List Bool))) : Type 0
  where
    pub count : length memories ≡ length table
    pub widths : (w address : ℕ) → address < length (slice_index_or memories w [])
        → length (value_in (slice_index_or memories w []) address) ≡ length (value_in table w)

-- The memory of each RAM of the net has as many words as the RAM.
abbrev pub HaveSizes : Flat → List (List (List Bool)) → Type 0
HaveSizes flat memories =
    (w : WireId) (ram : Memory) → HasRam flat w ram
    → length (slice_index_or memories w.number []) ≡ length ram.words

-- what an event did to a table and its memories:
-- registers and RAMs that move show what they took, and the others stay
pub record Stepped (flat : Flat) (event : Event) (table : List (List Bool))
    (memories : List (List (List Bool))) (table' : List (List Bool))
    (memories' : List (List (List Bool))) : Type 0 where
  pub moved : (cell : Cell) (w : ℕ) → HasCell flat cell → Moves event cell
      → target cell ≡ Some w → value_in table' w ≡ moved_bits event table memories cell
  pub stays : (cell : Cell) (w : ℕ) → HasCell flat cell → (Moves event cell → ⊥)
      → target cell ≡ Some w → value_in table' w ≡ value_in table w
  pub words : (cell : Cell) (w : ℕ) → HasCell flat cell → MovesWords event cell
      → target cell ≡ Some w
      → slice_index_or memories' w [] ≡ moved_words table cell (slice_index_or memories w [])
  pub words_stay : (cell : Cell) (w : ℕ) → HasCell flat cell → (MovesWords event cell → ⊥)
      → target cell ≡ Some w → slice_index_or memories' w [] ≡ slice_index_or memories w []

-- the cell is a register or a RAM
abbrev pub IsKeeper : Cell → Type 0
IsKeeper (Reg w domain initial a) = Unit {0}
IsKeeper (Ram w domain words inputs) = Unit {0}
IsKeeper _ = ⊥

-- the cell is a register or a RAM of the domain of this number
abbrev pub IsKeeperOf : ℕ → Cell → Type 0
IsKeeperOf number (Reg w domain initial a) = domain.number ≡ number
IsKeeperOf number (Ram w domain words inputs) = domain.number ≡ number
IsKeeperOf number _ = ⊥

-- the cell is a RAM of the domain of this number
abbrev pub IsRamOf : ℕ → Cell → Type 0
IsRamOf number (Ram w domain words inputs) = domain.number ≡ number
IsRamOf number _ = ⊥

-- the first place behind those that are before one of a list
abbrev pub behind : List ℕ → ℕ → ℕ
behind places zero = 0
behind places (suc k) = slice_index places k + 1

-- The places below a limit of all registers and RAMs of a domain, in order: between two of the
-- list, and behind the last, stands none.
pub record ListsKeepers (flat : Flat) (number : ℕ) (places : List ℕ) (limit : ℕ) : Type 0 where
  pub rising : (k : ℕ) → k < length places → behind places k ≤ slice_index places k
  pub within : (k : ℕ) → k < length places → slice_index places k < limit
  pub own : (k : ℕ) (cell : Cell) → k < length places
      → slice_get flat.cells (slice_index places k) ≡ Some cell → IsKeeperOf number cell
  pub others : (k place : ℕ) (cell : Cell) → k ≤ length places → behind places k ≤ place
      → (k < length places → place < slice_index places k) → place < limit
      → slice_get flat.cells place ≡ Some cell → IsKeeperOf number cell → ⊥

-- there is such a list for each domain of the net
pub record HaveKeepers (flat : Flat) (keepers : List (List ℕ)) (limit : ℕ) : Type 0 where
  pub count : length keepers ≡ length flat.ports.domains
  pub lists : (number : ℕ) → number < length keepers
      → ListsKeepers flat number (slice_index_or keepers number []) limit
