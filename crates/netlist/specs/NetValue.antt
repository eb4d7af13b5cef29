-- The bits of a flat wire at a history, asked back in time from one wire: IEEE 1364-2005 over two
-- values.
use Rattle.std.specs.Prelude.{◌≡◌, ℕ, ◌<◌, ◌≤◌, ◌==◌, Bool, true, false, ◌&&◌, List, [], ◌∷◌}
use Rattle.std.specs.Prelude.{length, Some, None, slice_get}
use Rattle.chw_base.specs.declared.index.DomId.{DomId}
use Rattle.chw_base.specs.declared.index.WireId.{WireId}
use Rattle.chw_bits.specs.Bits.{bits_of, number_of}
use Rattle.chw_clock.specs.Histories.{before, taken}
use Rattle.chw_clock.specs.declared.event.Event.{Event}
use Rattle.netlist.specs.Feeds.{target}
use Rattle.netlist.specs.Operators.{KeepsNothing, operator}
use Rattle.netlist.specs.Wires.{read_by}
use Rattle.netlist.specs.declared.net.Cell.{Cell}
use Rattle.netlist.specs.declared.net.Cell.TheVariants.{Reg, Ram}
use Rattle.netlist.specs.declared.net.Flat.{Flat}
use Rattle.netlist.specs.declared.net.RamIn.{RamIn}

-- the flat net has this cell
abbrev pub HasCell : Flat → Cell → Type 0
HasCell flat cell = (place : ℕ) × (slice_get flat.cells place ≡ Some cell)

-- what a RAM is: the domain at whose ticks it moves, its initial words, and what it reads
pub record Memory : Type 0 where
  pub domain : DomId
  pub words : List (List Bool)
  pub inputs : RamIn

-- the flat net has this RAM, which drives this wire
abbrev pub HasRam : Flat → WireId → Memory → Type 0
HasRam flat w ram = HasCell flat (Ram w ram.domain ram.words ram.inputs)

-- a word of zeros
abbrev pub zeros : ℕ → List Bool
zeros width = bits_of width 0

-- with these bits of its enable and its place a RAM writes the word at this address
abbrev pub writes : (enable place : List Bool) → ℕ → Bool
writes enable place address = (number_of enable == 1) && (number_of place == address)

mutual
  -- the wire has these bits at the history
  pub data NetValue (flat : Flat) : List Event → ℕ → List Bool → Type 0 where
    -- an input has its bits in the present event
    input : (w : ℕ) (present : Event) (past : List Event) (bits : List Bool)
        → w < length flat.ports.inputs → slice_get present.inputs w ≡ Some bits
        → NetValue flat (present ∷ past) w bits
    -- a cell that keeps nothing gives what its operator makes of the bits that it reads
    operated : (cell : Cell) (w : ℕ) (h : List Event) (values : List (List Bool))
        → HasCell flat cell → KeepsNothing cell → target cell ≡ Some w
        → ReadValues flat h (read_by cell) values
        → NetValue flat h w (operator cell values)
    -- a register has its initial bits where its domain hasn't ticked before the present event, or
    -- its reset was asserted at the last tick
    first : (w a : WireId) (domain : DomId) (initial : List Bool) (h : List Event)
        → HasCell flat (Reg w domain initial a) → taken h domain ≡ None
        → NetValue flat h w.number initial
    -- else the bits that its input had at the last tick
    later : (w a : WireId) (domain : DomId) (initial bits : List Bool) (h past : List Event)
        → HasCell flat (Reg w domain initial a) → taken h domain ≡ Some past
        → NetValue flat past a.number bits → NetValue flat h w.number bits
    -- a RAM shows zeros where its domain hasn't ticked before the present event. It has no reset.
    unread : (w : WireId) (ram : Memory) (width : ℕ) (h : List Event) → HasRam flat w ram
        → slice_get flat.widths w.number ≡ Some width → before h ram.domain ≡ None
        → NetValue flat h w.number (zeros width)
    -- it shows zeros too where the address that it read at the last tick is none of its words
    outside : (w : WireId) (ram : Memory) (width : ℕ) (h past : List Event) (address : List Bool)
        → HasRam flat w ram → slice_get flat.widths w.number ≡ Some width
        → before h ram.domain ≡ Some past
        → NetValue flat past ram.inputs.read.number address → length ram.words ≤ number_of address
        → NetValue flat h w.number (zeros width)
    -- else the word at this address as it was before the write of that tick
    shown : (w : WireId) (ram : Memory) (h past : List Event) (address bits : List Bool)
        → HasRam flat w ram → before h ram.domain ≡ Some past
        → NetValue flat past ram.inputs.read.number address
        → number_of address < length ram.words → WordAt flat ram past (number_of address) bits
        → NetValue flat h w.number bits

  -- the wires have these bits at the history
  pub data ReadValues (flat : Flat) : List Event → List WireId → List (List Bool) → Type 0 where
    read_none : (h : List Event) → ReadValues flat h [] []
    read_and : (h : List Event) (w : WireId) (wires : List WireId) (bits : List Bool)
        (values : List (List Bool)) → NetValue flat h w.number bits → ReadValues flat h wires values
        → ReadValues flat h (w ∷ wires) (bits ∷ values)

  -- the RAM has these bits at the address, before the write of the present event
  pub data WordAt (flat : Flat) : Memory → List Event → ℕ → List Bool → Type 0 where
    -- the initial word, where its domain hasn't ticked before the present event
    unwritten : (ram : Memory) (h : List Event) (address : ℕ) (bits : List Bool)
        → before h ram.domain ≡ None → slice_get ram.words address ≡ Some bits
        → WordAt flat ram h address bits
    -- what was written at the last tick, if it was to this address
    written : (ram : Memory) (h past : List Event) (address : ℕ) (enable place bits : List Bool)
        → before h ram.domain ≡ Some past → NetValue flat past ram.inputs.enable.number enable
        → NetValue flat past ram.inputs.place.number place → writes enable place address ≡ true
        → NetValue flat past ram.inputs.value.number bits → WordAt flat ram h address bits
    -- else the word as it was before that tick
    kept : (ram : Memory) (h past : List Event) (address : ℕ) (enable place bits : List Bool)
        → before h ram.domain ≡ Some past → NetValue flat past ram.inputs.enable.number enable
        → NetValue flat past ram.inputs.place.number place → writes enable place address ≡ false
        → WordAt flat ram past address bits → WordAt flat ram h address bits

-- the wire has a value of its width
pub record HasValue (flat : Flat) (h : List Event) (w : ℕ) : Type 0 where
  pub bits : List Bool
  pub value : NetValue flat h w bits
  pub width : slice_get flat.widths w ≡ Some (length bits)
