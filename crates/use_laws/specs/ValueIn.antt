-- The bits of the wires of a net of modules, instance by instance, without its flat net.
use Rattle.std.specs.Prelude.{◌≡◌, ℕ, ◌+◌, ◌<◌, ◌≤◌, true, false, List, [], ◌∷◌, Bool, length, take}
use Rattle.std.specs.Prelude.{Some, None, slice_get}
use Rattle.chw_base.specs.declared.index.DomId.{DomId}
use Rattle.chw_base.specs.declared.index.ModId.{ModId}
use Rattle.chw_base.specs.declared.index.WireId.{WireId}
use Rattle.chw_bits.specs.Bits.{number_of}
use Rattle.chw_clock.specs.Histories.{before, taken}
use Rattle.chw_clock.specs.declared.event.Event.{Event}
use Rattle.net_flat.specs.Flattened.{IsTop, wires_before}
use Rattle.netlist.specs.Feeds.{target}
use Rattle.netlist.specs.NetValue.{Memory, writes, zeros}
use Rattle.netlist.specs.Operators.{KeepsNothing, operator}
use Rattle.netlist.specs.Wires.{read_by}
use Rattle.netlist.specs.declared.net.Cell.{Cell}
use Rattle.netlist.specs.declared.net.Cell.TheVariants.{Reg, Ram, Use}
use Rattle.netlist.specs.declared.net.Module.{Module}
use Rattle.netlist.specs.declared.net.Net.{Net}

-- the module of an instance. The path of an instance has the places of the uses on the way to it
-- from the top, each among the cells of its module, the last use first.
pub data IsModuleAt (net : Net) : List ℕ → Module → Type 0 where
  top : (i : ℕ) (m : Module) → IsTop net i m → IsModuleAt net [] m
  used : (path : List ℕ) (place : ℕ) (m inner : Module) (k : ModId) (reads drives : List WireId)
      → IsModuleAt net path m → slice_get m.cells place ≡ Some (Use k reads drives)
      → slice_get net.modules k.number ≡ Some inner → IsModuleAt net (place ∷ path) inner

-- the first flat wire of an instance
pub data BeginsAt (net : Net) : List ℕ → ℕ → Type 0 where
  top : BeginsAt net [] 0
  used : (path : List ℕ) (base place : ℕ) (m : Module) (k : ModId) (reads drives : List WireId)
      → BeginsAt net path base → IsModuleAt net path m
      → slice_get m.cells place ≡ Some (Use k reads drives)
      → BeginsAt net (place ∷ path) (base + wires_before net m (take place m.cells))

-- the module of the instance has this cell
pub record HasCellAt (net : Net) (path : List ℕ) (cell : Cell) : Type 0 where
  pub m : Module
  pub at : IsModuleAt net path m
  pub place : ℕ
  pub stands : slice_get m.cells place ≡ Some cell

-- the use at this place of an instance reads and drives these wires
pub record HasUseAt (net : Net) (path : List ℕ) (place : ℕ) (reads drives : List WireId)
    : Type 0 where
  pub k : ModId
  pub m : Module
  pub at : IsModuleAt net path m
  pub stands : slice_get m.cells place ≡ Some (Use k reads drives)

-- the wire of this instance has this width
pub record HasWidthAt (net : Net) (path : List ℕ) (w : WireId) (width : ℕ) : Type 0 where
  pub m : Module
  pub at : IsModuleAt net path m
  pub wide : slice_get m.widths w.number ≡ Some width

-- the instance has this RAM, which drives this wire
abbrev pub HasRamAt : Net → List ℕ → WireId → Memory → Type 0
HasRamAt net path w ram = HasCellAt net path (Ram w ram.domain ram.words ram.inputs)

mutual
  -- the wire of the instance has these bits at the history
  pub data ValueIn (net : Net) : List ℕ → List Event → ℕ → List Bool → Type 0 where
    -- an input of the top has its bits in the present event
    input : (w : ℕ) (present : Event) (past : List Event) (bits : List Bool)
        → w < length net.ports.inputs → slice_get present.inputs w ≡ Some bits
        → ValueIn net [] (present ∷ past) w bits
    -- an input of a used instance has the bits of the wire that the use reads
    enters : (path : List ℕ) (place j : ℕ) (reads drives : List WireId) (r : WireId)
        (h : List Event) (bits : List Bool)
        → HasUseAt net path place reads drives → slice_get reads j ≡ Some r
        → ValueIn net path h r.number bits → ValueIn net (place ∷ path) h j bits
    -- a wire that a use drives has the bits of an output of the used instance
    leaves : (path : List ℕ) (place j : ℕ) (reads drives : List WireId) (inner : Module)
        (w o : WireId) (h : List Event) (bits : List Bool)
        → HasUseAt net path place reads drives → IsModuleAt net (place ∷ path) inner
        → slice_get drives j ≡ Some w → slice_get inner.outputs j ≡ Some o
        → ValueIn net (place ∷ path) h o.number bits → ValueIn net path h w.number bits
    -- a cell that keeps nothing gives what its operator makes of the bits that it reads
    operated : (path : List ℕ) (cell : Cell) (w : ℕ) (h : List Event) (values : List (List Bool))
        → HasCellAt net path cell → KeepsNothing cell → target cell ≡ Some w
        → ReadIn net path h (read_by cell) values
        → ValueIn net path h w (operator cell values)
    -- a register has its initial bits where its domain hasn't ticked before the present event, or
    -- its reset was asserted at the last tick
    first : (path : List ℕ) (w a : WireId) (domain : DomId) (initial : List Bool) (h : List Event)
        → HasCellAt net path (Reg w domain initial a) → taken h domain ≡ None
        → ValueIn net path h w.number initial
    -- else the bits that its input had at the last tick
    later : (path : List ℕ) (w a : WireId) (domain : DomId) (initial bits : List Bool)
        (h past : List Event)
        → HasCellAt net path (Reg w domain initial a) → taken h domain ≡ Some past
        → ValueIn net path past a.number bits → ValueIn net path h w.number bits
    -- a RAM shows zeros where its domain hasn't ticked before the present event
    unread : (path : List ℕ) (w : WireId) (ram : Memory) (width : ℕ) (h : List Event)
        → HasRamAt net path w ram → HasWidthAt net path w width → before h ram.domain ≡ None
        → ValueIn net path h w.number (zeros width)
    -- it shows zeros too where the address that it read at the last tick is none of its words
    outside : (path : List ℕ) (w : WireId) (ram : Memory) (width : ℕ) (h past : List Event)
        (address : List Bool)
        → HasRamAt net path w ram → HasWidthAt net path w width
        → before h ram.domain ≡ Some past
        → ValueIn net path past ram.inputs.read.number address
        → length ram.words ≤ number_of address
        → ValueIn net path h w.number (zeros width)
    -- else the word at this address as it was before the write of that tick
    shown : (path : List ℕ) (w : WireId) (ram : Memory) (h past : List Event)
        (address bits : List Bool)
        → HasRamAt net path w ram → before h ram.domain ≡ Some past
        → ValueIn net path past ram.inputs.read.number address
        → number_of address < length ram.words
        → WordIn net path ram past (number_of address) bits
        → ValueIn net path h w.number bits

  -- the wires of the instance have these bits at the history
  pub data ReadIn (net : Net)
      : List ℕ → List Event → List WireId → List (List Bool) → Type 0 where
    read_none : (path : List ℕ) (h : List Event) → ReadIn net path h [] []
    read_and : (path : List ℕ) (h : List Event) (w : WireId) (wires : List WireId)
        (bits : List Bool) (values : List (List Bool))
        → ValueIn net path h w.number bits → ReadIn net path h wires values
        → ReadIn net path h (w ∷ wires) (bits ∷ values)

  -- the RAM of the instance has these bits at the address, before the write of the present event
  pub data WordIn (net : Net)
      : List ℕ → Memory → List Event → ℕ → List Bool → Type 0 where
    -- the initial word, where its domain hasn't ticked before the present event
    unwritten : (path : List ℕ) (ram : Memory) (h : List Event) (address : ℕ) (bits : List Bool)
        → before h ram.domain ≡ None → slice_get ram.words address ≡ Some bits
        → WordIn net path ram h address bits
    -- what was written at the last tick, if it was to this address
    written : (path : List ℕ) (ram : Memory) (h past : List Event) (address : ℕ)
        (enable place bits : List Bool)
        → before h ram.domain ≡ Some past
        → ValueIn net path past ram.inputs.enable.number enable
        → ValueIn net path past ram.inputs.place.number place
        → writes enable place address ≡ true
        → ValueIn net path past ram.inputs.value.number bits
        → WordIn net path ram h address bits
    -- else the word as it was before that tick
    kept : (path : List ℕ) (ram : Memory) (h past : List Event) (address : ℕ)
        (enable place bits : List Bool)
        → before h ram.domain ≡ Some past
        → ValueIn net path past ram.inputs.enable.number enable
        → ValueIn net path past ram.inputs.place.number place
        → writes enable place address ≡ false
        → WordIn net path ram past address bits → WordIn net path ram h address bits
