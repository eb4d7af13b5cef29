-- Instances with the flat wires that their inputs copy, and the cells of an instance.
use Rattle.std.specs.Prelude.{◌≡◌, ℕ, ◌+◌, ◌<◌, ◌^◌, List, [], ◌∷◌, length, map}
use Rattle.std.specs.Prelude.{Some, slice_get, slice_index}
use Rattle.std.specs.List.{AllByRecursion}
use Rattle.chw_base.specs.declared.index.ModId.{ModId}
use Rattle.chw_base.specs.declared.index.WireId.{WireId}
use Rattle.netlist.specs.Feeds.{target}
use Rattle.netlist.specs.declared.net.Cell.{Cell}
use Rattle.netlist.specs.declared.net.Cell.TheVariants.{Copy, Use}
use Rattle.netlist.specs.declared.net.Module.{Module}
use Rattle.netlist.specs.declared.net.Net.{Net}
use Rattle.net_flat.specs.declared.instances.Instance.{Instance}
use Rattle.net_flat.specs.Flattened.{IsUse, NoUse, moved, wire_from, wires_before}

-- the number of a flat wire fits
abbrev pub Moves : ℕ → WireId → Type 0
Moves base w = base + w.number < 2 ^ 32

-- the numbers of the flat wires fit that a use reads
abbrev pub UseMoves : ℕ → Cell → Type 0
UseMoves base (Use k reads drives) = AllByRecursion (Moves base) reads
UseMoves base _ = Unit {0}

-- the instances that these cells of an instance use, in order, by its first flat wire and the one
-- that comes next
abbrev pub uses_along : List ℕ → (base next : ℕ) → List Cell → List Instance
uses_along sizes base next [] = []
uses_along sizes base next (Use k reads drives ∷ cells) =
    record { «module» = k; base = next; reads = map (wire_from base) reads }
    ∷ uses_along sizes base (next + slice_index sizes k.number) cells
uses_along sizes base next (cell ∷ cells) = uses_along sizes base next cells

-- an instance of the net, with the flat wires that its inputs copy
pub data IsPlaced (net : Net) : Instance → Type 0 where
  top : (k : ModId) → k.number + 1 ≡ length net.modules
      → IsPlaced net (record { «module» = k; base = 0; reads = [] })
  used : (x : Instance) (m : Module) (before : List Cell) (k : ModId) (reads drives : List WireId)
      → IsPlaced net x → slice_get net.modules x.module.number ≡ Some m
      → IsUse m.cells before k reads drives
      → IsPlaced net (record {
        «module» = k;
        base = x.base + wires_before net m before;
        reads = map (wire_from x.base) reads;
      })

-- the flat cell that drives a wire of an instance which is no input
pub data IsOwn (net : Net) (base : ℕ) (m : Module) : ℕ → Cell → Type 0 where
  cell : (place w : ℕ) (c : Cell) → slice_get m.cells place ≡ Some c → NoUse c
      → target c ≡ Some w → IsOwn net base m w (moved base c)
  output : (before : List Cell) (k : ModId) (reads drives : List WireId)
      → IsUse m.cells before k reads drives
      → (used : Module) → slice_get net.modules k.number ≡ Some used
      → (j : ℕ) (w o : WireId) → slice_get drives j ≡ Some w → slice_get used.outputs j ≡ Some o
      → IsOwn net base m w.number
      (Copy (wire_from base w) (wire_from (base + wires_before net m before) o))

-- cells that drive the wires of an instance which are no inputs, in order
pub record AreOwn (net : Net) (base : ℕ) (m : Module) (own : List Cell) : Type 0 where
  pub all : m.inputs + length own ≡ length m.widths
  pub each : (j : ℕ) (c : Cell) → slice_get own j ≡ Some c → IsOwn net base m (m.inputs + j) c

-- the inputs from this flat wire on copy these flat wires
abbrev pub input_copies : ℕ → List WireId → List Cell
input_copies w [] = []
input_copies w (r ∷ reads) = Copy (record { number = w }) r ∷ input_copies (w + 1) reads
