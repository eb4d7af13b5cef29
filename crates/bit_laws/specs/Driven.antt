-- Which names the nodes of a cell drive.
use Rattle.std.specs.Prelude.{◌≡◌, ℕ, suc, ◌⊎◌, List, [], ◌∷◌, Some, slice_get}
use Rattle.std.specs.Prelude.{slice_index}
use Rattle.std.specs.List.{AllByRecursion}
use Rattle.netlist.specs.declared.net.Cell.{Cell}
use Rattle.netlist.specs.declared.net.Flat.{Flat}
use Rattle.bit_laws.specs.BitNames.{further, place_name, wire_name}
use Rattle.bit_laws.specs.Bitnet.{Bitnet, HasNode, Node}
use Rattle.bit_laws.specs.Bitnet.Node.{latch, table}
use Rattle.bit_laws.specs.Blast.{nodes_of}

-- the name that a node drives
abbrev pub drives_of : Node → List ℕ
drives_of (table reads drives rows) = drives
drives_of (latch takes drives clock initial) = drives

-- The nodes drive the further names of wire k and the places of a word of this name, each in order:
-- the further ones from number x on and up to a count, the places from j on and up to all places.
abbrev pub DriveInOrder : (name : List ℕ) (k : ℕ) → List Node → (x j count places : ℕ) → Type 0
DriveInOrder name k [] x j count places = (x ≡ count) × (j ≡ places)
DriveInOrder name k (node ∷ nodes) x j count places =
    ((drives_of node ≡ further k x) × DriveInOrder name k nodes (suc x) j count places)
    ⊎ ((drives_of node ≡ place_name name j) × DriveInOrder name k nodes x (suc j) count places)

-- the nodes of a cell drive the bits of its wire and so many further names, each in order from 0 on
abbrev pub CellDrives : Flat → Cell → ℕ → Type 0
CellDrives flat cell w =
    (count : ℕ)
    × DriveInOrder (wire_name flat.ports w) w (nodes_of flat cell) 0 0 count
    (slice_index flat.widths w)

-- no name is driven at two places
abbrev pub DrivenOnce : Bitnet → Type 0
DrivenOnce b =
    (p q : ℕ) (m n : Node) → slice_get b.nodes p ≡ Some m → slice_get b.nodes q ≡ Some n
    → drives_of m ≡ drives_of n → p ≡ q

-- what a node names: a table reads names of one kind, and a latch takes one of it and has a clock
-- of another kind
abbrev pub NamesOnly : (Read Clock : List ℕ → Type 0) → Node → Type 0
NamesOnly Read Clock (table reads drives rows) = AllByRecursion Read reads
NamesOnly Read Clock (latch takes drives clock initial) = Read takes × Clock clock

-- the name is one of these
abbrev pub HasName : List (List ℕ) → List ℕ → Type 0
HasName names name = (place : ℕ) × (slice_get names place ≡ Some name)

-- the name is an input, or a node drives it
abbrev pub IsKnown : Bitnet → List ℕ → Type 0
IsKnown b name = HasName b.inputs name ⊎ ((node : Node) × HasNode b node × (drives_of node ≡ name))

-- the nodes read known names, and their clocks are inputs
abbrev pub KnowsNames : Bitnet → Type 0
KnowsNames b =
    (node : Node) → HasNode b node → NamesOnly (IsKnown b) (HasName b.inputs) node
