-- What is promised of the cells of elements of vectors.
use Rattle.std.specs.Prelude.{◌≡◌, ℕ, suc, ◌+◌, min, Bool, List, [], ◌∷◌, length, Some, slice_get}
use Rattle.chw_base.specs.declared.index.WireId.{WireId}
use Rattle.chw_bits.specs.Bits.{number_of}
use Rattle.chw_clock.specs.declared.event.Event.{Event}
use Rattle.netlist.specs.declared.net.Cell.TheVariants.{Join}
use Rattle.netlist.specs.declared.net.Net.{Net}
use Rattle.net_built.specs.Vectors.{element, element_at}
use Rattle.net_built.specs.Wires.{wire, one, last_wires}
use Rattle.cell_bits.specs.Bearing.{HasCells, BearEach, Bears}
use Rattle.cell_bits.specs.ChoiceLaws.{AreWide}
use Rattle.cell_bits.specs.DataLaws.{joined}

-- the join of elements gives their bits in order
abbrev pub VectorsBear : Type 0
VectorsBear =
    (net : Net) (path : List ℕ) (h : List Event) (width n : ℕ) (wires : List WireId)
    (elements : List (List Bool))
    → BearEach net path h wires elements → length (joined elements) ≡ width
    → HasCells net path (one width (Join (wire n) wires)).cells
    → Bears net path h (last_wires n (one width (Join (wire n) wires)) (width ∷ []))
    (joined elements)

-- the cut of an element gives its bits, where the wire has those of all elements in order
abbrev pub ElementsBear : Type 0
ElementsBear =
    (net : Net) (path : List ℕ) (h : List Event) (width n i behind : ℕ) (v : List WireId)
    (elements : List (List Bool)) (bits : List Bool)
    → Bears net path h v (joined elements) → AreWide width elements
    → slice_get elements i ≡ Some bits → length elements ≡ suc (i + behind)
    → HasCells net path (element width behind n v).cells
    → Bears net path h (last_wires n (element width behind n v) (width ∷ [])) bits

-- the cells of an element at an index give the bits of the element that a word of k bits names, and
-- past the last element those of the last
abbrev pub IndexedBear : Type 0
IndexedBear =
    (net : Net) (path : List ℕ) (h : List Event) (width last k n : ℕ) (v i : List WireId)
    (elements : List (List Bool)) (index bits : List Bool)
    → Bears net path h v (joined elements) → AreWide width elements
    → length elements ≡ suc last
    → Bears net path h i index → length index ≡ k
    → slice_get elements (min (number_of index) last) ≡ Some bits
    → HasCells net path (element_at width last k n v i).cells
    → Bears net path h (last_wires n (element_at width last k n v i) (width ∷ [])) bits
