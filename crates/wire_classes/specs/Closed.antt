-- Labels of wires and marks of those of which bits are known, and when nothing more follows from
-- them.
use Rattle.std.specs.Prelude.{◌≡◌, ℕ, ◌+◌, ◌<◌, ◌==◌, Bool, true, false, ◌&&◌, List, [], ◌∷◌}
use Rattle.std.specs.Prelude.{length, map, Option, Some, None, slice_get, slice_index}
use Rattle.std.specs.Prelude.{slice_index_or, if◌then◌else◌}
use Rattle.std.specs.List.{list_all}
use Rattle.chw_base.specs.declared.index.WireId.{WireId}
use Rattle.chw_bits.specs.Bits.{number_of}
use Rattle.netlist.specs.Feeds.{target}
use Rattle.netlist.specs.NetValue.{HasCell}
use Rattle.netlist.specs.Sound.{Sound}
use Rattle.netlist.specs.Wires.{read_by}
use Rattle.netlist.specs.declared.net.Cell.{Cell}
use Rattle.netlist.specs.declared.net.Cell.TheVariants.{Const, Copy, Join, Cut, Un, Bin, Mux}
use Rattle.netlist.specs.declared.net.Flat.{Flat}
use Rattle.share_laws.specs.Same.{IsKnown, Same, bare}

-- the label of a wire
abbrev pub label_of : List ℕ → ℕ → ℕ
label_of of w = slice_index of w

-- the labels of these wires
abbrev pub labels_of : List ℕ → List WireId → List ℕ
labels_of of wires = map (λ w. label_of of w.number) wires

-- whether the wire is marked
abbrev pub mark_of : List Bool → ℕ → Bool
mark_of known w = slice_index_or known w false

-- the bits of the wire in a table
abbrev pub bits_in : List (List Bool) → ℕ → List Bool
bits_in values w = slice_index_or values w []

-- all these wires are marked
abbrev pub all_marked : List Bool → List WireId → Bool
all_marked known wires = list_all (λ (w : WireId). mark_of known w.number) wires

-- the wire, where it is alone
abbrev pub only_of : List WireId → Option WireId
only_of [] = None
only_of (a ∷ []) = Some a
only_of (a ∷ b ∷ more) = None

-- the wire from which these bits are cut, where they are all of it
abbrev pub whole_of : List ℕ → WireId → (high low : ℕ) → Option WireId
whole_of widths a high low =
    if low == 0 && slice_index widths a.number == high + 1 then Some a else None

-- the wire that a choice takes: the first where both have one label, and the one that a marked
-- condition says
abbrev pub choice_of : List ℕ → List Bool → List (List Bool) → (c a b : WireId) → Option WireId
choice_of of known values c a b =
    if label_of of a.number == label_of of b.number then Some a
    else (if mark_of known c.number
    then Some (if number_of (bits_in values c.number) == 1 then a else b) else None)

-- the wire that the cell copies, by labels and marks
abbrev pub copied_by
    : List ℕ → List ℕ → List Bool → List (List Bool) → Cell → Option WireId
copied_by widths of known values (Copy w a) = Some a
copied_by widths of known values (Join w parts) = only_of parts
copied_by widths of known values (Cut w a high low) = whole_of widths a high low
copied_by widths of known values (Mux w c a b) = choice_of of known values c a b
copied_by widths of known values _ = None

-- the cell is a constant, or gives one since all that it reads is marked
abbrev pub gives_known : List Bool → Cell → Bool
gives_known known (Const w bits) = true
gives_known known (Join w parts) = all_marked known parts
gives_known known (Cut w a high low) = mark_of known a.number
gives_known known (Un w op a) = mark_of known a.number
gives_known known (Bin w op a b) = mark_of known a.number && mark_of known b.number
gives_known known _ = false

-- each wire has the label of the one that its cell copies
abbrev pub CopiesHold : Flat → List ℕ → List Bool → List (List Bool) → Type 0
CopiesHold flat of known values =
    (cell : Cell) (w : ℕ) (a : WireId) → HasCell flat cell → target cell ≡ Some w
    → copied_by flat.widths of known values cell ≡ Some a → label_of of w ≡ label_of of a.number

-- cells of one kind with the same fields, that read wires of the same labels, drive wires of one
abbrev pub CellsHold : Flat → List ℕ → Type 0
CellsHold flat of =
    (c d : Cell) (v w : ℕ) → HasCell flat c → HasCell flat d → target c ≡ Some v
    → target d ≡ Some w → bare c ≡ bare d
    → labels_of of (read_by c) ≡ labels_of of (read_by d) → label_of of v ≡ label_of of w

-- marked wires with the same bits have one label
abbrev pub BitsHold : List ℕ → List Bool → List (List Bool) → Type 0
BitsHold of known values =
    (v w : ℕ) → mark_of known v ≡ true → mark_of known w ≡ true
    → bits_in values v ≡ bits_in values w → label_of of v ≡ label_of of w

-- each wire is marked of which the cell gives a constant
abbrev pub MarksHold : Flat → List Bool → Type 0
MarksHold flat known =
    (cell : Cell) (w : ℕ) → HasCell flat cell → target cell ≡ Some w
    → gives_known known cell ≡ true → mark_of known w ≡ true

-- wires of one label are marked alike
abbrev pub LabelsHold : List ℕ → List Bool → Type 0
LabelsHold of known =
    (v w : ℕ) → v < length of → w < length of → label_of of v ≡ label_of of w
    → mark_of known v ≡ mark_of known w

-- nothing more follows from the labels and the marks
pub record AreClosed (flat : Flat) (of : List ℕ) (known : List Bool) (values : List (List Bool))
    : Type 0 where
  pub copies : CopiesHold flat of known values
  pub cells : CellsHold flat of
  pub bits : BitsHold of known values
  pub marks : MarksHold flat known
  pub labels : LabelsHold of known

-- the table has bits of each wire's width, and the bits of each wire of which bits are known
pub record ShowsKnown (flat : Flat) (values : List (List Bool)) : Type 0 where
  pub widths : map length values ≡ flat.widths
  pub known : (w : ℕ) (bits : List Bool) → IsKnown flat w bits → slice_get values w ≡ Some bits

-- each wire has a label, which is the number of a wire that is equal to it
pub record AreLabels (flat : Flat) (of : List ℕ) : Type 0 where
  pub sound : Sound flat
  pub count : length of ≡ length flat.widths
  pub same : (w : ℕ) → w < length flat.widths → Same flat w (label_of of w)

-- What is found so far: labels of wires, marks of some wires of which bits are known, and a table
-- of bits.
pub record AreFound (flat : Flat) (of : List ℕ) (known : List Bool) (values : List (List Bool))
    : Type 0 where
  pub labels : AreLabels flat of
  pub count : length known ≡ length flat.widths
  pub shown : ShowsKnown flat values
  pub bits : (w : ℕ) → mark_of known w ≡ true → IsKnown flat w (bits_in values w)

-- each wire has the label of the one that the cell at this place copies
abbrev pub CopyHoldsAt : Flat → List ℕ → List Bool → List (List Bool) → ℕ → Type 0
CopyHoldsAt flat of known values place =
    (cell : Cell) (w : ℕ) (a : WireId) → slice_get flat.cells place ≡ Some cell
    → target cell ≡ Some w → copied_by flat.widths of known values cell ≡ Some a
    → label_of of w ≡ label_of of a.number

-- the wire of the cell at this place is marked, if the cell gives a constant
abbrev pub MarkHoldsAt : Flat → List Bool → ℕ → Type 0
MarkHoldsAt flat known place =
    (cell : Cell) (w : ℕ) → slice_get flat.cells place ≡ Some cell → target cell ≡ Some w
    → gives_known known cell ≡ true → mark_of known w ≡ true

-- the wire is marked as the one of its label is
abbrev pub LabelHoldsAt : List ℕ → List Bool → ℕ → Type 0
LabelHoldsAt of known w = mark_of known w ≡ mark_of known (label_of of w)

-- nothing more follows from what is found by looking at one cell or one wire alone
pub record AreQuick (flat : Flat) (of : List ℕ) (known : List Bool) (values : List (List Bool))
    : Type 0 where
  pub copies : CopiesHold flat of known values
  pub marks : MarksHold flat known
  pub labels : LabelsHold of known
