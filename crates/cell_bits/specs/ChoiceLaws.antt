-- What is promised of the cells of tests, of choices and of cases.
use Rattle.std.specs.Prelude.{◌≡◌, ℕ, suc, ◌<◌, ◌⊎◌, true, Bool, List, [], ◌∷◌, ◌++◌, length}
use Rattle.std.specs.Prelude.{Some, slice_get, Decides}
use Rattle.std.specs.List.{AllByRecursion}
use Rattle.chw_base.specs.declared.index.WireId.{WireId}
use Rattle.chw_bits.specs.Bitwise.{one_bit}
use Rattle.chw_clock.specs.declared.event.Event.{Event}
use Rattle.chw_terms.specs.TermTree.{Alts}
use Rattle.chw_types.specs.declared.declarations.Data.{Data}
use Rattle.chw_types.specs.TypeTree.{TypeTree}
use Rattle.netlist.specs.declared.net.Net.{Net}
use Rattle.net_built.specs.Data.{Tested, tested_of, words_of, tests, test_wires, chosen}
use Rattle.net_built.specs.Data.{chosen_wires, case_cells, case_wires}
use Rattle.net_built.specs.Wires.{Piece}
use Rattle.use_laws.specs.ValueIn.{ValueIn}
use Rattle.cell_bits.specs.Bearing.{HasCells, Bears}
use Rattle.cell_bits.specs.DataLaws.{BearAll}

-- the values have so many bits each
abbrev pub AreWide : ℕ → List (List Bool) → Type 0
AreWide width values = AllByRecursion (λ (bits : List Bool). length bits ≡ width) values

-- what a case tests has the first bits of the wire, as many as are tested: of data the tag, and of
-- a scalar all
abbrev pub TestedBears : Type 0
TestedBears =
    (net : Net) (path : List ℕ) (h : List Event) (datas : List Data) (t : TypeTree) (width n : ℕ)
    (a : List WireId) (front behind : List Bool)
    → Bears net path h a (front ++ behind) → width ≡ length (front ++ behind)
    → length front ≡ (tested_of datas t width n a).bits
    → HasCells net path (tested_of datas t width n a).cells.cells
    → Bears net path h (tested_of datas t width n a).wires front

-- each of these wires has one bit
pub data HaveTruths (net : Net) (path : List ℕ) (h : List Event)
    : List WireId → List Bool → Type 0 where
  truths_none : HaveTruths net path h [] []
  truths_and : {w : WireId} {wires : List WireId} {truth : Bool} {truths : List Bool}
      → ValueIn net path h w.number (one_bit truth) → HaveTruths net path h wires truths
      → HaveTruths net path h (w ∷ wires) (truth ∷ truths)

-- each truth value says whether its word is this one
pub data AreTruths (tested : List Bool) : List Bool → List (List Bool) → Type 0 where
  no_words : AreTruths tested [] []
  word_and : {truth : Bool} {truths word : List Bool} {words : List (List Bool)}
      → Decides truth (word ≡ tested) → AreTruths tested truths words
      → AreTruths tested (truth ∷ truths) (word ∷ words)

-- each of these wires has one bit, which says whether its word is this one
pub record TellWords (net : Net) (path : List ℕ) (h : List Event) (tested : List Bool)
    (words : List (List Bool)) (wires : List WireId) : Type 0 where
  pub truths : List Bool
  pub are : AreTruths tested truths words
  pub have : HaveTruths net path h wires truths

-- the wires of tests tell of each word whether the tested wire has it
abbrev pub TestsBear : Type 0
TestsBear =
    (net : Net) (path : List ℕ) (h : List Event) (k n : ℕ) (a : List WireId)
    (tested : List Bool) (words : List (List Bool))
    → Bears net path h a tested → length tested ≡ k → AreWide k words
    → HasCells net path (tests k a words n).cells
    → TellWords net path h tested words (test_wires k a words n)

-- of so many choices, which stand for these items in order, the one of this number is taken for x:
-- no item before its own is x, and its own is, or it is the last choice
pub record IsTaken {A : Type 0} (x : A) (items : List A) (count k : ℕ) : Type 0 where
  pub none_before : (i : ℕ) → i < k → ¬ (slice_get items i ≡ Some x)
  pub own_or_last : (slice_get items k ≡ Some x) ⊎ (suc k ≡ count)

-- the choice of results gives the first whose test is true, and the last where none before it is
abbrev pub ChoiceBears : Type 0
ChoiceBears =
    (net : Net) (path : List ℕ) (h : List Event) (width n k : ℕ) (tested : List WireId)
    (truths : List Bool) (results : List (List WireId)) (values : List (List Bool))
    (bits : List Bool)
    → HaveTruths net path h tested truths
    → BearAll net path h results values → AreWide width values
    → slice_get values k ≡ Some bits → IsTaken true truths (length values) k
    → HasCells net path (chosen width tested results n).cells
    → Bears net path h (chosen_wires width tested results n) bits

-- a case on wires that have these bits gives the result of the first alternative that stands for
-- them, and of the last alternative where none before it does
abbrev pub CasesBear : Type 0
CasesBear =
    (net : Net) (path : List ℕ) (h : List Event) (on : Tested) (alts : Alts) (width n k : ℕ)
    (p : Piece) (results : List (List WireId)) (values : List (List Bool))
    (tested bits : List Bool)
    → Bears net path h on.wires tested → length tested ≡ on.bits
    → AreWide on.bits (words_of on.bits on.first alts)
    → BearAll net path h results values → AreWide width values
    → slice_get values k ≡ Some bits
    → IsTaken tested (words_of on.bits on.first alts) (length values) k
    → HasCells net path (case_cells on alts width n p results).cells
    → Bears net path h (case_wires on alts width n p results) bits

-- the same of a case on a wire, the first bits of which are tested
abbrev pub CasesOfBear : Type 0
CasesOfBear =
    (net : Net) (path : List ℕ) (h : List Event) (datas : List Data) (t : TypeTree) (whole : ℕ)
    (a : List WireId) (on : Tested) (alts : Alts) (width n k : ℕ) (p : Piece)
    (results : List (List WireId)) (values : List (List Bool)) (tested behind bits : List Bool)
    → on ≡ tested_of datas t whole n a
    → Bears net path h a (tested ++ behind) → whole ≡ length (tested ++ behind)
    → length tested ≡ on.bits → AreWide on.bits (words_of on.bits on.first alts)
    → BearAll net path h results values → AreWide width values
    → slice_get values k ≡ Some bits
    → IsTaken tested (words_of on.bits on.first alts) (length values) k
    → HasCells net path (case_cells on alts width n p results).cells
    → Bears net path h (case_wires on alts width n p results) bits
