-- What a case tests, and what it chooses.
use Rattle.std.specs.Prelude.{◌≡◌, ℕ, Bool, List}
use Rattle.chw_base.specs.declared.index.WireId.{WireId}
use Rattle.chw_types.specs.declared.declarations.Data.{Data}
use Rattle.chw_types.specs.TypeTree.{TypeTree, data_of}
use Rattle.chw_layout.specs.Encodes.{first_constructor}
use Rattle.net_built.specs.Data.{Tested, tests, test_wires, chosen, chosen_wires}
use Rattle.net_built.specs.Wires.{Piece, ◌▸◌, after}
use Rattle.value_build.specs.Added.{next}
use Rattle.value_build.specs.declared.cases.Tested.{Tested as Held}

-- the number of the first constructor of the type, where it is data
abbrev pub first_of : List Data → TypeTree → ℕ
first_of datas (data_of d ts) = first_constructor datas d
first_of datas t = 0

-- the cells that cut this out were added, and so many bits on these wires are held
pub record IsTested (on : Tested) (before later : Piece) (held : Held) : Type 0 where
  pub cells : later ≡ before ▸ on.cells
  pub bits : held.bits ≡ on.bits
  pub wires : held.wires ≡ on.wires

-- tests on wires of so many bits for these words, and then the choice of these results
abbrev pub tests_and_choice : (bits : ℕ) → (on : List WireId) → List (List Bool)
    → (results : List (List WireId)) → (width n : ℕ) → Piece
tests_and_choice bits on words results width n =
    let q : Piece = tests bits on words n in
    q ▸ chosen width (test_wires bits on words n) results (after n q)

-- these were added, and the result has these wires
pub record IsChoice (bits : ℕ) (on : List WireId) (words : List (List Bool))
    (results : List (List WireId)) (width : ℕ) (before later : Piece) (wires : List WireId)
    : Type 0 where
  pub cells : later ≡ before ▸ tests_and_choice bits on words results width (next before)
  pub result : wires
      ≡ chosen_wires width (test_wires bits on words (next before)) results
      (after (next before) (tests bits on words (next before)))
