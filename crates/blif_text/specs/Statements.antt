-- What a line says, and where it may stand.
use Rattle.std.specs.Prelude.{◌≡◌, ℕ, ◌==◌, Bool, ◌||◌, List, [], ◌∷◌, ◌++◌, codes}
use Rattle.std.specs.Prelude.{Option, Some, None}
use Rattle.std.specs.List.{AllByRecursion}
use Rattle.chw_base.specs.Names.{AllOf, BeginsThen, is_name_byte}
use Rattle.bit_laws.specs.Gates.{digit_of}

pub data Statement : Type 0 where
  model : Statement
  inputs_are : (names : List (List ℕ)) → Statement
  outputs_are : (names : List (List ℕ)) → Statement
  -- the names of a table, and a row of it
  table_of : (reads : List (List ℕ)) (drives : List ℕ) → Statement
  row_of : (marks : List ℕ) → Statement
  latch_of : (takes drives clock : List ℕ) (initial : Bool) → Statement
  ends : Statement

-- a word of letters, digits and `_`
abbrev pub IsName : List ℕ → Type 0
IsName = BeginsThen is_name_byte is_name_byte

-- `0`, `1` or `-`
abbrev pub is_mark : ℕ → Bool
is_mark b = (b == 48) || ((b == 49) || (b == 45))

-- the words of a row: its marks, where there are any, and `1`
abbrev pub row_words : List ℕ → List (List ℕ)
row_words [] = codes "1" ∷ []
row_words (mark ∷ marks) = (mark ∷ marks) ∷ codes "1" ∷ []

-- the words of a statement
abbrev pub words_of : Statement → List (List ℕ)
words_of model = codes ".model" ∷ codes "chw_top" ∷ []
words_of (inputs_are names) = codes ".inputs" ∷ names
words_of (outputs_are names) = codes ".outputs" ∷ names
words_of (table_of reads drives) = codes ".names" ∷ (reads ++ drives ∷ [])
words_of (row_of marks) = row_words marks
words_of (latch_of takes drives clock initial) =
    codes ".latch" ∷ takes ∷ drives ∷ codes "re" ∷ clock ∷ (digit_of initial ∷ []) ∷ []
words_of ends = codes ".end" ∷ []

-- the names of a statement are names, and its marks are marks
abbrev pub HasForm : Statement → Type 0
HasForm model = Unit {0}
HasForm (inputs_are names) = AllByRecursion IsName names
HasForm (outputs_are names) = AllByRecursion IsName names
HasForm (table_of reads drives) = AllByRecursion IsName reads × IsName drives
HasForm (row_of marks) = AllOf is_mark marks
HasForm (latch_of takes drives clock initial) = IsName takes × IsName drives × IsName clock
HasForm ends = Unit {0}

-- words say a statement
abbrev pub Says : List (List ℕ) → Statement → Type 0
Says words statement = (words ≡ words_of statement) × HasForm statement

-- what may stand at a place of a text
pub data Place : Type 0 where
  at_model : Place
  at_inputs : Place
  at_outputs : Place
  -- a table, a latch or the end
  at_node : Place
  -- the same, or a row of the table before
  at_row : Place
  -- nothing
  behind_end : Place

-- the place behind a statement that stands at a place, where it may stand there
abbrev pub place_behind : Place → Statement → Option Place
place_behind at_model model = Some at_inputs
place_behind at_inputs (inputs_are names) = Some at_outputs
place_behind at_outputs (outputs_are names) = Some at_node
place_behind at_node (table_of reads drives) = Some at_row
place_behind at_node (latch_of takes drives clock initial) = Some at_node
place_behind at_node ends = Some behind_end
place_behind at_row (table_of reads drives) = Some at_row
place_behind at_row (row_of marks) = Some at_row
place_behind at_row (latch_of takes drives clock initial) = Some at_node
place_behind at_row ends = Some behind_end
place_behind place statement = None
