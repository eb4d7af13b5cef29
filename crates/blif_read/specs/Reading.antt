-- How far the reader has come, line by line.
use Rattle.std.specs.Prelude.{◌≡◌, ℕ, ◌+◌, ◌<◌, ◌≤◌, ◌⊎◌, List, [], ◌∷◌, ◌++◌, length, Some}
use Rattle.blif_text.specs.BlifText.{Lead}
use Rattle.blif_text.specs.Faults.{EndsEarly, FitsNothing, IsMisplaced}
use Rattle.blif_text.specs.Lines.{Line, net_lines}
use Rattle.blif_text.specs.Statements.{Says, place_behind}
use Rattle.blif_text.specs.Statements.Place.{at_model}
use Rattle.blif_read.specs.Shown.{all_said, end_of, lines_left, place_of, statement_of}
use Rattle.blif_read.specs.declared.places.Place.{Place}
use Rattle.blif_read.specs.declared.said.At.{At}
use Rattle.blif_read.specs.declared.statement.Said.{Said}

-- a line at a place says the statement, and leads to another place
pub record IsPlaced (place : Place) (line : Line) (it : Said) (behind : Place) : Type 0 where
  pub says : Says line.words (statement_of it.says)
  pub number : it.number ≡ line.number
  pub next : place_behind (place_of place) (statement_of it.says) ≡ Some (place_of behind)

-- a line at a place says nothing that may stand there, and has this number
pub record IsUnfit (place : Place) (line : Line) (number : ℕ) : Type 0 where
  pub none : FitsNothing (place_of place) line.words
  pub here : number ≡ line.number

-- the statement is that of the first line, and the rest is left
pub record IsNext (at : At) (it : Said) (behind : At) : Type 0 where
  pub line : Line
  pub lines : lines_left at.left ≡ line ∷ lines_left behind.left
  pub says : Says line.words (statement_of it.says)
  pub number : it.number ≡ line.number
  pub next : place_behind (place_of at.place) (statement_of it.says)
      ≡ Some (place_of behind.place)
  pub end : end_of behind.left ≤ end_of at.left
  pub shorter : length behind.left.text.now < length at.left.text.now

-- the first line fits nothing, and has this number
pub record IsStuck (at : At) (number : ℕ) : Type 0 where
  pub line : Line
  pub others : List Line
  pub lines : lines_left at.left ≡ line ∷ others
  pub none : FitsNothing (place_of at.place) line.words
  pub here : number ≡ line.number

-- the statements so far, and what is left of the text
pub record Reached (text : List ℕ) (at : At) (all : List Said) : Type 0 where
  pub front : List Line
  pub lines : net_lines text ≡ front ++ lines_left at.left
  pub lead : Lead at_model front (all_said all) (place_of at.place)
  pub end : end_of at.left ≤ length text + 1

-- the text isn't of the form, and this is the number of the first line to blame
abbrev pub IsFormFault : List ℕ → ℕ → Type 0
IsFormFault text number = IsMisplaced (net_lines text) number ⊎ EndsEarly text number
