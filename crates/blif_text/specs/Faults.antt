-- Why a text is no net of single bits.
use Rattle.std.specs.Prelude.{◌≡◌, ℕ, ◌⊎◌, List, [], ◌∷◌, ◌++◌, length, Some}
use Rattle.stimulus.specs.Texts.{lines_of}
use Rattle.blif_text.specs.BlifText.{EachIs, HasLength, HasNames, Lead, Said, TextSays}
use Rattle.blif_text.specs.Lines.{Line, net_lines}
use Rattle.blif_text.specs.Statements.{Place, Says, Statement, place_behind}
use Rattle.blif_text.specs.Statements.Place.{at_model, behind_end}
use Rattle.blif_text.specs.declared.fault.BlifCode.{BlifCode}
use Rattle.blif_text.specs.declared.fault.BlifCode.TheVariants.{B01, B02, B03}
use Rattle.blif_text.specs.declared.fault.BlifFault.{BlifFault}

-- the words say nothing that may stand at the place
abbrev pub FitsNothing : Place → List (List ℕ) → Type 0
FitsNothing place words =
    (statement : Statement) (next : Place) → Says words statement
    → place_behind place statement ≡ Some next → ⊥

-- the first line that isn't of the form, or out of place, has this number
pub record IsMisplaced (lines : List Line) (number : ℕ) : Type 0 where
  pub front : List Line
  pub line : Line
  pub others : List Line
  pub lines_are : lines ≡ front ++ line ∷ others
  pub all : List Said
  pub place : Place
  pub before : Lead at_model front all place
  pub none : FitsNothing place line.words
  pub here : number ≡ line.number

-- the lines have their form and place, but the text ends too early, at its last line
pub record EndsEarly (text : List ℕ) (number : ℕ) : Type 0 where
  pub all : List Said
  pub place : Place
  pub before : Lead at_model (net_lines text) all place
  pub early : place ≡ behind_end → ⊥
  pub here : number ≡ length (lines_of text)

-- the first statement that isn't right stands at this line
pub record IsFirstWithout (Right : List Said → Statement → Type 0) (all : List Said) (number : ℕ)
    : Type 0 where
  pub earlier : List Said
  pub it : Said
  pub others : List Said
  pub all_are : all ≡ earlier ++ it ∷ others
  pub before : EachIs Right [] earlier
  pub broken : Right earlier it.says → ⊥
  pub here : number ≡ it.number

-- the text has the fault of this code at this line
abbrev pub HasFault : List ℕ → BlifCode → ℕ → Type 0
HasFault text B01 number = IsMisplaced (net_lines text) number ⊎ EndsEarly text number
HasFault text B02 number =
    (all : List Said) × (TextSays text all × IsFirstWithout (HasNames all) all number)
HasFault text B03 number =
    (all : List Said)
    × (TextSays text all × EachIs (HasNames all) [] all × IsFirstWithout HasLength all number)

abbrev pub IsBlifFault : List ℕ → BlifFault → Type 0
IsBlifFault text fault = HasFault text fault.code fault.line
