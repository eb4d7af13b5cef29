-- Which texts are nets of single bits: the part of BLIF that has one model `chw_top`, tables whose
-- rows give 1, and latches at rising edges.
use Rattle.std.specs.Prelude.{◌≡◌, ℕ, IsTrue, List, [], ◌∷◌, ◌++◌, length, flat_map, Some}
use Rattle.std.specs.List.{AllByRecursion}
use Rattle.chw_base.specs.Names.{IsUpper}
use Rattle.name_tables.specs.Names.{AreDistinct, is_among}
use Rattle.verilog_text.specs.Names.{clock_name}
use Rattle.bit_laws.specs.Bitnet.{Bitnet, Node}
use Rattle.bit_laws.specs.Bitnet.Node.{latch, table}
use Rattle.blif_text.specs.Lines.{Line, net_lines}
use Rattle.blif_text.specs.Statements.{Place, Says, Statement, place_behind}
use Rattle.blif_text.specs.Statements.Place.{at_model, behind_end}
use Rattle.blif_text.specs.Statements.Statement.{inputs_are, latch_of, outputs_are, row_of}
use Rattle.blif_text.specs.Statements.Statement.{table_of}

-- a statement, and the number of its line
pub record Said : Type 0 where
  pub number : ℕ
  pub says : Statement

abbrev pub said : ℕ → Statement → Said
said number statement = record { number = number; says = statement }

-- the lines say these statements, each of which may stand at its place, and lead from one place to
-- another
pub data Lead : Place → List Line → List Said → Place → Type 0 where
  none : (place : Place) → Lead place [] [] place
  more : (place next end : Place) (line : Line) (lines : List Line) (statement : Statement)
      (others : List Said)
      → Says line.words statement → place_behind place statement ≡ Some next
      → Lead next lines others end
      → Lead place (line ∷ lines) (said line.number statement ∷ others) end

-- the text says these statements
abbrev pub TextSays : List ℕ → List Said → Type 0
TextSays text all = Lead at_model (net_lines text) all behind_end

-- what a statement names as inputs, and as outputs
abbrev pub inputs_of : Statement → List (List ℕ)
inputs_of (inputs_are names) = names
inputs_of _ = []

abbrev pub outputs_of : Statement → List (List ℕ)
outputs_of (outputs_are names) = names
outputs_of _ = []

-- the inputs, and the name that a table or a latch drives
abbrev pub given_by : Statement → List (List ℕ)
given_by (inputs_are names) = names
given_by (table_of reads drives) = drives ∷ []
given_by (latch_of takes drives clock initial) = drives ∷ []
given_by _ = []

-- the outputs, and what a table or a latch reads
abbrev pub read_by : Statement → List (List ℕ)
read_by (outputs_are names) = names
read_by (table_of reads drives) = reads
read_by (latch_of takes drives clock initial) = takes ∷ []
read_by _ = []

-- the inputs, the outputs, and the names that are inputs or driven
abbrev pub all_inputs : List Said → List (List ℕ)
all_inputs = flat_map (λ it. inputs_of it.says)

abbrev pub all_outputs : List Said → List (List ℕ)
all_outputs = flat_map (λ it. outputs_of it.says)

abbrev pub all_given : List Said → List (List ℕ)
all_given = flat_map (λ it. given_by it.says)

-- `clk_` and the name of a domain
abbrev pub IsClock : List ℕ → Type 0
IsClock name = (domain : List ℕ) × (IsUpper domain × (name ≡ clock_name domain))

-- the clock of a latch is one of these names, and of this form
abbrev pub HasClock : List (List ℕ) → Statement → Type 0
HasClock names (latch_of takes drives clock initial) =
    IsTrue (is_among names clock) × IsClock clock
HasClock names _ = Unit {0}

-- behind the earlier statements, what it reads is an input or driven, what it drives is neither
-- an input nor driven before, and a clock is an input
pub record HasNames (all earlier : List Said) (it : Statement) : Type 0 where
  pub known : AllByRecursion (λ name. IsTrue (is_among (all_given all) name)) (read_by it)
  pub once : AreDistinct (all_given earlier ++ given_by it)
  pub clocked : HasClock (all_inputs all) it

-- how many names the last table among statements reads; before the first one it is this number
abbrev pub width_with : ℕ → Statement → ℕ
width_with width (table_of reads drives) = length reads
width_with width _ = width

abbrev pub width_behind : ℕ → List Said → ℕ
width_behind width [] = width
width_behind width (it ∷ others) = width_behind (width_with width it.says) others

-- a row has a mark for each name that its table reads
abbrev pub HasLength : (earlier : List Said) → Statement → Type 0
HasLength earlier (row_of marks) = length marks ≡ width_behind 0 earlier
HasLength earlier _ = Unit {0}

-- each statement is right behind those before it
abbrev pub EachIs : (List Said → Statement → Type 0) → (earlier : List Said) → List Said → Type 0
EachIs Right earlier [] = Unit {0}
EachIs Right earlier (it ∷ others) =
    Right earlier it.says × EachIs Right (earlier ++ it ∷ []) others

-- the rows with which statements begin
abbrev pub with_row : Statement → List (List ℕ) → List (List ℕ)
with_row (row_of marks) rows = marks ∷ rows
with_row _ rows = []

abbrev pub first_rows : List Said → List (List ℕ)
first_rows [] = []
first_rows (it ∷ others) = with_row it.says (first_rows others)

-- the nodes of statements: a table has the rows that stand right behind it
abbrev pub with_node : Statement → (rows : List (List ℕ)) → List Node → List Node
with_node (table_of reads drives) rows nodes = table reads drives rows ∷ nodes
with_node (latch_of takes drives clock initial) rows nodes =
    latch takes drives clock initial ∷ nodes
with_node _ rows nodes = nodes

abbrev pub all_nodes : List Said → List Node
all_nodes [] = []
all_nodes (it ∷ others) = with_node it.says (first_rows others) (all_nodes others)

-- the net of statements
abbrev pub net_said : List Said → Bitnet
net_said all =
    record { inputs = all_inputs all; outputs = all_outputs all; nodes = all_nodes all }

-- the text is that of a net of single bits
pub record BlifText (text : List ℕ) (b : Bitnet) : Type 0 where
  pub all : List Said
  pub says : TextSays text all
  pub names : EachIs (HasNames all) [] all
  pub lengths : EachIs HasLength [] all
  pub net_is : b ≡ net_said all
