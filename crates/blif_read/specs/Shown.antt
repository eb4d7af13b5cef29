-- What the reader's data say.
use Rattle.std.specs.Prelude.{ℕ, ◌+◌, List, [], length, map}
use Rattle.stimulus.specs.Texts.{lines_of, texts}
use Rattle.blif_text.specs.BlifText.{Said, said}
use Rattle.blif_text.specs.Lines.{Line, lines_from}
use Rattle.blif_text.specs.Statements.{Place, Statement}
use Rattle.blif_text.specs.Statements.Place.{at_inputs, at_model, at_node, at_outputs, at_row}
use Rattle.blif_text.specs.Statements.Place.{behind_end}
use Rattle.blif_text.specs.Statements.Statement.{ends, inputs_are, latch_of, model, outputs_are}
use Rattle.blif_text.specs.Statements.Statement.{row_of, table_of}
use Rattle.blif_read.specs.declared.lines.Left.{Left}
use Rattle.blif_read.specs.declared.lines.Line.{Line as ReadLine}
use Rattle.blif_read.specs.declared.places.Place.{Place as ReadPlace}
use Rattle.blif_read.specs.declared.places.Place.TheVariants.{AtInputs, AtModel, AtNode, AtOutputs}
use Rattle.blif_read.specs.declared.places.Place.TheVariants.{AtRow, BehindEnd}
use Rattle.blif_read.specs.declared.statement.Said.{Said as ReadSaid}
use Rattle.blif_read.specs.declared.statement.Statement.{Statement as ReadStatement}
use Rattle.blif_read.specs.declared.statement.Statement.TheVariants.{End, Inputs, Latch, Model}
use Rattle.blif_read.specs.declared.statement.Statement.TheVariants.{Outputs, Row, Table}

-- the lines of what is left
abbrev pub lines_left : Left → List Line
lines_left left = lines_from left.number left.number [] (lines_of left.text.now)

-- no line behind it has a greater number
abbrev pub end_of : Left → ℕ
end_of left = left.number + length left.text.now

abbrev pub line_of : ReadLine → Line
line_of line = record { number = line.number; words = texts line.words.items }

abbrev pub statement_of : ReadStatement → Statement
statement_of Model = model
statement_of (Inputs names) = inputs_are (texts names.items)
statement_of (Outputs names) = outputs_are (texts names.items)
statement_of (Table reads drives) = table_of (texts reads.items) drives.now
statement_of (Row marks) = row_of marks.now
statement_of (Latch takes drives clock initial) =
    latch_of takes.now drives.now clock.now initial
statement_of End = ends

abbrev pub said_of : ReadSaid → Said
said_of it = said it.number (statement_of it.says)

abbrev pub all_said : List ReadSaid → List Said
all_said = map said_of

abbrev pub place_of : ReadPlace → Place
place_of AtModel = at_model
place_of AtInputs = at_inputs
place_of AtOutputs = at_outputs
place_of AtNode = at_node
place_of AtRow = at_row
place_of BehindEnd = behind_end
