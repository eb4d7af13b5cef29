-- The pieces of a printed text.
use Rattle.std.specs.Prelude.{ℕ, zero, suc, List, [], ◌++◌, codes, flat_map}
use Rattle.chw_clock.specs.declared.event.Port.{Port}
use Rattle.chw_clock.specs.declared.event.Ports.{Ports}
use Rattle.verilog_text.specs.Names.{input_name, output_name}
use Rattle.bit_laws.specs.BitNames.{place_name}
use Rattle.bit_laws.specs.Bitnet.{Bitnet, Node}
use Rattle.bit_laws.specs.Bitnet.Node.{latch, table}
use Rattle.blif_text.specs.Printed.{spaced, statement_text}
use Rattle.blif_text.specs.Statements.Statement.{latch_of, row_of, table_of}

-- the first lines
abbrev pub head_text : Bitnet → List ℕ
head_text b =
    codes ".model chw_top\n.inputs" ++ spaced b.inputs ++ codes "\n.outputs" ++ spaced b.outputs
    ++ codes "\n"

-- the line of a row, and those of rows
abbrev pub row_text : (marks : List ℕ) → List ℕ
row_text marks = statement_text (row_of marks)

abbrev pub rows_text : List (List ℕ) → List ℕ
rows_text = flat_map row_text

-- the lines of a node
abbrev pub node_text : Node → List ℕ
node_text (table reads drives rows) = statement_text (table_of reads drives) ++ rows_text rows
node_text (latch takes drives clock initial) =
    statement_text (latch_of takes drives clock initial)

-- the names of so many bits of a word, the least significant first, each with a space before it
abbrev pub places_text : (name : List ℕ) → ℕ → List ℕ
places_text name zero = []
places_text name (suc places) =
    places_text name places ++ (codes " " ++ place_name name places)

-- those of an input, and of an output
abbrev pub input_text : Ports → Port → List ℕ
input_text ports port = places_text (input_name ports.domains port) port.width

abbrev pub output_text : Ports → Port → List ℕ
output_text ports port = places_text (output_name ports.domains port) port.width
