-- The text of a net of single bits: each statement is a line, with one space between its words.
use Rattle.std.specs.Prelude.{ℕ, List, [], ◌∷◌, ◌++◌, codes, flat_map, map}
use Rattle.bit_laws.specs.Bitnet.{Bitnet, Node}
use Rattle.bit_laws.specs.Bitnet.Node.{latch, table}
use Rattle.blif_text.specs.Statements.{Statement, words_of}
use Rattle.blif_text.specs.Statements.Statement.{ends, inputs_are, latch_of, model, outputs_are}
use Rattle.blif_text.specs.Statements.Statement.{row_of, table_of}

-- words, each with a space before it
abbrev pub spaced : List (List ℕ) → List ℕ
spaced = flat_map (λ word. codes " " ++ word)

-- a line of words
abbrev pub line_text : List (List ℕ) → List ℕ
line_text [] = codes "\n"
line_text (word ∷ words) = word ++ spaced words ++ codes "\n"

-- the line of a statement
abbrev pub statement_text : Statement → List ℕ
statement_text statement = line_text (words_of statement)

-- the statements of a node
abbrev pub node_statements : Node → List Statement
node_statements (table reads drives rows) = table_of reads drives ∷ map row_of rows
node_statements (latch takes drives clock initial) = latch_of takes drives clock initial ∷ []

-- those of nodes, and the end
abbrev pub nodes_and_end : List Node → List Statement
nodes_and_end [] = ends ∷ []
nodes_and_end (node ∷ nodes) = node_statements node ++ nodes_and_end nodes

-- those of a net
abbrev pub net_statements : Bitnet → List Statement
net_statements b =
    model ∷ inputs_are b.inputs ∷ outputs_are b.outputs ∷ nodes_and_end b.nodes

-- the text of a net
abbrev pub blif_text : Bitnet → List ℕ
blif_text b = flat_map statement_text (net_statements b)
