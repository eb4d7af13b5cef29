-- The printed text of a net that breaks no rule is read as this net.
use Rattle.std.proofs.Common.{◌≡◌, ℕ, ◌+◌, Bool, true, false, List, [], ◌∷◌, ◌++◌, length, map, refl, sym, ap, subst, ◌∙◌, append_assoc}
use Rattle.std.specs.Prelude.{flat_map, IsTrue, Some}
use Rattle.std.specs.List.{AllByRecursion}
use Rattle.std.proofs.lemmas.Bool.{false_from_ne_true, false≢true}
use Rattle.std.proofs.lemmas.List.{append-nil}
use Rattle.std.proofs.lemmas.List.Concat.{flat_map-append}
use Rattle.name_tables.specs.Names.{AreDistinct, is_among}
use Rattle.verilog_text.proofs.Places.{among_left}
use Rattle.bit_laws.specs.Bitnet.{Bitnet, Node}
use Rattle.bit_laws.specs.Bitnet.Node.{latch, table}
use Rattle.bit_laws.specs.Driven.{NamesOnly, drives_of}
use Rattle.blif_text.specs.BlifText.{BlifText, EachIs, HasClock, HasLength, HasNames, Lead, Said, all_given, all_inputs, all_nodes, all_outputs, first_rows, given_by, inputs_of, net_said, outputs_of, read_by, said, width_behind, width_with}
use Rattle.blif_text.specs.BlifText.Lead.{none, more}
use Rattle.blif_text.specs.Printed.{blif_text, net_statements, node_statements, nodes_and_end}
use Rattle.blif_text.specs.Right.{HasNodeForm, IsRight, IsRow, known_names}
use Rattle.blif_text.specs.Statements.{HasForm, Place, Statement, place_behind}
use Rattle.blif_text.specs.Statements.Place.{at_inputs, at_model, at_node, at_outputs, at_row, behind_end}
use Rattle.blif_text.specs.Statements.Statement.{ends, inputs_are, latch_of, model, outputs_are, row_of, table_of}
use Rattle.blif_text.proofs.Bytes.{all_append, clock_named}
use Rattle.blif_text.proofs.Going.{width_more}
use Rattle.blif_text.proofs.LinesRead.{lines_said, statements_read}

-- statements with the numbers of their lines
abbrev all_said : ℕ → List Statement → List Said
all_said n [] = []
all_said n (s ∷ ss) = said n s ∷ all_said (n + 1) ss

-- statements that may stand one behind another
abbrev Run : Place → List Statement → Place → Type 0
Run place [] end = place ≡ end
Run place (s ∷ ss) end = (next : Place) × ((place_behind place s ≡ Some next) × Run next ss end)

leads : (n : ℕ) (place end : Place) (ss : List Statement) → AllByRecursion HasForm ss → Run place ss end → Lead place (lines_said n ss) (all_said n ss) end
leads n place end [] all run = subst (λ p. Lead place [] [] p) run (none place)
leads n place end (s ∷ ss) all run =
    more place run.0 end _ (lines_said (n + 1) ss) s (all_said (n + 1) ss) (refl, all.0) run.1.0 (leads (n + 1) run.0 end ss all.1 run.1.1)

-- a node may stand behind rows or not
abbrev here : (rows : Bool) → Place
here true = at_row
here false = at_node

table_here : (rows : Bool) (reads : List (List ℕ)) (drives : List ℕ) → place_behind (here rows) (table_of reads drives) ≡ Some at_row
table_here true reads drives = refl
table_here false reads drives = refl

latch_here : (rows : Bool) (takes drives clock : List ℕ) (initial : Bool) → place_behind (here rows) (latch_of takes drives clock initial) ≡ Some at_node
latch_here true takes drives clock initial = refl
latch_here false takes drives clock initial = refl

end_here : (rows : Bool) → place_behind (here rows) ends ≡ Some behind_end
end_here true = refl
end_here false = refl

rows_run : (rows : List (List ℕ)) (ss : List Statement) (end : Place) → Run at_row ss end → Run at_row (map row_of rows ++ ss) end
rows_run [] ss end run = run
rows_run (marks ∷ rows) ss end run = (at_row, (refl, rows_run rows ss end run))

nodes_run : (nodes : List Node) (rows : Bool) → Run (here rows) (nodes_and_end nodes) behind_end
nodes_run [] rows = (behind_end, (end_here rows, refl))
nodes_run (table reads drives marks ∷ nodes) rows =
    (at_row, (table_here rows reads drives, rows_run marks (nodes_and_end nodes) behind_end (nodes_run nodes true)))
nodes_run (latch takes drives clock initial ∷ nodes) rows = (at_node, (latch_here rows takes drives clock initial, nodes_run nodes false))

net_runs : (b : Bitnet) → Run at_model (net_statements b) behind_end
net_runs b = (at_inputs, (refl, (at_outputs, (refl, (at_node, (refl, nodes_run b.nodes false))))))

-- all statements have their form
rows_formed : (width : ℕ) (rows : List (List ℕ)) → AllByRecursion (IsRow width) rows → AllByRecursion HasForm (map row_of rows)
rows_formed width [] all = tt
rows_formed width (marks ∷ rows) all = (all.0.0, rows_formed width rows all.1)

node_formed : (node : Node) → HasNodeForm node → AllByRecursion HasForm (node_statements node)
node_formed (table reads drives rows) form = ((form.0, form.1), rows_formed (length reads) rows form.2)
node_formed (latch takes drives clock initial) form = ((form.0, form.1, clock_named clock form.2), tt)

nodes_formed : (nodes : List Node) → AllByRecursion HasNodeForm nodes → AllByRecursion HasForm (nodes_and_end nodes)
nodes_formed [] all = (tt, tt)
nodes_formed (node ∷ nodes) all = all_append HasForm (node_statements node) (nodes_and_end nodes) (node_formed node all.0) (nodes_formed nodes all.1)

-- what they name
given_said : (n : ℕ) (ss : List Statement) → all_given (all_said n ss) ≡ flat_map given_by ss
given_said n [] = refl
given_said n (s ∷ ss) = ap (λ names. given_by s ++ names) (given_said (n + 1) ss)

inputs_said : (n : ℕ) (ss : List Statement) → all_inputs (all_said n ss) ≡ flat_map inputs_of ss
inputs_said n [] = refl
inputs_said n (s ∷ ss) = ap (λ names. inputs_of s ++ names) (inputs_said (n + 1) ss)

outputs_said : (n : ℕ) (ss : List Statement) → all_outputs (all_said n ss) ≡ flat_map outputs_of ss
outputs_said n [] = refl
outputs_said n (s ∷ ss) = ap (λ names. outputs_of s ++ names) (outputs_said (n + 1) ss)

-- rows name nothing
rows_of_none : (f : Statement → List (List ℕ)) → ((marks : List ℕ) → f (row_of marks) ≡ []) → (rows : List (List ℕ)) (ss : List Statement)
    → flat_map f (map row_of rows ++ ss) ≡ flat_map f ss
rows_of_none f empty [] ss = refl
rows_of_none f empty (marks ∷ rows) ss = ap (λ names. names ++ flat_map f (map row_of rows ++ ss)) (empty marks) ∙ rows_of_none f empty rows ss

given_nodes : (nodes : List Node) → flat_map given_by (nodes_and_end nodes) ≡ map drives_of nodes
given_nodes [] = refl
given_nodes (table reads drives rows ∷ nodes) =
    ap (λ names. drives ∷ names) (rows_of_none given_by (λ marks. refl) rows (nodes_and_end nodes) ∙ given_nodes nodes)
given_nodes (latch takes drives clock initial ∷ nodes) = ap (λ names. drives ∷ names) (given_nodes nodes)

inputs_nodes : (nodes : List Node) → flat_map inputs_of (nodes_and_end nodes) ≡ []
inputs_nodes [] = refl
inputs_nodes (table reads drives rows ∷ nodes) = rows_of_none inputs_of (λ marks. refl) rows (nodes_and_end nodes) ∙ inputs_nodes nodes
inputs_nodes (latch takes drives clock initial ∷ nodes) = inputs_nodes nodes

outputs_nodes : (nodes : List Node) → flat_map outputs_of (nodes_and_end nodes) ≡ []
outputs_nodes [] = refl
outputs_nodes (table reads drives rows ∷ nodes) = rows_of_none outputs_of (λ marks. refl) rows (nodes_and_end nodes) ∙ outputs_nodes nodes
outputs_nodes (latch takes drives clock initial ∷ nodes) = outputs_nodes nodes

module _ (b : Bitnet) where
  abbrev net_said_all : List Said
  net_said_all = all_said 1 (net_statements b)

  given_net : all_given net_said_all ≡ known_names b
  given_net = given_said 1 (net_statements b) ∙ ap (λ names. b.inputs ++ names) (given_nodes b.nodes)

  inputs_net : all_inputs net_said_all ≡ b.inputs
  inputs_net = inputs_said 1 (net_statements b) ∙ ap (λ names. b.inputs ++ names) (inputs_nodes b.nodes) ∙ append-nil b.inputs

  outputs_net : all_outputs net_said_all ≡ b.outputs
  outputs_net = outputs_said 1 (net_statements b) ∙ ap (λ names. b.outputs ++ names) (outputs_nodes b.nodes) ∙ append-nil b.outputs

-- the nodes are those of the net
rows_first : (n : ℕ) (rows : List (List ℕ)) (ss : List Statement) → ((k : ℕ) → first_rows (all_said k ss) ≡ []) → first_rows (all_said n (map row_of rows ++ ss)) ≡ rows
rows_first n [] ss empty = empty n
rows_first n (marks ∷ rows) ss empty = ap (λ rs. marks ∷ rs) (rows_first (n + 1) rows ss empty)

rows_passed : (n : ℕ) (rows : List (List ℕ)) (ss : List Statement) (nodes : List Node) → ((k : ℕ) → all_nodes (all_said k ss) ≡ nodes)
    → all_nodes (all_said n (map row_of rows ++ ss)) ≡ nodes
rows_passed n [] ss nodes each = each n
rows_passed n (marks ∷ rows) ss nodes each = rows_passed (n + 1) rows ss nodes each

no_rows : (nodes : List Node) (k : ℕ) → first_rows (all_said k (nodes_and_end nodes)) ≡ []
no_rows [] k = refl
no_rows (table reads drives rows ∷ nodes) k = refl
no_rows (latch takes drives clock initial ∷ nodes) k = refl

nodes_said : (nodes : List Node) (k : ℕ) → all_nodes (all_said k (nodes_and_end nodes)) ≡ nodes
nodes_said [] k = refl
nodes_said (table reads drives rows ∷ nodes) k =
    let first = rows_first (k + 1) rows (nodes_and_end nodes) (no_rows nodes) in
    let rest = rows_passed (k + 1) rows (nodes_and_end nodes) nodes (nodes_said nodes) in
    λ i. table reads drives (first i) ∷ rest i
nodes_said (latch takes drives clock initial ∷ nodes) k = ap (λ ns. latch takes drives clock initial ∷ ns) (nodes_said nodes (k + 1))

net_is : (b : Bitnet) → b ≡ net_said (all_said 1 (net_statements b))
net_is b =
    let inputs = sym (inputs_net b) in
    let outputs = sym (outputs_net b) in
    let nodes = sym (nodes_said b.nodes 4) in
    λ i. record { inputs = inputs i; outputs = outputs i; nodes = nodes i }

-- the names are right
distinct_left : (xs ys : List (List ℕ)) → AreDistinct (xs ++ ys) → AreDistinct xs
distinct_left [] ys distinct = tt
distinct_left (x ∷ xs) ys distinct =
    (false_from_ne_true (is_among xs x) (λ there. false≢true (sym distinct.0 ∙ among_left xs ys x there)), distinct_left xs ys distinct.1)

record Knows (whole : List Said) (it : Statement) : Type 0 where
  known : AllByRecursion (λ name. IsTrue (is_among (all_given whole) name)) (read_by it)
  clocked : HasClock (all_inputs whole) it

each_right : (whole earlier rest : List Said) → whole ≡ earlier ++ rest → AreDistinct (all_given whole) → AllByRecursion (λ (it : Said). Knows whole it.says) rest
    → EachIs (HasNames whole) earlier rest
each_right whole earlier [] is distinct knows = tt
each_right whole earlier (it ∷ rest) is distinct knows = (
  record { known = knows.0.known; once = distinct_left (all_given earlier ++ given_by it.says) (all_given rest) (subst AreDistinct parts distinct); clocked = knows.0.clocked },
  each_right whole (earlier ++ it ∷ []) rest (is ∙ sym (append_assoc earlier (it ∷ []) rest)) distinct knows.1,
)
  where
    parts : all_given whole ≡ (all_given earlier ++ given_by it.says) ++ all_given rest
    parts =
        ap all_given is ∙ flat_map-append (λ (x : Said). given_by x.says) earlier (it ∷ rest)
        ∙ sym (append_assoc (all_given earlier) (given_by it.says) (all_given rest))

knows_said : (whole : List Said) (n : ℕ) (ss : List Statement) → AllByRecursion (Knows whole) ss → AllByRecursion (λ (it : Said). Knows whole it.says) (all_said n ss)
knows_said whole n [] all = tt
knows_said whole n (s ∷ ss) all = (all.0, knows_said whole (n + 1) ss all.1)

module _ (whole : List Said) where
  abbrev Known : List ℕ → Type 0
  Known name = IsTrue (is_among (all_given whole) name)

  abbrev Clock : List ℕ → Type 0
  Clock name = IsTrue (is_among (all_inputs whole) name)

  rows_know : (rows : List (List ℕ)) → AllByRecursion (Knows whole) (map row_of rows)
  rows_know [] = tt
  rows_know (marks ∷ rows) = (record { known = tt; clocked = tt }, rows_know rows)

  node_knows : (node : Node) → HasNodeForm node → NamesOnly Known Clock node → AllByRecursion (Knows whole) (node_statements node)
  node_knows (table reads drives rows) form names = (record { known = names; clocked = tt }, rows_know rows)
  node_knows (latch takes drives clock initial) form names = (record { known = (names.0, tt); clocked = (names.1, form.2) }, tt)

  nodes_know : (nodes : List Node) → AllByRecursion HasNodeForm nodes → AllByRecursion (NamesOnly Known Clock) nodes → AllByRecursion (Knows whole) (nodes_and_end nodes)
  nodes_know [] forms names = (record { known = tt; clocked = tt }, tt)
  nodes_know (node ∷ nodes) forms names =
      all_append (Knows whole) (node_statements node) (nodes_and_end nodes) (node_knows node forms.0 names.0) (nodes_know nodes forms.1 names.1)

net_knows : (b : Bitnet) → IsRight b → AllByRecursion (Knows (all_said 1 (net_statements b))) (net_statements b)
net_knows b right =
    let whole = all_said 1 (net_statements b) in
    let outputs = subst (λ names. AllByRecursion (λ name. IsTrue (is_among names name)) b.outputs) (sym (given_net b)) right.outputs_known in
    let driven = subst (λ names. AllByRecursion (NamesOnly (λ name. IsTrue (is_among names name)) (λ name. IsTrue (is_among b.inputs name))) b.nodes)
    (sym (given_net b)) right.nodes_known in
    let clocked = subst (λ names. AllByRecursion (NamesOnly (Known whole) (λ name. IsTrue (is_among names name))) b.nodes) (sym (inputs_net b)) driven in (
      record { known = tt; clocked = tt },
      (record { known = tt; clocked = tt }, (record { known = outputs; clocked = tt }, nodes_know whole b.nodes right.forms clocked)),
    )

-- the rows are as long as what their tables read
abbrev IsLong : ℕ → Statement → Type 0
IsLong width (row_of marks) = length marks ≡ width
IsLong width _ = Unit {0}

abbrev AreLong : ℕ → List Statement → Type 0
AreLong width [] = Unit {0}
AreLong width (s ∷ ss) = IsLong width s × AreLong (width_with width s) ss

has_length : (earlier : List Said) (s : Statement) → IsLong (width_behind 0 earlier) s → HasLength earlier s
has_length earlier model long = tt
has_length earlier (inputs_are names) long = tt
has_length earlier (outputs_are names) long = tt
has_length earlier (table_of reads drives) long = tt
has_length earlier (row_of marks) long = long
has_length earlier (latch_of takes drives clock initial) long = tt
has_length earlier ends long = tt

each_long : (n : ℕ) (earlier : List Said) (ss : List Statement) → AreLong (width_behind 0 earlier) ss → EachIs HasLength earlier (all_said n ss)
each_long n earlier [] long = tt
each_long n earlier (s ∷ ss) long = (
  has_length earlier s long.0,
  each_long (n + 1) (earlier ++ said n s ∷ []) ss (subst (λ width. AreLong width ss) (sym (width_more 0 earlier (said n s))) long.1),
)

rows_long : (width : ℕ) (rows : List (List ℕ)) (ss : List Statement) → AllByRecursion (IsRow width) rows → AreLong width ss → AreLong width (map row_of rows ++ ss)
rows_long width [] ss all long = long
rows_long width (marks ∷ rows) ss all long = (all.0.1, rows_long width rows ss all.1 long)

nodes_long : (width : ℕ) (nodes : List Node) → AllByRecursion HasNodeForm nodes → AreLong width (nodes_and_end nodes)
nodes_long width [] all = (tt, tt)
nodes_long width (table reads drives rows ∷ nodes) all =
    (tt, rows_long (length reads) rows (nodes_and_end nodes) all.0.2 (nodes_long (length reads) nodes all.1))
nodes_long width (latch takes drives clock initial ∷ nodes) all = (tt, nodes_long width nodes all.1)

pub printed_bits_are_read : (b : Bitnet) → IsRight b → BlifText (blif_text b) b
printed_bits_are_read b right =
    let ss = net_statements b in
    let whole = all_said 1 ss in
    let forms : AllByRecursion HasForm ss = (tt, (right.input_names, (right.output_names, nodes_formed b.nodes right.forms))) in
    let distinct = subst AreDistinct (sym (given_net b)) right.once in
    record {
      all = whole;
      says = subst (λ lines. Lead at_model lines whole behind_end) (sym (statements_read 1 ss forms)) (leads 1 at_model behind_end ss forms (net_runs b));
      names = each_right whole [] whole refl distinct (knows_said whole 1 ss (net_knows b right));
      lengths = each_long 1 [] ss (tt, (tt, (tt, nodes_long 0 b.nodes right.forms)));
      net_is = net_is b;
    }
