-- Copies of names, rows and nodes.
use Rattle.std.proofs.Common.{◌≡◌, ℕ, ◌+◌, ◌<◌, List, [], ◌∷◌, ◌++◌, length, map, take, drop, get_or, refl, sym, ap, ◌∙◌, append_assoc}
use Rattle.std.specs.Borrow.{Bor}
use Rattle.std.specs.List.{flat_map}
use Rattle.std.proofs.lemmas.List.{append-nil, drop_more, map-append, map_more}
use Rattle.bit_laws.specs.Bitnet.{Node}
use Rattle.blif_text.specs.BlifText.{Said, all_nodes, first_rows, with_node, with_row}
use Rattle.blif_text.specs.Statements.{Statement}
use Rattle.blif_text.specs.Statements.Statement.{ends, inputs_are, latch_of, model, outputs_are, row_of, table_of}
use Rattle.stimulus.specs.Texts.{texts}
use Rattle.blif_read.specs.Nets.{node_of}
use Rattle.blif_read.specs.Shown.{all_said, said_of, statement_of}
use Rattle.blif_read.specs.declared.bitnet.Node.{Node as ReadNode}
use Rattle.blif_read.specs.declared.statement.Said.{Said as ReadSaid}
use Rattle.blif_read.specs.declared.statement.Statement.{Statement as ReadStatement}
use Rattle.blif_read.specs.declared.statement.Statement.TheVariants.{Row}
use Rattle.blif_read.proofs.Lists.{flat_more}

-- one name more
pub names_next : (old names pushed : List (List ℕ)) (more : List (Bor (List ℕ))) (i : ℕ) (d : Bor (List ℕ)) (copy : List ℕ) → i < length more
    → names ≡ old ++ texts (take i more) → pushed ≡ names ++ copy ∷ [] → copy ≡ (get_or more i d).now → pushed ≡ old ++ texts (take (i + 1) more)
names_next old names pushed more i d copy within so_far put is =
    put ∙ ap (λ (ns : List (List ℕ)). ns ++ copy ∷ []) so_far ∙ append_assoc old (texts (take i more)) (copy ∷ [])
    ∙ ap (λ (x : List ℕ). old ++ (texts (take i more) ++ x ∷ [])) is
    ∙ ap (λ (t : List (List ℕ)). old ++ t) (sym (map_more (λ (t : Bor (List ℕ)). t.now) more i d within))

-- the names of one statement more
pub named_next : (f : Said → List (List ℕ)) (all : List ReadSaid) (i : ℕ) (it d : ReadSaid) (names new more : List (List ℕ)) → i < length all → it ≡ get_or all i d
    → names ≡ flat_map f (all_said (take i all)) → new ≡ names ++ more → more ≡ f (said_of it) → new ≡ flat_map f (all_said (take (i + 1) all))
named_next f all i it d names new more within is so_far new_is more_is =
    new_is ∙ ap (λ (ns : List (List ℕ)). ns ++ more) so_far ∙ ap (λ (m : List (List ℕ)). flat_map f (all_said (take i all)) ++ m) more_is
    ∙ sym (flat_more f all i it d within is)

at_drop : (all : List ReadSaid) (i : ℕ) (it d : ReadSaid) → i < length all → it ≡ get_or all i d → drop i all ≡ it ∷ drop (i + 1) all
at_drop all i it d within is = drop_more all i d within ∙ ap (λ (x : ReadSaid). x ∷ drop (i + 1) all) (sym is)

-- one row more
pub rows_next : (others : List ReadSaid) (i : ℕ) (it d : ReadSaid) (marks : Bor (List ℕ)) (rows pushed : List (List ℕ)) (copy : List ℕ) → i < length others → it ≡ get_or others i d
    → it.says ≡ Row marks → rows ++ first_rows (all_said (drop i others)) ≡ first_rows (all_said others) → pushed ≡ rows ++ copy ∷ [] → copy ≡ marks.now
    → pushed ++ first_rows (all_said (drop (i + 1) others)) ≡ first_rows (all_said others)
rows_next others i it d marks rows pushed copy within is row so_far put copied =
    let rest = first_rows (all_said (drop (i + 1) others)) in
    let here : first_rows (all_said (drop i others)) ≡ marks.now ∷ rest =
    ap (λ (xs : List ReadSaid). first_rows (all_said xs)) (at_drop others i it d within is) ∙ ap (λ (s : ReadStatement). with_row (statement_of s) rest) row in
    ap (λ (ps : List (List ℕ)). ps ++ rest) put ∙ append_assoc rows (copy ∷ []) rest ∙ ap (λ (x : List ℕ). rows ++ x ∷ rest) copied
    ∙ ap (λ (rs : List (List ℕ)). rows ++ rs) (sym here) ∙ so_far

no_row : (s : ReadStatement) (rows : List (List ℕ)) → ((marks : Bor (List ℕ)) → s ≡ Row marks → ⊥) → with_row (statement_of s) rows ≡ []
no_row (Row marks) rows never = absurd (never marks refl)
no_row _ rows never = refl

-- no row more
pub rows_end : (others : List ReadSaid) (i : ℕ) (it d : ReadSaid) (rows : List (List ℕ)) → i < length others → it ≡ get_or others i d
    → ((marks : Bor (List ℕ)) → it.says ≡ Row marks → ⊥) → rows ++ first_rows (all_said (drop i others)) ≡ first_rows (all_said others)
    → rows ≡ first_rows (all_said others)
rows_end others i it d rows within is never so_far =
    let rest = first_rows (all_said (drop (i + 1) others)) in
    let here : first_rows (all_said (drop i others)) ≡ [] =
    ap (λ (xs : List ReadSaid). first_rows (all_said xs)) (at_drop others i it d within is) ∙ no_row it.says rest never in
    sym (append-nil rows) ∙ ap (λ (rs : List (List ℕ)). rows ++ rs) (sym here) ∙ so_far

-- the node of a statement stands before those of others
node_before : (s : Statement) (rows : List (List ℕ)) (nodes : List Node) → with_node s rows nodes ≡ with_node s rows [] ++ nodes
node_before model rows nodes = refl
node_before (inputs_are names) rows nodes = refl
node_before (outputs_are names) rows nodes = refl
node_before (table_of reads drives) rows nodes = refl
node_before (row_of marks) rows nodes = refl
node_before (latch_of takes drives clock initial) rows nodes = refl
node_before ends rows nodes = refl

-- the nodes of one statement more
pub nodes_next : (all : List ReadSaid) (i : ℕ) (it d : ReadSaid) (others : List ReadSaid) (nodes new : List ReadNode) → i < length all → it ≡ get_or all i d
    → others ≡ drop (i + 1) all → map node_of nodes ++ all_nodes (all_said (drop i all)) ≡ all_nodes (all_said all)
    → map node_of new ≡ map node_of nodes ++ with_node (statement_of it.says) (first_rows (all_said others)) []
    → map node_of new ++ all_nodes (all_said (drop (i + 1) all)) ≡ all_nodes (all_said all)
nodes_next all i it d others nodes new within is others_are so_far new_are =
    let rest = drop (i + 1) all in
    let mine = with_node (statement_of it.says) (first_rows (all_said rest)) [] in
    let here : all_nodes (all_said (drop i all)) ≡ mine ++ all_nodes (all_said rest) =
    ap (λ (xs : List ReadSaid). all_nodes (all_said xs)) (at_drop all i it d within is)
    ∙ node_before (statement_of it.says) (first_rows (all_said rest)) (all_nodes (all_said rest)) in
    ap (λ (ns : List Node). ns ++ all_nodes (all_said rest))
    (new_are ∙ ap (λ (xs : List ReadSaid). map node_of nodes ++ with_node (statement_of it.says) (first_rows (all_said xs)) []) others_are)
    ∙ append_assoc (map node_of nodes) mine (all_nodes (all_said rest)) ∙ ap (λ (ns : List Node). map node_of nodes ++ ns) (sym here) ∙ so_far

-- one node more
pub node_pushed : (nodes new : List ReadNode) (node made : ReadNode) → new ≡ nodes ++ node ∷ [] → node ≡ made → map node_of new ≡ map node_of nodes ++ node_of made ∷ []
node_pushed nodes new node made put is =
    ap (map node_of) put ∙ map-append node_of nodes (node ∷ []) ∙ ap (λ (n : ReadNode). map node_of nodes ++ node_of n ∷ []) is
