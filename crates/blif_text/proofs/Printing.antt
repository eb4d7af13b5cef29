-- What is written, piece by piece.
use Rattle.std.proofs.Common.{◌≡◌, ℕ, zero, suc, ◌+◌, ◌==◌, Bool, true, false, List, [], ◌∷◌, ◌++◌, length, map, reverse, codes, if◌then◌else◌, refl, sym, ap, ◌∙◌, append_assoc, arith, rules}
use Rattle.std.specs.Prelude.{flat_map, slice_index}
use Rattle.std.proofs.lemmas.Bool.{false≢true}
use Rattle.std.proofs.lemmas.List.{append-nil, reverse-append}
use Rattle.std.proofs.lemmas.List.Concat.{flat_map-append}
use Rattle.chw_base.specs.declared.index.WireId.{WireId}
use Rattle.chw_bits.specs.Bits.{bits_of}
use Rattle.chw_clock.specs.declared.event.Port.{Port}
use Rattle.netlist.specs.declared.net.Flat.{Flat}
use Rattle.verilog_text.specs.Names.{input_name, output_name}
use Rattle.verilog_text.specs.Text.{clock_names}
use Rattle.bit_laws.specs.BitNames.{place_name, wire_name, word_names}
use Rattle.bit_laws.specs.Bitnet.{Bitnet, Node}
use Rattle.bit_laws.specs.Bitnet.Node.{latch, table}
use Rattle.bit_laws.specs.Blast.{blast, input_names, word}
use Rattle.bit_laws.specs.Gates.{digit_of, rows_of}
use Rattle.bit_nodes.specs.Standing.{kind_of}
use Rattle.bit_nodes.specs.declared.nodes.BitGate.{BitGate}
use Rattle.bit_nodes.specs.declared.nodes.BitGate.TheVariants.{Read, Written}
use Rattle.blif_text.specs.Pieces.{head_text, input_text, node_text, output_text, places_text, row_text, rows_text}
use Rattle.blif_text.specs.Printed.{blif_text, node_statements, nodes_and_end, spaced, statement_text}
use Rattle.blif_text.specs.Statements.Statement.{latch_of, row_of, table_of}

pub spaced_append : (xs ys : List (List ℕ)) → spaced (xs ++ ys) ≡ spaced xs ++ spaced ys
spaced_append xs ys = flat_map-append (λ (word : List ℕ). codes " " ++ word) xs ys

-- a word, and words behind words
pub word_written : (out name first last : List ℕ) → first ≡ out ++ codes " " → last ≡ first ++ name → last ≡ out ++ spaced (name ∷ [])
word_written out name first last p q =
    q ∙ ap (λ t. t ++ name) p ∙ append_assoc out (codes " ") name ∙ ap (λ t. out ++ (codes " " ++ t)) (sym (append-nil name))

pub words_written : (out : List ℕ) (xs ys : List (List ℕ)) (first last : List ℕ) → first ≡ out ++ spaced xs → last ≡ first ++ spaced ys → last ≡ out ++ spaced (xs ++ ys)
words_written out xs ys first last p q =
    q ∙ ap (λ t. t ++ spaced ys) p ∙ append_assoc out (spaced xs) (spaced ys) ∙ ap (λ t. out ++ t) (sym (spaced_append xs ys))

-- the bits of a word from the most significant down
pub word_down : (name : List ℕ) (k j : ℕ) (out next whole : List ℕ) → j + 1 ≡ k → next ≡ out ++ (codes " " ++ place_name name j)
    → out ++ spaced (word_names name k) ≡ whole → next ++ spaced (word_names name j) ≡ whole
word_down name zero j out next whole one e h = absurd (omega arith)
word_down name (suc k) j out next whole one e h =
    let same : j ≡ k = omega arith in
    ap (λ t. t ++ spaced (word_names name j)) e ∙ append_assoc out (codes " " ++ place_name name j) (spaced (word_names name j))
    ∙ ap (λ i. out ++ ((codes " " ++ place_name name i) ++ spaced (word_names name i))) same ∙ h

-- and from the least significant up
pub places_more : (name : List ℕ) (k : ℕ) (out mid next : List ℕ) → mid ≡ out ++ places_text name k → next ≡ mid ++ (codes " " ++ place_name name k)
    → next ≡ out ++ places_text name (k + 1)
places_more name k out mid next p q =
    let same : suc k ≡ k + 1 = omega arith in
    q ∙ ap (λ t. t ++ (codes " " ++ place_name name k)) p ∙ append_assoc out (places_text name k) (codes " " ++ place_name name k)
    ∙ ap (λ n. out ++ places_text name n) same

places_spaced : (name : List ℕ) (n : ℕ) → spaced (reverse (word_names name n)) ≡ places_text name n
places_spaced name zero = refl
places_spaced name (suc n) =
    let x = place_name name n in
    ap spaced (reverse-append (x ∷ []) (word_names name n)) ∙ spaced_append (reverse (word_names name n)) (x ∷ [])
    ∙ ap (λ t. t ++ spaced (x ∷ [])) (places_spaced name n) ∙ ap (λ t. places_text name n ++ (codes " " ++ t)) (append-nil x)

ports_spaced : (f : Port → List ℕ) (ports : List Port)
    → spaced (flat_map (λ (port : Port). reverse (word_names (f port) port.width)) ports) ≡ flat_map (λ (port : Port). places_text (f port) port.width) ports
ports_spaced f [] = refl
ports_spaced f (port ∷ ports) =
    let rest = flat_map (λ (port : Port). reverse (word_names (f port) port.width)) ports in
    spaced_append (reverse (word_names (f port) port.width)) rest ∙ ap (λ t. t ++ spaced rest) (places_spaced (f port) port.width)
    ∙ ap (λ t. places_text (f port) port.width ++ t) (ports_spaced f ports)

inputs_spaced : (flat : Flat) → spaced (blast flat).inputs
    ≡ spaced (clock_names flat.ports.resets 0 flat.ports.domains) ++ flat_map (input_text flat.ports) flat.ports.inputs
inputs_spaced flat =
    let clocks = clock_names flat.ports.resets 0 flat.ports.domains in
    spaced_append clocks (flat_map (λ (port : Port). reverse (input_names flat.ports port)) flat.ports.inputs)
    ∙ ap (λ t. spaced clocks ++ t) (ports_spaced (input_name flat.ports.domains) flat.ports.inputs)

outputs_spaced : (flat : Flat) → spaced (blast flat).outputs ≡ flat_map (output_text flat.ports) flat.ports.outputs
outputs_spaced flat = ports_spaced (output_name flat.ports.domains) flat.ports.outputs

six_pieces : (out a s i b o c : List ℕ) → (((((out ++ a) ++ s) ++ i) ++ b) ++ o) ++ c ≡ out ++ ((((a ++ (s ++ i)) ++ b) ++ o) ++ c)
six_pieces out a s i b o c = simp append_assoc

-- the first lines
pub head_written : (flat : Flat) (out p q r s t last : List ℕ) → p ≡ out ++ codes ".model chw_top\n.inputs"
    → q ≡ p ++ spaced (clock_names flat.ports.resets 0 flat.ports.domains) → r ≡ q ++ flat_map (input_text flat.ports) flat.ports.inputs
    → s ≡ r ++ codes "\n.outputs" → t ≡ s ++ flat_map (output_text flat.ports) flat.ports.outputs → last ≡ t ++ codes "\n"
    → last ≡ out ++ head_text (blast flat)
head_written flat out p q r s t last a b c d e f =
    let start = codes ".model chw_top\n.inputs" in
    let clocks = spaced (clock_names flat.ports.resets 0 flat.ports.domains) in
    let inputs = flat_map (input_text flat.ports) flat.ports.inputs in
    let mid = codes "\n.outputs" in
    let outputs = flat_map (output_text flat.ports) flat.ports.outputs in
    let stop = codes "\n" in
    f
    ∙ ap (λ x. x ++ stop)
    (e ∙ ap (λ x. x ++ outputs) (d ∙ ap (λ x. x ++ mid) (c ∙ ap (λ x. x ++ inputs) (b ∙ ap (λ x. x ++ clocks) a))))
    ∙ six_pieces out start clocks inputs mid outputs stop
    ∙ ap (λ x. out ++ ((((start ++ x) ++ mid) ++ outputs) ++ stop)) (sym (inputs_spaced flat))
    ∙ ap (λ x. out ++ ((((start ++ spaced (blast flat).inputs) ++ mid) ++ x) ++ stop)) (sym (outputs_spaced flat))

-- rows of bits
row_is : (bits : List Bool) (empty : Bool) → empty ≡ (length bits == 0) → row_text (map digit_of bits) ≡ map digit_of bits ++ (if empty then codes "1\n" else codes " 1\n")
row_is [] true e = refl
row_is [] false e = absurd (false≢true e)
row_is (b ∷ bits) true e =
    let some : (length (b ∷ bits) == 0) ≡ false = search rules in
    absurd (false≢true (sym some ∙ sym e))
row_is (b ∷ bits) false e = append_assoc (map digit_of (b ∷ bits)) (codes " 1") (codes "\n")

pub row_written : (bits : List Bool) (empty : Bool) (out first last : List ℕ) → empty ≡ (length bits == 0) → first ≡ out ++ map digit_of bits
    → last ≡ first ++ (if empty then codes "1\n" else codes " 1\n") → last ≡ out ++ row_text (map digit_of bits)
row_written bits empty out first last e p q =
    let stop = if empty then codes "1\n" else codes " 1\n" in
    q ∙ ap (λ t. t ++ stop) p ∙ append_assoc out (map digit_of bits) stop ∙ ap (λ t. out ++ t) (sym (row_is bits empty e))

pub row_behind : (bits : List Bool) (out p q last : List ℕ) → p ≡ out ++ codes "1" → q ≡ p ++ map digit_of bits → last ≡ q ++ codes " 1\n"
    → last ≡ out ++ row_text (map digit_of (true ∷ bits))
row_behind bits out p q last a b c =
    c ∙ ap (λ t. t ++ codes " 1\n") (b ∙ ap (λ t. t ++ map digit_of bits) a) ∙ parts out (map digit_of bits)
  where
    parts : (out marks : List ℕ) → ((out ++ codes "1") ++ marks) ++ codes " 1\n" ≡ out ++ (((codes "1" ++ marks) ++ codes " 1") ++ codes "\n")
    parts out marks = simp append_assoc

-- the width of a word
pub word_width : (name : List ℕ) (n : ℕ) → length (word_names name n) ≡ n
word_width name zero = refl
word_width name (suc n) = ap suc (word_width name n)

-- the lines of nodes
pub names_written : (out : List ℕ) (reads : List (List ℕ)) (drives p q r last : List ℕ) → p ≡ out ++ codes ".names" → q ≡ p ++ spaced reads
    → r ≡ q ++ spaced (drives ∷ []) → last ≡ r ++ codes "\n" → last ≡ out ++ statement_text (table_of reads drives)
names_written out reads drives p q r last a b c d =
    d ∙ ap (λ t. t ++ codes "\n") (c ∙ ap (λ t. t ++ spaced (drives ∷ [])) (b ∙ ap (λ t. t ++ spaced reads) a))
    ∙ parts out (codes ".names") (spaced reads) (spaced (drives ∷ [])) (codes "\n")
    ∙ ap (λ t. out ++ ((codes ".names" ++ t) ++ codes "\n")) (sym (spaced_append reads (drives ∷ [])))
  where
    parts : (out a b c d : List ℕ) → (((out ++ a) ++ b) ++ c) ++ d ≡ out ++ ((a ++ (b ++ c)) ++ d)
    parts out a b c d = simp append_assoc

pub latch_written : (out takes drives clock : List ℕ) (initial : Bool) (p q r s t last : List ℕ) → p ≡ out ++ codes ".latch" → q ≡ p ++ spaced (takes ∷ [])
    → r ≡ q ++ spaced (drives ∷ []) → s ≡ r ++ codes " re " → t ≡ s ++ clock → last ≡ t ++ 32 ∷ digit_of initial ∷ 10 ∷ []
    → last ≡ out ++ statement_text (latch_of takes drives clock initial)
latch_written out takes drives clock initial p q r s t last a b c d e f =
    let start = codes ".latch" in
    let first = spaced (takes ∷ []) in
    let second = spaced (drives ∷ []) in
    let stop : List ℕ = 32 ∷ digit_of initial ∷ [] in
    let rest = codes "re" ∷ clock ∷ (digit_of initial ∷ []) ∷ [] in
    f
    ∙ ap (λ x. x ++ 32 ∷ digit_of initial ∷ 10 ∷ [])
    (e ∙ ap (λ x. x ++ clock) (d ∙ ap (λ x. x ++ codes " re ") (c ∙ ap (λ x. x ++ second) (b ∙ ap (λ x. x ++ first) a))))
    ∙ parts out start first second (codes " re ") clock stop (codes "\n")
    ∙ ap (λ x. out ++ ((start ++ (first ++ x)) ++ codes "\n")) (sym (spaced_append (drives ∷ []) rest))
    ∙ ap (λ x. out ++ ((start ++ x) ++ codes "\n")) (sym (spaced_append (takes ∷ []) (drives ∷ rest)))
  where
    parts : (out a b c d e f g : List ℕ) → (((((out ++ a) ++ b) ++ c) ++ d) ++ e) ++ (f ++ g) ≡ out ++ ((a ++ (b ++ (c ++ (d ++ (e ++ f))))) ++ g)
    parts out a b c d e f g = simp append_assoc

-- the text by its parts
rows_are : (rows : List (List ℕ)) → flat_map statement_text (map row_of rows) ≡ rows_text rows
rows_are [] = refl
rows_are (row ∷ rows) = ap (λ t. row_text row ++ t) (rows_are rows)

node_is : (node : Node) → flat_map statement_text (node_statements node) ≡ node_text node
node_is (table reads drives rows) = ap (λ t. statement_text (table_of reads drives) ++ t) (rows_are rows)
node_is (latch takes drives clock initial) = append-nil (statement_text (latch_of takes drives clock initial))

nodes_are : (nodes : List Node) → flat_map statement_text (nodes_and_end nodes) ≡ flat_map node_text nodes ++ codes ".end\n"
nodes_are [] = refl
nodes_are (node ∷ nodes) =
    flat_map-append statement_text (node_statements node) (nodes_and_end nodes)
    ∙ ap (λ t. t ++ flat_map statement_text (nodes_and_end nodes)) (node_is node) ∙ ap (λ t. node_text node ++ t) (nodes_are nodes)
    ∙ sym (append_assoc (node_text node) (flat_map node_text nodes) (codes ".end\n"))

header_is : (inputs outputs rest : List ℕ) → codes ".model chw_top\n" ++ (((codes ".inputs" ++ inputs) ++ codes "\n") ++ (((codes ".outputs" ++ outputs) ++ codes "\n") ++ rest))
    ≡ ((((codes ".model chw_top\n.inputs" ++ inputs) ++ codes "\n.outputs") ++ outputs) ++ codes "\n") ++ rest
header_is inputs outputs rest = parts (codes ".model chw_top\n") (codes ".inputs") inputs (codes "\n") (codes ".outputs") outputs rest
  where
    parts : (a b c d e f g : List ℕ) → a ++ (((b ++ c) ++ d) ++ (((e ++ f) ++ d) ++ g)) ≡ (((((a ++ b) ++ c) ++ (d ++ e)) ++ f) ++ d) ++ g
    parts a b c d e f g = simp append_assoc

pub text_is : (b : Bitnet) → blif_text b ≡ (head_text b ++ flat_map node_text b.nodes) ++ codes ".end\n"
text_is b =
    header_is (spaced b.inputs) (spaced b.outputs) (flat_map statement_text (nodes_and_end b.nodes))
    ∙ ap (λ t. head_text b ++ t) (nodes_are b.nodes) ∙ sym (append_assoc (head_text b) (flat_map node_text b.nodes) (codes ".end\n"))

pub text_written : (b : Bitnet) (start first second last : List ℕ) → start ≡ [] → first ≡ start ++ head_text b → second ≡ first ++ flat_map node_text b.nodes
    → last ≡ second ++ codes ".end\n" → last ≡ blif_text b
text_written b start first second last none head nodes end =
    end ∙ ap (λ t. t ++ codes ".end\n") (nodes ∙ ap (λ t. t ++ flat_map node_text b.nodes) (head ∙ ap (λ t. t ++ head_text b) none)) ∙ sym (text_is b)

-- the rows of addresses
pub written_rows : (flat : Flat) (gate : BitGate) (enable place : WireId) (at : ℕ) → gate ≡ Written enable place at
    → row_text (map digit_of (true ∷ bits_of (slice_index flat.widths place.number) at)) ≡ rows_text (rows_of (kind_of flat gate))
written_rows flat gate enable place at is =
    let row = λ (n : ℕ). row_text (map digit_of (true ∷ bits_of n at)) in
    ap row (sym (word_width (wire_name flat.ports place.number) (slice_index flat.widths place.number)))
    ∙ sym (append-nil (row (length (word flat place.number)))) ∙ ap (λ g. rows_text (rows_of (kind_of flat g))) (sym is)

pub read_rows : (flat : Flat) (gate : BitGate) (address : WireId) (at : ℕ) → gate ≡ Read address at
    → row_text (map digit_of (bits_of (slice_index flat.widths address.number) at)) ≡ rows_text (rows_of (kind_of flat gate))
read_rows flat gate address at is =
    let row = λ (n : ℕ). row_text (map digit_of (bits_of n at)) in
    ap row (sym (word_width (wire_name flat.ports address.number) (slice_index flat.widths address.number)))
    ∙ sym (append-nil (row (length (word flat address.number)))) ∙ ap (λ g. rows_text (rows_of (kind_of flat g))) (sym is)
