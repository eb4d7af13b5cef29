-- All cells and all outputs, one after another.
use Rattle.std.proofs.Common.{◌≡◌, ℕ, zero, suc, ◌+◌, ◌<◌, ◌≤◌, List, [], ◌∷◌, ◌++◌, length, map, get_or, drop, Some, slice_get, refl, sym, ap, subst, ◌∙◌, add-one, append_assoc, arith}
use Rattle.std.specs.List.{flat_map}
use Rattle.std.specs.Prelude.{slice_index}
use Rattle.std.proofs.lemmas.List.{append-nil, drop_all, length-map}
use Rattle.std.proofs.lemmas.Option.{get_or_from_slice_get, slice_get_read, slice_get_within}
use Rattle.chw_base.specs.declared.index.WireId.{WireId}
use Rattle.chw_clock.specs.declared.event.Port.{Port}
use Rattle.netlist.specs.Sound.{FitsCell, Sound}
use Rattle.netlist.specs.declared.net.Cell.{Cell}
use Rattle.netlist.specs.declared.net.Flat.{Flat}
use Rattle.netlist.proofs.Places.{all_at}
use Rattle.verilog_text.specs.Names.{output_name}
use Rattle.bit_laws.specs.BitNames.{place_name, word_names}
use Rattle.bit_laws.specs.Bitnet.{Node}
use Rattle.bit_laws.specs.Blast.{blast, nodes_of, on_each, output_names, output_nodes, word}
use Rattle.bit_laws.specs.Gates.Gate.{buffer}
use Rattle.bit_nodes.specs.Standing.{bitnet_of, node_of, output_at}
use Rattle.bit_nodes.specs.declared.nodes.BitNode.{BitNode}
use Rattle.bit_blast.specs.Adding.{Adds}
use Rattle.bit_blast.specs.Counting.{capped}
use Rattle.bit_blast.specs.Names.{by_places, lowest, names_of}
use Rattle.bit_blast.specs.declared.names.Word.TheVariants.{Part}
use Rattle.bit_blast.specs.declared.names.Word.TheVariants as words
use Rattle.bit_blast.specs.declared.limit.TheConstants.{BIT_NODES}
use Rattle.bit_blast.proofs.Adding.{added_as}
use Rattle.bit_blast.proofs.Places.{lowest_names}

-- what was to be added is added, and the rest is left
pub rest_more : (flat : Flat) (mid new : List BitNode) (these rest whole : List Node) → Adds flat mid new these
    → map (node_of flat) mid ++ (these ++ rest) ≡ whole → map (node_of flat) new ++ rest ≡ whole
rest_more flat mid new these rest whole a e =
    ap (λ (ns : List Node). ns ++ rest) a ∙ append_assoc (map (node_of flat) mid) these rest ∙ e

-- an item and what is behind it
pub drop_some : {X : Type 0} (xs : List X) (i : ℕ) (x : X) → slice_get xs i ≡ Some x → drop i xs ≡ x ∷ drop (suc i) xs
drop_some [] i x e = absurd (cc)
drop_some (y ∷ xs) zero x e = let same : y ≡ x = cc in ap (λ z. z ∷ xs) same
drop_some (y ∷ xs) (suc i) x e = drop_some xs i x e

pub item_of : {X : Type 0} (xs : List X) (k : ℕ) → k < length xs → (x : X) × (slice_get xs k ≡ Some x)
item_of [] k less = absurd (omega arith)
item_of (x ∷ xs) zero less = (x, refl)
item_of (x ∷ xs) (suc k) less = item_of xs k (omega arith)

pub cell_here : (flat : Flat) (items : List Cell) (i : ℕ) (cell : Cell) → items ≡ flat.cells → i < length items → cell ≡ get_or items i cell
    → slice_get flat.cells i ≡ Some cell
cell_here flat items i cell same less is =
    subst (λ (cells : List Cell). slice_get cells i ≡ Some cell) same (slice_get_read items (length items) i cell refl less is)

pub cell_fits : (flat : Flat) (items : List Cell) (i : ℕ) (cell : Cell) → Sound flat → items ≡ flat.cells → i < length items
    → cell ≡ get_or items i cell → FitsCell (length flat.ports.domains) flat.widths cell
cell_fits flat items i cell sound same less is =
    all_at (FitsCell (length flat.ports.domains) flat.widths) flat.cells i cell sound.cells (cell_here flat items i cell same less is)

pub cells_more : (flat : Flat) (old mid new : List BitNode) (items : List Cell) (i : ℕ) (cell : Cell) → i < length items → cell ≡ get_or items i cell
    → map (node_of flat) mid ++ flat_map (nodes_of flat) (drop i items) ≡ map (node_of flat) old ++ flat_map (nodes_of flat) flat.cells
    → Adds flat mid new (nodes_of flat cell)
    → map (node_of flat) new ++ flat_map (nodes_of flat) (drop (i + 1) items) ≡ map (node_of flat) old ++ flat_map (nodes_of flat) flat.cells
cells_more flat old mid new items i cell less is e a =
    let left : drop i items ≡ cell ∷ drop (suc i) items = drop_some items i cell (slice_get_read items (length items) i cell refl less is) in
    rw add-one
    (rest_more flat mid new (nodes_of flat cell) (flat_map (nodes_of flat) (drop (suc i) items)) (map (node_of flat) old ++ flat_map (nodes_of flat) flat.cells) a
    (sym (ap (λ (cells : List Cell). map (node_of flat) mid ++ flat_map (nodes_of flat) cells) left) ∙ e))

pub cells_all : (flat : Flat) (old new : List BitNode) (items : List Cell) (i : ℕ) → length items ≤ i
    → map (node_of flat) new ++ flat_map (nodes_of flat) (drop i items) ≡ map (node_of flat) old ++ flat_map (nodes_of flat) flat.cells
    → Adds flat old new (flat_map (nodes_of flat) flat.cells)
cells_all flat old new items i past e =
    sym (append-nil (map (node_of flat) new))
    ∙ ap (λ (cells : List Cell). map (node_of flat) new ++ flat_map (nodes_of flat) cells) (sym (drop_all i items past))
    ∙ e

mapped_at : {X Y : Type 0} (f : X → Y) (xs : List X) (k : ℕ) (x : X) → slice_get xs k ≡ Some x → slice_get (map f xs) k ≡ Some (f x)
mapped_at f [] k x e = absurd (cc)
mapped_at f (y ∷ xs) zero x e = let same : y ≡ x = cc in ap (λ z. Some (f z)) same
mapped_at f (y ∷ xs) (suc k) x e = mapped_at f xs k x e

-- the names of an output
port_names : (name : List ℕ) (n : ℕ) → by_places (λ j. place_name name j) n ≡ word_names name n
port_names name zero = refl
port_names name (suc n) = ap (λ (xs : List (List ℕ)). place_name name n ∷ xs) (port_names name n)

output_named : (flat : Flat) (k : ℕ) (port : Port) → slice_get flat.ports.outputs k ≡ Some port
    → output_at flat.ports k ≡ output_name flat.ports.domains port
output_named flat k port e =
    get_or_from_slice_get (map (output_name flat.ports.domains) flat.ports.outputs) k (output_name flat.ports.domains port) []
    (mapped_at (output_name flat.ports.domains) flat.ports.outputs k port e)

same_width : (flat : Flat) (ports : List Port) (wires : List WireId) (k : ℕ) (port : Port) (w : WireId)
    → map (λ (v : WireId). slice_get flat.widths v.number) wires ≡ map (λ (p : Port). Some p.width) ports
    → slice_get ports k ≡ Some port → slice_get wires k ≡ Some w → slice_get flat.widths w.number ≡ Some port.width
same_width flat [] wires k port w e f g = absurd (cc)
same_width flat (p ∷ ports) [] k port w e f g = absurd (cc)
same_width flat (p ∷ ports) (v ∷ wires) zero port w e f g =
    let first : slice_get flat.widths v.number ≡ Some p.width = cc in
    let one : p ≡ port = cc in
    let two : v ≡ w = cc in
    subst (λ (u : WireId). slice_get flat.widths u.number ≡ Some port.width) two
    (subst (λ (q : Port). slice_get flat.widths v.number ≡ Some q.width) one first)
same_width flat (p ∷ ports) (v ∷ wires) (suc k) port w e f g =
    let others : map (λ (u : WireId). slice_get flat.widths u.number) wires ≡ map (λ (q : Port). Some q.width) ports = cc in
    same_width flat ports wires k port w others f g

pub outputs_more : (flat : Flat) (old mid new : List BitNode) (k n : ℕ) (w : WireId) → Sound flat → slice_get flat.outputs k ≡ Some w
    → n ≡ slice_index flat.widths w.number
    → map (node_of flat) mid ++ output_nodes flat (drop k flat.ports.outputs) (drop k flat.outputs)
    ≡ map (node_of flat) old ++ output_nodes flat flat.ports.outputs flat.outputs
    → Adds flat mid new (on_each buffer (names_of flat (words.Port k) n) (names_of flat (Part w 0) n))
    → map (node_of flat) new ++ output_nodes flat (drop (k + 1) flat.ports.outputs) (drop (k + 1) flat.outputs)
    ≡ map (node_of flat) old ++ output_nodes flat flat.ports.outputs flat.outputs
outputs_more flat old mid new k n w sound there wide e a =
    let counts : length flat.outputs ≡ length flat.ports.outputs =
    sym (length-map flat.outputs (λ (v : WireId). slice_get flat.widths v.number)) ∙ ap length sound.outputs
    ∙ length-map flat.ports.outputs (λ (p : Port). Some p.width) in
    let less : k < length flat.ports.outputs = omega (arith, counts, slice_get_within flat.outputs k w there) in
    let it = item_of flat.ports.outputs k less in
    let port = it.0 in
    let left = drop_some flat.ports.outputs k port it.1 in
    let right = drop_some flat.outputs k w there in
    let broad : n ≡ port.width =
    wide ∙ get_or_from_slice_get flat.widths w.number port.width 0 (same_width flat flat.ports.outputs flat.outputs k port w sound.outputs it.1 there) in
    let named : names_of flat (words.Port k) n ≡ output_names flat.ports port =
    port_names (output_at flat.ports k) n ∙ ap (λ (name : List ℕ). word_names name n) (output_named flat k port it.1)
    ∙ ap (λ (i : ℕ). word_names (output_name flat.ports.domains port) i) broad in
    let read : names_of flat (Part w 0) n ≡ word flat w.number =
    lowest_names flat w n ∙ ap (λ (i : ℕ). lowest flat w.number i) wide in
    let own = on_each buffer (output_names flat.ports port) (word flat w.number) in
    let these : Adds flat mid new own =
    added_as flat mid new (on_each buffer (names_of flat (words.Port k) n) (names_of flat (Part w 0) n)) own
    (ap (λ (xs : List (List ℕ)). on_each buffer xs (names_of flat (Part w 0) n)) named
    ∙ ap (λ (xs : List (List ℕ)). on_each buffer (output_names flat.ports port) xs) read) a in
    rw add-one
    (rest_more flat mid new own (output_nodes flat (drop (suc k) flat.ports.outputs) (drop (suc k) flat.outputs))
    (map (node_of flat) old ++ output_nodes flat flat.ports.outputs flat.outputs) these
    (sym (ap (λ (ps : List Port). map (node_of flat) mid ++ output_nodes flat ps (drop k flat.outputs)) left
    ∙ ap (λ (ws : List WireId). map (node_of flat) mid ++ output_nodes flat (port ∷ drop (suc k) flat.ports.outputs) ws) right) ∙ e))

pub outputs_all : (flat : Flat) (old new : List BitNode) (k : ℕ) → Sound flat → length flat.outputs ≤ k
    → map (node_of flat) new ++ output_nodes flat (drop k flat.ports.outputs) (drop k flat.outputs)
    ≡ map (node_of flat) old ++ output_nodes flat flat.ports.outputs flat.outputs
    → Adds flat old new (output_nodes flat flat.ports.outputs flat.outputs)
outputs_all flat old new k sound past e =
    let none = drop_all k flat.outputs past in
    sym (append-nil (map (node_of flat) new))
    ∙ ap (λ (ns : List Node). map (node_of flat) new ++ ns) (sym (no_outputs (drop k flat.ports.outputs)))
    ∙ ap (λ (ws : List WireId). map (node_of flat) new ++ output_nodes flat (drop k flat.ports.outputs) ws) (sym none)
    ∙ e
  where
    no_outputs : (ports : List Port) → output_nodes flat ports [] ≡ []
    no_outputs [] = refl
    no_outputs (p ∷ ports) = refl

-- nodes that stand for those of the net are its nodes, and as many
pub nets_alike : (flat : Flat) (nodes items : List BitNode) → nodes ≡ items → map (node_of flat) items ≡ (blast flat).nodes
    → bitnet_of flat nodes ≡ blast flat
nets_alike flat nodes items e f =
    ap (λ (ns : List BitNode). bitnet_of flat ns) e ∙ ap (λ (ns : List Node). record (blast flat) { nodes = ns }) f

pub nodes_few : (flat : Flat) (nodes items : List BitNode) (count : ℕ) → nodes ≡ items → map (node_of flat) items ≡ (blast flat).nodes
    → count ≡ capped (length (blast flat).nodes) → count ≤ BIT_NODES → length nodes ≤ BIT_NODES
nodes_few flat nodes items count e f h within = omega (arith, ap length e, ap length f, length-map items (node_of flat), h)
