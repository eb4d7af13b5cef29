-- The nodes of each cell stand in the net of single bits, and words have the widths of their wires.
use Rattle.std.proofs.Common.{◌≡◌, ℕ, zero, suc, ◌+◌, ◌-◌, ◌<◌, ◌≤◌, Bool, List, [], ◌∷◌, ◌++◌, length, take, drop, get_or, Some, slice_get, refl, sym, ap, subst, ◌∙◌, arith}
use Rattle.std.specs.List.{AllByRecursion}
use Rattle.std.specs.Prelude.{flat_map, fold, slice_index}
use Rattle.std.proofs.lemmas.List.Concat.{length-flat_map}
use Rattle.std.proofs.lemmas.Option.{get_or_from_slice_get, same_Some, slice_get-get_or}
use Rattle.chw_base.specs.declared.index.WireId.{WireId}
use Rattle.chw_bits.specs.Bits.{cut_of}
use Rattle.chw_clock.specs.declared.event.Event.{Event}
use Rattle.chw_clock.specs.declared.event.Ports.{Ports}
use Rattle.netlist.specs.NetValue.{HasCell}
use Rattle.netlist.specs.Sound.{IsWireWidth, Sound, width_of_all}
use Rattle.netlist.specs.declared.net.Cell.{Cell}
use Rattle.netlist.specs.declared.net.Flat.{Flat}
use Rattle.netlist.proofs.Places.{all_at}
use Rattle.bit_laws.specs.BitNames.{wire_name, word_names}
use Rattle.bit_laws.specs.Bitnet.{Bitnet, HasNode, HaveBits}
use Rattle.bit_laws.specs.Blast.{blast, nodes_of, output_nodes, part_of, word}
use Rattle.bit_laws.specs.CellLaws.{HaveWords}
use Rattle.bit_laws.proofs.Words.{HasNodes, have_dropped, have_joined, have_length, have_taken}

-- the list has the item
abbrev pub HasItem : {X : Type 0} → List X → X → Type 0
HasItem xs x = (place : ℕ) × (slice_get xs place ≡ Some x)

pub item_left : {X : Type 0} (xs ys : List X) (x : X) → HasItem xs x → HasItem (xs ++ ys) x
item_left [] ys x (k, e) = absurd (cc)
item_left (z ∷ xs) ys x (zero, e) = (zero, e)
item_left (z ∷ xs) ys x (suc k, e) = let rest = item_left xs ys x (k, e) in (suc rest.0, rest.1)

pub item_right : {X : Type 0} (xs ys : List X) (x : X) → HasItem ys x → HasItem (xs ++ ys) x
item_right [] ys x has = has
item_right (z ∷ xs) ys x has = let rest = item_right xs ys x has in (suc rest.0, rest.1)

pub item_mapped : {X Y : Type 0} (f : X → List Y) (xs : List X) (x : X) (y : Y) → HasItem xs x → HasItem (f x) y → HasItem (flat_map f xs) y
item_mapped f [] x y (k, e) there = absurd (cc)
item_mapped f (z ∷ xs) x y (zero, e) there =
    item_left (f z) (flat_map f xs) y (subst (λ v. HasItem (f v) y) (sym (same_Some z x e)) there)
item_mapped f (z ∷ xs) x y (suc k, e) there = item_right (f z) (flat_map f xs) y (item_mapped f xs x y (k, e) there)

pub all_of : {X : Type 0} (P : X → Type 0) (xs : List X) → ((x : X) → HasItem xs x → P x) → AllByRecursion P xs
all_of P [] each = tt
all_of P (x ∷ xs) each = (each x (zero, refl), all_of P xs (λ y has. each y (suc has.0, has.1)))

-- the nodes of a cell
pub nodes_there : (flat : Flat) (cell : Cell) → HasCell flat cell → HasNodes (blast flat) (nodes_of flat cell)
nodes_there flat cell has =
    all_of (HasNode (blast flat)) (nodes_of flat cell)
    (λ node there. item_left (flat_map (nodes_of flat) flat.cells) (output_nodes flat flat.ports.outputs flat.outputs) node
    (item_mapped (nodes_of flat) flat.cells cell node has there))

-- those of the outputs
pub outputs_there : (flat : Flat) → HasNodes (blast flat) (output_nodes flat flat.ports.outputs flat.outputs)
outputs_there flat =
    all_of (HasNode (blast flat)) (output_nodes flat flat.ports.outputs flat.outputs)
    (λ node there. item_right (flat_map (nodes_of flat) flat.cells) (output_nodes flat flat.ports.outputs flat.outputs) node there)

pub length-word_names : (name : List ℕ) (n : ℕ) → length (word_names name n) ≡ n
length-word_names name zero = refl
length-word_names name (suc n) = ap suc (length-word_names name n)

pub word_length : (flat : Flat) (w n : ℕ) → slice_get flat.widths w ≡ Some n → length (word flat w) ≡ n
word_length flat w n e =
    length-word_names (wire_name flat.ports w) (slice_index flat.widths w) ∙ get_or_from_slice_get flat.widths w n 0 e

-- a wire has a bit
pub word_some : (flat : Flat) (w : ℕ) → Sound flat → w < length flat.widths → 1 ≤ length (word flat w)
word_some flat w sound less =
    let e = slice_get-get_or flat.widths w 0 less in
    let some : IsWireWidth (get_or flat.widths w 0) = all_at IsWireWidth flat.widths w (get_or flat.widths w 0) sound.widths e in
    omega (arith, word_length flat w (get_or flat.widths w 0) e, some.0)

-- the words of joined wires
lengths_alike : (flat : Flat) (parts : List WireId) (k : ℕ)
    → fold (λ a (p : WireId). a + length (word flat p.number)) k parts ≡ fold (λ a (p : WireId). a + slice_index flat.widths p.number) k parts
lengths_alike flat [] k = refl
lengths_alike flat (p ∷ parts) k =
    ap (λ n. fold (λ a (p : WireId). a + length (word flat p.number)) (k + n) parts)
    (length-word_names (wire_name flat.ports p.number) (slice_index flat.widths p.number))
    ∙ lengths_alike flat parts (k + slice_index flat.widths p.number)

pub joined_length : (flat : Flat) (parts : List WireId) → length (flat_map (λ (p : WireId). word flat p.number) parts) ≡ width_of_all flat.widths parts
joined_length flat parts = length-flat_map (λ (p : WireId). word flat p.number) parts ∙ lengths_alike flat parts 0

pub joins_have : (flat : Flat) (h : List Event) (parts : List WireId) (values : List (List Bool)) → HaveWords flat h parts values
    → HaveBits flat.ports (blast flat) h (flat_map (λ (p : WireId). word flat p.number) parts) (flat_map (λ bits. bits) values)
joins_have flat h [] [] v = tt
joins_have flat h [] (x ∷ values) v = absurd v
joins_have flat h (p ∷ parts) [] v = absurd v
joins_have flat h (p ∷ parts) (x ∷ values) v =
    have_joined flat.ports (blast flat) h (word flat p.number) (flat_map (λ (p : WireId). word flat p.number) parts) x (flat_map (λ bits. bits) values)
    v.0 (joins_have flat h parts values v.1)

-- the part of a word
pub part_has : (ports : Ports) (b : Bitnet) (h : List Event) (high low : ℕ) (names : List (List ℕ)) (bits : List Bool)
    → HaveBits ports b h names bits → HaveBits ports b h (part_of high low names) (cut_of high low bits)
part_has ports b h high low names bits v =
    subst (λ n. HaveBits ports b h (part_of high low names) (take (high + 1 - low) (drop (n - 1 - high) bits))) (have_length ports b h names bits v)
    (have_taken ports b h (high + 1 - low) (drop (length names - 1 - high) names) (drop (length names - 1 - high) bits)
    (have_dropped ports b h (length names - 1 - high) names bits v))
