-- No name is driven by two nodes.
use Rattle.std.proofs.Common.{◌≡◌, ℕ, zero, suc, ◌+◌, ◌<◌, ◌≤◌, ◌^◌, false, List, [], ◌∷◌, ◌++◌, length, map, Some, slice_get, refl, sym, ap, subst, ◌∙◌, arith, if◌then◌else◌, inl, inr, ◌⊎◌}
use Rattle.std.specs.Prelude.{flat_map, slice_index, slice_index_or}
use Rattle.std.proofs.lemmas.Bool.{false≢true, le-ltb}
use Rattle.std.proofs.lemmas.List.{length-append}
use Rattle.std.proofs.lemmas.Option.{same_Some}
use Rattle.chw_base.specs.declared.index.WireId.{WireId}
use Rattle.chw_base.specs.declared.limits.TheConstants.{FLAT_WIRES, WIRE_BITS}
use Rattle.chw_clock.specs.declared.event.Port.{Port}
use Rattle.name_tables.specs.Names.{AreDistinct, is_among}
use Rattle.net_rules.specs.PortsHold.{PortsHold}
use Rattle.netlist.specs.Feeds.{target}
use Rattle.netlist.specs.NetValue.{HasCell}
use Rattle.netlist.specs.Sound.{DrivesFrom, IsWireWidth, Sound}
use Rattle.netlist.specs.declared.net.Cell.{Cell}
use Rattle.netlist.specs.declared.net.Flat.{Flat}
use Rattle.netlist.proofs.Places.{all_at}
use Rattle.verilog_text.specs.Names.{input_name, output_name, wire_text}
use Rattle.verilog_text.proofs.DistinctNames.{ports_distinct}
use Rattle.verilog_text.proofs.Places.{stands_among}
use Rattle.bit_laws.specs.BitNames.{further, place_name, wire_name}
use Rattle.bit_laws.specs.Bitnet.{Node}
use Rattle.bit_laws.specs.Blast.{blast, nodes_of, on_each, output_names, output_nodes, word}
use Rattle.bit_laws.specs.Driven.{DrivenOnce, drives_of}
use Rattle.bit_laws.specs.Gates.Gate.{buffer}
use Rattle.bit_laws.proofs.CellOrder.{cell_drives}
use Rattle.bit_laws.proofs.Nodes.{HasItem, word_length}
use Rattle.bit_laws.proofs.Order.{InOrder, each_drive}
use Rattle.bit_laws.proofs.Spelling.{OfWire, further_no_place, further_of_wire, further_same, one_wire, output_no_further, output_no_wire, place_of_wire, place_same, same_before}

pub item_parted : {X : Type 0} (xs ys : List X) (x : X) → HasItem (xs ++ ys) x → HasItem xs x ⊎ HasItem ys x
item_parted [] ys x has = inr has
item_parted (z ∷ xs) ys x (zero, e) = inl (zero, e)
item_parted (z ∷ xs) ys x (suc k, e) = more (item_parted xs ys x (k, e))
  where
    more : HasItem xs x ⊎ HasItem ys x → HasItem (z ∷ xs) x ⊎ HasItem ys x
    more (inl has) = inl (suc has.0, has.1)
    more (inr has) = inr has

pub mapped_at : {X Y : Type 0} (f : X → Y) (xs : List X) (k : ℕ) (x : X) → slice_get xs k ≡ Some x → slice_get (map f xs) k ≡ Some (f x)
mapped_at f [] k x e = absurd (cc)
mapped_at f (z ∷ xs) zero x e = ap (λ y. Some (f y)) (same_Some z x e)
mapped_at f (z ∷ xs) (suc k) x e = mapped_at f xs k x e

-- the nodes drive names of which none stands twice
abbrev Apart : List Node → Type 0
Apart [] = Unit {0}
Apart (n ∷ nodes) = ((m : Node) → HasItem nodes m → drives_of n ≡ drives_of m → ⊥) × Apart nodes

abbrev NoneShared : List Node → List Node → Type 0
NoneShared xs ys = (m n : Node) → HasItem xs m → HasItem ys n → drives_of m ≡ drives_of n → ⊥

apart_joined : (xs ys : List Node) → Apart xs → Apart ys → NoneShared xs ys → Apart (xs ++ ys)
apart_joined [] ys first second none = second
apart_joined (x ∷ xs) ys first second none =
    (λ m has e. by_part m e (item_parted xs ys m has), apart_joined xs ys first.1 second (λ m n a b e. none m n (suc a.0, a.1) b e))
  where
    by_part : (m : Node) → drives_of x ≡ drives_of m → HasItem xs m ⊎ HasItem ys m → ⊥
    by_part m e (inl has) = first.0 m has e
    by_part m e (inr has) = none x m (zero, refl) has e

-- so two places with one name are one place
apart_once : (nodes : List Node) → Apart nodes → (p q : ℕ) (m n : Node) → slice_get nodes p ≡ Some m → slice_get nodes q ≡ Some n
    → drives_of m ≡ drives_of n → p ≡ q
apart_once [] apart p q m n e f same = absurd (cc)
apart_once (x ∷ nodes) apart zero zero m n e f same = refl
apart_once (x ∷ nodes) apart zero (suc q) m n e f same = absurd (apart.0 n (q, f) (ap drives_of (same_Some x m e) ∙ same))
apart_once (x ∷ nodes) apart (suc p) zero m n e f same = absurd (apart.0 m (p, e) (ap drives_of (same_Some x n f) ∙ sym same))
apart_once (x ∷ nodes) apart (suc p) (suc q) m n e f same = ap suc (apart_once nodes apart.1 p q m n e f same)

-- what nodes in order drive
record IsFurther (k x count : ℕ) (driven : List ℕ) : Type 0 where
  number : ℕ
  from : x ≤ number
  below : number < count
  is : driven ≡ further k number

record IsPlace (name : List ℕ) (j places : ℕ) (driven : List ℕ) : Type 0 where
  number : ℕ
  from : j ≤ number
  below : number < places
  is : driven ≡ place_name name number

record Counts (nodes : List Node) (x j count places : ℕ) : Type 0 where
  all : count + places ≡ x + j + length nodes
  further_grow : x ≤ count
  places_grow : j ≤ places

counts : (name : List ℕ) (k : ℕ) (nodes : List Node) (x j count places : ℕ) → InOrder name k nodes x j count places → Counts nodes x j count places
counts name k [] x j count places (e, f) = record { all = omega arith; further_grow = omega arith; places_grow = omega arith }
counts name k (n ∷ nodes) x j count places (inl first) =
    let rest = counts name k nodes (suc x) j count places first.1 in
    let sum = rest.all in
    let more = rest.further_grow in
    let most = rest.places_grow in
    record { all = omega arith; further_grow = omega arith; places_grow = most }
counts name k (n ∷ nodes) x j count places (inr first) =
    let rest = counts name k nodes x (suc j) count places first.1 in
    let sum = rest.all in
    let more = rest.further_grow in
    let most = rest.places_grow in
    record { all = omega arith; further_grow = more; places_grow = omega arith }

named : (name : List ℕ) (k : ℕ) (nodes : List Node) (x j count places : ℕ) → InOrder name k nodes x j count places → (m : Node) → HasItem nodes m
    → IsFurther k x count (drives_of m) ⊎ IsPlace name j places (drives_of m)
named name k [] x j count places order m has = absurd (let none = has.1 in cc)
named name k (n ∷ nodes) x j count places (inl first) m (zero, e) =
    let rest = counts name k nodes (suc x) j count places first.1 in
    let more = rest.further_grow in
    inl (record { number = x; from = omega arith; below = omega arith; is = ap drives_of (sym (same_Some n m e)) ∙ first.0 })
named name k (n ∷ nodes) x j count places (inr first) m (zero, e) =
    let rest = counts name k nodes x (suc j) count places first.1 in
    let more = rest.places_grow in
    inr (record { number = j; from = omega arith; below = omega arith; is = ap drives_of (sym (same_Some n m e)) ∙ first.0 })
named name k (n ∷ nodes) x j count places (inl first) m (suc p, e) = later (named name k nodes (suc x) j count places first.1 m (p, e))
  where
    later : IsFurther k (suc x) count (drives_of m) ⊎ IsPlace name j places (drives_of m) → IsFurther k x count (drives_of m) ⊎ IsPlace name j places (drives_of m)
    later (inl it) = let from = it.from in inl (record { number = it.number; from = omega arith; below = it.below; is = it.is })
    later (inr it) = inr it
named name k (n ∷ nodes) x j count places (inr first) m (suc p, e) = later (named name k nodes x (suc j) count places first.1 m (p, e))
  where
    later : IsFurther k x count (drives_of m) ⊎ IsPlace name (suc j) places (drives_of m) → IsFurther k x count (drives_of m) ⊎ IsPlace name j places (drives_of m)
    later (inl it) = inl it
    later (inr it) = let from = it.from in inr (record { number = it.number; from = omega arith; below = it.below; is = it.is })

-- nodes in order drive each name once, where no further name is a place
in_order_apart : (name : List ℕ) (k : ℕ) → ((x j : ℕ) → j < 2 ^ 64 → further k x ≡ place_name name j → ⊥) → (nodes : List Node)
    (x j count places : ℕ) → count ≤ 2 ^ 64 → places ≤ 2 ^ 64 → InOrder name k nodes x j count places → Apart nodes
in_order_apart name k differ [] x j count places few least order = tt
in_order_apart name k differ (n ∷ nodes) x j count places few least (inl first) = (
  λ m has e. other m e (named name k nodes (suc x) j count places first.1 m has),
  in_order_apart name k differ nodes (suc x) j count places few least first.1,
)
  where
    grow : suc x ≤ count
    grow = (counts name k nodes (suc x) j count places first.1).further_grow

    other : (m : Node) → drives_of n ≡ drives_of m → IsFurther k (suc x) count (drives_of m) ⊎ IsPlace name j places (drives_of m) → ⊥
    other m e (inl it) =
        let from = it.from in
        let below = it.below in
        let same = further_same k x it.number (omega (arith, grow)) (omega arith) (sym first.0 ∙ e ∙ it.is) in
        omega (arith, same)
    other m e (inr it) = let below = it.below in differ x it.number (omega arith) (sym first.0 ∙ e ∙ it.is)
in_order_apart name k differ (n ∷ nodes) x j count places few least (inr first) = (
  λ m has e. other m e (named name k nodes x (suc j) count places first.1 m has),
  in_order_apart name k differ nodes x (suc j) count places few least first.1,
)
  where
    grow : suc j ≤ places
    grow = (counts name k nodes x (suc j) count places first.1).places_grow

    other : (m : Node) → drives_of n ≡ drives_of m → IsFurther k x count (drives_of m) ⊎ IsPlace name (suc j) places (drives_of m) → ⊥
    other m e (inl it) = differ it.number j (omega (arith, grow)) (sym it.is ∙ sym e ∙ first.0)
    other m e (inr it) =
        let from = it.from in
        let below = it.below in
        let same = place_same name j it.number (omega (arith, grow)) (omega arith) (sym first.0 ∙ e ∙ it.is) in
        omega (arith, same)

module _ (flat : Flat) (sound : Sound flat) where
  -- a wire that is no input has its own name
  own_name : (w : ℕ) → length flat.ports.inputs ≤ w → wire_name flat.ports w ≡ wire_text w
  own_name w le =
      ap (λ t. if t then slice_index_or (map (input_name flat.ports.domains) flat.ports.inputs) w [] else wire_text w) (le-ltb w (length flat.ports.inputs) le)

  record CellOrder (w : ℕ) (nodes : List Node) : Type 0 where
    count : ℕ
    order : InOrder (wire_text w) w nodes 0 0 count (slice_index flat.widths w)

  ordered : (cell : Cell) (w : ℕ) → HasCell flat cell → target cell ≡ Some w → length flat.ports.inputs ≤ w → CellOrder w (nodes_of flat cell)
  ordered cell w has t le =
      let d = cell_drives flat sound cell w has t in
      record { count = d.0; order = subst (λ name. InOrder name w (nodes_of flat cell) 0 0 d.0 (slice_index flat.widths w)) (own_name w le) d.1 }

  -- a node of a cell drives a name of its wire
  of_cell : (cell : Cell) (w : ℕ) → HasCell flat cell → target cell ≡ Some w → length flat.ports.inputs ≤ w → (n : Node) → HasItem (nodes_of flat cell) n
      → OfWire w (drives_of n)
  of_cell cell w has t le n there = by_kind (named (wire_text w) w (nodes_of flat cell) 0 0 d.count (slice_index flat.widths w) d.order n there)
    where
      d : CellOrder w (nodes_of flat cell)
      d = ordered cell w has t le

      by_kind : IsFurther w 0 d.count (drives_of n) ⊎ IsPlace (wire_text w) 0 (slice_index flat.widths w) (drives_of n) → OfWire w (drives_of n)
      by_kind (inl it) = subst (λ name. OfWire w name) (sym it.is) (further_of_wire w it.number)
      by_kind (inr it) = subst (λ name. OfWire w name) (sym it.is) (place_of_wire w it.number)

  cell_apart : (cell : Cell) (w : ℕ) → HasCell flat cell → target cell ≡ Some w → length flat.ports.inputs ≤ w → length (nodes_of flat cell) < 2 ^ 64
      → Apart (nodes_of flat cell)
  cell_apart cell w has t le small =
      let d = ordered cell w has t le in
      let c = counts (wire_text w) w (nodes_of flat cell) 0 0 d.count (slice_index flat.widths w) d.order in
      let sum = c.all in
      in_order_apart (wire_text w) w (λ x j less e. further_no_place w x j less e) (nodes_of flat cell) 0 0 d.count (slice_index flat.widths w)
      (omega (arith, sum, small)) (omega (arith, sum, small)) d.order

  -- the cells drive names of the wires from one on
  pub record FromWire (w count : ℕ) (driven : List ℕ) : Type 0 where
    pub wire : ℕ
    pub from : w ≤ wire
    pub below : wire < w + count
    pub of_it : OfWire wire driven

  pub of_cells : (w : ℕ) (cells : List Cell) → DrivesFrom w cells → ((cell : Cell) → HasItem cells cell → HasCell flat cell) → length flat.ports.inputs ≤ w
      → (n : Node) → HasItem (flat_map (nodes_of flat) cells) n → FromWire w (length cells) (drives_of n)
  of_cells w [] drive each le n has = absurd (let none = has.1 in cc)
  of_cells w (cell ∷ cells) drive each le n has = by_part (item_parted (nodes_of flat cell) (flat_map (nodes_of flat) cells) n has)
      (λ there. of_cells (w + 1) cells drive.1 (λ c there. each c (suc there.0, there.1)) (omega arith) n there)
    where
      by_part : HasItem (nodes_of flat cell) n ⊎ HasItem (flat_map (nodes_of flat) cells) n
          → (HasItem (flat_map (nodes_of flat) cells) n → FromWire (w + 1) (length cells) (drives_of n))
          → FromWire w (length (cell ∷ cells)) (drives_of n)
      by_part (inl there) rest = record {
        wire = w;
        from = omega arith;
        below = omega arith;
        of_it = of_cell cell w (each cell (zero, refl)) drive.0 le n there;
      }
      by_part (inr there) rest =
          let it = rest there in
          let from = it.from in
          let below = it.below in
          record { wire = it.wire; from = omega arith; below = omega arith; of_it = it.of_it }

  cells_apart : (w : ℕ) (cells : List Cell) → DrivesFrom w cells → ((cell : Cell) → HasItem cells cell → HasCell flat cell) → length flat.ports.inputs ≤ w
      → w + length cells ≤ FLAT_WIRES → length (flat_map (nodes_of flat) cells) < 2 ^ 64 → Apart (flat_map (nodes_of flat) cells)
  cells_apart w [] drive each le few small = tt
  cells_apart w (cell ∷ cells) drive each le few small =
      apart_joined (nodes_of flat cell) (flat_map (nodes_of flat) cells)
      (cell_apart cell w (each cell (zero, refl)) drive.0 le (omega (arith, small, both)))
      (cells_apart (w + 1) cells drive.1 later (omega arith) (omega arith) (omega (arith, small, both)))
      (λ m n here there e. differ m n here (of_cells (w + 1) cells drive.1 later (omega arith) n there) e)
    where
      both : length (flat_map (nodes_of flat) (cell ∷ cells)) ≡ length (nodes_of flat cell) + length (flat_map (nodes_of flat) cells)
      both = length-append (nodes_of flat cell) (flat_map (nodes_of flat) cells)

      later : (c : Cell) → HasItem cells c → HasCell flat c
      later c there = each c (suc there.0, there.1)

      differ : (m n : Node) → HasItem (nodes_of flat cell) m → FromWire (w + 1) (length cells) (drives_of n) → drives_of m ≡ drives_of n → ⊥
      differ m n here it e =
          let from = it.from in
          let below = it.below in
          let own = of_cell cell w (each cell (zero, refl)) drive.0 le m here in
          let same = one_wire w it.wire (drives_of n) (omega arith) (omega arith) (subst (λ name. OfWire w name) e own) it.of_it in
          omega (arith, same)

  -- the outputs drive places of their names
  pub record OfOutput (ports : List Port) (driven : List ℕ) : Type 0 where
    pub port : Port
    pub has : HasItem ports port
    pub place : ℕ
    pub small : place < 2 ^ 64
    pub is : driven ≡ place_name (output_name flat.ports.domains port) place

  pub width_small : (w n : ℕ) → slice_get flat.widths w ≡ Some n → n ≤ WIRE_BITS
  width_small w n e = (all_at IsWireWidth flat.widths w n sound.widths e).1

  -- the outputs are as wide as their wires
  abbrev AsWide : List Port → List WireId → Type 0
  AsWide ports wires = map (λ (w : WireId). slice_get flat.widths w.number) wires ≡ map (λ (p : Port). Some p.width) ports

  pub buffers_order : (port : Port) (w : WireId) → slice_get flat.widths w.number ≡ Some port.width
      → InOrder (output_name flat.ports.domains port) 0 (on_each buffer (output_names flat.ports port) (word flat w.number)) 0 0 0 port.width
  buffers_order port w e = each_drive (output_name flat.ports.domains port) 0 buffer port.width (word flat w.number) 0 (word_length flat w.number port.width e)

  buffer_named : (port : Port) (w : WireId) → slice_get flat.widths w.number ≡ Some port.width → (n : Node)
      → HasItem (on_each buffer (output_names flat.ports port) (word flat w.number)) n → IsPlace (output_name flat.ports.domains port) 0 port.width (drives_of n)
  buffer_named port w e n has =
      by_kind (named (output_name flat.ports.domains port) 0 (on_each buffer (output_names flat.ports port) (word flat w.number)) 0 0 0 port.width (buffers_order port w e) n has)
    where
      by_kind : IsFurther 0 0 0 (drives_of n) ⊎ IsPlace (output_name flat.ports.domains port) 0 port.width (drives_of n)
          → IsPlace (output_name flat.ports.domains port) 0 port.width (drives_of n)
      by_kind (inl it) = absurd (let below = it.below in omega arith)
      by_kind (inr it) = it

  pub of_outputs : (ports : List Port) (wires : List WireId) → AsWide ports wires → (n : Node) → HasItem (output_nodes flat ports wires) n → OfOutput ports (drives_of n)
  of_outputs [] wires wide n has = absurd (let none = has.1 in cc)
  of_outputs (p ∷ ports) [] wide n has = absurd (let none = has.1 in cc)
  of_outputs (p ∷ ports) (w ∷ wires) wide n has =
      by_part (item_parted (on_each buffer (output_names flat.ports p) (word flat w.number)) (output_nodes flat ports wires) n has)
      (λ there. of_outputs ports wires rest_wide n there)
    where
      first_wide : slice_get flat.widths w.number ≡ Some p.width
      first_wide = cc

      rest_wide : AsWide ports wires
      rest_wide = cc

      by_part : HasItem (on_each buffer (output_names flat.ports p) (word flat w.number)) n ⊎ HasItem (output_nodes flat ports wires) n
          → (HasItem (output_nodes flat ports wires) n → OfOutput ports (drives_of n)) → OfOutput (p ∷ ports) (drives_of n)
      by_part (inl there) rest =
          let it = buffer_named p w first_wide n there in
          let below = it.below in
          let few = width_small w.number p.width first_wide in
          record { port = p; has = (zero, refl); place = it.number; small = omega arith; is = it.is }
      by_part (inr there) rest =
          let it = rest there in
          record { port = it.port; has = (suc it.has.0, it.has.1); place = it.place; small = it.small; is = it.is }

  apart_of_others : (port : Port) (ports : List Port) → is_among (map (output_name flat.ports.domains) ports) (output_name flat.ports.domains port) ≡ false
      → (m n : Node) → IsPlace (output_name flat.ports.domains port) 0 port.width (drives_of m) → port.width ≤ WIRE_BITS → OfOutput ports (drives_of n)
      → drives_of m ≡ drives_of n → ⊥
  apart_of_others port ports none m n it few other e =
      let below = it.below in
      let same = same_before (output_name flat.ports.domains port) (output_name flat.ports.domains other.port) it.number other.place
      (omega arith) other.small (sym it.is ∙ e ∙ other.is) in
      let there : slice_get (map (output_name flat.ports.domains) ports) other.has.0 ≡ Some (output_name flat.ports.domains port) =
      mapped_at (output_name flat.ports.domains) ports other.has.0 other.port other.has.1 ∙ ap Some (sym same.0) in
      false≢true (sym none ∙ stands_among (map (output_name flat.ports.domains) ports) other.has.0 (output_name flat.ports.domains port) there)

  outputs_apart : (ports : List Port) (wires : List WireId) → AsWide ports wires → AreDistinct (map (output_name flat.ports.domains) ports)
      → Apart (output_nodes flat ports wires)
  outputs_apart [] wires wide distinct = tt
  outputs_apart (p ∷ ports) [] wide distinct = tt
  outputs_apart (p ∷ ports) (w ∷ wires) wide distinct =
      apart_joined (on_each buffer (output_names flat.ports p) (word flat w.number)) (output_nodes flat ports wires)
      (in_order_apart (output_name flat.ports.domains p) 0 (λ x j less e. output_no_further flat.ports.domains p 0 x j e)
      (on_each buffer (output_names flat.ports p) (word flat w.number)) 0 0 0 p.width (omega arith) few_places (buffers_order p w first_wide))
      (outputs_apart ports wires rest_wide distinct.1)
      (λ m n here there e. apart_of_others p ports distinct.0 m n (buffer_named p w first_wide m here) few (of_outputs ports wires rest_wide n there) e)
    where
      first_wide : slice_get flat.widths w.number ≡ Some p.width
      first_wide = cc

      rest_wide : AsWide ports wires
      rest_wide = cc

      few : p.width ≤ WIRE_BITS
      few = width_small w.number p.width first_wide

      few_places : p.width ≤ 2 ^ 64
      few_places = let l = few in omega arith

  -- a net of single bits of at most 2 to the 64 nodes drives each name once
  pub driven_once : PortsHold flat.ports → length (blast flat).nodes < 2 ^ 64 → DrivenOnce (blast flat)
  driven_once hold small =
      let cells = flat_map (nodes_of flat) flat.cells in
      let outputs = output_nodes flat flat.ports.outputs flat.outputs in
      let sum = length-append cells outputs in
      let all = sound.all in
      let few = sound.few in
      let names : AreDistinct (map (output_name flat.ports.domains) flat.ports.outputs) =
      ports_distinct 111 flat.ports.domains hold.domains.names hold.domains.differ flat.ports.outputs hold.outputs.0 hold.outputs.1 in
      let first : Apart cells =
      cells_apart (length flat.ports.inputs) flat.cells sound.in_order (λ cell has. has) (omega arith) (omega (arith, all, few)) (omega (arith, small, sum)) in
      let second : Apart outputs = outputs_apart flat.ports.outputs flat.outputs sound.outputs names in
      apart_once (cells ++ outputs) (apart_joined cells outputs first second
      (λ m n here there e.
      let it = of_cells (length flat.ports.inputs) flat.cells sound.in_order (λ cell has. has) (omega arith) m here in
      let other = of_outputs flat.ports.outputs flat.outputs sound.outputs n there in
      output_no_wire flat.ports.domains other.port other.place it.wire (drives_of m) (e ∙ other.is) it.of_it))
