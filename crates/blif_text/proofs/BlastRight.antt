-- The net of single bits that a sound flat net becomes breaks no rule.
use Rattle.std.proofs.Common.{◌≡◌, ℕ, zero, suc, ◌+◌, ◌<◌, ◌≤◌, ◌^◌, List, [], ◌∷◌, ◌++◌, length, get_or, map, reverse, take, true, Some, slice_get, inl, inr, refl, sym, ap, subst, ◌∙◌, length-append, arith, if◌then◌else◌}
use Rattle.std.specs.Prelude.{flat_map, IsTrue, slice_index, slice_index_or}
use Rattle.std.specs.List.{AllByRecursion}
use Rattle.std.proofs.lemmas.Bool.{le-ltb}
use Rattle.std.proofs.lemmas.List.{map-append, reverse-append}
use Rattle.std.proofs.lemmas.Option.{get_or_from_slice_get, same_Some}
use Rattle.chw_base.specs.declared.index.DomId.{DomId}
use Rattle.chw_base.specs.declared.index.WireId.{WireId}
use Rattle.chw_base.specs.declared.limits.TheConstants.{FLAT_WIRES}
use Rattle.chw_clock.specs.declared.event.Port.{Port}
use Rattle.name_tables.specs.Names.{AreDistinct, is_among}
use Rattle.net_rules.specs.PortsHold.{PortsHold}
use Rattle.netlist.specs.Feeds.{target}
use Rattle.netlist.specs.NetValue.{HasCell}
use Rattle.netlist.specs.Sound.{DrivesFrom, IsWireWidth, Sound}
use Rattle.netlist.specs.declared.net.Cell.{Cell}
use Rattle.netlist.specs.declared.net.Flat.{Flat}
use Rattle.verilog_text.specs.Names.{input_name, output_name, wire_text}
use Rattle.verilog_text.specs.Text.{clock_names}
use Rattle.verilog_text.proofs.DistinctNames.{ports_distinct, signals_distinct}
use Rattle.verilog_text.proofs.OnePorts.{upper_at}
use Rattle.verilog_text.proofs.Places.{among_left, among_right, stands_among}
use Rattle.bit_laws.specs.BitNames.{wire_name}
use Rattle.bit_laws.specs.Bitnet.{Node, clock_of}
use Rattle.bit_laws.specs.Bitnet.Node.{latch, table}
use Rattle.bit_laws.specs.Blast.{blast, gate_of, nodes_of, on_each, output_names, output_nodes, word}
use Rattle.bit_laws.specs.Driven.{CellDrives, DrivenOnce, HasName, IsKnown, KnowsNames, NamesOnly, drives_of}
use Rattle.bit_laws.specs.Gates.{Gate}
use Rattle.bit_laws.specs.Gates.Gate.{buffer}
use Rattle.blif_text.specs.BlifText.{IsClock}
use Rattle.blif_text.specs.Right.{HasNodeForm, IsRight, known_names}
use Rattle.blif_text.specs.Statements.{IsName}
use Rattle.blif_text.proofs.Bytes.{all_append}
use Rattle.blif_text.proofs.Distinct.{AreNarrow, all_as, bits_distinct, distinct_apart, port_bits}
use Rattle.blif_text.proofs.Named.{Named, bits_named, clocks_named, counts, further_named, inputs_named, kind, order_named, outputs_named, place_named, wire_named}
use Rattle.blif_text.proofs.Printing.{word_width}
use Rattle.blif_text.proofs.RowsFit.{Fit, all_fit}

abbrev HasItem : {X : Type 0} → List X → X → Type 0
HasItem xs x = (place : ℕ) × (slice_get xs place ≡ Some x)

all_of : {X : Type 0} (P : X → Type 0) (xs : List X) → ((x : X) → HasItem xs x → P x) → AllByRecursion P xs
all_of P [] each = tt
all_of P (x ∷ xs) each = (each x (zero, refl), all_of P xs (λ y has. each y (suc has.0, has.1)))

all_here : {X : Type 0} (P : X → Type 0) (xs : List X) (k : ℕ) (x : X) → AllByRecursion P xs → slice_get xs k ≡ Some x → P x
all_here P [] k x all e = absurd (cc)
all_here P (y ∷ xs) zero x all e = subst P (same_Some y x e) all.0
all_here P (y ∷ xs) (suc k) x all e = all_here P xs k x all.1 e

mapped_at : {X Y : Type 0} (f : X → Y) (xs : List X) (k : ℕ) (x : X) → slice_get xs k ≡ Some x → slice_get (map f xs) k ≡ Some (f x)
mapped_at f [] k x e = absurd (cc)
mapped_at f (z ∷ xs) zero x e = ap (λ y. Some (f y)) (same_Some z x e)
mapped_at f (z ∷ xs) (suc k) x e = mapped_at f xs k x e

all_mapped : {X Y : Type 0} (P : Y → Type 0) (f : X → Y) (xs : List X) → AllByRecursion (λ x. P (f x)) xs → AllByRecursion P (map f xs)
all_mapped P f [] all = tt
all_mapped P f (x ∷ xs) all = (all.0, all_mapped P f xs all.1)

all_unmapped : {X Y : Type 0} (P : Y → Type 0) (f : X → Y) (xs : List X) → AllByRecursion P (map f xs) → AllByRecursion (λ x. P (f x)) xs
all_unmapped P f [] all = tt
all_unmapped P f (x ∷ xs) all = (all.0, all_unmapped P f xs all.1)

-- names of which each is driven at one place
record IsDrivenAt (nodes : List Node) (name : List ℕ) : Type 0 where
  place : ℕ
  node : Node
  has : slice_get nodes place ≡ Some node
  is : drives_of node ≡ name

driven_at : (nodes : List Node) → AllByRecursion (IsDrivenAt nodes) (map drives_of nodes)
driven_at nodes = all_mapped (IsDrivenAt nodes) drives_of nodes (all_of (λ node. IsDrivenAt nodes (drives_of node)) nodes (λ node has. record { place = has.0; node = node; has = has.1; is = refl }))

once_distinct : (nodes : List Node)
    → ((p q : ℕ) (m n : Node) → slice_get nodes p ≡ Some m → slice_get nodes q ≡ Some n → drives_of m ≡ drives_of n → p ≡ q) → AreDistinct (map drives_of nodes)
once_distinct [] once = tt
once_distinct (n ∷ nodes) once =
    distinct_apart (λ name. name ≡ drives_of n) (IsDrivenAt nodes) (λ name is it. never name is it) (drives_of n ∷ []) (map drives_of nodes) (refl, tt)
    (once_distinct nodes (λ p q m k e f same. later p q m k e f same)) (refl, tt) (driven_at nodes)
  where
    never : (name : List ℕ) → name ≡ drives_of n → IsDrivenAt nodes name → ⊥
    never name is it =
        let same = once zero (suc it.place) n it.node refl it.has (sym is ∙ sym it.is) in
        omega (arith, same)

    later : (p q : ℕ) (m k : Node) → slice_get nodes p ≡ Some m → slice_get nodes q ≡ Some k → drives_of m ≡ drives_of k → p ≡ q
    later p q m k e f same = let found = once (suc p) (suc q) m k e f same in omega (arith, found)

-- the buffers of outputs drive the outputs
each_drives : (gate : Gate) (outs xs : List (List ℕ)) → length outs ≡ length xs → map drives_of (on_each gate outs xs) ≡ reverse outs
each_drives gate [] xs long = refl
each_drives gate (o ∷ outs) [] long = absurd (omega arith)
each_drives gate (o ∷ outs) (x ∷ xs) long =
    map-append drives_of (on_each gate outs xs) (gate_of gate (x ∷ []) o ∷ []) ∙ ap (λ names. names ++ o ∷ []) (each_drives gate outs xs (omega arith))
    ∙ sym (reverse-append (o ∷ []) outs)

outputs_drive : (flat : Flat) (ports : List Port) (wires : List WireId)
    → map (λ (w : WireId). slice_get flat.widths w.number) wires ≡ map (λ (p : Port). Some p.width) ports
    → map drives_of (output_nodes flat ports wires) ≡ port_bits (output_name flat.ports.domains) ports
outputs_drive flat [] wires wide = refl
outputs_drive flat (p ∷ ports) [] wide = absurd (cc)
outputs_drive flat (p ∷ ports) (w ∷ wires) wide =
    map-append drives_of (on_each buffer (output_names flat.ports p) (word flat w.number)) (output_nodes flat ports wires)
    ∙ ap (λ names. names ++ map drives_of (output_nodes flat ports wires)) (each_drives buffer (output_names flat.ports p) (word flat w.number) long)
    ∙ ap (λ names. reverse (output_names flat.ports p) ++ names) (outputs_drive flat ports wires rest)
  where
    first : slice_get flat.widths w.number ≡ Some p.width
    first = cc

    rest : map (λ (v : WireId). slice_get flat.widths v.number) wires ≡ map (λ (q : Port). Some q.width) ports
    rest = cc

    long : length (output_names flat.ports p) ≡ length (word flat w.number)
    long =
        word_width (output_name flat.ports.domains p) p.width ∙ sym (get_or_from_slice_get flat.widths w.number p.width 0 first)
        ∙ sym (word_width (wire_name flat.ports w.number) (slice_index flat.widths w.number))

-- ports are as narrow as their wires
narrow_inputs : (ports : List Port) (n : ℕ) (widths : List ℕ) → AllByRecursion IsWireWidth widths → map (λ (p : Port). p.width) ports ≡ take n widths → AreNarrow ports
narrow_inputs [] n widths fits same = tt
narrow_inputs (p ∷ ports) zero widths fits same = absurd (cc)
narrow_inputs (p ∷ ports) (suc n) [] fits same = absurd (cc)
narrow_inputs (p ∷ ports) (suc n) (width ∷ widths) fits same =
    let first : p.width ≡ width = cc in
    let rest : map (λ (q : Port). q.width) ports ≡ take n widths = cc in
    let few = fits.0.1 in
    (omega arith, narrow_inputs ports n widths fits.1 rest)

narrow_outputs : (widths : List ℕ) (ports : List Port) (wires : List WireId) → AllByRecursion IsWireWidth widths
    → map (λ (w : WireId). slice_get widths w.number) wires ≡ map (λ (p : Port). Some p.width) ports → AreNarrow ports
narrow_outputs widths [] wires fits wide = tt
narrow_outputs widths (p ∷ ports) [] fits wide = absurd (cc)
narrow_outputs widths (p ∷ ports) (w ∷ wires) fits wide =
    let first : slice_get widths w.number ≡ Some p.width = cc in
    let rest : map (λ (v : WireId). slice_get widths v.number) wires ≡ map (λ (q : Port). Some q.width) ports = cc in
    let few = (all_here IsWireWidth widths w.number p.width fits first).1 in
    (omega (arith, few), narrow_outputs widths ports wires fits rest)

-- what is known of all flat nets
pub record Laws : Type 0 where
  pub once : (flat : Flat) → Sound flat → PortsHold flat.ports → length (blast flat).nodes < 2 ^ 64 → DrivenOnce (blast flat)
  pub known : (flat : Flat) → Sound flat → KnowsNames (blast flat)
  pub order : (flat : Flat) (cell : Cell) (w : ℕ) → Sound flat → HasCell flat cell → target cell ≡ Some w → CellDrives flat cell w

module _ (laws : Laws) (flat : Flat) (sound : Sound flat) (hold : PortsHold flat.ports) (small : length (blast flat).nodes < 2 ^ 64) where
  abbrev cells : List Node
  cells = flat_map (nodes_of flat) flat.cells

  abbrev buffers : List Node
  buffers = output_nodes flat flat.ports.outputs flat.outputs

  abbrev clocks : List (List ℕ)
  clocks = clock_names flat.ports.resets 0 flat.ports.domains

  abbrev bits : List (List ℕ)
  bits = port_bits (input_name flat.ports.domains) flat.ports.inputs

  abbrev outs : List (List ℕ)
  outs = port_bits (output_name flat.ports.domains) flat.ports.outputs

  narrow_in : AreNarrow flat.ports.inputs
  narrow_in = narrow_inputs flat.ports.inputs (length flat.ports.inputs) flat.widths sound.widths sound.inputs

  narrow_out : AreNarrow flat.ports.outputs
  narrow_out = narrow_outputs flat.widths flat.ports.outputs flat.outputs sound.widths sound.outputs

  clocks_are : AllByRecursion (Named 0) clocks
  clocks_are = clocks_named flat.ports.resets 0 flat.ports.domains hold.domains.names

  bits_are : AllByRecursion (Named 1) bits
  bits_are =
      bits_named 1 (input_name flat.ports.domains) flat.ports.inputs narrow_in
      (inputs_named flat.ports.domains (length flat.ports.domains) flat.ports.inputs hold.domains.names hold.inputs.0)

  outs_are : AllByRecursion (Named 2) outs
  outs_are =
      bits_named 2 (output_name flat.ports.domains) flat.ports.outputs narrow_out
      (outputs_named flat.ports.domains (length flat.ports.domains) flat.ports.outputs hold.domains.names hold.outputs.0)

  -- what cells drive
  cell_named : (cell : Cell) (w : ℕ) → HasCell flat cell → target cell ≡ Some w → length flat.ports.inputs ≤ w → w < 2 ^ 64 → length (nodes_of flat cell) < 2 ^ 64
      → AllByRecursion (λ node. Named 2 (drives_of node)) (nodes_of flat cell)
  cell_named cell w has t le low few =
      let d = laws.order flat cell w sound has t in
      let own : wire_name flat.ports w ≡ wire_text w =
      ap (λ b. if b then slice_index_or (map (input_name flat.ports.domains) flat.ports.inputs) w [] else wire_text w) (le-ltb w (length flat.ports.inputs) le) in
      let c = counts (wire_name flat.ports w) w (nodes_of flat cell) 0 0 d.0 (slice_index flat.widths w) d.1 in
      let all = c.all in
      order_named (Named 2) (wire_name flat.ports w) w (nodes_of flat cell) 0 0 d.0 (slice_index flat.widths w)
      (λ i less. further_named w i low (omega (arith, all, few, less)))
      (λ i less. place_named 2 (wire_name flat.ports w) i (subst (λ name. Named 2 name) (sym own) (wire_named w low)) (omega (arith, all, few, less))) d.1

  cells_named : (w : ℕ) (rest : List Cell) → DrivesFrom w rest → ((cell : Cell) → HasItem rest cell → HasCell flat cell) → length flat.ports.inputs ≤ w
      → w + length rest ≤ FLAT_WIRES → length (flat_map (nodes_of flat) rest) < 2 ^ 64
      → AllByRecursion (λ node. Named 2 (drives_of node)) (flat_map (nodes_of flat) rest)
  cells_named w [] drive each le few narrow = tt
  cells_named w (cell ∷ rest) drive each le few narrow =
      let sum = length-append (nodes_of flat cell) (flat_map (nodes_of flat) rest) in
      all_append (λ node. Named 2 (drives_of node)) (nodes_of flat cell) (flat_map (nodes_of flat) rest)
      (cell_named cell w (each cell (zero, refl)) drive.0 le (omega arith) (omega (arith, sum, narrow)))
      (cells_named (w + 1) rest drive.1 (λ c has. each c (suc has.0, has.1)) (omega arith) (omega arith) (omega (arith, sum, narrow)))

  nodes_are : AllByRecursion (λ node. Named 2 (drives_of node)) (blast flat).nodes
  nodes_are =
      let sum = length-append cells buffers in
      let all = sound.all in
      let few = sound.few in
      all_append (λ node. Named 2 (drives_of node)) cells buffers
      (cells_named (length flat.ports.inputs) flat.cells sound.in_order (λ cell has. has) (omega arith) (omega (arith, all, few)) (omega (arith, sum, small)))
      (all_unmapped (Named 2) drives_of buffers (subst (λ names. AllByRecursion (Named 2) names) (sym (outputs_drive flat flat.ports.outputs flat.outputs sound.outputs)) outs_are))

  inputs_are : AllByRecursion (λ name. IsName name × (kind name < 2)) (blast flat).inputs
  inputs_are =
      all_append (λ name. IsName name × (kind name < 2)) clocks bits
      (all_as (Named 0) (λ name. IsName name × (kind name < 2)) (λ name is. let k = is.1 in (is.0, omega arith)) clocks clocks_are)
      (all_as (Named 1) (λ name. IsName name × (kind name < 2)) (λ name is. let k = is.1 in (is.0, omega arith)) bits bits_are)

  -- no name stands twice
  all_once : AreDistinct (known_names (blast flat))
  all_once =
      distinct_apart (λ name. IsName name × (kind name < 2)) (Named 2) (λ name low high. let k = low.1 in let two = high.1 in omega arith)
      (blast flat).inputs (map drives_of (blast flat).nodes)
      (distinct_apart (Named 0) (Named 1) (λ name none one. let k = none.1 in let l = one.1 in omega arith) clocks bits
      (signals_distinct flat.ports.resets 0 flat.ports.domains hold.domains.differ)
      (bits_distinct (input_name flat.ports.domains) flat.ports.inputs narrow_in
      (ports_distinct 105 flat.ports.domains hold.domains.names hold.domains.differ flat.ports.inputs hold.inputs.0 hold.inputs.1)) clocks_are bits_are)
      (once_distinct (blast flat).nodes (laws.once flat sound hold small)) inputs_are (all_mapped (Named 2) drives_of (blast flat).nodes nodes_are)

  -- what is known is among the names, and is a name
  known_among : (name : List ℕ) → IsKnown (blast flat) name → is_among (known_names (blast flat)) name ≡ true
  known_among name (inl input) =
      among_left (blast flat).inputs (map drives_of (blast flat).nodes) name (stands_among (blast flat).inputs input.0 name input.1)
  known_among name (inr driven) =
      among_right (blast flat).inputs (map drives_of (blast flat).nodes) name
      (stands_among (map drives_of (blast flat).nodes) driven.1.0 name (mapped_at drives_of (blast flat).nodes driven.1.0 driven.0 driven.1.1 ∙ ap Some driven.2))

  known_named : (name : List ℕ) → IsKnown (blast flat) name → IsName name
  known_named name (inl input) = (all_here (λ n. IsName n × (kind n < 2)) (blast flat).inputs input.0 name inputs_are input.1).0
  known_named name (inr driven) =
      subst IsName driven.2 (all_here (λ node. Named 2 (drives_of node)) (blast flat).nodes driven.1.0 driven.0 nodes_are driven.1.1).0

  knows : (node : Node) → NamesOnly (IsKnown (blast flat)) (HasName (blast flat).inputs) node
      → NamesOnly (λ name. IsTrue (is_among (known_names (blast flat)) name)) (λ name. IsTrue (is_among (blast flat).inputs name)) node
  knows (table reads drives rows) names =
      all_as (IsKnown (blast flat)) (λ name. IsTrue (is_among (known_names (blast flat)) name)) (λ name known. known_among name known) reads names
  knows (latch takes drives clock initial) names = (known_among takes names.0, stands_among (blast flat).inputs names.1.0 clock names.1.1)

  node_form : (node : Node) → NamesOnly (IsKnown (blast flat)) (HasName (blast flat).inputs) node → Named 2 (drives_of node) → Fit IsClock node → HasNodeForm node
  node_form (table reads drives rows) names named fit = (all_as (IsKnown (blast flat)) IsName (λ name known. known_named name known) reads names, named.0, fit)
  node_form (latch takes drives clock initial) names named fit = (known_named takes names.0, named.0, fit)

  clock_is : (domain : DomId) → domain.number < length flat.ports.domains → IsClock (clock_of flat.ports domain)
  clock_is domain less = (get_or flat.ports.domains domain.number [], (upper_at flat.ports.domains domain.number hold.domains.names less, refl))

  fit : AllByRecursion (Fit IsClock) (blast flat).nodes
  fit = all_fit IsClock flat clock_is sound.cells

  outs_known : AllByRecursion (λ name. IsTrue (is_among (known_names (blast flat)) name)) (blast flat).outputs
  outs_known =
      all_of (λ name. IsTrue (is_among (known_names (blast flat)) name)) outs (λ name has.
      among_right (blast flat).inputs (map drives_of (blast flat).nodes) name
      (subst (λ names. is_among names name ≡ true) (sym (map-append drives_of cells buffers ∙ ap (λ names. map drives_of cells ++ names) (outputs_drive flat flat.ports.outputs flat.outputs sound.outputs)))
      (among_right (map drives_of cells) outs name (stands_among outs has.0 name has.1))))

  pub right : IsRight (blast flat)
  right = record {
    input_names = all_as (λ name. IsName name × (kind name < 2)) IsName (λ name is. is.0) (blast flat).inputs inputs_are;
    output_names = all_as (Named 2) IsName (λ name is. is.0) outs outs_are;
    forms =
        all_of HasNodeForm (blast flat).nodes (λ node has.
        node_form node (laws.known flat sound node has) (all_here (λ n. Named 2 (drives_of n)) (blast flat).nodes has.0 node nodes_are has.1)
        (all_here (Fit IsClock) (blast flat).nodes has.0 node fit has.1));
    once = all_once;
    outputs_known = outs_known;
    nodes_known =
        all_of (NamesOnly (λ name. IsTrue (is_among (known_names (blast flat)) name)) (λ name. IsTrue (is_among (blast flat).inputs name))) (blast flat).nodes
        (λ node has. knows node (laws.known flat sound node has));
  }
