-- A name has at most one bit at a history.
use Rattle.std.proofs.Common.{◌≡◌, ℕ, zero, suc, ◌+◌, ◌<◌, ◌≤◌, ◌^◌, ◌==◌, Bool, true, List, [], ◌∷◌, length, map, drop, get_or, Option, Some, None, slice_get, refl, sym, ap, subst, ◌∙◌, arith, if◌then◌else◌, inl, inr, ◌⊎◌}
use Rattle.std.specs.Prelude.{flat_map, slice_index_or}
use Rattle.std.proofs.lemmas.Bool.{eqb-true, lt-ltb, or_cases}
use Rattle.std.proofs.lemmas.Option.{get_or_from_slice_get, same_Some}
use Rattle.chw_base.specs.declared.index.DomId.{DomId}
use Rattle.chw_base.specs.declared.limits.TheConstants.{WIRE_BITS}
use Rattle.chw_clock.specs.Histories.{FitsPorts, before, has_reset, is_one_of, is_reset, resets}
use Rattle.chw_clock.specs.declared.event.Event.{Event}
use Rattle.chw_clock.specs.declared.event.Port.{Port}
use Rattle.chw_clock.specs.declared.event.Ports.{Ports}
use Rattle.name_tables.specs.Names.{AreDistinct}
use Rattle.net_rules.specs.PortsHold.{PortsHold, RiseWithin}
use Rattle.netlist.specs.NetValue.NetValue.{input}
use Rattle.netlist.specs.Sound.{Sound}
use Rattle.netlist.specs.declared.net.Flat.{Flat}
use Rattle.netlist.proofs.Before.{before_fits}
use Rattle.netlist.proofs.Lengths.{value_width}
use Rattle.verilog_text.specs.Names.{domain_name, input_name, wire_text}
use Rattle.verilog_text.proofs.DistinctNames.{ports_distinct}
use Rattle.verilog_text.proofs.OnePorts.{same_place}
use Rattle.verilog_text.proofs.Places.{one_place}
use Rattle.bit_laws.specs.BitNames.{bit_name, place_name, wire_name}
use Rattle.bit_laws.specs.Bitnet.{BitValue, BitValues, Bitnet, HasLatch, HasNode, Node, bit_at, clock_of, reset_of}
use Rattle.bit_laws.specs.Bitnet.BitValue.{initially, latched, of_input, of_reset, of_table}
use Rattle.bit_laws.specs.Bitnet.BitValues.{bits_and, no_bits}
use Rattle.bit_laws.specs.Bitnet.Node.{latch, table}
use Rattle.bit_laws.specs.Blast.{blast, nodes_of, output_nodes}
use Rattle.bit_laws.specs.Driven.{drives_of}
use Rattle.bit_laws.specs.Gates.{matches}
use Rattle.bit_laws.proofs.Kept.{bit_within}
use Rattle.bit_laws.proofs.Nodes.{HasItem}
use Rattle.bit_laws.proofs.Once.{driven_once, item_parted, mapped_at, of_cells, of_outputs, width_small}
use Rattle.bit_laws.proofs.Spelling.{same_before}

-- the bits of an input in the present event
abbrev input_bits : List Event → ℕ → Option (List Bool)
input_bits [] k = None
input_bits (present ∷ past) k = slice_get present.inputs k

-- where a bit comes from
data Origin (ports : Ports) (b : Bitnet) (h : List Event) (name : List ℕ) (y : Bool) : Type 0 where
  an_input : (k j : ℕ) (bits : List Bool) → k < length ports.inputs → input_bits h k ≡ Some bits → bit_at bits j ≡ Some y
      → name ≡ bit_name ports k j → Origin ports b h name y
  a_reset : (domain : DomId) → has_reset ports domain ≡ true → is_reset h domain ≡ y → name ≡ reset_of ports domain → Origin ports b h name y
  a_table : (reads rows : List (List ℕ)) (bits : List Bool) → HasNode b (table reads name rows) → BitValues ports b h reads bits
      → matches rows bits ≡ y → Origin ports b h name y
  a_first : (takes : List ℕ) (domain : DomId) → HasLatch ports b domain takes name y → before h domain ≡ None → Origin ports b h name y
  a_later : (takes : List ℕ) (domain : DomId) (initial : Bool) (past : List Event) → HasLatch ports b domain takes name initial
      → before h domain ≡ Some past → BitValue ports b past takes y → Origin ports b h name y

comes : (ports : Ports) (b : Bitnet) (h : List Event) (name : List ℕ) (y : Bool) → BitValue ports b h name y → Origin ports b h name y
comes ports b _ _ _ (of_input k j present past bits y less e at) = an_input k j bits less e at refl
comes ports b _ _ _ (of_reset domain present past has) = a_reset domain has refl refl
comes ports b _ _ _ (of_table reads drives rows h bits has values) = a_table reads rows bits has values refl
comes ports b _ _ _ (initially takes drives domain initial h has e) = a_first takes domain has e
comes ports b _ _ _ (latched takes drives domain initial y h past has e v) = a_later takes domain initial past has e v

-- the bits of names, taken apart
record Parted (ports : Ports) (b : Bitnet) (h : List Event) (n : List ℕ) (names : List (List ℕ)) (ys : List Bool) : Type 0 where
  bit : Bool
  bits : List Bool
  is : ys ≡ bit ∷ bits
  value : BitValue ports b h n bit
  values : BitValues ports b h names bits

bits_parted : (ports : Ports) (b : Bitnet) (h : List Event) (n : List ℕ) (names : List (List ℕ)) (ys : List Bool) → BitValues ports b h (n ∷ names) ys
    → Parted ports b h n names ys
bits_parted ports b _ _ _ _ (bits_and h n names y ys v vs) = record { bit = y; bits = ys; is = refl; value = v; values = vs }

no_names : (ports : Ports) (b : Bitnet) (h : List Event) (ys : List Bool) → BitValues ports b h [] ys → ys ≡ []
no_names ports b _ _ (no_bits h) = refl

-- a domain with a reset is one of the ports
reset_within : (least end : ℕ) (resets : List DomId) (domain : DomId) → RiseWithin least end resets → is_one_of resets domain ≡ true → domain.number < end
reset_within least end [] domain rise e = absurd (cc)
reset_within least end (d ∷ resets) domain rise e = by_case (or_cases (d.number == domain.number) (is_one_of resets domain) e)
    (λ later. reset_within (d.number + 1) end resets domain rise.2 later)
  where
    by_case : ((d.number == domain.number) ≡ true) ⊎ (is_one_of resets domain ≡ true) → (is_one_of resets domain ≡ true → domain.number < end) → domain.number < end
    by_case (inl is) rest = let same = eqb-true d.number domain.number is in let below = rise.1 in omega (arith, same)
    by_case (inr is) rest = rest is

-- the first byte of a name
abbrev head : List ℕ → ℕ
head name = get_or name 0 0

module _ (flat : Flat) (sound : Sound flat) (hold : PortsHold flat.ports) (small : length (blast flat).nodes < 2 ^ 64) where
  -- the name of an input
  record InputAt (k : ℕ) : Type 0 where
    port : Port
    there : slice_get flat.ports.inputs k ≡ Some port
    is : wire_name flat.ports k ≡ input_name flat.ports.domains port

  port_at : (ports : List Port) (k : ℕ) → k < length ports → (p : Port) × (slice_get ports k ≡ Some p)
  port_at [] k less = absurd (omega arith)
  port_at (p ∷ ports) zero less = (p, refl)
  port_at (p ∷ ports) (suc k) less = port_at ports k (omega arith)

  input_at : (k : ℕ) → k < length flat.ports.inputs → InputAt k
  input_at k less =
      let p = port_at flat.ports.inputs k less in
      let named : slice_get (map (input_name flat.ports.domains) flat.ports.inputs) k ≡ Some (input_name flat.ports.domains p.0) =
      mapped_at (input_name flat.ports.domains) flat.ports.inputs k p.0 p.1 in
      record {
        port = p.0;
        there = p.1;
        is =
            ap (λ t. if t then slice_index_or (map (input_name flat.ports.domains) flat.ports.inputs) k [] else wire_text k) (lt-ltb k (length flat.ports.inputs) less)
            ∙ get_or_from_slice_get (map (input_name flat.ports.domains) flat.ports.inputs) k (input_name flat.ports.domains p.0) [] named;
      }

  input_head : (k j : ℕ) → k < length flat.ports.inputs → head (bit_name flat.ports k j) ≡ 105
  input_head k j less = ap (λ name. head (place_name name j)) (input_at k less).is

  -- the first byte of a driven name
  driven_head : (m : Node) → HasItem (blast flat).nodes m → (head (drives_of m) ≡ 119) ⊎ (head (drives_of m) ≡ 111)
  driven_head m has = by_part (item_parted (flat_map (nodes_of flat) flat.cells) (output_nodes flat flat.ports.outputs flat.outputs) m has)
    where
      by_part : HasItem (flat_map (nodes_of flat) flat.cells) m ⊎ HasItem (output_nodes flat flat.ports.outputs flat.outputs) m
          → (head (drives_of m) ≡ 119) ⊎ (head (drives_of m) ≡ 111)
      by_part (inl there) =
          let it = of_cells flat sound (length flat.ports.inputs) flat.cells sound.in_order (λ cell has. has) (omega arith) m there in
          inl (ap head it.of_it.1)
      by_part (inr there) =
          let it = of_outputs flat sound flat.ports.outputs flat.outputs sound.outputs m there in
          inr (ap head it.is)

  no_input_driven : (m : Node) (k j : ℕ) → HasItem (blast flat).nodes m → k < length flat.ports.inputs → drives_of m ≡ bit_name flat.ports k j → ⊥
  no_input_driven m k j has less e = by_head (driven_head m has)
    where
      by_head : (head (drives_of m) ≡ 119) ⊎ (head (drives_of m) ≡ 111) → ⊥
      by_head (inl is) = let same : 119 ≡ 105 = sym is ∙ ap head e ∙ input_head k j less in omega (arith, same)
      by_head (inr is) = let same : 111 ≡ 105 = sym is ∙ ap head e ∙ input_head k j less in omega (arith, same)

  no_reset_driven : (m : Node) (domain : DomId) → HasItem (blast flat).nodes m → drives_of m ≡ reset_of flat.ports domain → ⊥
  no_reset_driven m domain has e = by_head (driven_head m has)
    where
      by_head : (head (drives_of m) ≡ 119) ⊎ (head (drives_of m) ≡ 111) → ⊥
      by_head (inl is) = let same : 119 ≡ 114 = sym is ∙ ap head e in omega (arith, same)
      by_head (inr is) = let same : 111 ≡ 114 = sym is ∙ ap head e in omega (arith, same)

  no_input_reset : (k j : ℕ) (domain : DomId) → k < length flat.ports.inputs → bit_name flat.ports k j ≡ reset_of flat.ports domain → ⊥
  no_input_reset k j domain less e = let same : 105 ≡ 114 = sym (input_head k j less) ∙ ap head e in omega (arith, same)

  -- an input's bit is of one input and one place
  inputs_apart : AreDistinct (map (input_name flat.ports.domains) flat.ports.inputs)
  inputs_apart = ports_distinct 105 flat.ports.domains hold.domains.names hold.domains.differ flat.ports.inputs hold.inputs.0 hold.inputs.1

  same_input : (k l i j : ℕ) → k < length flat.ports.inputs → l < length flat.ports.inputs → i < 2 ^ 64 → j < 2 ^ 64
      → bit_name flat.ports k i ≡ bit_name flat.ports l j → (k ≡ l) × (i ≡ j)
  same_input k l i j less lower few least e =
      let first = input_at k less in
      let second = input_at l lower in
      let parts = same_before (wire_name flat.ports k) (wire_name flat.ports l) i j few least e in
      let names : input_name flat.ports.domains first.port ≡ input_name flat.ports.domains second.port = sym first.is ∙ parts.0 ∙ second.is in
      let here = mapped_at (input_name flat.ports.domains) flat.ports.inputs k first.port first.there in
      let there = mapped_at (input_name flat.ports.domains) flat.ports.inputs l second.port second.there in
      (one_place (map (input_name flat.ports.domains) flat.ports.inputs) k l (input_name flat.ports.domains second.port) inputs_apart (here ∙ ap Some names) there, parts.1)

  -- a domain is known by its name
  same_domain : (d e : DomId) → d.number < length flat.ports.domains → e.number < length flat.ports.domains
      → domain_name flat.ports.domains d ≡ domain_name flat.ports.domains e → d ≡ e
  same_domain d e less lower same =
      let numbers = same_place flat.ports.domains hold.domains.names hold.domains.differ d.number e.number less lower same in
      ap (λ (n : ℕ). record { number = n }) numbers

  -- two nodes that drive one name are one
  same_node : (m n : Node) → HasNode (blast flat) m → HasNode (blast flat) n → drives_of m ≡ drives_of n → m ≡ n
  same_node m n here there e =
      let at = driven_once flat sound hold small here.0 there.0 m n here.1 there.1 e in
      same_Some m n (sym here.1 ∙ ap (λ p. slice_get (blast flat).nodes p) at ∙ there.1)

  place_small : (h : List Event) (k j : ℕ) (bits : List Bool) (y : Bool) → FitsPorts flat.ports h → k < length flat.ports.inputs → input_bits h k ≡ Some bits
      → bit_at bits j ≡ Some y → j < 2 ^ 64
  place_small [] k j bits y fits less e at = absurd fits
  place_small (present ∷ past) k j bits y fits less e at =
      let wide = value_width flat sound (present ∷ past) k bits fits (input k present past bits less e) in
      let few : length bits ≤ WIRE_BITS = width_small flat sound k (length bits) wide in
      let within = bit_within bits j y at in
      omega (arith, few, within)

  one_input : (h : List Event) (name : List ℕ) (k j : ℕ) (bits : List Bool) (x y : Bool) → FitsPorts flat.ports h → k < length flat.ports.inputs
      → input_bits h k ≡ Some bits → bit_at bits j ≡ Some x → name ≡ bit_name flat.ports k j → Origin flat.ports (blast flat) h name y → x ≡ y
  one_input h name k j bits x y fits less e at is (an_input l i others lower f there same) =
      let parts = same_input k l j i less lower (place_small h k j bits x fits less e at) (place_small h l i others y fits lower f there) (sym is ∙ same) in
      let words : bits ≡ others = same_Some bits others (sym e ∙ ap (λ n. input_bits h n) parts.0 ∙ f) in
      same_Some x y (sym at ∙ ap (λ z. bit_at z j) words ∙ ap (λ n. bit_at others n) parts.1 ∙ there)
  one_input h name k j bits x y fits less e at is (a_reset domain has value same) = absurd (no_input_reset k j domain less (sym is ∙ same))
  one_input h name k j bits x y fits less e at is (a_table reads rows values has v value) = absurd (no_input_driven (table reads name rows) k j has less is)
  one_input h name k j bits x y fits less e at is (a_first takes domain has none) =
      absurd (no_input_driven (latch takes name (clock_of flat.ports domain) y) k j has.1 less is)
  one_input h name k j bits x y fits less e at is (a_later takes domain initial past has tick v) =
      absurd (no_input_driven (latch takes name (clock_of flat.ports domain) initial) k j has.1 less is)

  one_reset : (h : List Event) (name : List ℕ) (domain : DomId) (x y : Bool) → has_reset flat.ports domain ≡ true → is_reset h domain ≡ x
      → name ≡ reset_of flat.ports domain → Origin flat.ports (blast flat) h name y → x ≡ y
  one_reset h name domain x y has value is (an_input l i others lower f there same) = absurd (no_input_reset l i domain lower (sym same ∙ is))
  one_reset h name domain x y has value is (a_reset other known again same) =
      let names : domain_name flat.ports.domains domain ≡ domain_name flat.ports.domains other = ap (drop 4) (sym is ∙ same) in
      let within = reset_within 0 (length flat.ports.domains) flat.ports.resets domain hold.domains.rise has in
      let below = reset_within 0 (length flat.ports.domains) flat.ports.resets other hold.domains.rise known in
      sym value ∙ ap (λ d. is_reset h d) (same_domain domain other within below names) ∙ again
  one_reset h name domain x y has value is (a_table reads rows values there v again) = absurd (no_reset_driven (table reads name rows) domain there is)
  one_reset h name domain x y has value is (a_first takes other there none) =
      absurd (no_reset_driven (latch takes name (clock_of flat.ports other) y) domain there.1 is)
  one_reset h name domain x y has value is (a_later takes other initial past there tick v) =
      absurd (no_reset_driven (latch takes name (clock_of flat.ports other) initial) domain there.1 is)

  -- the latch of a name, with its domain
  record SameLatch (takes : List ℕ) (d e : DomId) (initial : Bool) (other : List ℕ) (begin : Bool) : Type 0 where
    read : takes ≡ other
    domain : d ≡ e
    start : initial ≡ begin

  same_latch : (name takes other : List ℕ) (d e : DomId) (initial begin : Bool) → HasLatch flat.ports (blast flat) d takes name initial
      → HasLatch flat.ports (blast flat) e other name begin → SameLatch takes d e initial other begin
  same_latch name takes other d e initial begin here there =
      let is = same_node (latch takes name (clock_of flat.ports d) initial) (latch other name (clock_of flat.ports e) begin) here.1 there.1 refl in
      let clocks : clock_of flat.ports d ≡ clock_of flat.ports e = cc in
      record { read = cc; domain = same_domain d e here.0 there.0 (ap (drop 4) clocks); start = cc }

  mutual
    one : (h : List Event) (name : List ℕ) (x y : Bool) → BitValue flat.ports (blast flat) h name x → FitsPorts flat.ports h
        → Origin flat.ports (blast flat) h name y → x ≡ y
    one _ _ _ y (of_input k j present past bits x less e at) fits from =
        one_input (present ∷ past) (bit_name flat.ports k j) k j bits x y fits less e at refl from
    one _ _ _ y (of_reset domain present past has) fits from = one_reset (present ∷ past) (reset_of flat.ports domain) domain (resets present domain) y has refl refl from
    one _ _ _ y (of_table reads drives rows h bits has values) fits from = by_table from (λ others there. one_all h reads bits others values fits there)
      where
        by_table : Origin flat.ports (blast flat) h drives y → ((others : List Bool) → BitValues flat.ports (blast flat) h reads others → bits ≡ others)
            → matches rows bits ≡ y
        by_table (an_input l i others lower f there same) rest = absurd (no_input_driven (table reads drives rows) l i has lower same)
        by_table (a_reset domain known again same) rest = absurd (no_reset_driven (table reads drives rows) domain has same)
        by_table (a_table readings others found there v again) rest =
            let is = same_node (table reads drives rows) (table readings drives others) has there refl in
            let read : readings ≡ reads = cc in
            let row : rows ≡ others = cc in
            let words : bits ≡ found = rest found (subst (λ names. BitValues flat.ports (blast flat) h names found) read v) in
            ap (λ z. matches z bits) row ∙ ap (λ z. matches others z) words ∙ again
        by_table (a_first takes domain there none) rest =
            absurd (let is = same_node (table reads drives rows) (latch takes drives (clock_of flat.ports domain) y) has there.1 refl in cc)
        by_table (a_later takes domain initial past there tick v) rest =
            absurd (let is = same_node (table reads drives rows) (latch takes drives (clock_of flat.ports domain) initial) has there.1 refl in cc)
    one _ _ _ y (initially takes drives domain initial h has none) fits from = by_latch from
      where
        by_latch : Origin flat.ports (blast flat) h drives y → initial ≡ y
        by_latch (an_input l i others lower f there same) =
            absurd (no_input_driven (latch takes drives (clock_of flat.ports domain) initial) l i has.1 lower same)
        by_latch (a_reset other known again same) = absurd (no_reset_driven (latch takes drives (clock_of flat.ports domain) initial) other has.1 same)
        by_latch (a_table readings others found there v again) =
            absurd (let is = same_node (latch takes drives (clock_of flat.ports domain) initial) (table readings drives others) has.1 there refl in cc)
        by_latch (a_first other clock there again) = (same_latch drives takes other domain clock initial y has there).start
        by_latch (a_later other clock begin past there tick v) =
            let it = same_latch drives takes other domain clock initial begin has there in
            absurd (let no_tick : None ≡ Some past = sym none ∙ ap (λ d. before h d) it.domain ∙ tick in cc)
    one _ _ _ y (latched takes drives domain initial x h past has tick v) fits from =
        by_latch from (λ z origin. one past takes x z v (before_fits flat.ports h past domain fits tick) origin)
      where
        by_latch : Origin flat.ports (blast flat) h drives y → ((z : Bool) → Origin flat.ports (blast flat) past takes z → x ≡ z) → x ≡ y
        by_latch (an_input l i others lower f there same) rest =
            absurd (no_input_driven (latch takes drives (clock_of flat.ports domain) initial) l i has.1 lower same)
        by_latch (a_reset other known again same) rest = absurd (no_reset_driven (latch takes drives (clock_of flat.ports domain) initial) other has.1 same)
        by_latch (a_table readings others found there u again) rest =
            absurd (let is = same_node (latch takes drives (clock_of flat.ports domain) initial) (table readings drives others) has.1 there refl in cc)
        by_latch (a_first other clock there none) rest =
            let it = same_latch drives takes other domain clock initial y has there in
            absurd (let no_tick : None ≡ Some past = sym none ∙ ap (λ d. before h d) (sym it.domain) ∙ tick in cc)
        by_latch (a_later other clock begin earlier there again u) rest =
            let it = same_latch drives takes other domain clock initial begin has there in
            let when : earlier ≡ past = same_Some earlier past (sym again ∙ ap (λ d. before h d) (sym it.domain) ∙ tick) in
            let moved : BitValue flat.ports (blast flat) past takes y =
            subst (λ g. BitValue flat.ports (blast flat) g takes y) when (subst (λ name. BitValue flat.ports (blast flat) earlier name y) (sym it.read) u) in
            rest y (comes flat.ports (blast flat) past takes y moved)

    one_all : (h : List Event) (names : List (List ℕ)) (xs ys : List Bool) → BitValues flat.ports (blast flat) h names xs → FitsPorts flat.ports h
        → BitValues flat.ports (blast flat) h names ys → xs ≡ ys
    one_all _ _ _ ys (no_bits h) fits others = sym (no_names flat.ports (blast flat) h ys others)
    one_all _ _ _ ys (bits_and h n names x xs v vs) fits others =
        let it = bits_parted flat.ports (blast flat) h n names ys others in
        let first : x ≡ it.bit = one h n x it.bit v fits (comes flat.ports (blast flat) h n it.bit it.value) in
        let rest : xs ≡ it.bits = one_all h names xs it.bits vs fits it.values in
        ap (λ z. z ∷ xs) first ∙ ap (λ z. it.bit ∷ z) rest ∙ sym it.is

  pub one_bit : (h : List Event) (name : List ℕ) (x y : Bool) → FitsPorts flat.ports h → BitValue flat.ports (blast flat) h name x
      → BitValue flat.ports (blast flat) h name y → x ≡ y
  one_bit h name x y fits v w = one h name x y v fits (comes flat.ports (blast flat) h name y w)
