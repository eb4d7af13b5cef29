-- What a use joins to the ports of a module.
use Rattle.std.proofs.Common.{◌≡◌, ℕ, suc, ◌≤◌, true, List, [], ◌∷◌, ◌++◌, length, map, Some, refl, sym, ap, ◌∙◌, subst, arith}
use Rattle.std.specs.List.{AllByRecursion}
use Rattle.std.specs.Str.{bytes_eq}
use Rattle.std.proofs.lemmas.Bool.{false≢true, le-leb, leb-true}
use Rattle.std.proofs.lemmas.Slice.Eq.{bytes_eq-Decides}
use Rattle.chw_base.specs.declared.index.WireId.{WireId}
use Rattle.verilog_text.specs.Declared.{AreInOrder, AreNamesOf, IsOfKind, port_name}
use Rattle.verilog_text.specs.Declared.{inputs_of as said_inputs, outputs_of as said_outputs, signals_of as said_signals}
use Rattle.verilog_text.specs.Declared.Kind.{a_wire}
use Rattle.verilog_text.specs.Source.{Line as LineItem, PortItem}
use Rattle.verilog_text.specs.Source.PortItem.{input_port, output_port, signal_port}
use Rattle.verilog_tree.specs.Sources.{bytes_of, line_of, port_of}
use Rattle.verilog_tree.specs.declared.item.Connection.{Connection}
use Rattle.verilog_tree.specs.declared.module.Port.{Port}
use Rattle.verilog_tree.specs.declared.module.Port.TheVariants.{Input, Output, Signal}
use Rattle.verilog_tree.specs.declared.word.Word.{Word}
use Rattle.verilog_rules.specs.Declarations.{inputs_of, outputs_of, port_word, signals_of}
use Rattle.verilog_rules.specs.NameRules.{connection_checks, kind_of, may_be_driven, order_checks}
use Rattle.verilog_rules.specs.NetOf.{wire}
use Rattle.verilog_rules.specs.Resolving.{drives_of, operand, reads_of}
use Rattle.verilog_rules.specs.WidthRules.{kind_at}
use Rattle.verilog_rules.specs.declared.resolved.Kind.{Kind}
use Rattle.verilog_rules.specs.declared.resolved.Kind.TheVariants as kind
use Rattle.verilog_rules.specs.declared.resolved.Operand.{Operand}
use Rattle.verilog_rules.specs.declared.resolved.Wire.{Wire}
use Rattle.verilog_rules.proofs.Holding.{AllTrue}
use Rattle.verilog_rules.proofs.Operands.{Known, has_kind, kind_is, known, known_as, named, said}
use Rattle.verilog_rules.proofs.Wires.{Extends, driven_kind, kind_there}

-- ORDER

-- ports of no lesser rank than this, in order
abbrev pub Ordered : ℕ → List Port → Type 0
Ordered r ports = AllTrue (order_checks r ports)

pub no_signals : (r : ℕ) (ports : List Port) → 1 ≤ r → Ordered r ports → signals_of ports ≡ []
no_signals r [] some ordered = refl
no_signals r (Signal s ∷ ports) some ordered = let least : r ≤ 0 = leb-true r 0 ordered.0 in absurd (omega arith)
no_signals r (Input l ∷ ports) some ordered = no_signals 1 ports (omega arith) ordered.1
no_signals r (Output l ∷ ports) some ordered = no_signals 2 ports (omega arith) ordered.1

pub no_inputs : (r : ℕ) (ports : List Port) → 2 ≤ r → Ordered r ports → inputs_of ports ≡ []
no_inputs r [] some ordered = refl
no_inputs r (Signal s ∷ ports) some ordered = let least : r ≤ 0 = leb-true r 0 ordered.0 in absurd (omega arith)
no_inputs r (Input l ∷ ports) some ordered = let least : r ≤ 1 = leb-true r 1 ordered.0 in absurd (omega arith)
no_inputs r (Output l ∷ ports) some ordered = no_inputs 2 ports (omega arith) ordered.1

pub signals_said : (ports : List Port) → said_signals (map port_of ports) ≡ map bytes_of (signals_of ports)
signals_said [] = refl
signals_said (Signal s ∷ ports) = ap (λ (rest : List (List ℕ)). bytes_of s ∷ rest) (signals_said ports)
signals_said (Input l ∷ ports) = signals_said ports
signals_said (Output l ∷ ports) = signals_said ports

pub inputs_said : (ports : List Port) → said_inputs (map port_of ports) ≡ map line_of (inputs_of ports)
inputs_said [] = refl
inputs_said (Signal s ∷ ports) = inputs_said ports
inputs_said (Input l ∷ ports) = ap (λ (rest : List LineItem). line_of l ∷ rest) (inputs_said ports)
inputs_said (Output l ∷ ports) = inputs_said ports

pub outputs_said : (ports : List Port) → said_outputs (map port_of ports) ≡ map line_of (outputs_of ports)
outputs_said [] = refl
outputs_said (Signal s ∷ ports) = outputs_said ports
outputs_said (Input l ∷ ports) = outputs_said ports
outputs_said (Output l ∷ ports) = ap (λ (rest : List LineItem). line_of l ∷ rest) (outputs_said ports)

pub names_of_ports : (ports : List Port) → map port_name (map port_of ports) ≡ map (λ (p : Port). bytes_of (port_word p)) ports
names_of_ports [] = refl
names_of_ports (Signal s ∷ ports) = ap (λ (rest : List (List ℕ)). bytes_of s ∷ rest) (names_of_ports ports)
names_of_ports (Input l ∷ ports) = ap (λ (rest : List (List ℕ)). bytes_of l.name ∷ rest) (names_of_ports ports)
names_of_ports (Output l ∷ ports) = ap (λ (rest : List (List ℕ)). bytes_of l.name ∷ rest) (names_of_ports ports)

-- the parts of ports in order
abbrev in_parts : List PortItem → List PortItem
in_parts ports = map signal_port (said_signals ports) ++ (map input_port (said_inputs ports) ++ map output_port (said_outputs ports))

pub in_order : (r : ℕ) (ports : List Port) → Ordered r ports → AreInOrder (map port_of ports)
in_order r [] ordered = refl
in_order r (Signal s ∷ ports) ordered = ap (λ (rest : List PortItem). signal_port (bytes_of s) ∷ rest) (in_order 0 ports ordered.1)
in_order r (Input l ∷ ports) ordered =
    let none : said_signals (map port_of ports) ≡ [] = signals_said ports ∙ ap (map bytes_of) (no_signals 1 ports (omega arith) ordered.1) in
    let rest : map port_of ports ≡ in_parts (map port_of ports) = in_order 1 ports ordered.1 in
    let short : map port_of ports ≡ map input_port (said_inputs (map port_of ports)) ++ map output_port (said_outputs (map port_of ports)) =
    rest ∙ ap (λ (ss : List (List ℕ)). map signal_port ss ++ (map input_port (said_inputs (map port_of ports)) ++ map output_port (said_outputs (map port_of ports)))) none in
    ap (λ (more : List PortItem). input_port (line_of l) ∷ more) short
    ∙ sym (ap (λ (ss : List (List ℕ)). map signal_port ss ++ (map input_port (line_of l ∷ said_inputs (map port_of ports)) ++ map output_port (said_outputs (map port_of ports)))) none)
in_order r (Output l ∷ ports) ordered =
    let none : said_signals (map port_of ports) ≡ [] = signals_said ports ∙ ap (map bytes_of) (no_signals 2 ports (omega arith) ordered.1) in
    let no_input : said_inputs (map port_of ports) ≡ [] = inputs_said ports ∙ ap (map line_of) (no_inputs 2 ports (omega arith) ordered.1) in
    let rest : map port_of ports ≡ in_parts (map port_of ports) = in_order 2 ports ordered.1 in
    let short : map port_of ports ≡ map output_port (said_outputs (map port_of ports)) =
    rest ∙ ap (λ (ss : List (List ℕ)). map signal_port ss ++ (map input_port (said_inputs (map port_of ports)) ++ map output_port (said_outputs (map port_of ports)))) none
    ∙ ap (λ (ls : List LineItem). map input_port ls ++ map output_port (said_outputs (map port_of ports))) no_input in
    ap (λ (more : List PortItem). output_port (line_of l) ∷ more) short
    ∙ sym (ap (λ (ss : List (List ℕ)). map signal_port ss ++ (map input_port (said_inputs (map port_of ports)) ++ map output_port (line_of l ∷ said_outputs (map port_of ports)))) none
    ∙ ap (λ (ls : List LineItem). map input_port ls ++ map output_port (line_of l ∷ said_outputs (map port_of ports))) no_input)

abbrev said_rank : PortItem → ℕ
said_rank (signal_port s) = 0
said_rank (input_port l) = 1
said_rank (output_port l) = 2

abbrev Rising : ℕ → List PortItem → Type 0
Rising r [] = Unit {0}
Rising r (p ∷ ports) = (r ≤ said_rank p) × Rising (said_rank p) ports

ordered_from : (r : ℕ) (ports : List Port) → Rising r (map port_of ports) → Ordered r ports
ordered_from r [] rising = tt
ordered_from r (Signal s ∷ ports) rising = (le-leb r 0 rising.0, ordered_from 0 ports rising.1)
ordered_from r (Input l ∷ ports) rising = (le-leb r 1 rising.0, ordered_from 1 ports rising.1)
ordered_from r (Output l ∷ ports) rising = (le-leb r 2 rising.0, ordered_from 2 ports rising.1)

outputs_rise : (r : ℕ) (ls : List LineItem) → r ≤ 2 → Rising r (map output_port ls)
outputs_rise r [] below = tt
outputs_rise r (l ∷ ls) below = (below, outputs_rise 2 ls (omega arith))

inputs_rise : (r : ℕ) (ls outs : List LineItem) → r ≤ 1 → Rising r (map input_port ls ++ map output_port outs)
inputs_rise r [] outs below = outputs_rise r outs (omega arith)
inputs_rise r (l ∷ ls) outs below = (below, inputs_rise 1 ls outs (omega arith))

signals_rise : (ss : List (List ℕ)) (ls outs : List LineItem) → Rising 0 (map signal_port ss ++ (map input_port ls ++ map output_port outs))
signals_rise [] ls outs = inputs_rise 0 ls outs (omega arith)
signals_rise (s ∷ ss) ls outs = (omega arith, signals_rise ss ls outs)

pub in_order_back : (ports : List Port) → AreInOrder (map port_of ports) → Ordered 0 ports
in_order_back ports is =
    ordered_from 0 ports (subst (Rising 0) (sym is) (signals_rise (said_signals (map port_of ports)) (said_inputs (map port_of ports)) (said_outputs (map port_of ports))))

-- CONNECTIONS

-- the words that are joined to inputs, and to outputs
abbrev pub read_words : List Port → List Connection → List Word
read_words (Input l ∷ ports) (c ∷ cs) = c.wire ∷ read_words ports cs
read_words (_ ∷ ports) (c ∷ cs) = read_words ports cs
read_words _ _ = []

abbrev pub driven_words : List Port → List Connection → List Word
driven_words (Output l ∷ ports) (c ∷ cs) = c.wire ∷ driven_words ports cs
driven_words (_ ∷ ports) (c ∷ cs) = driven_words ports cs
driven_words _ _ = []

abbrev pub NoInput : List Wire → Operand → Type 0
NoInput full a = kind_at full a ≡ Some kind.Input → ⊥

-- connections to ports, which are joined as the checks require
pub record Joined (ws : List Wire) (ports : List Port) (cs : List Connection) : Type 0 where
  pub ports_are : map (λ (c : Connection). bytes_of c.port) cs ≡ map (λ (p : Port). bytes_of (port_word p)) ports
  pub wires_are : map (λ (c : Connection). bytes_of c.wire) cs
      ≡ map bytes_of (signals_of ports) ++ (map bytes_of (read_words ports cs) ++ map bytes_of (driven_words ports cs))
  pub inputs : length (read_words ports cs) ≡ length (inputs_of ports)
  pub outputs : length (driven_words ports cs) ≡ length (outputs_of ports)
  pub reads : AreNamesOf (map said ws) (map bytes_of (read_words ports cs)) (map wire (reads_of ws ports cs))
  pub drives : AreNamesOf (map said ws) (map bytes_of (driven_words ports cs)) (map wire (drives_of ws ports cs))

same_bytes : (a b : List ℕ) → bytes_eq a b ≡ true → a ≡ b
same_bytes a b holds = (bytes_eq-Decides a b).0 holds

no_read_words : (ports : List Port) (cs : List Connection) → inputs_of ports ≡ [] → read_words ports cs ≡ []
no_read_words [] cs none = refl
no_read_words (Signal s ∷ ports) [] none = refl
no_read_words (Signal s ∷ ports) (c ∷ cs) none = no_read_words ports cs none
no_read_words (Input l ∷ ports) cs none = absurd (cc)
no_read_words (Output l ∷ ports) [] none = refl
no_read_words (Output l ∷ ports) (c ∷ cs) none = no_read_words ports cs none

driven_known : (ws : List Wire) (a : Word) → may_be_driven (kind_of ws (bytes_of a)) ≡ true → Known ws a
driven_known ws a is = let k = driven_kind (kind_of ws (bytes_of a)) is in known_as ws a k.0 k.1

pub joined : (ws : List Wire) (close r : ℕ) (ports : List Port) (cs : List Connection) → Ordered r ports → AllTrue (connection_checks ws close ports cs) → Joined ws ports cs
joined ws close r [] [] ordered all = record { ports_are = refl; wires_are = refl; inputs = refl; outputs = refl; reads = tt; drives = tt }
joined ws close r [] (c ∷ cs) ordered all = absurd (false≢true all.0)
joined ws close r (p ∷ ports) [] ordered all = absurd (false≢true all.0)
joined ws close r (Signal s ∷ ports) (c ∷ cs) ordered all =
    let rest : Joined ws ports cs = joined ws close 0 ports cs ordered.1 all.1.1 in
    let port : bytes_of c.port ≡ bytes_of s = same_bytes (bytes_of c.port) (bytes_of s) all.0 in
    let own : bytes_of c.wire ≡ bytes_of s = same_bytes (bytes_of c.wire) (bytes_of s) all.1.0 in
    record {
      ports_are = λ i. port i ∷ rest.ports_are i;
      wires_are = λ i. own i ∷ rest.wires_are i;
      inputs = rest.inputs;
      outputs = rest.outputs;
      reads = rest.reads;
      drives = rest.drives;
    }
joined ws close r (Input l ∷ ports) (c ∷ cs) ordered all =
    let rest : Joined ws ports cs = joined ws close 1 ports cs ordered.1 all.1.1 in
    let port : bytes_of c.port ≡ bytes_of l.name = same_bytes (bytes_of c.port) (bytes_of l.name) all.0 in
    let none : signals_of ports ≡ [] = no_signals 1 ports (omega arith) ordered.1 in
    let back : List (List ℕ) = map bytes_of (read_words ports cs) ++ map bytes_of (driven_words ports cs) in
    let short : map (λ (c : Connection). bytes_of c.wire) cs ≡ back = rest.wires_are ∙ ap (λ (ss : List Word). map bytes_of ss ++ back) none in
    record {
      ports_are = λ i. port i ∷ rest.ports_are i;
      wires_are = ap (λ (more : List (List ℕ)). bytes_of c.wire ∷ more) short ∙ sym (ap (λ (ss : List Word). map bytes_of ss ++ (bytes_of c.wire ∷ back)) none);
      inputs = ap suc rest.inputs;
      outputs = rest.outputs;
      reads = (named ws c.wire (known ws c.wire all.1.0), rest.reads);
      drives = rest.drives;
    }
joined ws close r (Output l ∷ ports) (c ∷ cs) ordered all =
    let rest : Joined ws ports cs = joined ws close 2 ports cs ordered.1 all.1.1 in
    let port : bytes_of c.port ≡ bytes_of l.name = same_bytes (bytes_of c.port) (bytes_of l.name) all.0 in
    let none : signals_of ports ≡ [] = no_signals 2 ports (omega arith) ordered.1 in
    let no_read : read_words ports cs ≡ [] = no_read_words ports cs (no_inputs 2 ports (omega arith) ordered.1) in
    let short : map (λ (c : Connection). bytes_of c.wire) cs ≡ map bytes_of (driven_words ports cs) =
    rest.wires_are ∙ ap (λ (ss : List Word). map bytes_of ss ++ (map bytes_of (read_words ports cs) ++ map bytes_of (driven_words ports cs))) none
    ∙ ap (λ (rs : List Word). map bytes_of rs ++ map bytes_of (driven_words ports cs)) no_read in
    record {
      ports_are = λ i. port i ∷ rest.ports_are i;
      wires_are = ap (λ (more : List (List ℕ)). bytes_of c.wire ∷ more) short
          ∙ sym (ap (λ (ss : List Word). map bytes_of ss ++ (map bytes_of (read_words ports cs) ++ (bytes_of c.wire ∷ map bytes_of (driven_words ports cs)))) none
          ∙ ap (λ (rs : List Word). map bytes_of rs ++ (bytes_of c.wire ∷ map bytes_of (driven_words ports cs))) no_read);
      inputs = rest.inputs;
      outputs = ap suc rest.outputs;
      reads = rest.reads;
      drives = (named ws c.wire (driven_known ws c.wire all.1.0), rest.drives);
    }

-- a wire that may be driven and is no input is a plain one
pub plain_kind : (ws full : List Wire) (a : Word) → Extends ws full → may_be_driven (kind_of ws (bytes_of a)) ≡ true → NoInput full (operand ws a)
    → IsOfKind (map said ws) (operand ws a).wire a_wire
plain_kind ws full a extends may no_input =
    let k = driven_kind (kind_of ws (bytes_of a)) may in
    by_case k.0 k.1 k.2
  where
    by_case : (k : Kind) → kind_of ws (bytes_of a) ≡ Some k → may_be_driven (Some k) ≡ true → IsOfKind (map said ws) (operand ws a).wire a_wire
    by_case kind.Input is may_be =
        let there : Known ws a = known_as ws a kind.Input is in
        absurd (no_input (kind_there ws full a extends there ∙ ap Some (kind_is ws a there kind.Input is)))
    by_case kind.Plain is may_be =
        let there : Known ws a = known_as ws a kind.Plain is in
        rw (kind_is ws a there kind.Plain is) at (has_kind ws a there)
    by_case (kind.Register literal memory) is may_be = absurd (false≢true may_be)

pub plain_kinds : (ws full : List Wire) (close : ℕ) (ports : List Port) (cs : List Connection) → Extends ws full → AllTrue (connection_checks ws close ports cs)
    → AllByRecursion (NoInput full) (drives_of ws ports cs) → AllByRecursion (λ (w : WireId). IsOfKind (map said ws) w a_wire) (map wire (drives_of ws ports cs))
plain_kinds ws full close [] cs extends all none = tt
plain_kinds ws full close (Signal s ∷ ports) [] extends all none = tt
plain_kinds ws full close (Input l ∷ ports) [] extends all none = tt
plain_kinds ws full close (Output l ∷ ports) [] extends all none = tt
plain_kinds ws full close (Signal s ∷ ports) (c ∷ cs) extends all none = plain_kinds ws full close ports cs extends all.1.1 none
plain_kinds ws full close (Input l ∷ ports) (c ∷ cs) extends all none = plain_kinds ws full close ports cs extends all.1.1 none
plain_kinds ws full close (Output l ∷ ports) (c ∷ cs) extends all none =
    (plain_kind ws full c.wire extends all.1.0 none.0, plain_kinds ws full close ports cs extends all.1.1 none.1)
