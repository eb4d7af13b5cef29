-- Connections that stand in a text pass their checks.
use Rattle.std.proofs.Common.{◌≡◌, ℕ, suc, true, List, [], ◌∷◌, ◌++◌, length, map, refl, sym, ap, ◌∙◌, subst, arith}
use Rattle.std.specs.List.{AllByRecursion}
use Rattle.std.specs.Str.{bytes_eq}
use Rattle.std.proofs.lemmas.Slice.Eq.{bytes_eq-Decides}
use Rattle.chw_base.specs.declared.index.WireId.{WireId}
use Rattle.verilog_text.specs.Declared.{AreNamesOf, IsNameOf, IsOfKind}
use Rattle.verilog_text.specs.Declared.Kind.{a_wire}
use Rattle.verilog_tree.specs.Sources.{bytes_of}
use Rattle.verilog_tree.specs.declared.item.Connection.{Connection}
use Rattle.verilog_tree.specs.declared.module.Port.{Port}
use Rattle.verilog_tree.specs.declared.module.Port.TheVariants.{Input, Output, Signal}
use Rattle.verilog_tree.specs.declared.word.Word.{Word}
use Rattle.verilog_rules.specs.Declarations.{inputs_of, port_word, signals_of}
use Rattle.verilog_rules.specs.NameRules.{connection_checks, kind_of, may_be_driven}
use Rattle.verilog_rules.specs.NetOf.{wire}
use Rattle.verilog_rules.specs.Resolving.{drives_of, operand, reads_of}
use Rattle.verilog_rules.specs.declared.resolved.Kind.TheVariants as kind
use Rattle.verilog_rules.specs.declared.resolved.Wire.{Wire}
use Rattle.verilog_rules.proofs.Connections.{Ordered, no_inputs, no_signals}
use Rattle.verilog_rules.proofs.Holding.{AllTrue}
use Rattle.verilog_rules.proofs.Operands.{is_known, named_back, said}
use Rattle.verilog_rules.proofs.Wires.{plain_said, said_kind}

pub record Connected (ws : List Wire) (close : ℕ) (ports : List Port) (cs : List Connection) (reads drives : List WireId) : Type 0 where
  pub checks : AllTrue (connection_checks ws close ports cs)
  pub reads_are : reads ≡ map wire (reads_of ws ports cs)
  pub drives_are : drives ≡ map wire (drives_of ws ports cs)

abbrev port_texts : List Connection → List (List ℕ)
port_texts cs = map (λ (c : Connection). bytes_of c.port) cs

abbrev wire_texts : List Connection → List (List ℕ)
wire_texts cs = map (λ (c : Connection). bytes_of c.wire) cs

abbrev port_words : List Port → List (List ℕ)
port_words ports = map (λ (p : Port). bytes_of (port_word p)) ports

first_name : {x y : List ℕ} {xs ys : List (List ℕ)} → x ∷ xs ≡ y ∷ ys → x ≡ y
first_name is = cc

later_names : {x y : List ℕ} {xs ys : List (List ℕ)} → x ∷ xs ≡ y ∷ ys → xs ≡ ys
later_names is = cc

longer : {v w : WireId} {vs ws : List WireId} → v ≡ w → vs ≡ ws → v ∷ vs ≡ w ∷ ws
longer p q = λ i. p i ∷ q i

are_equal : (a b : List ℕ) → a ≡ b → bytes_eq a b ≡ true
are_equal a b same = (bytes_eq-Decides a b).1 same

-- a plain wire may be driven
pub may_drive : (ws : List Wire) (a : Word) (w : WireId) → IsNameOf (map said ws) (bytes_of a) w → IsOfKind (map said ws) w a_wire
    → (may_be_driven (kind_of ws (bytes_of a)) ≡ true) × ((operand ws a).wire ≡ w)
may_drive ws a w is of_kind =
    let back = named_back ws a w is in
    let plain : back.0.kind ≡ kind.Plain =
    plain_said back.0.kind (said_kind ws a back.0 a_wire (subst (λ (v : WireId). IsOfKind (map said ws) v a_wire) (sym back.1) of_kind)) in
    (rw (back.0.has_kind, plain) refl, back.1)

pub connected : (ws : List Wire) (close r : ℕ) (ports : List Port) (cs : List Connection) (rn dn : List (List ℕ)) (reads drives : List WireId) → Ordered r ports
    → port_texts cs ≡ port_words ports → wire_texts cs ≡ map bytes_of (signals_of ports) ++ (rn ++ dn) → length rn ≡ length (inputs_of ports)
    → AreNamesOf (map said ws) rn reads → AreNamesOf (map said ws) dn drives → AllByRecursion (λ (w : WireId). IsOfKind (map said ws) w a_wire) drives
    → Connected ws close ports cs reads drives
connected ws close r [] (c ∷ cs) rn dn reads drives ordered names wires count are also kinds = absurd (cc)
connected ws close r (p ∷ ports) [] rn dn reads drives ordered names wires count are also kinds = absurd (cc)
connected ws close r [] [] (n ∷ rn) dn reads drives ordered names wires count are also kinds = absurd (cc)
connected ws close r [] [] [] (n ∷ dn) reads drives ordered names wires count are also kinds = absurd (cc)
connected ws close r [] [] [] [] (v ∷ reads) drives ordered names wires count are also kinds = absurd are
connected ws close r [] [] [] [] [] (v ∷ drives) ordered names wires count are also kinds = absurd also
connected ws close r [] [] [] [] [] [] ordered names wires count are also kinds = record { checks = tt; reads_are = refl; drives_are = refl }
connected ws close r (Signal s ∷ ports) (c ∷ cs) rn dn reads drives ordered names wires count are also kinds =
    let rest : Connected ws close ports cs reads drives = connected ws close 0 ports cs rn dn reads drives ordered.1 (later_names names) (later_names wires) count are also kinds in
    record {
      checks = (are_equal (bytes_of c.port) (bytes_of s) (first_name names), (are_equal (bytes_of c.wire) (bytes_of s) (first_name wires), rest.checks));
      reads_are = rest.reads_are;
      drives_are = rest.drives_are;
    }
connected ws close r (Input l ∷ ports) (c ∷ cs) [] dn reads drives ordered names wires count are also kinds = absurd (cc)
connected ws close r (Input l ∷ ports) (c ∷ cs) (n ∷ rn) dn [] drives ordered names wires count are also kinds = absurd are
connected ws close r (Input l ∷ ports) (c ∷ cs) (n ∷ rn) dn (v ∷ reads) drives ordered names wires count are also kinds =
    let none : signals_of ports ≡ [] = no_signals 1 ports (omega arith) ordered.1 in
    let short : bytes_of c.wire ∷ wire_texts cs ≡ n ∷ (rn ++ dn) = wires ∙ ap (λ (ss : List Word). map bytes_of ss ++ (n ∷ (rn ++ dn))) none in
    let more : wire_texts cs ≡ map bytes_of (signals_of ports) ++ (rn ++ dn) = later_names short ∙ sym (ap (λ (ss : List Word). map bytes_of ss ++ (rn ++ dn)) none) in
    let fewer : length rn ≡ length (inputs_of ports) = fewer_by_one (length rn) (length (inputs_of ports)) count in
    let rest : Connected ws close ports cs reads drives = connected ws close 1 ports cs rn dn reads drives ordered.1 (later_names names) more fewer are.1 also kinds in
    let here : IsNameOf (map said ws) (bytes_of c.wire) v = subst (λ (t : List ℕ). IsNameOf (map said ws) t v) (sym (first_name short)) are.0 in
    let back = named_back ws c.wire v here in
    record {
      checks = (are_equal (bytes_of c.port) (bytes_of l.name) (first_name names), (is_known ws c.wire back.0, rest.checks));
      reads_are = longer (sym back.1) rest.reads_are;
      drives_are = rest.drives_are;
    }
  where
    fewer_by_one : (a b : ℕ) → suc a ≡ suc b → a ≡ b
    fewer_by_one a b same = omega arith
connected ws close r (Output l ∷ ports) (c ∷ cs) (n ∷ rn) dn reads drives ordered names wires count are also kinds =
    let none : inputs_of ports ≡ [] = no_inputs 2 ports (omega arith) ordered.1 in
    absurd (none_longer (length rn) (count ∙ ap length none))
  where
    none_longer : (a : ℕ) → suc a ≡ 0 → ⊥
    none_longer a is = omega arith
connected ws close r (Output l ∷ ports) (c ∷ cs) [] [] reads drives ordered names wires count are also kinds =
    let none : signals_of ports ≡ [] = no_signals 2 ports (omega arith) ordered.1 in
    let short : bytes_of c.wire ∷ wire_texts cs ≡ [] = wires ∙ ap (λ (ss : List Word). map bytes_of ss ++ []) none in
    absurd (cc)
connected ws close r (Output l ∷ ports) (c ∷ cs) [] (n ∷ dn) reads [] ordered names wires count are also kinds = absurd also
connected ws close r (Output l ∷ ports) (c ∷ cs) [] (n ∷ dn) reads (v ∷ drives) ordered names wires count are also kinds =
    let none : signals_of ports ≡ [] = no_signals 2 ports (omega arith) ordered.1 in
    let short : bytes_of c.wire ∷ wire_texts cs ≡ n ∷ dn = wires ∙ ap (λ (ss : List Word). map bytes_of ss ++ (n ∷ dn)) none in
    let more : wire_texts cs ≡ map bytes_of (signals_of ports) ++ dn = later_names short ∙ sym (ap (λ (ss : List Word). map bytes_of ss ++ dn) none) in
    let rest : Connected ws close ports cs reads drives = connected ws close 2 ports cs [] dn reads drives ordered.1 (later_names names) more count are also.1 kinds.1 in
    let here : IsNameOf (map said ws) (bytes_of c.wire) v = subst (λ (t : List ℕ). IsNameOf (map said ws) t v) (sym (first_name short)) also.0 in
    let may = may_drive ws c.wire v here kinds.0 in
    record {
      checks = (are_equal (bytes_of c.port) (bytes_of l.name) (first_name names), (may.0, rest.checks));
      reads_are = rest.reads_are;
      drives_are = longer (sym may.1) rest.drives_are;
    }
