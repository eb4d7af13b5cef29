-- The ports of a program, one after the other.
use Rattle.std.proofs.Common.{◌≡◌, ◌∙◌, sym, ap, subst, ℕ, zero, suc, ◌+◌, ◌<◌, ◌≤◌, arith, List, [], ◌∷◌, ◌++◌, drop, length, get_or, append_assoc, append-nil, Some, refl}
use Rattle.std.specs.List.{slice_get}
use Rattle.std.proofs.lemmas.List.{drop_all}
use Rattle.std.proofs.lemmas.Option.{none-some, same_Some}
use Rattle.chw_clock.specs.declared.event.Port.{Port}
use Rattle.chw_clock.specs.declared.event.Ports.{Ports}
use Rattle.chw_types.specs.declared.declarations.Data.{Data}
use Rattle.type_ports.specs.declared.ports.Leaf.{Leaf}
use Rattle.type_ports.specs.Ports.{Leaves}
use Rattle.chw_types.specs.TypeTree.{TypeTree, fun}
use Rattle.chw_terms.specs.declared.program.Def.{Def}
use Rattle.chw_terms.specs.declared.program.Program.{Program}
use Rattle.chw_layout.specs.Measured.{HasWidth}
use Rattle.chw_meaning.specs.Means.{LeadsFrom, leads_to, leads_from, PortsOf, no_ports, port_and, no_port_and, HasPorts}
use Rattle.value_build.proofs.Operands.{left_of}
use Rattle.net_build.specs.Ports.{AddsLeaves, IsLedTo, port_at, AddsPort, ArePorts, HavePorts, HasSomePorts, IsTopOf}
use Rattle.net_build.proofs.LeavesOnce.{leads_once}

pub led_at_first : (datas : List Data) (t : TypeTree) (ins : List Leaf) → ins ≡ [] → IsLedTo datas t t ins
led_at_first datas t ins none more outs leads = subst (λ ls. LeadsFrom datas t (ls ++ more) outs) (sym none) leads

-- past one more parameter
pub led_further : (datas : List Data) (t rest a b : TypeTree) (before later : List Leaf)
    → rest ≡ fun a b → AddsLeaves datas a before later → IsLedTo datas t rest before → IsLedTo datas t b later
led_further datas t rest a b before later is added so more outs leads =
    let all = so (added.leaves ++ more) outs (subst (λ u. LeadsFrom datas u (added.leaves ++ more) outs) (sym is) (leads_from added.are leads)) in
    subst (λ ls. LeadsFrom datas t ls outs) (sym (append_assoc before added.leaves more) ∙ ap (λ ls. ls ++ more) (sym added.is)) all

-- to the end
pub led_whole : (datas : List Data) (t rest : TypeTree) (ins outs : List Leaf)
    → IsLedTo datas t rest ins → Leaves datas rest outs → LeadsFrom datas t ins outs
led_whole datas t rest ins outs so are = subst (λ ls. LeadsFrom datas t ls outs) (append-nil ins) (so [] outs (leads_to are))

-- the ports so far: with those of the leaves that are left, they are those of all
abbrev pub PortsSoFar : List Data → List Leaf → List (List ℕ) → ℕ → List Port → Type 0
PortsSoFar datas leaves names i ports =
    (more : List Port) → PortsOf datas (drop i leaves) (drop i names) more → PortsOf datas leaves names (ports ++ more)

one_port : (datas : List Data) (leaf : Leaf) (leaves : List Leaf) (name : List ℕ) (names : List (List ℕ)) (w : ℕ) (more : List Port)
    → HasWidth datas leaf.payload w → PortsOf datas leaves names more
    → PortsOf datas (leaf ∷ leaves) (name ∷ names) (port_at name leaf w ++ more)
one_port datas leaf leaves name names zero more measured rest = no_port_and measured rest
one_port datas leaf leaves name names (suc w) more measured rest = port_and measured rest

pub ports_grown : (datas : List Data) (leaves : List Leaf) (names : List (List ℕ)) (i : ℕ) (leaf : Leaf) (name : List ℕ) (before later : List Port)
    → i < length leaves → leaf ≡ get_or leaves i leaf → i < length names → name ≡ get_or names i name
    → AddsPort datas leaf name before later
    → PortsSoFar datas leaves names i before → PortsSoFar datas leaves names (i + 1) later
ports_grown datas leaves names i leaf name before later l is m at added so more rest =
    let here : List Port = port_at name leaf added.width in
    let one = one_port datas leaf (drop (i + 1) leaves) name (drop (i + 1) names) added.width more added.measured rest in
    let all = subst (λ ls. PortsOf datas ls (drop i names) (here ++ more)) (sym (left_of leaves i leaf l is))
    (subst (λ ns. PortsOf datas (leaf ∷ drop (i + 1) leaves) ns (here ++ more)) (sym (left_of names i name m at)) one) in
    subst (PortsOf datas leaves names) (sym (append_assoc before here more) ∙ ap (λ ps. ps ++ more) (sym added.are)) (so (here ++ more) all)

pub ports_whole : (datas : List Data) (leaves : List Leaf) (names : List (List ℕ)) (i : ℕ) (ports : List Port)
    → length leaves ≤ i → length leaves ≡ length names
    → PortsSoFar datas leaves names i ports → PortsOf datas leaves names ports
ports_whole datas leaves names i ports l many so =
    subst (PortsOf datas leaves names) (append-nil ports)
    (so [] (subst (λ ls. PortsOf datas ls (drop i names) []) (sym (drop_all i leaves l))
    (subst (λ ns. PortsOf datas [] ns []) (sym (drop_all i names (omega (arith, many, l)))) no_ports)))

-- the ports of the program
pub ports_of_program : (p : Program) (datas : List Data) (it : Def) (ins outs : List Leaf) (ports : Ports)
    → datas ≡ p.datas → IsTopOf p it → LeadsFrom datas it.ty ins outs → ArePorts datas p ins outs ports
    → HasPorts p ports
ports_of_program p datas it ins outs ports same held leads are = record {
  it = it;
  ins = ins;
  outs = outs;
  top = record { held = held; leads = subst (λ ds. LeadsFrom ds it.ty ins outs) same leads };
  domains = are.domains;
  resets = are.resets;
  inputs = subst (λ ds. PortsOf ds ins p.top.inputs ports.inputs) same are.inputs;
  outputs = subst (λ ds. PortsOf ds outs p.top.outputs ports.outputs) same are.outputs;
}

-- no port of a leaf without bits
pub no_port : (name : List ℕ) (leaf : Leaf) (w : ℕ) (before : List Port) → w ≡ 0 → before ≡ before ++ port_at name leaf w
no_port name leaf w before none = sym (append-nil before) ∙ ap (λ k. before ++ port_at name leaf k) (sym none)

-- the port of one with bits
pub some_port : (name given : List ℕ) (leaf : Leaf) (w : ℕ) (before later : List Port) → 0 < w → given ≡ name
    → later ≡ before ++ record { name = given; dom = leaf.dom; width = w } ∷ [] → later ≡ before ++ port_at name leaf w
some_port name given leaf zero before later some is added = absurd (omega (arith, some))
some_port name given leaf (suc w) before later some is added =
    added ∙ ap (λ (n : List ℕ). before ++ record { name = n; dom = leaf.dom; width = suc w } ∷ []) is

-- the ports of these leaves with these names
pub are_ports_of : (datas other : List Data) (leaves given : List Leaf) (names called : List (List ℕ)) (ports kept : List Port)
    → other ≡ datas → given ≡ leaves → called ≡ names → kept ≡ ports → PortsOf other given called ports → PortsOf datas leaves names kept
are_ports_of datas other leaves given names called ports kept same on as_named held are =
    subst (PortsOf datas leaves names) (sym held)
    (subst (λ ns. PortsOf datas leaves ns ports) as_named
    (subst (λ ls. PortsOf datas ls called ports) on
    (subst (λ ds. PortsOf ds given called ports) same are)))

-- there is a name for each leaf
pub names_many : {datas : List Data} {leaves : List Leaf} {names : List (List ℕ)} {ports : List Port} → PortsOf datas leaves names ports → length leaves ≡ length names
names_many no_ports = refl
names_many (port_and r rest) = ap suc (names_many rest)
names_many (no_port_and r rest) = ap suc (names_many rest)

-- and each leaf has a width
pub leaf_measured : {datas : List Data} {leaves : List Leaf} {names : List (List ℕ)} {ports : List Port} (i : ℕ) (leaf : Leaf)
    → PortsOf datas leaves names ports → slice_get leaves i ≡ Some leaf → (w : ℕ) × HasWidth datas leaf.payload w
leaf_measured i leaf no_ports is = absurd (none-some leaf is)
leaf_measured {datas} zero leaf (port_and {leaf = it} {w = w} r rest) is =
    (suc w, subst (λ (l : Leaf). HasWidth datas l.payload (suc w)) (same_Some it leaf is) r)
leaf_measured {datas} zero leaf (no_port_and {leaf = it} r rest) is =
    (zero, subst (λ (l : Leaf). HasWidth datas l.payload zero) (same_Some it leaf is) r)
leaf_measured (suc i) leaf (port_and r rest) is = leaf_measured i leaf rest is
leaf_measured (suc i) leaf (no_port_and r rest) is = leaf_measured i leaf rest is

-- the leaves of a top have ports, if its program has
pub leaves_have_ports : (p : Program) (datas : List Data) (it : Def) (ins outs : List Leaf)
    → datas ≡ p.datas → IsTopOf p it → LeadsFrom datas it.ty ins outs → HasSomePorts p
    → HavePorts datas ins p.top.inputs × HavePorts datas outs p.top.outputs
leaves_have_ports p datas it ins outs same held leads some =
    let has = some.1 in
    let here : has.it ≡ it = same_Some has.it it (sym has.top.held ∙ held) in
    let given : LeadsFrom datas it.ty has.ins has.outs =
    subst (λ ds. LeadsFrom ds it.ty has.ins has.outs) (sym same) (subst (λ (d : Def). LeadsFrom p.datas d.ty has.ins has.outs) here has.top.leads) in
    let once = leads_once given leads in (
      (some.0.inputs, subst (λ ls. PortsOf datas ls p.top.inputs some.0.inputs) once.0 (subst (λ ds. PortsOf ds has.ins p.top.inputs some.0.inputs) (sym same) has.inputs)),
      (some.0.outputs, subst (λ ls. PortsOf datas ls p.top.outputs some.0.outputs) once.1 (subst (λ ds. PortsOf ds has.outs p.top.outputs some.0.outputs) (sym same) has.outputs)),
    )
