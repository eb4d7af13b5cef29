-- Ports at places of circuits.
use Rattle.std.proofs.Common.{◌≡◌, refl, subst, ℕ, List}
use Rattle.chw_types.specs.declared.declarations.Data.{Data}
use Rattle.chw_types.specs.declared.kind.Kind.{Kind}
use Rattle.chw_types.specs.declared.kind.Kind.TheVariants.{Cir}
use Rattle.chw_types.specs.Kinds.{KindOf, kind_signal}
use Rattle.chw_types.specs.TypeTree.{TypeTree, domain, fun, signal}
use Rattle.type_ports.specs.declared.ports.Leaf.{Leaf}
use Rattle.type_ports.specs.Ports.{Leaves, one_leaf, IsPort}
use Rattle.type_ports.specs.Representable.{Representable}
use Rattle.chw_terms.specs.declared.scene.Mode.{Mode}
use Rattle.chw_terms.specs.declared.scene.Mode.TheVariants.{V, C, HV, HC, K}
use Rattle.rewriting.specs.Named.{IsNamed}
use Rattle.rewriting.specs.Shapes.{IsOfCircuit}
use Rattle.rewriting.specs.Spots.{head_mode}

-- signals of representable values are ports, and those alone
pub payload_of : {datas : List Data} {d t : TypeTree} {ls : List Leaf} → Leaves datas (signal d t) ls → Representable datas t
payload_of (one_leaf r) = r

pub signal_port : {datas : List Data} (n : ℕ) {t : TypeTree} → Representable datas t → IsPort datas (signal (domain n) t)
signal_port n r = (_, one_leaf {dom = record { number = n }} r)

pub no_function : {datas : List Data} {a b : TypeTree} → Representable datas (fun a b) → ⊥
no_function r = elim r [ ]

pub signal_kind : {datas : List Data} {domains : ℕ} {scope : List Kind} {d t : TypeTree} {k : Kind} → KindOf datas domains scope (signal d t) k → KindOf datas domains scope (signal d t) Cir
signal_kind (kind_signal d e) = kind_signal d e

-- in a circuit what is named is a port
pub port_named : {datas : List Data} (m : Mode) {t : TypeTree} → IsOfCircuit m → IsPort datas t → IsNamed datas m t
port_named C c p = p
port_named HC c p = p
port_named V c p = absurd c
port_named HV c p = absurd c
port_named K c p = absurd c

pub named_port : {datas : List Data} (m : Mode) {t : TypeTree} → IsOfCircuit m → IsNamed datas m t → IsPort datas t
named_port C c p = p
named_port HC c p = p
named_port V c p = absurd c
named_port HV c p = absurd c
named_port K c p = absurd c

pub circuit_head : (m : Mode) → IsOfCircuit m → head_mode m ≡ HC
circuit_head C c = refl
circuit_head HC c = refl
circuit_head V c = absurd c
circuit_head HV c = absurd c
circuit_head K c = absurd c

pub not_constant : {m : Mode} → IsOfCircuit m → m ≡ K → ⊥
not_constant c k = subst IsOfCircuit k c
