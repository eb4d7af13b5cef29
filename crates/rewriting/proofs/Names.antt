-- Which types are named, by the laws of representable types and of ports.
use Rattle.std.proofs.Common.{◌⊎◌, inl, inr, List, []}
use Rattle.chw_types.specs.declared.kind.Kind.{Kind}
use Rattle.chw_types.specs.declared.declarations.Data.{Data}
use Rattle.chw_types.specs.TypeTree.{TypeTree}
use Rattle.chw_types.specs.SameTypes.{SameTypes}
use Rattle.type_ports.specs.Ports.{IsPort, IsNoPort}
use Rattle.chw_terms.specs.declared.scene.Mode.{Mode}
use Rattle.chw_terms.specs.declared.scene.Mode.TheVariants.{V, C, HV, HC, K}
use Rattle.chw_terms.specs.References.{DataRefers}
use Rattle.graph_order.specs.References.{HasNoCycle}
use Rattle.chw_typing.specs.Scopes.{Setting, HasKind}
use Rattle.chw_typing.specs.Programs.{IsSound}
use Rattle.chw_typing.specs.Alike.{AreLike, SameKeepsRepresentable, SameKeepsLeaves}
use Rattle.chw_typing.specs.NamedLaws.{RepresentableIsVal, PortIsCir, RepresentableIsDecided, PortIsDecided}
use Rattle.rewriting.specs.SceneLaws.{IsKindOf}
use Rattle.rewriting.specs.Named.{IsNamed}

pub kind_of_named : RepresentableIsVal → PortIsCir → (s : Setting) (mode : Mode) (t : TypeTree) (k : Kind) → IsSound s → HasKind s [] t k → IsNamed s.datas mode t → IsKindOf mode k
kind_of_named values circuits s V t k h d n = values s t k h d n
kind_of_named values circuits s HV t k h d n = values s t k h d n
kind_of_named values circuits s C t k h d n = circuits s t k h d n
kind_of_named values circuits s HC t k h d n = circuits s t k h d n
kind_of_named values circuits s K t k h d n = n

port_decided : {datas : List Data} {t : TypeTree} → IsPort datas t ⊎ IsNoPort datas t → IsPort datas t ⊎ (IsPort datas t → ⊥)
port_decided (inl p) = inl p
port_decided (inr n) = inr (λ p. n p.0 p.1)

pub named_decided : RepresentableIsDecided → PortIsDecided → (datas : List Data) (mode : Mode) (t : TypeTree) → HasNoCycle (DataRefers datas) → IsNamed datas mode t ⊎ (IsNamed datas mode t → ⊥)
named_decided values circuits datas V t h = values datas t h
named_decided values circuits datas HV t h = values datas t h
named_decided values circuits datas C t h = port_decided (circuits datas t h)
named_decided values circuits datas HC t h = port_decided (circuits datas t h)
named_decided values circuits datas K t h = inr (λ n. n)

port_kept : SameKeepsLeaves → (s : Setting) (t u : TypeTree) → IsSound s → AreLike s t u → IsPort s.datas t → IsPort s.datas u
port_kept law s t u h l n = let more = law s t u n.0 h l n.1 in (more.0, more.1)

pub named_kept : SameKeepsRepresentable → SameKeepsLeaves → (s : Setting) (mode : Mode) (t u : TypeTree) (k : Kind) → IsSound s → HasKind s [] t k → SameTypes t u → IsNamed s.datas mode t → IsNamed s.datas mode u
named_kept values circuits s V t u k h d x n = values s t u h (record { kind = k; has = d; same = x }) n
named_kept values circuits s HV t u k h d x n = values s t u h (record { kind = k; has = d; same = x }) n
named_kept values circuits s C t u k h d x n = port_kept circuits s t u h (record { kind = k; has = d; same = x }) n
named_kept values circuits s HC t u k h d x n = port_kept circuits s t u h (record { kind = k; has = d; same = x }) n
named_kept values circuits s K t u k h d x n = n
