-- At most one net is built of a state.
use Rattle.std.proofs.Common.{◌≡◌, List, sym, subst}
use Rattle.chw_terms.specs.declared.program.Program.{Program}
use Rattle.chw_terms.specs.declared.scene.Made.{Made}
use Rattle.chw_meaning.proofs.MeansOnce.{has_ports_once}
use Rattle.netlist.specs.declared.net.Net.{Net}
use Rattle.normal_forms.specs.Normal.{IsNormal}
use Rattle.net_built.specs.Built.{Built, ground_of}
use Rattle.net_built.specs.Modules.{AreModules}
use Rattle.net_built.proofs.NoLoops.{normal_free}
use Rattle.net_built.proofs.Orders.{order_once}
use Rattle.net_built.proofs.ValuesOnce.{modules_once}

pub net_once : {p : Program} {state : List Made} {a b : Net} → IsNormal p state → Built p state a → Built p state b → a ≡ b
net_once {p} {state} {a} {b} normal x y =
    let ports : a.ports ≡ b.ports = has_ports_once x.ports y.ports in
    let order : x.order ≡ y.order = order_once x.is_order y.is_order in
    let along = subst (λ order. AreModules (ground_of p order) state order b.modules) (sym order) y.modules in
    let modules : a.modules ≡ b.modules = modules_once (ground_of p x.order) state x.order a.modules b.modules (normal_free p state normal) x.modules along in
    λ i. record { ports = ports i; modules = modules i }
