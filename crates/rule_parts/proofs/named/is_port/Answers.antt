use Rattle.std.proofs.Common.{◌≡◌, ◌∙◌, ◌↔◌, sym, ap, subst, IfOk, IsTrue}
use Rattle.type_ports.specs.Ports.{IsPort}
use Rattle.type_ports.specs.Representable.{Representable}
use Rattle.chw_types.specs.TypeTree.{TypeTree, domain, signal}
use Rattle.chw_types.specs.TypeView.{tree_of}
use Rattle.rule_parts.proofs.Ports.{signal_is_port, tests_other}
use Rattle.rule_parts.proofs.named.is_port.Goals as goal

pub returns-in-DomOf : goal.returns-in-DomOf
returns-in-DomOf c =
    let datas = c.args.datas.now in
    let payload = c.in-Signal.payload.value in
    let at : domain c.in-DomOf.field-0.number ≡ c.in-Signal.domain.value = ap tree_of (sym c.in-DomOf.is) ∙ c.behind-domain.view_is ∙ c.deref.ensures in
    let is : signal (domain c.in-DomOf.field-0.number) payload ≡ c.args.ty.now =
    ap (λ d. signal d payload) at ∙ ap tree_of (sym c.in-Signal.is) ∙ c.ty.view_is in
    tests_other c.is_of_values.result
    (subst (λ t. Representable datas payload ↔ IsPort datas t) is (signal_is_port datas c.in-DomOf.field-0 payload))
    (subst (λ t. IfOk c.is_of_values.result (λ r. IsTrue r ↔ Representable datas t)) c.deref-in-DomOf.ensures c.is_of_values.ensures)
