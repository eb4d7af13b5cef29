use Rattle.std.proofs.Common.{sym, subst}
use Rattle.std.proofs.lemmas.Result.{IfOk-weaker}
use Rattle.chw_terms.specs.declared.scene.Sort.TheVariants.{Circuit}
use Rattle.net_built.specs.Data.{HaveWidths, HasParts, port_parts}
use Rattle.circuit_build.proofs.PortParts.{payloads, payloads_have, leaves_of_port}
use Rattle.circuit_build.proofs.ports.port_parts.Goals as goal

pub port_leaves-requires : goal.port_leaves-requires
port_leaves-requires c = record { port = leaves_of_port c.requires.port.1 }

pub payload_widths-widths-requires : goal.payload_widths-widths-requires
payload_widths-widths-requires c = let datas = c.args.base.now.datas in
    let have = payloads_have c.in_ok-leaves.ensures c.requires.port.1 in
    record { measured = (c.requires.port.0, subst (λ ls. HaveWidths datas (payloads ls) c.requires.port.0) (sym c.deref.ensures.value) have) }

pub returns-clause-parts : goal.returns-clause-parts
returns-clause-parts c =
    let datas = c.args.base.now.datas in
    let t = c.args.t.now in
    IfOk-weaker c.payload_widths-widths.result (λ ws. HaveWidths datas (payloads c.deref.result.now) ws.items) (λ ws. HasParts datas Circuit t ws.items)
    (λ ws have. port_parts c.in_ok-leaves.ensures (subst (λ ls. HaveWidths datas (payloads ls) ws.items) c.deref.ensures.value have))
    c.payload_widths-widths.ensures.widths
