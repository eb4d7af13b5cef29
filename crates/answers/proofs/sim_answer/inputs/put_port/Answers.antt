use Rattle.std.proofs.Common.{IfNone, IfSome, sym, subst}
use Rattle.std.proofs.lemmas.Result.{on_ok_weaker}
use Rattle.type_ports.specs.Ports.{IsNoPort, Leaves}
use Rattle.answers.specs.SimAnswer.Types.{AddsTypes, AreMeasured}
use Rattle.answers.proofs.SimAnswer.Parameters.{adds_port, measured_leaves, port_is_there}
use Rattle.answers.proofs.sim_answer.inputs.put_port.Goals as goal

pub unreachable-requires : goal.unreachable-requires
unreachable-requires c =
    let t = c.args.t.now in
    port_is_there t c.requires.port
    (subst (λ ds. IsNoPort ds t) c.datas.ensures.datas
    (subst (λ r. IfNone r (IsNoPort c.datas.result.now t)) c.in_default.is c.in_ok-leaves.ensures.none))

pub put_types-put-requires : goal.put_types-put-requires
put_types-put-requires c =
    let t = c.args.t.now in
    let found = c.in-Some.leaves.items in
    let are =
    subst (λ ds. Leaves ds t found) c.datas.ensures.datas
    (subst (λ r. IfSome r (λ ls. Leaves c.datas.result.now t ls.items)) c.in-Some.is c.in_ok-leaves.ensures.some) in
    record {
      measured = subst (AreMeasured c.args.widths.now) (sym c.deref.ensures.value) (measured_leaves t found c.requires.port are);
    }

pub returns-clause-put : goal.returns-clause-put
returns-clause-put c =
    let old = c.args.types.now.items in
    let new = c.put_types-put.new.types.items in
    let t = c.args.t.now in
    let found = c.in-Some.leaves.items in
    let are =
    subst (λ ds. Leaves ds t found) c.datas.ensures.datas
    (subst (λ r. IfSome r (λ ls. Leaves c.datas.result.now t ls.items)) c.in-Some.is c.in_ok-leaves.ensures.some) in
    on_ok_weaker c.put_types-put.result
    (λ (adds : AddsTypes c.args.widths.now c.deref.result.now old new).
    adds_port t found old new are (subst (λ ls. AddsTypes c.args.widths.now ls old new) c.deref.ensures.value adds))
    c.put_types-put.ensures.put
