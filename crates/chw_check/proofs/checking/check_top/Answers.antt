use Rattle.std.proofs.Common.{sym, subst}
use Rattle.chw_check.proofs.TopsTold.{top_led, top_told}
use Rattle.chw_check.proofs.checking.check_top.Goals as goal
use Rattle.chw_types.specs.References.{HasNoCycle}

pub leads_to_port-requires : goal.leads_to_port-requires
leads_to_port-requires c = subst HasNoCycle (sym c.as_slice-datas.ensures) ((c.data_types_in_order.ensures c.args.program.now.datas).0 c.requires.tidy.data_acyclic)

pub returns-then-branch-clause-ok : goal.returns-then-branch-clause-ok
returns-then-branch-clause-ok c =
    let led = rw c.if-branch.true at c.in_ok-leads_to_port.ensures in
    top_led c.args.program.now c.as_slice-datas.result.now c.as_slice.result.now c.index-as_slice-top.result c.len.result c.len-2.result c.requires.tidy
    c.as_slice-datas.ensures c.as_slice.ensures c.len.ensures c.len-2.ensures led

pub returns-clause-fault : goal.returns-clause-fault
returns-clause-fault c =
    let not_led = rw c.if-branch.false at c.in_ok-leads_to_port.ensures in
    top_told c.args.program.now c.as_slice-datas.result.now c.as_slice.result.now c.index-as_slice-top.result c.len.result c.len-2.result c.requires.tidy
    c.as_slice-datas.ensures c.as_slice.ensures c.len.ensures c.len-2.ensures
    c.in_ok-ty.ty c.as_slice-2.result.now c.as_slice-2.ensures c.in_ok-ty.ensures c.requires.fit c.requires.typed c.requires.complete not_led
