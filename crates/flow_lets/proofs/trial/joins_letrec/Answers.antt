use Rattle.chw_terms.specs.TermTree.{letrec}
use Rattle.chw_terms.specs.TermView.{group_of}
use Rattle.flow_lets.proofs.Flat.{of_body, of_none, of_side}
use Rattle.flow_lets.proofs.WhereJoined.{core_joins, core_stays}
use Rattle.flow_lets.proofs.trial.joins_letrec.Goals as goal

pub returns-in-Some : goal.returns-in-Some
returns-in-Some c o at no_head =
    let g = group_of c.args.group.now in
    let parts = c.in-Some.field-0 in
    core_joins o at (letrec g c.args.body.now) _
    (of_side g (group_of parts.front.now) parts.ty.now (group_of parts.inner.group.now) parts.inner.body.now (group_of parts.back.now) c.args.body.now c.in-Some.ensures.some o at no_head)

pub returns-in_default-as_letrec : goal.returns-in_default-as_letrec
returns-in_default-as_letrec c o at no_head =
    let g = group_of c.args.group.now in
    core_stays o at (letrec g c.args.body.now)
    (of_none g c.args.body.now c.in_default.ensures.none c.in_default-as_letrec.ensures.none o at no_head)

pub returns : goal.returns
returns c o at no_head =
    let g = group_of c.args.group.now in
    let inner = c.in-Some-as_letrec.field-0 in
    core_joins o at (letrec g c.args.body.now) _
    (of_body g (group_of inner.group.now) inner.body.now c.args.body.now c.in_default.ensures.none c.in-Some-as_letrec.ensures.some o at no_head)
