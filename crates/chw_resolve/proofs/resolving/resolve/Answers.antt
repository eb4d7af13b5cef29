use Rattle.chw_resolve.proofs.Counts.{few_defs, few_datas}
use Rattle.chw_resolve.proofs.Told.{if_tidy, if_well_named, if_circle}
use Rattle.chw_resolve.proofs.resolving.resolve.Goals as goal

pub with_kinds-requires-clause-datas : goal.with_kinds-requires-clause-datas
with_kinds-requires-clause-datas c = few_datas c.args.tree.now c.in_ok-program.program.datas c.in_ok-check_names.ensures.ok.limits c.in_ok-program.ensures.datas

pub with_kinds-requires-clause-defs : goal.with_kinds-requires-clause-defs
with_kinds-requires-clause-defs c = few_defs c.args.tree.now c.in_ok-program.program.defs c.in_ok-check_names.ensures.ok.limits c.in_ok-program.ensures.defs

pub returns-clause-tidy : goal.returns-clause-tidy
returns-clause-tidy c = if_tidy c.args.tree.now c.in_ok-program.program c.in_ok-check_names.ensures.ok c.in_ok-program.ensures c.with_kinds.result c.requires c.with_kinds.ensures.ok

pub returns-clause-well_named : goal.returns-clause-well_named
returns-clause-well_named c = if_well_named c.args.tree.now c.in_ok-program.program c.in_ok-check_names.ensures.ok c.in_ok-program.ensures c.with_kinds.result c.with_kinds.ensures.ok

pub returns-clause-fault : goal.returns-clause-fault
returns-clause-fault c = if_circle c.args.tree.now c.in_ok-program.program c.in_ok-check_names.ensures.ok c.in_ok-program.ensures c.with_kinds.result c.with_kinds.ensures.fault
