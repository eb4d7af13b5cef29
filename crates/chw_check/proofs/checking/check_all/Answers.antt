use Rattle.chw_check.proofs.Assembled.{all_typed, on_ok}
use Rattle.chw_check.proofs.checking.check_all.Goals as goal

pub returns-clause-ok : goal.returns-clause-ok
returns-clause-ok c =
    on_ok c.check_top.result (all_typed c.args.program.now c.requires c.in_ok-check_kinds.ensures.ok c.in_ok-check_types.ensures.ok c.in_ok-check_cases.ensures.ok)
    c.check_top.ensures.ok
