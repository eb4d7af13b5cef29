use Rattle.std.proofs.Common.{subst}
use Rattle.std.proofs.lemmas.Result.{err_from_is_err_and}
use Rattle.judge.specs.States.{IsFinished}
use Rattle.chw_cli.proofs.Normal.{last_refuses, lines_put, run_leads, run_lines, run_refuses}
use Rattle.chw_cli.proofs.normalise.normalised.Goals as goal

pub returns-in_err-made-clause-refused : goal.returns-in_err-made-clause-refused
returns-in_err-made-clause-refused c =
    let p = err_from_is_err_and c.from_residual.result c.from_residual.ensures.1 in
    rw (p.1, p.2)
    (run_refuses c.args.description.now.tree c.args.description.now.checked c.program-program.result.now c.args.budget c.new-trace.result.items c.run.new.trace.items
    c.in_err-made.field-0.0 c.requires c.program-program.ensures.program c.in_err-made.ensures.runs)

pub check_last-requires-clause-run : goal.check_last-requires-clause-run
check_last-requires-clause-run c =
    (run_leads c.program-program.result.now c.args.budget c.new-trace.result.items c.run.new.trace.items
    c.in_ok-made.made c.list.result.now c.in_ok-made.ensures.runs c.list.ensures).0

pub check_last-requires-clause-ended : goal.check_last-requires-clause-ended
check_last-requires-clause-ended c =
    (run_leads c.program-program.result.now c.args.budget c.new-trace.result.items c.run.new.trace.items
    c.in_ok-made.made c.list.result.now c.in_ok-made.ensures.runs c.list.ensures).1

pub returns-in_err-check_last-clause-refused : goal.returns-in_err-check_last-clause-refused
returns-in_err-check_last-clause-refused c =
    let p = err_from_is_err_and c.from_residual-in_err-check_last.result c.from_residual-in_err-check_last.ensures.1 in
    rw (p.1, p.2)
    (last_refuses c.args.description.now.tree c.args.description.now.checked c.program-program.result.now c.args.budget c.new-trace.result.items c.run.new.trace.items
    c.in_ok-made.made c.list.result.now c.in_err-check_last.field-0.0 c.requires c.program-program.ensures.program c.in_ok-made.ensures.runs
    c.list.ensures c.in_err-check_last.ensures.refused)

pub returns-clause-normalised : goal.returns-clause-normalised
returns-clause-normalised c =
    run_lines c.args.description.now.tree c.args.description.now.checked c.program-program.result.now c.args.budget c.new-trace.result.items c.run.new.trace.items
    c.in_ok-made.made c.put_lines.new.out.items c.requires c.program-program.ensures.program c.new-trace.ensures.items c.in_ok-made.ensures.runs
    (subst (IsFinished c.program-program.result.now) c.list.ensures c.in_ok-check_last.ensures.finished)
    (lines_put c.new-bytes.result.items c.put_lines.new.out.items c.as_slice.result.now c.run.new.trace.items c.list-2.result.now c.in_ok-made.made
    c.new-bytes.ensures.items c.as_slice.ensures.value c.list-2.ensures c.in_ok-put_lines.ensures)
