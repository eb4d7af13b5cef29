use Rattle.std.proofs.Common.{refl}
use Rattle.verilog_parse.specs.declared.rows.Row.TheVariants as row
use Rattle.verilog_parse.proofs.ItemsRead.{fault_behind}
use Rattle.verilog_parse.proofs.Readings.{reads_then, step_reads}
use Rattle.std.proofs.lemmas.Result.{err_from_is_err_and}
use Rattle.verilog_parse.proofs.TextsRead.{module_reads, module_row}
use Rattle.verilog_parse.proofs.parsing.module.Goals as goal

pub returns-clause-reads : goal.returns-clause-reads
returns-clause-reads c =
    module_reads c.args.state c.args.cursor.now c.next.new.self c.port.new.cursor c.ports.new.cursor c.items.new.cursor c.in_ok-step.step _ c.requires c.in_ok-step.ensures.step
    c.word-name.ensures c.in_ok-first.ensures.reads c.in_ok-others.ensures.reads c.in_ok-items.ensures.reads

pub returns-in_err-first-clause-wrong : goal.returns-in_err-first-clause-wrong
returns-in_err-first-clause-wrong c =
    let p = err_from_is_err_and c.from_residual-in_err-first.result c.from_residual-in_err-first.ensures.1 in
    rw (p.1, p.2) (fault_behind (step_reads c.args.state row.Module c.args.cursor.now c.in_ok-step.step c.next.new.self _ c.in_ok-step.ensures.step (module_row c.args.state c.args.cursor.now c.in_ok-step.step c.next.new.self c.requires c.in_ok-step.ensures.step) refl) c.in_err-first.field-0.0 c.in_err-first.ensures.wrong)

pub returns-in_err-others-clause-wrong : goal.returns-in_err-others-clause-wrong
returns-in_err-others-clause-wrong c =
    let p = err_from_is_err_and c.from_residual-in_err-others.result c.from_residual-in_err-others.ensures.1 in
    rw (p.1, p.2) (fault_behind (reads_then (step_reads c.args.state row.Module c.args.cursor.now c.in_ok-step.step c.next.new.self _ c.in_ok-step.ensures.step (module_row c.args.state c.args.cursor.now c.in_ok-step.step c.next.new.self c.requires c.in_ok-step.ensures.step) refl) c.in_ok-first.ensures.reads) c.in_err-others.field-0.0 c.in_err-others.ensures.wrong)

pub returns-in_err-items-clause-wrong : goal.returns-in_err-items-clause-wrong
returns-in_err-items-clause-wrong c =
    let p = err_from_is_err_and c.from_residual-in_err-items.result c.from_residual-in_err-items.ensures.1 in
    rw (p.1, p.2) (fault_behind (reads_then (step_reads c.args.state row.Module c.args.cursor.now c.in_ok-step.step c.next.new.self _ c.in_ok-step.ensures.step (module_row c.args.state c.args.cursor.now c.in_ok-step.step c.next.new.self c.requires c.in_ok-step.ensures.step) refl) (reads_then c.in_ok-first.ensures.reads c.in_ok-others.ensures.reads)) c.in_err-items.field-0.0 c.in_err-items.ensures.wrong)
