use Rattle.std.proofs.Common.{refl}
use Rattle.verilog_parse.specs.declared.rows.Row.TheVariants as row
use Rattle.verilog_parse.proofs.ItemsRead.{ends_reads, fault_behind, whole_row}
use Rattle.verilog_parse.proofs.Readings.{step_reads}
use Rattle.std.proofs.Common.{inl}
use Rattle.std.proofs.lemmas.Result.{err_from_is_err_and}
use Rattle.verilog_parse.proofs.ItemsRead.{whole_reads}
use Rattle.verilog_parse.proofs.items.item.Goals as goal

pub whole-requires : goal.whole-requires
whole-requires c = record {
  whole = whole_row c.args.state c.args.cursor.now c.in_ok-step.step c.next.new.self c.requires c.in_ok-step.ensures.step
      c.in_default.not-Endmodule c.in_default.not-Register c.in_default.not-Join c.in_default.not-Ram c.in_default.not-Use;
  fit = c.in_ok-step.ensures.step.read.fit;
}

pub returns-in-Endmodule-clause-reads : goal.returns-in-Endmodule-clause-reads
returns-in-Endmodule-clause-reads c =
    step_reads c.args.state row.Endmodule c.args.cursor.now c.in_ok-step.step c.next.new.self _ c.in_ok-step.ensures.step c.in-Endmodule.is refl

pub returns-in-Register-clause-reads : goal.returns-in-Register-clause-reads
returns-in-Register-clause-reads c = (
  ends_reads (step_reads c.args.state row.Register c.args.cursor.now c.in_ok-step.step c.next.new.self _ c.in_ok-step.ensures.step c.in-Register.is refl) c.with_memory.ensures.ends,
  c.with_memory.ensures.then,
)

pub returns-in_default : goal.returns-in_default
returns-in_default c =
    let whole = whole_row c.args.state c.args.cursor.now c.in_ok-step.step c.next.new.self c.requires c.in_ok-step.ensures.step
    c.in_default.not-Endmodule c.in_default.not-Register c.in_default.not-Join c.in_default.not-Ram c.in_default.not-Use in
    record {
      reads = (whole_reads c.args.state c.args.cursor.now c.in_ok-step.step c.next.new.self _ whole c.in_ok-step.ensures.step c.whole.ensures, inl refl);
      wrong = tt;
    }

pub returns-in_ok-joined-in-Join-clause-reads : goal.returns-in_ok-joined-in-Join-clause-reads
returns-in_ok-joined-in-Join-clause-reads c =
    (ends_reads (step_reads c.args.state row.Join c.args.cursor.now c.in_ok-step.step c.next.new.self _ c.in_ok-step.ensures.step c.in-Join.is refl) c.in_ok-joined-in-Join.ensures.ends, inl refl)

pub returns-in_err-joined-in-Join-clause-wrong : goal.returns-in_err-joined-in-Join-clause-wrong
returns-in_err-joined-in-Join-clause-wrong c =
    let p = err_from_is_err_and c.from_residual-in_err-joined-in-Join.result c.from_residual-in_err-joined-in-Join.ensures.1 in
    rw (p.1, p.2) (fault_behind (step_reads c.args.state row.Join c.args.cursor.now c.in_ok-step.step c.next.new.self _ c.in_ok-step.ensures.step c.in-Join.is refl)
    c.in_err-joined-in-Join.field-0.0 c.in_err-joined-in-Join.ensures.wrong)

pub returns-in_ok-ram-in-Ram-clause-reads : goal.returns-in_ok-ram-in-Ram-clause-reads
returns-in_ok-ram-in-Ram-clause-reads c =
    (ends_reads (step_reads c.args.state row.Ram c.args.cursor.now c.in_ok-step.step c.next.new.self _ c.in_ok-step.ensures.step c.in-Ram.is refl) c.in_ok-ram-in-Ram.ensures.ends, inl refl)

pub returns-in_err-ram-in-Ram-clause-wrong : goal.returns-in_err-ram-in-Ram-clause-wrong
returns-in_err-ram-in-Ram-clause-wrong c =
    let p = err_from_is_err_and c.from_residual-in_err-ram-in-Ram.result c.from_residual-in_err-ram-in-Ram.ensures.1 in
    rw (p.1, p.2) (fault_behind (step_reads c.args.state row.Ram c.args.cursor.now c.in_ok-step.step c.next.new.self _ c.in_ok-step.ensures.step c.in-Ram.is refl)
    c.in_err-ram-in-Ram.field-0.0 c.in_err-ram-in-Ram.ensures.wrong)

pub returns-in_ok-used-in-Use-clause-reads : goal.returns-in_ok-used-in-Use-clause-reads
returns-in_ok-used-in-Use-clause-reads c =
    (ends_reads (step_reads c.args.state row.Use c.args.cursor.now c.in_ok-step.step c.next.new.self _ c.in_ok-step.ensures.step c.in-Use.is refl) c.in_ok-used-in-Use.ensures.ends, inl refl)

pub returns-in_err-used-in-Use-clause-wrong : goal.returns-in_err-used-in-Use-clause-wrong
returns-in_err-used-in-Use-clause-wrong c =
    let p = err_from_is_err_and c.from_residual-in_err-used-in-Use.result c.from_residual-in_err-used-in-Use.ensures.1 in
    rw (p.1, p.2) (fault_behind (step_reads c.args.state row.Use c.args.cursor.now c.in_ok-step.step c.next.new.self _ c.in_ok-step.ensures.step c.in-Use.is refl)
    c.in_err-used-in-Use.field-0.0 c.in_err-used-in-Use.ensures.wrong)
