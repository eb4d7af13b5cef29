use Rattle.std.proofs.Common.{◌≡◌, List, [], ◌∷◌, refl, sym, ap}
use Rattle.std.specs.Prelude.{codes}
use Rattle.verilog_tree.specs.Marks.{Mark, a_sign, commas_before}
use Rattle.verilog_lex.specs.Shown.{placed}
use Rattle.verilog_parse.specs.RowMarks.{row_marks}
use Rattle.verilog_parse.specs.declared.rows.Row.TheVariants as row
use Rattle.verilog_parse.specs.declared.rows.State.TheVariants as state
use Rattle.verilog_parse.proofs.ItemsRead.{fault_behind, last_step, more_reads, reads_shortens}
use Rattle.verilog_parse.proofs.Readings.{reads_as, reads_then, step_reads}
use Rattle.std.proofs.Common.{◌++◌}
use Rattle.std.proofs.lemmas.Result.{err_from_is_err_and}
use Rattle.verilog_tree.specs.Marks.{port_marks}
use Rattle.verilog_tree.specs.declared.module.Port.{Port}
use Rattle.verilog_parse.proofs.parsing.ports.Goals as goal

some_mark : (m : Mark) (l : List Mark) → m ∷ l ≡ [] → ⊥
some_mark m l none = cc

pub loop-ports-smaller : goal.loop-ports-smaller
loop-ports-smaller c = reads_shortens (reads_then (step_reads state.Ports row.NextPort c.loop-ports.cursor c.in_ok-step.step c.next.new.self (a_sign (codes ",") ∷ []) c.in_ok-step.ensures.step c.in-NextPort.is refl) c.in_ok-next-in-NextPort.ensures.reads) (some_mark _ _)

pub loop-ports-preserved : goal.loop-ports-preserved
loop-ports-preserved c =
    more_reads state.Ports state.Ports (λ (p : Port). a_sign (codes ",") ∷ port_marks p) c.loop-ports.ports.items c.push.new.self.items c.in_ok-next-in-NextPort.next c.args.cursor.now c.loop-ports.cursor c.port.new.cursor
    state.Ports c.loop-ports.invariant (reads_then (step_reads state.Ports row.NextPort c.loop-ports.cursor c.in_ok-step.step c.next.new.self (a_sign (codes ",") ∷ []) c.in_ok-step.ensures.step c.in-NextPort.is refl) c.in_ok-next-in-NextPort.ensures.reads) c.in_ok-push-in-NextPort.ensures.items

pub returns-in_err-step-clause-wrong : goal.returns-in_err-step-clause-wrong
returns-in_err-step-clause-wrong c =
    let p = err_from_is_err_and c.from_residual.result c.from_residual.ensures.1 in
    rw (p.1, p.2) (fault_behind c.loop-ports.invariant c.in_err-step.field-0.0 c.in_err-step.ensures.fault)

pub returns-in_err-next-in-NextPort-clause-wrong : goal.returns-in_err-next-in-NextPort-clause-wrong
returns-in_err-next-in-NextPort-clause-wrong c =
    let p = err_from_is_err_and c.from_residual-in_err-next-in-NextPort.result c.from_residual-in_err-next-in-NextPort.ensures.1 in
    rw (p.1, p.2) (fault_behind (reads_then c.loop-ports.invariant (step_reads state.Ports row.NextPort c.loop-ports.cursor c.in_ok-step.step c.next.new.self (a_sign (codes ",") ∷ []) c.in_ok-step.ensures.step c.in-NextPort.is refl)) c.in_err-next-in-NextPort.field-0.0 c.in_err-next-in-NextPort.ensures.wrong)

pub returns-in_default : goal.returns-in_default
returns-in_default c = record {
  reads = reads_as _ _ (ap (λ (l : List Port). commas_before port_marks l ++ a_sign (codes ")") ∷ a_sign (codes ";") ∷ []) (sym c.from.ensures))
      (last_step state.Ports (λ (p : Port). a_sign (codes ",") ∷ port_marks p) row.NextPort row.LastPort c.loop-ports.ports.items (row_marks row.LastPort (placed c.in_ok-step.step.tokens.now))
      c.args.cursor.now c.loop-ports.cursor c.next.new.self c.in_ok-step.step c.loop-ports.invariant c.in_ok-step.ensures.step refl
      c.in_default.not-NextPort refl);
  wrong = tt;
}
