use Rattle.std.proofs.Common.{[], ◌∷◌, ap}
use Rattle.std.specs.Prelude.{codes}
use Rattle.verilog_tree.specs.Marks.{Mark, a_keyword}
use Rattle.verilog_lex.specs.Shown.{placed}
use Rattle.verilog_parse.specs.declared.rows.Row.TheVariants as row
use Rattle.verilog_parse.specs.declared.rows.State.TheVariants as state
use Rattle.verilog_parse.proofs.ItemsRead.{name_mark}
use Rattle.verilog_parse.proofs.Readings.{step_reads}
use Rattle.verilog_parse.proofs.TextsRead.{line_marked, output_row}
use Rattle.verilog_parse.proofs.parsing.port.Goals as goal

pub returns-in-Signal-clause-reads : goal.returns-in-Signal-clause-reads
returns-in-Signal-clause-reads c =
    step_reads state.Port row.Signal c.args.cursor.now c.in_ok-step.step c.next.new.self _ c.in_ok-step.ensures.step c.in-Signal.is
    (ap (λ (m : Mark). a_keyword (codes "input") ∷ m ∷ []) (name_mark c.word.result 1 (placed c.in_ok-step.step.tokens.now) c.word.ensures))

pub returns-in-Input-clause-reads : goal.returns-in-Input-clause-reads
returns-in-Input-clause-reads c =
    step_reads state.Port row.Input c.args.cursor.now c.in_ok-step.step c.next.new.self _ c.in_ok-step.ensures.step c.in-Input.is
    (line_marked c.line.result (a_keyword (codes "input")) (placed c.in_ok-step.step.tokens.now) c.line.ensures)

pub returns-in_default : goal.returns-in_default
returns-in_default c = record {
  reads = step_reads state.Port row.Output c.args.cursor.now c.in_ok-step.step c.next.new.self _ c.in_ok-step.ensures.step
      (output_row c.args.cursor.now c.in_ok-step.step c.next.new.self c.in_ok-step.ensures.step c.in_default.not-Signal c.in_default.not-Input)
      (line_marked c.line-in_default.result (a_keyword (codes "output")) (placed c.in_ok-step.step.tokens.now) c.line-in_default.ensures);
  wrong = tt;
}
