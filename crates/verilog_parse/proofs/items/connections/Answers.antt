use Rattle.std.proofs.Common.{List, ◌∷◌, refl, ap}
use Rattle.std.specs.Prelude.{codes}
use Rattle.verilog_text.specs.Grammar.{sign}
use Rattle.verilog_tree.specs.Marks.{Mark, a_sign, connection_marks}
use Rattle.verilog_tree.specs.declared.item.Connection.{Connection}
use Rattle.verilog_lex.specs.Shown.{placed}
use Rattle.verilog_parse.specs.RowMarks.{row_marks}
use Rattle.verilog_parse.specs.declared.rows.Row.TheVariants as row
use Rattle.verilog_parse.specs.declared.rows.State.TheVariants as state
use Rattle.verilog_parse.proofs.ItemsRead.{ends_as, fault_behind, last_step, more_step}
use Rattle.verilog_parse.proofs.Readings.{reads_as, step_shortens}
use Rattle.std.proofs.lemmas.Result.{err_from_is_err_and}
use Rattle.verilog_parse.proofs.items.connections.Goals as goal

pub loop-connections-smaller : goal.loop-connections-smaller
loop-connections-smaller c = step_shortens state.Connections c.loop-connections.cursor c.in_ok-step.step c.next.new.self c.in_ok-step.ensures.step

pub loop-connections-preserved : goal.loop-connections-preserved
loop-connections-preserved c =
    more_step state.Connections (λ (x : Connection). a_sign (codes ",") ∷ connection_marks x) row.NextConnection c.loop-connections.connections.items c.push.new.self.items c.connection.result
    c.args.cursor.now c.loop-connections.cursor c.next.new.self c.in_ok-step.step c.loop-connections.invariant c.in_ok-step.ensures.step c.in-NextConnection.is refl
    (ap (λ (l : List Mark). a_sign (codes ",") ∷ l) c.connection.ensures) c.in_ok-push-in-NextConnection.ensures.items

pub returns-in_err-step-clause-wrong : goal.returns-in_err-step-clause-wrong
returns-in_err-step-clause-wrong c =
    let p = err_from_is_err_and c.from_residual.result c.from_residual.ensures.1 in
    rw (p.1, p.2) (fault_behind c.loop-connections.invariant c.in_err-step.field-0.0 c.in_err-step.ensures.fault)

pub returns-in_default : goal.returns-in_default
returns-in_default c = record {
  reads = reads_as _ _ (ends_as (λ (x : Connection). a_sign (codes ",") ∷ connection_marks x) c.loop-connections.connections.items c.from.result c.place.result (placed c.in_ok-step.step.tokens.now) (sign (codes ")")) c.from.ensures c.place.ensures)
      (last_step state.Connections (λ (x : Connection). a_sign (codes ",") ∷ connection_marks x) row.NextConnection row.LastConnection c.loop-connections.connections.items (row_marks row.LastConnection (placed c.in_ok-step.step.tokens.now))
      c.args.cursor.now c.loop-connections.cursor c.next.new.self c.in_ok-step.step c.loop-connections.invariant c.in_ok-step.ensures.step refl
      c.in_default.not-NextConnection refl);
  wrong = tt;
}
