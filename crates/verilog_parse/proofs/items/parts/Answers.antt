use Rattle.std.proofs.Common.{[], ◌∷◌, refl, ap}
use Rattle.std.specs.Prelude.{codes}
use Rattle.verilog_text.specs.Grammar.{sign}
use Rattle.verilog_tree.specs.Marks.{Mark, a_name, a_sign}
use Rattle.verilog_tree.specs.declared.word.Word.{Word}
use Rattle.verilog_lex.specs.Shown.{placed}
use Rattle.verilog_parse.specs.RowMarks.{row_marks}
use Rattle.verilog_parse.specs.declared.rows.Row.TheVariants as row
use Rattle.verilog_parse.specs.declared.rows.State.TheVariants as state
use Rattle.verilog_parse.proofs.ItemsRead.{ends_as, fault_behind, last_step, more_step, name_mark}
use Rattle.verilog_parse.proofs.Readings.{reads_as, step_shortens}
use Rattle.std.proofs.lemmas.Result.{err_from_is_err_and}
use Rattle.verilog_parse.proofs.items.parts.Goals as goal

pub loop-parts-smaller : goal.loop-parts-smaller
loop-parts-smaller c = step_shortens state.Parts c.loop-parts.cursor c.in_ok-step.step c.next.new.self c.in_ok-step.ensures.step

pub loop-parts-preserved : goal.loop-parts-preserved
loop-parts-preserved c =
    more_step state.Parts (λ (w : Word). a_sign (codes ",") ∷ a_name w ∷ []) row.NextPart c.loop-parts.parts.items c.push.new.self.items c.word.result
    c.args.cursor.now c.loop-parts.cursor c.next.new.self c.in_ok-step.step c.loop-parts.invariant c.in_ok-step.ensures.step c.in-NextPart.is refl
    (ap (λ (m : Mark). a_sign (codes ",") ∷ m ∷ []) (name_mark c.word.result 1 (placed c.in_ok-step.step.tokens.now) c.word.ensures)) c.in_ok-push-in-NextPart.ensures.items

pub returns-in_err-step-clause-wrong : goal.returns-in_err-step-clause-wrong
returns-in_err-step-clause-wrong c =
    let p = err_from_is_err_and c.from_residual.result c.from_residual.ensures.1 in
    rw (p.1, p.2) (fault_behind c.loop-parts.invariant c.in_err-step.field-0.0 c.in_err-step.ensures.fault)

pub returns-in_default : goal.returns-in_default
returns-in_default c = record {
  reads = reads_as _ _ (ends_as (λ (w : Word). a_sign (codes ",") ∷ a_name w ∷ []) c.loop-parts.parts.items c.from.result c.place.result (placed c.in_ok-step.step.tokens.now) (sign (codes "}")) c.from.ensures c.place.ensures)
      (last_step state.Parts (λ (w : Word). a_sign (codes ",") ∷ a_name w ∷ []) row.NextPart row.LastPart c.loop-parts.parts.items (row_marks row.LastPart (placed c.in_ok-step.step.tokens.now))
      c.args.cursor.now c.loop-parts.cursor c.next.new.self c.in_ok-step.step c.loop-parts.invariant c.in_ok-step.ensures.step refl
      c.in_default.not-NextPart refl);
  wrong = tt;
}
