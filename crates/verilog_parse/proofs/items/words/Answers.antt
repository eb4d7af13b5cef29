use Rattle.std.proofs.Common.{List, ◌++◌, refl, sym, ap}
use Rattle.std.specs.List.{flat_map}
use Rattle.verilog_tree.specs.Marks.{word_marks}
use Rattle.verilog_tree.specs.declared.item.FirstWord.{FirstWord}
use Rattle.verilog_lex.specs.Shown.{placed}
use Rattle.verilog_parse.specs.RowMarks.{row_marks}
use Rattle.verilog_parse.specs.declared.rows.Row.TheVariants as row
use Rattle.verilog_parse.specs.declared.rows.State.TheVariants as state
use Rattle.verilog_parse.proofs.ItemsRead.{fault_behind, last_step, more_step}
use Rattle.verilog_parse.proofs.Readings.{reads_as, step_shortens}
use Rattle.std.proofs.lemmas.Result.{err_from_is_err_and}
use Rattle.verilog_parse.proofs.items.words.Goals as goal

pub loop-words-smaller : goal.loop-words-smaller
loop-words-smaller c = step_shortens state.Words c.loop-words.cursor c.in_ok-step.step c.next.new.self c.in_ok-step.ensures.step

pub loop-words-preserved : goal.loop-words-preserved
loop-words-preserved c =
    more_step state.Words (word_marks) row.NextWord c.loop-words.words.items c.push.new.self.items c.first_word.result
    c.args.cursor.now c.loop-words.cursor c.next.new.self c.in_ok-step.step c.loop-words.invariant c.in_ok-step.ensures.step c.in-NextWord.is refl
    (c.first_word.ensures) c.in_ok-push-in-NextWord.ensures.items

pub returns-in_err-step-clause-wrong : goal.returns-in_err-step-clause-wrong
returns-in_err-step-clause-wrong c =
    let p = err_from_is_err_and c.from_residual.result c.from_residual.ensures.1 in
    rw (p.1, p.2) (fault_behind c.loop-words.invariant c.in_err-step.field-0.0 c.in_err-step.ensures.fault)

pub returns-in_default : goal.returns-in_default
returns-in_default c = record {
  reads = reads_as _ _ (ap (λ (l : List FirstWord). flat_map word_marks l ++ row_marks row.RamEdge (placed c.in_ok-step.step.tokens.now)) (sym c.from.ensures))
      (last_step state.Words (word_marks) row.NextWord row.RamEdge c.loop-words.words.items (row_marks row.RamEdge (placed c.in_ok-step.step.tokens.now))
      c.args.cursor.now c.loop-words.cursor c.next.new.self c.in_ok-step.step c.loop-words.invariant c.in_ok-step.ensures.step refl
      c.in_default.not-NextWord refl);
  wrong = tt;
}
