use Rattle.std.proofs.Common.{List, refl, sym, ap}
use Rattle.verilog_lex.specs.Shown.{placed}
use Rattle.verilog_parse.specs.declared.rows.State.TheVariants as state
use Rattle.verilog_parse.proofs.ItemsRead.{fault_behind, more_reads, reads_shortens}
use Rattle.verilog_parse.proofs.Readings.{reads_as, reads_then}
use Rattle.std.proofs.Common.{◌++◌, inr}
use Rattle.std.specs.List.{flat_map}
use Rattle.std.proofs.lemmas.Result.{err_from_is_err_and}
use Rattle.verilog_tree.specs.Marks.{module_marks}
use Rattle.verilog_tree.specs.declared.module.Module.{Module}
use Rattle.verilog_parse.specs.declared.cursor.Cursor.{Cursor}
use Rattle.verilog_parse.proofs.TextsRead.{all_read, module_some, no_tokens, some_tokens, source_faults}
use Rattle.verilog_parse.proofs.parsing.parse.Goals as goal

pub returns-in_err-last-clause-fault : goal.returns-in_err-last-clause-fault
returns-in_err-last-clause-fault c =
    let p = err_from_is_err_and c.from_residual.result c.from_residual.ensures.1 in
    let start : Cursor = record { rest = c.args.tokens; end = c.args.length } in
    rw (p.1, p.2) (source_faults start (placed c.args.tokens.now) c.args.length refl refl c.in_err-last.field-0.0
    (fault_behind c.loop-earlier.invariant.0 c.in_err-last.field-0.0 c.in_err-last.ensures.wrong))

pub returns-then-is_empty-clause-tree : goal.returns-then-is_empty-clause-tree
returns-then-is_empty-clause-tree c =
    let start : Cursor = record { rest = c.args.tokens; end = c.args.length } in
    all_read start c.module.new.cursor (placed c.args.tokens.now) _ state.Text state.Modules refl
    (reads_as _ _ (ap (λ (l : List Module). flat_map module_marks l ++ module_marks c.in_ok-last.last) (sym c.from.ensures))
    (reads_then c.loop-earlier.invariant.0 c.in_ok-last.ensures.reads))
    (no_tokens c.module.new.cursor.rest.now c.is_empty.result c.is_empty.ensures c.if-is_empty.true)

pub loop-earlier-smaller : goal.loop-earlier-smaller
loop-earlier-smaller c = reads_shortens c.in_ok-last.ensures.reads (module_some c.in_ok-last.last)

pub loop-earlier-preserved : goal.loop-earlier-preserved
loop-earlier-preserved c =
    let start : Cursor = record { rest = c.args.tokens; end = c.args.length } in (
      more_reads state.Text c.loop-earlier.state module_marks c.loop-earlier.earlier.items c.push.new.self.items c.in_ok-last.last start c.loop-earlier.cursor c.module.new.cursor
          state.Modules c.loop-earlier.invariant.0 c.in_ok-last.ensures.reads c.in_ok-push.ensures.items,
      inr (refl, some_tokens c.module.new.cursor.rest.now c.is_empty.result c.is_empty.ensures c.if-is_empty.false),
    )
