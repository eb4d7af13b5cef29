use Rattle.std.proofs.Common.{List, sym, ap}
use Rattle.verilog_tree.specs.Marks.{item_marks}
use Rattle.verilog_tree.specs.declared.item.Item.{Item}
use Rattle.verilog_parse.specs.declared.rows.State.TheVariants as state
use Rattle.verilog_parse.proofs.ItemsRead.{fault_behind, item_some, more_reads, reads_shortens}
use Rattle.verilog_parse.proofs.Readings.{reads_as, reads_then}
use Rattle.std.proofs.Common.{◌++◌}
use Rattle.std.specs.List.{flat_map}
use Rattle.std.proofs.lemmas.Result.{err_from_is_err_and}
use Rattle.verilog_parse.specs.Rests.{end_marks}
use Rattle.verilog_parse.proofs.ItemsRead.{item_read_none, item_read_some}
use Rattle.verilog_parse.proofs.items.items.Goals as goal

pub returns-in_err-next-clause-wrong : goal.returns-in_err-next-clause-wrong
returns-in_err-next-clause-wrong c =
    let p = err_from_is_err_and c.from_residual.result c.from_residual.ensures.1 in
    rw (p.1, p.2) (fault_behind c.loop-items.invariant.0 c.in_err-next.field-0.0 c.in_err-next.ensures.wrong)

pub loop-items-smaller : goal.loop-items-smaller
loop-items-smaller c =
    let read = item_read_some c.loop-items.state c.loop-items.cursor c.in_ok-next.field-0 (c.in-Some.next, c.in-Some.behind) c.item.new.cursor c.in_ok-next.ensures.reads c.in-Some.is in
    reads_shortens read.0 (item_some c.in-Some.next)

pub loop-items-preserved : goal.loop-items-preserved
loop-items-preserved c =
    let read = item_read_some c.loop-items.state c.loop-items.cursor c.in_ok-next.field-0 (c.in-Some.next, c.in-Some.behind) c.item.new.cursor c.in_ok-next.ensures.reads c.in-Some.is in (
      more_reads state.Item c.loop-items.state item_marks c.loop-items.items.items c.push.new.self.items c.in-Some.next c.args.cursor.now c.loop-items.cursor c.item.new.cursor
          c.in-Some.behind c.loop-items.invariant.0 read.0 c.in_ok-push.ensures.items,
      read.1,
    )

pub returns-clause-reads : goal.returns-clause-reads
returns-clause-reads c =
    reads_as _ _ (ap (λ (l : List Item). flat_map item_marks l ++ end_marks) (sym c.from.ensures))
    (reads_then c.loop-items.invariant.0
    (item_read_none c.loop-items.state c.loop-items.cursor c.in_ok-next.field-0 c.item.new.cursor c.in_ok-next.ensures.reads c.in_default.not-Some))
