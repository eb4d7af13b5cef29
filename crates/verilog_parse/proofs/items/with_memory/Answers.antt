use Rattle.std.proofs.Common.{refl, sym}
use Rattle.verilog_tree.specs.Marks.{memory_marks}
use Rattle.verilog_lex.specs.Shown.{placed}
use Rattle.verilog_parse.specs.declared.rows.Row.TheVariants as row
use Rattle.verilog_parse.specs.declared.rows.State.TheVariants as state
use Rattle.verilog_parse.proofs.Readings.{reads_as, row_reads}
use Rattle.verilog_parse.proofs.items.with_memory.Goals as goal

pub returns-in-Some-clause-ends : goal.returns-in-Some-clause-ends
returns-in-Some-clause-ends c = record {
  rest = memory_marks c.memory.result;
  reads = reads_as _ (memory_marks c.memory.result) (sym c.memory.ensures)
      (row_reads state.ItemOrMemory row.Memory c.args.cursor.now (placed c.in-Some.declared.now) c.read_row.new.self refl c.in-Some.ensures.read);
  whole_is = c.register.ensures;
}
