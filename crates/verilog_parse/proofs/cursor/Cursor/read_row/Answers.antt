use Rattle.std.proofs.Common.{refl, arith}
use Rattle.verilog_parse.proofs.Taken.{within}
use Rattle.verilog_parse.proofs.Wrong.{found_read, row_not_first}
use Rattle.verilog_parse.proofs.cursor.Cursor.read_row.Goals as goal

pub returns-then-n-slots : goal.returns-then-n-slots
returns-then-n-slots c = record {
  read = tt;
  none = (refl, row_not_first c.args.row c.args.self.now _ _ c.slots-slots.ensures c.fitting-n.ensures c.if-n-slots.true);
}

pub cut-requires : goal.cut-requires
cut-requires c = omega (arith, c.fitting-n.ensures, within c.slots-slots.result.now c.args.self.now.rest.now)

pub returns : goal.returns
returns c = record {
  read = found_read c.args.row c.args.self.now c.cut.new.self _ _ _ c.slots-slots.ensures c.fitting-n.ensures c.if-n-slots.false c.cut.ensures.tokens c.cut.ensures.rest c.cut.ensures.end;
  none = tt;
}
