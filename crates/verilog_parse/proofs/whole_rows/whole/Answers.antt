use Rattle.verilog_lex.specs.Shown.{placed}
use Rattle.verilog_parse.proofs.ItemsRead.{binary_takes, unary_takes}
use Rattle.verilog_parse.proofs.whole_rows.whole.Goals as goal

pub unary-requires : goal.unary-requires
unary-requires c = unary_takes c.args.row (placed c.args.tokens.now) c.in-Unary.is c.requires.fit

pub binary-requires : goal.binary-requires
binary-requires c = binary_takes c.args.row (placed c.args.tokens.now) c.in-Binary.is c.requires.fit
