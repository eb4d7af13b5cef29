use Rattle.verilog_parse.proofs.Wrong.{chosen_read, none_is_wrong}
use Rattle.verilog_parse.proofs.cursor.Cursor.next.Goals as goal

pub returns-in-Ok-clause-step : goal.returns-in-Ok-clause-step
returns-in-Ok-clause-step c = record {
  among = c.in-Ok.ensures.found.among;
  read = chosen_read c.args.state c.in-Ok.row c.args.self.now c.cut-tokens.new.self _ c.in-Ok.len c.in-Ok.ensures.found c.cut-tokens.ensures.tokens c.cut-tokens.ensures.rest
      c.cut-tokens.ensures.end;
}

pub returns-in-Err-clause-fault : goal.returns-in-Err-clause-fault
returns-in-Err-clause-fault c =
    none_is_wrong c.args.state c.args.self.now c.in-Err.longest c.place.result c.requires c.in-Err.ensures.none c.place.ensures
