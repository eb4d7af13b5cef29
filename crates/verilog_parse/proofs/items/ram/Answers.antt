use Rattle.verilog_lex.specs.Shown.{placed}
use Rattle.verilog_parse.proofs.ItemsRead.{ram_marked}
use Rattle.verilog_parse.proofs.items.ram.Goals as goal

pub returns-clause-ends : goal.returns-clause-ends
returns-clause-ends c = record {
  rest = _;
  reads = c.in_ok-others.ensures.reads;
  whole_is = ram_marked (record {
    first = c.first_word.result;
    others = c.in_ok-others.others;
    end = c.place.result;
    clock = c.word.result;
    enable = c.word-2.result;
    write = c.access.result;
    value = c.word-3.result;
    register = c.word-4.result;
    read = c.access-2.result;
    zeros = c.word-5.result;
  }) (placed c.args.tokens.now) _ c.first_word.ensures (record {
    end_is = c.place.ensures;
    clock_is = c.word.ensures;
    enable_is = c.word-2.ensures;
    write_is = c.access.ensures;
    value_is = c.word-3.ensures;
    register_is = c.word-4.ensures;
    read_is = c.access-2.ensures;
    zeros_is = c.word-5.ensures;
  });
}
