use Rattle.answers.proofs.make_answer.tally.tally_of.Goals as goal

pub returns-clause-tally : goal.returns-clause-tally
returns-clause-tally c budget made = record {
  counted = record {
    counts = made.counts;
    net = c.args.compiled.now.net;
    flat = c.args.compiled.now.flat;
    compiles = made.compiles;
    cells = c.len.ensures;
    registers = c.registers_of.ensures;
  };
  summed = c.in_ok-sum.ensures.sum;
}
