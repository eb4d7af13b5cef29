-- the sum so far, and the past of the table
use Rattle.std.proofs.Common.{◌≡◌, [], take}
use Rattle.answers.specs.MakeAnswer.Sums.{HasSum}
use Rattle.net_run.proofs.Lines.{past_after}
use Rattle.net_sim.specs.Sims.{IsTable, SimStandsFor}
use Rattle.answers.proofs.make_answer.sums.sum_of.Given as goal

abbrev pub invariant-loop-number : goal.invariant-loop-number
invariant-loop-number l = record {
  table : IsTable l.sim;
  net : l.sim.flat.now ≡ l.flat;
  stands : SimStandsFor l.sim (past_after [] (take l.number l.events));
  sum : HasSum l.flat (take l.number l.events) l.sum;
}
