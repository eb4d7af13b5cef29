-- the waves so far, and the past of the table
use Rattle.std.proofs.Common.{◌≡◌, [], take}
use Rattle.net_run.proofs.Lines.{past_after}
use Rattle.net_run.proofs.Waves.{HoldsRun}
use Rattle.net_sim.specs.Sims.{IsTable, SimStandsFor}
use Rattle.net_run.proofs.waving.run_waves.Given as goal

abbrev pub invariant-loop-present : goal.invariant-loop-present
invariant-loop-present l = record {
  table : IsTable l.sim;
  net : l.sim.flat.now ≡ l.flat;
  stands : SimStandsFor l.sim (past_after [] (take l.present-index l.events));
  run : HoldsRun l.flat (take l.present-index l.events) l.out;
}
