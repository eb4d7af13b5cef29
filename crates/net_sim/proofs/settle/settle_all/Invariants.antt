-- the cells so far are settled
use Rattle.std.proofs.Common.{◌≡◌, length}
use Rattle.net_sim.specs.Settling.{SettledBefore}
use Rattle.net_sim.specs.Steps.{HaveConstants}
use Rattle.net_sim.proofs.settle.settle_all.Given as goal

abbrev pub invariant-loop-k : goal.invariant-loop-k
invariant-loop-k l = record {
  settled : SettledBefore l.flat l.order.cells l.fn.words l.words l.k;
  constants : HaveConstants l.flat l.words;
  room : length l.room ≡ 8192;
}
