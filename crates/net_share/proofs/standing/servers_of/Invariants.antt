-- the wires so far have what serves them
use Rattle.std.proofs.Common.{◌≡◌, length}
use Rattle.net_share.specs.Standing.{EachServes}
use Rattle.net_share.proofs.standing.servers_of.Given as goal

abbrev pub invariant-loop-w : goal.invariant-loop-w
invariant-loop-w l = record {
  count : length l.servers.items ≡ l.w;
  serve : EachServes l.flat l.servers.items;
}
