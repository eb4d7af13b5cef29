-- the least of the nodes so far
use Rattle.std.proofs.Common.{ℕ, ◌<◌, ◌≤◌, length, get_or}
use Rattle.graph_order.proofs.cycle.least_at.Given as goal

abbrev pub invariant-loop-i : goal.invariant-loop-i
invariant-loop-i l = record {
  within : l.least < length l.nodes;
  least : (k d : ℕ) → k < l.i → get_or l.nodes l.least 0 ≤ get_or l.nodes k d;
}
