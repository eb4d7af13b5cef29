-- the domains so far
use Rattle.std.proofs.Common.{◌≡◌, List, [], Bool, length, map}
use Rattle.net_sim.specs.Ticking.{IsKeeperOf, WrittenBefore, moved_bits}
use Rattle.net_sim.proofs.Domains.{Below}
use Rattle.net_sim.proofs.tick.take_all.Given as goal

abbrev pub invariant-loop-number : goal.invariant-loop-number
invariant-loop-number l = record {
  written : WrittenBefore (List Bool) [] (Below IsKeeperOf l.event l.number) (λ w cell old. moved_bits l.event l.words l.memories cell) l.flat l.fn.next l.next (length l.flat.cells);
  widths : map length l.next ≡ map length l.words;
}
