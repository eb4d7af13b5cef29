-- the places so far
use Rattle.std.proofs.Common.{◌≡◌, List, [], Bool, length, map}
use Rattle.net_sim.specs.Ticking.{IsKeeperOf, WrittenBefore, behind, moved_bits}
use Rattle.net_sim.proofs.tick.take_domain.Given as goal

abbrev pub invariant-loop-place : goal.invariant-loop-place
invariant-loop-place l = record {
  written : WrittenBefore (List Bool) [] (IsKeeperOf l.number) (λ w cell old. moved_bits l.event l.words l.memories cell) l.flat l.fn.next l.next
      (behind l.place-items l.place-index);
  widths : map length l.next ≡ map length l.words;
}
