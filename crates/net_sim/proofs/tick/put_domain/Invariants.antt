-- the places so far
use Rattle.std.proofs.Common.{◌≡◌, List, [], Bool, length, map}
use Rattle.net_sim.specs.Tables.{value_in}
use Rattle.net_sim.specs.Ticking.{IsKeeperOf, WrittenBefore, behind}
use Rattle.net_sim.proofs.tick.put_domain.Given as goal

abbrev pub invariant-loop-place : goal.invariant-loop-place
invariant-loop-place l = record {
  written : WrittenBefore (List Bool) [] (IsKeeperOf l.number) (λ w cell old. value_in l.next w) l.flat l.fn.words l.words
      (behind l.place-items l.place-index);
  widths : map length l.words ≡ map length l.fn.words;
}
