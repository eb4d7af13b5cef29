-- the domains so far
use Rattle.std.proofs.Common.{◌≡◌, List, [], Bool, length, map}
use Rattle.net_sim.specs.Tables.{value_in}
use Rattle.net_sim.specs.Ticking.{IsKeeperOf, WrittenBefore}
use Rattle.net_sim.proofs.Domains.{Below}
use Rattle.net_sim.proofs.tick.put_all.Given as goal

abbrev pub invariant-loop-number : goal.invariant-loop-number
invariant-loop-number l = record {
  written : WrittenBefore (List Bool) [] (Below IsKeeperOf l.event l.number) (λ w cell old. value_in l.next w) l.flat l.fn.words l.words (length l.flat.cells);
  widths : map length l.words ≡ map length l.fn.words;
}
