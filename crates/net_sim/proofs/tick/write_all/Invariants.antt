-- the domains so far
use Rattle.std.proofs.Common.{List, [], Bool, length}
use Rattle.net_sim.specs.Ticking.{IsRamOf, MemoriesFit, WrittenBefore, moved_words}
use Rattle.net_sim.proofs.Domains.{Below}
use Rattle.net_sim.proofs.tick.write_all.Given as goal

abbrev pub invariant-loop-number : goal.invariant-loop-number
invariant-loop-number l = record {
  written : WrittenBefore (List (List Bool)) [] (Below IsRamOf l.event l.number) (λ w cell old. moved_words l.words cell old) l.flat l.fn.memories l.memories (length l.flat.cells);
  memories : MemoriesFit l.words l.memories;
}
