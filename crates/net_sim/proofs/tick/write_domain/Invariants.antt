-- the places so far
use Rattle.std.proofs.Common.{List, [], Bool}
use Rattle.net_sim.specs.Ticking.{IsRamOf, MemoriesFit, WrittenBefore, behind, moved_words}
use Rattle.net_sim.proofs.tick.write_domain.Given as goal

abbrev pub invariant-loop-place : goal.invariant-loop-place
invariant-loop-place l = record {
  written : WrittenBefore (List (List Bool)) [] (IsRamOf l.number) (λ w cell old. moved_words l.words cell old) l.flat l.fn.memories l.memories
      (behind l.place-items l.place-index);
  memories : MemoriesFit l.words l.memories;
}
