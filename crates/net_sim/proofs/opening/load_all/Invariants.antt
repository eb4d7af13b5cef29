-- the cells so far
use Rattle.std.proofs.Common.{◌≡◌, List, [], Bool, length}
use Rattle.net_sim.specs.Opening.{IsRam, initial_words}
use Rattle.net_sim.specs.Ticking.{WrittenBefore}
use Rattle.net_sim.proofs.opening.load_all.Given as goal

abbrev pub invariant-loop-place : goal.invariant-loop-place
invariant-loop-place l = record {
  written : WrittenBefore (List (List Bool)) [] IsRam (λ w cell old. initial_words cell) l.flat l.fn.memories l.memories l.place;
  count : length l.memories ≡ length l.fn.memories;
}
