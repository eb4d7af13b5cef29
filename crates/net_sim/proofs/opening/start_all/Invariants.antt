-- the cells so far
use Rattle.std.proofs.Common.{◌≡◌, List, [], Bool, length, map}
use Rattle.net_sim.specs.Opening.{IsStarted, initial_bits}
use Rattle.net_sim.specs.Ticking.{WrittenBefore}
use Rattle.net_sim.proofs.opening.start_all.Given as goal

abbrev pub invariant-loop-place : goal.invariant-loop-place
invariant-loop-place l = record {
  written : WrittenBefore (List Bool) [] IsStarted (λ w cell old. initial_bits cell) l.flat l.fn.words l.words l.place;
  widths : map length l.words ≡ map length l.fn.words;
}
