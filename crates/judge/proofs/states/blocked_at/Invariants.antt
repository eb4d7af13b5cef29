-- nothing is blocked in the made definitions so far
use Rattle.std.proofs.Common.{◌≡◌}
use Rattle.judge.proofs.Places.{IsFreeBelow}
use Rattle.judge.proofs.states.blocked_at.Given as goal

abbrev pub invariant-loop-number : goal.invariant-loop-number
invariant-loop-number l = record {
  same : l.widths ≡ l.fn.widths;
  free : IsFreeBelow l.fn.scene.program.now l.fn.scene.made.now l.number;
}
