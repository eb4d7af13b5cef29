use Rattle.std.specs.Prelude.{◌≡◌, max}
use Rattle.parser_parts.specs.Heights.{peak, beyond}
use Rattle.parser_parts.proofs.heights.pop_peak.Given as goal

abbrev pub invariant-loop-left : goal.invariant-loop-left
invariant-loop-left l = (max l.highest (peak l.left l.heights) ≡ peak l.parts l.initial.heights) × (beyond l.left l.heights ≡ beyond l.parts l.initial.heights)

abbrev pub decreases-loop-left : goal.decreases-loop-left
decreases-loop-left l = l.left
