-- the steps so far, with those of the times that are left, are all
use Rattle.std.proofs.Common.{◌≡◌, ◌+◌, ◌++◌, length, map, drop}
use Rattle.wave_read.specs.Rules.{HaveWidths, step_in}
use Rattle.wave_read.specs.Shown.{change_of, count_of, times_of}
use Rattle.wave_read.proofs.denoting.steps_made.Given as goal

abbrev pub invariant-loop-moment : goal.invariant-loop-moment
invariant-loop-moment l = record {
  made : l.steps.items ++ map (step_in l.table) (times_of (drop l.moment-index l.moments) (drop l.from l.changes))
      ≡ map (step_in l.table) (times_of l.moments l.changes);
  widths : HaveWidths l.table (map change_of (drop l.from l.changes));
  count : l.from + count_of (drop l.moment-index l.moments) ≡ length l.changes;
}
