-- the changes so far keep the rule
use Rattle.std.proofs.Common.{map, take}
use Rattle.std.specs.List.{AllByRecursion}
use Rattle.wave_read.specs.Rules.{Keeps}
use Rattle.wave_read.specs.Shown.{change_of}
use Rattle.wave_read.proofs.rules.Table.broken_at.Given as goal

abbrev pub invariant-loop-change : goal.invariant-loop-change
invariant-loop-change l =
    AllByRecursion (Keeps l.rule l.self) (map change_of (take l.change-index l.changes))
