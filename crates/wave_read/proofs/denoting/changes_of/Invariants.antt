-- the changes so far
use Rattle.std.proofs.Common.{◌≡◌, map, take}
use Rattle.wave_read.specs.Rules.{change_in}
use Rattle.wave_read.specs.Shown.{change_of}
use Rattle.wave_read.proofs.denoting.changes_of.Given as goal

abbrev pub invariant-loop-change : goal.invariant-loop-change
invariant-loop-change l =
    l.made.items ≡ map (change_in l.table) (map change_of (take l.change-index l.changes))
