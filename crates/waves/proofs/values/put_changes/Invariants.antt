-- what is written, with the lines that are left, is all
use Rattle.std.proofs.Common.{◌≡◌, ◌+◌, ◌++◌, drop}
use Rattle.waves.specs.Vcd.{changes}
use Rattle.waves.proofs.values.put_changes.Given as goal

abbrev pub invariant-loop-place : goal.invariant-loop-place
invariant-loop-place l =
    l.out.items ++ changes (l.first + l.place) (drop l.place l.old) (drop l.place l.new)
    ≡ l.initial.out.items ++ changes l.first l.old l.new
