use Rattle.std.proofs.Common.{◌≡◌, map, take}
use Rattle.free_variables.proofs.free.listed.Given as goal

abbrev pub invariant-loop-number : goal.invariant-loop-number
invariant-loop-number l = map (λ v. v.number) l.variables.items ≡ take l.number-index l.numbers
