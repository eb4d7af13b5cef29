use Rattle.std.proofs.Common.{◌≡◌, ◌++◌, drop}
use Rattle.chw_resolve.specs.Programs.{resets_from}
use Rattle.chw_resolve.proofs.programs.resets_in.Given as goal

-- those so far and those of what is left are all
abbrev pub invariant-loop-declaration : goal.invariant-loop-declaration
invariant-loop-declaration l = l.resets.items ++ resets_from l.number (drop l.declaration-index l.declarations) ≡ resets_from 0 l.declarations
