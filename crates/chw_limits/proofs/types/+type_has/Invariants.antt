-- none of the parts so far is sought
use Rattle.std.proofs.Common.{◌≡◌, false, take}
use Rattle.std.specs.List.{list_any}
use Rattle.chw_limits.specs.Parts.{type_has}
use Rattle.chw_limits.specs.Sought.{tests_of}
use Rattle.chw_limits.proofs.types.+type_has.Given as goal

abbrev pub invariant-loop-part : goal.invariant-loop-part
invariant-loop-part l = list_any (type_has (tests_of l.sought)) (take l.part-index l.part-items) ≡ false
