use Rattle.std.proofs.Common.{◌≡◌, map, take}
use Rattle.normal_form.proofs.states.ids.Given as goal

abbrev pub invariant-loop-number : goal.invariant-loop-number
invariant-loop-number l = map (λ m. m.number) l.ids.items ≡ take l.number-index l.numbers
