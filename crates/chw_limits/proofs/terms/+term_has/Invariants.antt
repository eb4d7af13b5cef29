-- none of the items so far is sought
use Rattle.std.proofs.Common.{◌≡◌, false, take}
use Rattle.std.specs.List.{list_any}
use Rattle.chw_limits.specs.Parts.{term_has}
use Rattle.chw_limits.specs.Sought.{tests_of}
use Rattle.chw_limits.proofs.Lists.{binding_has, alternative_has, argument_has}
use Rattle.chw_limits.proofs.terms.+term_has.Given as goal

abbrev pub invariant-loop-binding : goal.invariant-loop-binding
invariant-loop-binding l = list_any (binding_has (tests_of l.sought)) (take l.binding-index l.binding-items) ≡ false

abbrev pub invariant-loop-alternative : goal.invariant-loop-alternative
invariant-loop-alternative l = list_any (alternative_has (tests_of l.sought)) (take l.alternative-index l.alternative-items) ≡ false

abbrev pub invariant-loop-argument : goal.invariant-loop-argument
invariant-loop-argument l = list_any (argument_has (tests_of l.sought)) (take l.argument-index l.argument-items) ≡ false

abbrev pub invariant-loop-element : goal.invariant-loop-element
invariant-loop-element l = list_any (term_has (tests_of l.sought)) (take l.element-index l.element-items) ≡ false
