use Rattle.std.proofs.Common.{◌≡◌, map, take}
use Rattle.chw_terms.specs.declared.term.Arg.TheVariants.{OfTerm}
use Rattle.chw_terms.specs.TermTree.{var}
use Rattle.specialise.specs.Closed.{numbers}
use Rattle.specialise.proofs.trial.on_free.Given as goal

abbrev pub invariant-loop-at : goal.invariant-loop-at
invariant-loop-at l = l.args.items ≡ map (λ x. OfTerm (var x)) (numbers (take l.at-index l.free))
