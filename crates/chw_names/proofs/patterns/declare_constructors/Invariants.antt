use Rattle.std.proofs.Common.{take}
use Rattle.std.specs.List.{flat_map}
use Rattle.chw_names.specs.Twices.{constructor_of_alternative}
use Rattle.chw_names.specs.Words.{Declares}
use Rattle.chw_names.proofs.patterns.declare_constructors.Given as goal

abbrev pub invariant-loop-alternative : goal.invariant-loop-alternative
invariant-loop-alternative l = Declares l.initial.names l.names l.initial.least l.least (flat_map constructor_of_alternative (take l.alternative-index l.alternatives))
