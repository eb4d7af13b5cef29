use Rattle.std.proofs.Common.{take}
use Rattle.std.specs.List.{flat_map}
use Rattle.chw_names.specs.Twices.{literal_of_alternative}
use Rattle.chw_names.specs.Literals.{DeclaresLiterals}
use Rattle.chw_names.proofs.literals.declare_literals.Given as goal

abbrev pub invariant-loop-alternative : goal.invariant-loop-alternative
invariant-loop-alternative l = DeclaresLiterals l.initial.known.keys l.known.keys l.initial.least l.least (flat_map literal_of_alternative (take l.alternative-index l.alternatives))
