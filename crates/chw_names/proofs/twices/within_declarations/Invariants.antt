use Rattle.std.proofs.Common.{take}
use Rattle.std.specs.List.{flat_map}
use Rattle.chw_names.specs.Twices.{declaration_twices}
use Rattle.chw_names.specs.Words.{Meets}
use Rattle.chw_names.proofs.twices.within_declarations.Given as goal

abbrev pub invariant-loop-declaration : goal.invariant-loop-declaration
invariant-loop-declaration l = Meets l.initial.least l.least (flat_map declaration_twices (take l.declaration-index l.declarations))
