use Rattle.std.proofs.Common.{take}
use Rattle.std.specs.List.{flat_map}
use Rattle.chw_names.specs.Globals.{constructor_name}
use Rattle.chw_names.specs.Words.{Declares}
use Rattle.chw_names.proofs.space.declare_made.Given as goal

abbrev pub invariant-loop-constructor : goal.invariant-loop-constructor
invariant-loop-constructor l = Declares l.initial.names l.names l.initial.least l.least (flat_map constructor_name (take l.constructor-index l.constructors))
