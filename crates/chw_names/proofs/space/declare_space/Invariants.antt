use Rattle.std.proofs.Common.{take}
use Rattle.std.specs.List.{flat_map}
use Rattle.chw_names.specs.Globals.{words_in}
use Rattle.chw_names.specs.Words.{Declares}
use Rattle.chw_names.proofs.space.declare_space.Given as goal

abbrev pub invariant-loop-declaration : goal.invariant-loop-declaration
invariant-loop-declaration l = Declares l.initial.names l.names l.initial.least l.least (flat_map (words_in l.space) (take l.declaration-index l.declarations))
