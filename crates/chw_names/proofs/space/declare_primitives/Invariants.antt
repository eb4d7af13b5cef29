use Rattle.std.proofs.Common.{◌≡◌, map, take}
use Rattle.chw_prims.specs.Names.{name_of}
use Rattle.chw_names.specs.Words.{with_names}
use Rattle.chw_names.proofs.space.declare_primitives.Given as goal

abbrev pub invariant-loop-primitive : goal.invariant-loop-primitive
invariant-loop-primitive l = l.names ≡ with_names l.initial.names (map name_of (take l.primitive-index l.primitives))
