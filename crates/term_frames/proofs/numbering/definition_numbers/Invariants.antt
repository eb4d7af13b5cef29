use Rattle.std.proofs.Common.{take}
use Rattle.term_frames.specs.Numbers.{AreNumbered}
use Rattle.term_frames.proofs.numbering.definition_numbers.Given as goal

abbrev pub invariant-loop-it : goal.invariant-loop-it
invariant-loop-it l = AreNumbered l.types l.numbers.items (take l.it-index l.defs)
