use Rattle.std.proofs.Common.{take}
use Rattle.type_numbers.specs.Nodes.{Grows}
use Rattle.term_frames.specs.Numbers.{AreHeadsNumbered}
use Rattle.term_frames.proofs.numbering.constructor_numbers.Given as goal

abbrev pub invariant-loop-it : goal.invariant-loop-it
invariant-loop-it l = AreHeadsNumbered l.types l.numbers.items (take l.it-index l.kept) × Grows l.fn.types l.types
