-- each so far is one
use Rattle.std.proofs.Common.{take}
use Rattle.std.specs.List.{AllByRecursion}
use Rattle.stimulus.specs.Words.{IsPair}
use Rattle.stimulus.specs.Texts.{texts}
use Rattle.stimulus.proofs.form.are_pairs.Given as goal

abbrev pub invariant-loop-part : goal.invariant-loop-part
invariant-loop-part l = AllByRecursion IsPair (texts (take l.part-index l.parts))
