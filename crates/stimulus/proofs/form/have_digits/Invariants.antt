-- each so far is one
use Rattle.std.proofs.Common.{take}
use Rattle.std.specs.List.{AllByRecursion}
use Rattle.stimulus.specs.Words.{HasDigits}
use Rattle.stimulus.specs.Texts.{texts}
use Rattle.stimulus.proofs.form.have_digits.Given as goal

abbrev pub invariant-loop-part : goal.invariant-loop-part
invariant-loop-part l = AllByRecursion HasDigits (texts (take l.part-index l.parts))
