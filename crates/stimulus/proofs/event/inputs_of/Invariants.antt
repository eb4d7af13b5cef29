-- the bits so far, with those that are left
use Rattle.std.proofs.Common.{◌≡◌, ◌++◌, drop}
use Rattle.std.specs.List.{AllByRecursion}
use Rattle.stimulus.specs.Stimulus.{AreWide, inputs_of}
use Rattle.stimulus.specs.Texts.{texts}
use Rattle.stimulus.specs.Words.{HasDigits}
use Rattle.stimulus.proofs.event.inputs_of.Given as goal

abbrev pub invariant-loop-place : goal.invariant-loop-place
invariant-loop-place l =
    (l.bits.items ++ inputs_of (drop l.place l.inputs) (texts (drop l.place l.parts)) ≡ inputs_of l.inputs (texts l.parts))
    × (AreWide (drop l.place l.inputs) (texts (drop l.place l.parts)) → AreWide l.inputs (texts l.parts))
    × (AreWide l.inputs (texts l.parts) → AreWide (drop l.place l.inputs) (texts (drop l.place l.parts)))
    × (AllByRecursion HasDigits (texts (drop l.place l.parts)) → AllByRecursion HasDigits (texts l.parts))
