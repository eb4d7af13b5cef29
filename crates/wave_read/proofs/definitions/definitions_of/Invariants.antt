-- the variables so far, before those that are left
use Rattle.std.proofs.Common.{◌≡◌, List, ◌++◌, length, map}
use Rattle.wave_read.specs.Reading.{FailsBehind, HasDeclarations, end_of, words_in}
use Rattle.wave_read.specs.Shown.{variable_of}
use Rattle.wave_text.specs.VcdText.{AreDeclarations, Declared, Moment}
use Rattle.wave_read.proofs.definitions.definitions_of.Given as goal

abbrev pub invariant-loop-declared : goal.invariant-loop-declared
invariant-loop-declared l = record {
  forms : (declared : List Declared) (moments : List Moment) → AreDeclarations (words_in l.rest) declared moments
      → AreDeclarations (words_in l.fn.left) (map variable_of l.declared.items ++ declared) moments;
  fails : FailsBehind HasDeclarations HasDeclarations (end_of l.fn.left) (words_in l.rest) (words_in l.fn.left);
  end : end_of l.rest ≡ end_of l.fn.left;
}

abbrev pub decreases-loop-declared : goal.decreases-loop-declared
decreases-loop-declared l = length l.rest.text.now
