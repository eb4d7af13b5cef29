-- The words after `check` are a file.
use Rattle.std.proofs.Common.{refl, [], codes}
use Rattle.clap.specs.Faults.{defaults_fault, turn_fault, walk_fault}
use Rattle.clap.specs.Walk.{idle}
use Rattle.chw_words.proofs.OneWord.{TakesOne, with_word}
use Rattle.chw_words.proofs.Shapes.{at_option, check_shape, start}
use Rattle.chw_words.proofs.Walks.{Fails, at, plain_goes, plain_turn}

pub check_takes : TakesOne check_shape (codes "file")
unfolding walk_fault defaults_fault
check_takes = record {
  reads = λ f p. plain_goes check_shape start.held 1 f (with_word (codes "file") f) p refl refl;
  whole = λ f. refl;
  found = λ f. refl;
  lacking = tt;
  stray = λ f x p. (let t = plain_turn check_shape [] (with_word (codes "file") f).held 2 x p refl in rw t tt);
  no_option = λ h position word is. at_option (λ w. Fails (turn_fault check_shape [] (at h idle position) w)) word is tt (λ v. tt);
}
