-- The words after `make` are a number of taps.
use Rattle.std.proofs.Common.{refl, [], codes}
use Rattle.clap.specs.Faults.{defaults_fault, turn_fault, walk_fault}
use Rattle.clap.specs.Walk.{idle}
use Rattle.chw_words.proofs.OneWord.{TakesOne, with_word}
use Rattle.chw_words.proofs.Shapes.{at_option, make_shape, start}
use Rattle.chw_words.proofs.Walks.{Fails, at, plain_goes, plain_turn}

pub make_takes : TakesOne make_shape (codes "taps")
unfolding walk_fault defaults_fault
make_takes = record {
  reads = λ n p. plain_goes make_shape start.held 1 n (with_word (codes "taps") n) p refl refl;
  whole = λ n. refl;
  found = λ n. refl;
  lacking = tt;
  stray = λ n x p. (let t = plain_turn make_shape [] (with_word (codes "taps") n).held 2 x p refl in rw t tt);
  no_option = λ h position word is. at_option (λ w. Fails (turn_fault make_shape [] (at h idle position) w)) word is tt (λ v. tt);
}
