use Rattle.std.proofs.Common.{subst, sym}
use Rattle.chw_typing.specs.Programs.{IsTyped}
use Rattle.make_typed.proofs.Programs.{is_typed, one_program}
use Rattle.make_typed.proofs.Shape.{shaped}
use Rattle.make_typed.proofs.laws.made_programs_are_typed.Goals as goal

pub returns : goal.returns
returns c = λ taps tree p made is tidy.
    subst IsTyped (sym (one_program taps tree (shaped taps tree made.same) p is tidy)) (is_typed taps made.some made.few)
