use Rattle.make_typed.proofs.Programs.{is_program_of, is_tidy, program_of}
use Rattle.make_typed.proofs.Shape.{shaped}
use Rattle.make_typed.proofs.laws.made_programs_are_there.Goals as goal

pub returns : goal.returns
returns c = λ taps tree made. (program_of taps, is_program_of taps tree (shaped taps tree made.same), is_tidy taps made.some made.few)
