use Rattle.std.proofs.Common.{◌∙◌}
use Rattle.chw_check.proofs.FittingPrograms.{fits_sound}
use Rattle.chw_check.proofs.Told.{typing_told}
use Rattle.chw_check.proofs.checking.check_types.Goals as goal

pub first_untyped-requires-clause-sound : goal.first_untyped-requires-clause-sound
first_untyped-requires-clause-sound c = fits_sound c.args.program.now c.requires.tidy c.requires.fit

pub returns-in_ok-name-in-Some-clause-fault : goal.returns-in_ok-name-in-Some-clause-fault
returns-in_ok-name-in-Some-clause-fault c =
    let first = rw c.in-Some.is at c.in_ok-first_untyped.ensures in
    typing_told c.args.program.now c.in-Some.it.now c.in_ok-name-in-Some.name c.requires.fit first (c.in_ok-name-in-Some.ensures ∙ c.as_slice.ensures)
