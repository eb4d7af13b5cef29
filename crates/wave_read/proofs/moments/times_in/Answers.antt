use Rattle.wave_read.specs.Reading.{words_in}
use Rattle.wave_read.proofs.Momenting.{no_times}
use Rattle.wave_read.proofs.moments.times_in.Goals as goal

pub returns-in-Ok-None-clause-forms : goal.returns-in-Ok-None-clause-forms
returns-in-Ok-None-clause-forms c =
    let none = rw c.in-Ok-None.field-0-is at c.in-Ok-None.ensures.none in
    no_times (words_in c.args.left) c.none.result none c.none.ensures
