use Rattle.wave_read.specs.Reading.{end_of, words_in}
use Rattle.wave_read.specs.Shown.{shown}
use Rattle.wave_read.proofs.Momenting.{no_first_time}
use Rattle.wave_read.proofs.moments.first_time.Goals as goal

pub returns-in-None-clause-fault : goal.returns-in-None-clause-fault
returns-in-None-clause-fault c =
    no_first_time (shown c.in-Some.word) (end_of c.args.left) (words_in c.args.left) (words_in c.in-Some.behind) c.in-Some.ensures.some c.in-None.ensures.none
