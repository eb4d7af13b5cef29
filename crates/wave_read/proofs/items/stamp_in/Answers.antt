use Rattle.wave_read.specs.Reading.{end_of, words_in}
use Rattle.wave_read.specs.Shown.{shown}
use Rattle.wave_read.proofs.Itemizing.{other_fails, time_item}
use Rattle.wave_read.proofs.items.stamp_in.Goals as goal

pub returns-in-Some-clause-item : goal.returns-in-Some-clause-item
returns-in-Some-clause-item c =
    let behind = c.args.behind in
    time_item (shown c.args.word) c.in-Some.time (words_in behind) (end_of behind) c.in-Some.ensures.some

pub returns-in-None-clause-fault : goal.returns-in-None-clause-fault
returns-in-None-clause-fault c =
    let behind = c.args.behind in
    other_fails (shown c.args.word) (end_of behind) (words_in behind) c.requires c.in-None.ensures.none
