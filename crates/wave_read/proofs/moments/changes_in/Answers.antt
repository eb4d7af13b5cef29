use Rattle.wave_read.specs.Reading.{end_of, words_in}
use Rattle.wave_read.proofs.Itemizing.{puts_all, puts_time}
use Rattle.wave_read.proofs.moments.changes_in.Goals as goal

pub returns-in-Ok-Time-clause-puts : goal.returns-in-Ok-Time-clause-puts
returns-in-Ok-Time-clause-puts c =
    let l = c.loop-change in
    let left = c.args.left in
    let item = rw c.in-Ok-Time.field-0-is at c.in-Ok-Time.ensures.item in
    puts_time (end_of left) (end_of l.rest) (words_in left) (words_in l.rest) (words_in c.in-Ok-Time.behind) c.args.changes.now.items l.changes.items c.in-Ok-Time.stamp
    l.invariant.end l.invariant.added l.invariant.fails item

pub returns-in-Ok-Nothing-clause-puts : goal.returns-in-Ok-Nothing-clause-puts
returns-in-Ok-Nothing-clause-puts c =
    let l = c.loop-change in
    let left = c.args.left in
    let item = rw c.in-Ok-Nothing.field-0-is at c.in-Ok-Nothing.ensures.item in
    puts_all (end_of left) (words_in left) (words_in l.rest) c.args.changes.now.items l.changes.items l.invariant.added item (words_in l.rest)
