use Rattle.std.proofs.Common.{length, drop, arith}
use Rattle.wave_read.proofs.Stepping.{fits_more, own_widths, rest_count, rest_enough, rest_widths, steps_all, steps_more}
use Rattle.wave_read.proofs.denoting.steps_made.Goals as goal

pub split_at-requires-in-loop-moment : goal.split_at-requires-in-loop-moment
split_at-requires-in-loop-moment c =
    let l = c.loop-moment in
    rest_enough c.args.moments.now l.moment-index l.from _ c.args.changes.now c.split_at.result.1.now c.loop-moment-test.true l.invariant.count c.split_at.ensures.back

pub step_made-requires : goal.step_made-requires
step_made-requires c =
    let l = c.loop-moment in
    own_widths c.args.table.now _ c.split_at.result.1.now c.split_at-in-loop-moment.result.0.now (drop l.from c.args.changes.now) c.split_at-in-loop-moment.ensures.front c.split_at.ensures.back l.invariant.widths

pub overflow_add-from : goal.overflow_add-from
overflow_add-from c =
    let l = c.loop-moment in
    record { fits = fits_more c.args.moments.now l.moment-index l.from (length c.args.changes.now) _ c.loop-moment-test.true l.invariant.count (omega arith) }

pub loop-moment-preserved : goal.loop-moment-preserved
loop-moment-preserved c =
    let l = c.loop-moment in
    let moments = c.args.moments.now in
    let changes = c.args.changes.now in
    record {
      made = steps_more c.args.table.now moments l.moment-index l.from _ changes c.split_at.result.1.now c.split_at-in-loop-moment.result.0.now l.steps.items c.push.new.self.items _
          c.in_ok-step_made.field-0 c.loop-moment-test.true c.split_at.ensures.back c.split_at-in-loop-moment.ensures.front c.in_ok-step_made.ensures c.in_ok-push.ensures.items l.invariant.made;
      widths = rest_widths c.args.table.now _ l.from changes l.invariant.widths;
      count = rest_count moments l.moment-index l.from (length changes) _ c.loop-moment-test.true l.invariant.count;
    }

pub returns : goal.returns
returns c =
    let l = c.loop-moment in
    steps_all c.args.table.now c.args.moments.now l.moment-index (drop l.from c.args.changes.now) l.steps.items _ c.loop-moment-test.false l.invariant.made
