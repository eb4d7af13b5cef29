use Rattle.std.proofs.Common.{◌+◌, map, arith}
use Rattle.wire_classes.specs.Keys.{cell_key}
use Rattle.wire_classes.specs.Seen.{AreSeen}
use Rattle.wire_classes.proofs.Closing.{none_told}
use Rattle.wire_classes.proofs.Seen.{keys_whole, seen_agree}
use Rattle.wire_classes.proofs.agreeing.look_at_all.Goals as goal

pub loop-place-init : goal.loop-place-init
loop-place-init c = c.in_ok-seen.ensures (map (cell_key c.args.of.now) c.args.flat.now.cells) c.args.labels.now

pub loop-place-preserved : goal.loop-place-preserved
loop-place-preserved c =
    none_told c.in_ok-found.field-0
    (AreSeen (map (cell_key c.args.of.now) c.args.flat.now.cells) c.args.labels.now (c.loop-place.place + 1) c.look.new.seen.firsts)
    c.in_default.not-Some c.in_ok-found.ensures.none

pub returns : goal.returns
returns c =
    let n = c.len-place-end.ensures in
    record {
      none = seen_agree (map (cell_key c.args.of.now) c.args.flat.now.cells) c.args.labels.now c.loop-place.place c.loop-place.seen.firsts
          c.loop-place.invariant (keys_whole c.args.of.now c.args.flat.now.cells c.loop-place.place (omega (arith, n, c.loop-place-test.false)));
      some = tt;
    }
