use Rattle.std.proofs.Common.{◌+◌, ◌<◌, length, refl, arith}
use Rattle.std.proofs.lemmas.Option.{slice_get_read}
use Rattle.net_share.proofs.Looking.{looked_all, looked_next, next_fits, live_within}
use Rattle.net_share.proofs.needed.needed_wires.Goals as goal

pub look_at-requires-clause-marked : goal.look_at-requires-clause-marked
look_at-requires-clause-marked c = c.loop-next.invariant.marked

pub look_at-requires-clause-count : goal.look_at-requires-clause-count
look_at-requires-clause-count c = c.loop-next.invariant.count

pub look_at-requires-clause-wire : goal.look_at-requires-clause-wire
look_at-requires-clause-wire c =
    let flat = c.args.flat.now in
    let found = c.loop-next.needed.found.items in
    let w = c.index-w.result.now in
    let less : c.loop-next.next < length found = omega (arith, c.loop-next-test.true, c.len.ensures, c.loop-next.needed.found.ok.0) in
    live_within flat c.args.servers.now c.requires.sound c.requires.servers w
    (c.loop-next.invariant.live w (c.loop-next.next, slice_get_read found (length found) c.loop-next.next w refl less c.index-w.ensures))

pub loop-next-preserved : goal.loop-next-preserved
loop-next-preserved c =
    let flat = c.args.flat.now in
    let old = c.loop-next.needed in
    let new = c.look_at.new.needed in
    let next = c.loop-next.next in
    let w = c.index-w.result.now in
    let less : next < length old.found.items = omega (arith, c.loop-next-test.true, c.len.ensures, old.found.ok.0) in
    looked_next flat c.args.servers.now c.requires.sound c.requires.servers w next (next + 1) old.marks.items old.found.items
    new.marks.items new.found.items (slice_get_read old.found.items (length old.found.items) next w refl less c.index-w.ensures) refl c.loop-next.invariant c.in_ok-look_at.ensures

pub loop-next-smaller : goal.loop-next-smaller
loop-next-smaller c =
    let old = c.loop-next.needed in
    let less : c.loop-next.next < length old.found.items = omega (arith, c.loop-next-test.true, c.len.ensures, old.found.ok.0) in
    let fits = next_fits c.args.flat.now c.args.servers.now c.requires.sound c.requires.servers c.loop-next.next old.marks.items old.found.items c.loop-next.invariant less in
    omega (arith, fits)

pub returns : goal.returns
returns c =
    let old = c.loop-next.needed in
    looked_all c.args.flat.now c.args.servers.now c.requires.sound c.requires.servers c.loop-next.next old.marks.items old.found.items
    (omega (arith, c.loop-next-test.false, c.len.ensures, old.found.ok.0)) c.loop-next.invariant
