use Rattle.std.proofs.Common.{◌<◌, ℕ, List, length, take, get_or, sym, subst, arith}
use Rattle.std.specs.Prelude.{slice_index}
use Rattle.std.proofs.lemmas.List.{take_all}
use Rattle.std.proofs.lemmas.Option.{slice_get-get_or}
use Rattle.chw_base.specs.declared.index.WireId.{WireId}
use Rattle.netlist.proofs.Places.{all_at}
use Rattle.net_share.specs.Marking.{IsListed, Marks, served}
use Rattle.net_share.proofs.Marks.{marks_more, marks_none, served_more}
use Rattle.net_share.proofs.marking.mark_all.Goals as goal

pub loop-wire-init : goal.loop-wire-init
loop-wire-init c = marks_none c.args.needed.now.marks.items c.args.needed.now.found.items c.requires.marked

pub bounds-servers-wire : goal.bounds-servers-wire
bounds-servers-wire c =
    let wires = c.args.wires.now in
    let none : WireId = record { number = 0 } in
    all_at (IsListed c.args.servers.now) wires c.loop-wire.wire-index (get_or wires c.loop-wire.wire-index none) c.requires.wires
    (slice_get-get_or wires c.loop-wire.wire-index none c.loop-wire-test.true)

pub mark-requires-clause-marked : goal.mark-requires-clause-marked
mark-requires-clause-marked c = c.loop-wire.invariant.marked

pub mark-requires-clause-wire : goal.mark-requires-clause-wire
mark-requires-clause-wire c =
    let wires = c.args.wires.now in
    let servers = c.args.servers.now in
    let none : WireId = record { number = 0 } in
    let r : WireId = get_or wires c.loop-wire.wire-index none in
    let within : r.number < length servers =
    all_at (IsListed servers) wires c.loop-wire.wire-index r c.requires.wires (slice_get-get_or wires c.loop-wire.wire-index none c.loop-wire-test.true) in
    let fits = c.requires.servers r.number (slice_index servers r.number) (slice_get-get_or servers r.number 0 within) in
    omega (arith, fits, c.loop-wire.invariant.count)

pub loop-wire-preserved : goal.loop-wire-preserved
loop-wire-preserved c =
    let wires = c.args.wires.now in
    let servers = c.args.servers.now in
    let i = c.loop-wire.wire-index in
    let none : WireId = record { number = 0 } in
    let old = c.args.needed.now in
    let mid = c.loop-wire.needed in
    let new = c.mark.new.needed in
    subst (λ (ws : List ℕ). Marks old.marks.items old.found.items new.marks.items new.found.items ws)
    (sym (served_more servers wires i none c.loop-wire-test.true))
    (marks_more old.marks.items old.found.items mid.marks.items mid.found.items new.marks.items new.found.items (served servers (take i wires)) _
    c.loop-wire.invariant c.in_ok-mark.ensures)

pub returns : goal.returns
returns c =
    let old = c.args.needed.now in
    let new = c.loop-wire.needed in
    let all = take_all c.loop-wire.wire-index c.args.wires.now c.loop-wire-test.false in
    subst (λ (ws : List WireId). Marks old.marks.items old.found.items new.marks.items new.found.items (served c.args.servers.now ws)) all
    c.loop-wire.invariant
