use Rattle.std.proofs.Common.{◌≡◌, get_or, length, ap, ◌∙◌, arith}
use Rattle.std.proofs.lemmas.List.{length-map}
use Rattle.std.proofs.lemmas.Option.{slice_get-get_or}
use Rattle.wire_classes.specs.Closed.{bits_in}
use Rattle.wire_classes.specs.Keys.{KeysAgree, KeysClash, known_key}
use Rattle.wire_classes.proofs.AlikeCells.{agree_there, bits_hold, bits_merged, clash_there, marked_shown, place_within}
use Rattle.wire_classes.proofs.Closing.{none_at, some_at}
use Rattle.wire_classes.proofs.cells.marked_step.Goals as goal

pub keys_of-requires : goal.keys_of-requires
keys_of-requires c =
    marked_shown c.args.flat.now c.args.of.now c.args.known.now c.args.values.now c.requires.found c.args.wires.now c.requires.marked

pub clash-requires : goal.clash-requires
clash-requires c =
    let wires = c.args.wires.now in
    let is : length c.deref.result.now ≡ length wires =
    ap length (c.deref.ensures.value ∙ c.in_ok-keys.ensures) ∙ length-map wires (λ w. known_key (bits_in c.args.values.now w)) in
    omega (arith, is, c.requires.marked.few, c.requires.found.labels.sound.few)

pub bounds-wires-i : goal.bounds-wires-i
bounds-wires-i c =
    let i = c.in-Some.i in
    let j = c.in-Some.j in
    let clash = clash_there c.args.flat.now c.args.of.now c.args.known.now c.args.values.now c.requires.found c.args.wires.now c.requires.marked
    c.deref.result.now c.deref-2.result.now i j (c.deref.ensures.value ∙ c.in_ok-keys.ensures) (c.deref-2.ensures.value ∙ c.in_ok-labels.ensures)
    (some_at c.in_ok-i.field-0 (λ p. KeysClash c.deref.result.now c.deref-2.result.now p.0 p.1) (i, j) c.in-Some.is c.in_ok-i.ensures.some) in
    place_within c.args.flat.now c.args.of.now c.args.known.now c.args.values.now c.requires.found c.args.wires.now c.requires.marked i clash.key clash.one

pub bounds-wires-j : goal.bounds-wires-j
bounds-wires-j c =
    let i = c.in-Some.i in
    let j = c.in-Some.j in
    let clash = clash_there c.args.flat.now c.args.of.now c.args.known.now c.args.values.now c.requires.found c.args.wires.now c.requires.marked
    c.deref.result.now c.deref-2.result.now i j (c.deref.ensures.value ∙ c.in_ok-keys.ensures) (c.deref-2.ensures.value ∙ c.in_ok-labels.ensures)
    (some_at c.in_ok-i.field-0 (λ p. KeysClash c.deref.result.now c.deref-2.result.now p.0 p.1) (i, j) c.in-Some.is c.in_ok-i.ensures.some) in
    place_within c.args.flat.now c.args.of.now c.args.known.now c.args.values.now c.requires.found c.args.wires.now c.requires.marked j clash.key clash.other

pub returns-in-Some-clause-some : goal.returns-in-Some-clause-some
returns-in-Some-clause-some c =
    let wires = c.args.wires.now in
    let i = c.in-Some.i in
    let j = c.in-Some.j in
    let clash = clash_there c.args.flat.now c.args.of.now c.args.known.now c.args.values.now c.requires.found wires c.requires.marked
    c.deref.result.now c.deref-2.result.now i j (c.deref.ensures.value ∙ c.in_ok-keys.ensures) (c.deref-2.ensures.value ∙ c.in_ok-labels.ensures)
    (some_at c.in_ok-i.field-0 (λ p. KeysClash c.deref.result.now c.deref-2.result.now p.0 p.1) (i, j) c.in-Some.is c.in_ok-i.ensures.some) in
    let first = place_within c.args.flat.now c.args.of.now c.args.known.now c.args.values.now c.requires.found wires c.requires.marked i clash.key clash.one in
    let second = place_within c.args.flat.now c.args.of.now c.args.known.now c.args.values.now c.requires.found wires c.requires.marked j clash.key clash.other in
    bits_merged c.args.flat.now c.args.of.now c.args.known.now c.args.values.now c.requires.found wires c.requires.marked i j (get_or wires i 0) (get_or wires j 0)
    (slice_get-get_or wires i 0 first) (slice_get-get_or wires j 0 second) clash

pub returns-clause-none : goal.returns-clause-none
returns-clause-none c =
    bits_hold c.args.flat.now c.args.of.now c.args.known.now c.args.values.now c.requires.found c.args.wires.now c.requires.marked
    (agree_there c.args.flat.now c.args.of.now c.args.known.now c.args.values.now c.requires.found c.args.wires.now c.requires.marked
    c.deref.result.now c.deref-2.result.now (c.deref.ensures.value ∙ c.in_ok-keys.ensures) (c.deref-2.ensures.value ∙ c.in_ok-labels.ensures)
    (none_at c.in_ok-i.field-0 (KeysAgree c.deref.result.now c.deref-2.result.now) c.in-None.is c.in_ok-i.ensures.none))
