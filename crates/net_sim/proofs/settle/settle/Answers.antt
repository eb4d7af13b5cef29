use Rattle.std.proofs.Common.{◌≡◌, ◌+◌, ◌-◌, ◌<◌, ◌^◌, length, set, take, drop, Some, sym, ap, subst, ◌∙◌, arith}
use Rattle.chw_bits.specs.Bits.{bits_of}
use Rattle.chw_bits.proofs.Numbers.{number_of_lt}
use Rattle.chw_bits.proofs.RoundTrips.{bits_of-number_of}
use Rattle.net_sim.specs.Tables.{given_in, value_in}
use Rattle.net_sim.proofs.Cells.{given_width}
use Rattle.net_sim.proofs.Wiring.{is_wire, wire_width}
use Rattle.net_sim.proofs.settle.settle.Goals as goal

pub put_number_at-requires-clause-wire : goal.put_number_at-requires-clause-wire
put_number_at-requires-clause-wire c =
    is_wire _ c.target_of-w.result _
    (given_width c.args.words.now c.requires.fits.0 c.target_of-w.result.number c.args.cell.now c.requires.fits.1 c.requires.kind c.target_of-w.ensures)

pub put_number_at-requires-clause-narrow : goal.put_number_at-requires-clause-narrow
put_number_at-requires-clause-narrow c =
    let width = given_width c.args.words.now c.requires.fits.0 c.target_of-w.result.number c.args.cell.now c.requires.fits.1 c.requires.kind c.target_of-w.ensures in
    let narrow = c.in-Some.ensures.number.narrow in
    omega (arith, wire_width c.args.words.now c.target_of-w.result _ width)

pub put_number_at-requires-clause-below : goal.put_number_at-requires-clause-below
put_number_at-requires-clause-below c =
    let given = given_in c.args.words.now c.args.cell.now in
    let width = given_width c.args.words.now c.requires.fits.0 c.target_of-w.result.number c.args.cell.now c.requires.fits.1 c.requires.kind c.target_of-w.ensures in
    let below : c.in-Some.n < 2 ^ length given = omega (arith, number_of_lt given, c.in-Some.ensures.number.number) in
    subst (λ k. c.in-Some.n < 2 ^ k) (sym (wire_width c.args.words.now c.target_of-w.result _ width)) below

pub put_bits_at-requires-clause-wire : goal.put_bits_at-requires-clause-wire
put_bits_at-requires-clause-wire c =
    is_wire _ c.target_of-w.result _
    (given_width c.args.words.now c.requires.fits.0 c.target_of-w.result.number c.args.cell.now c.requires.fits.1 c.requires.kind c.target_of-w.ensures)

pub put_bits_at-requires-clause-width : goal.put_bits_at-requires-clause-width
put_bits_at-requires-clause-width c =
    let width = given_width c.args.words.now c.requires.fits.0 c.target_of-w.result.number c.args.cell.now c.requires.fits.1 c.requires.kind c.target_of-w.ensures in
    let part = c.made_bits-part.result in
    let count : part.from + part.count - part.from ≡ part.count = omega arith in
    ap (λ n. length (take n (drop part.from c.made_bits-part.new.room))) count ∙ ap length c.made_bits-part.ensures.same
    ∙ sym (wire_width c.args.words.now c.target_of-w.result _ width)

pub returns-in-Some-clause-wire : goal.returns-in-Some-clause-wire
returns-in-Some-clause-wire c = λ w t.
    let words = c.args.words.now in
    let given = given_in words c.args.cell.now in
    let to = c.target_of-w.result in
    let width = given_width words c.requires.fits.0 to.number c.args.cell.now c.requires.fits.1 c.requires.kind c.target_of-w.ensures in
    let targets : Some to.number ≡ Some w = sym c.target_of-w.ensures ∙ t in
    let is : to.number ≡ w = cc in
    let made : bits_of (length (value_in words to.number)) c.in-Some.n ≡ given =
    ap (λ k. bits_of k c.in-Some.n) (wire_width words to _ width) ∙ ap (bits_of (length given)) c.in-Some.ensures.number.number
    ∙ bits_of-number_of given in
    c.put_number_at.ensures.word ∙ ap (set words to.number) made ∙ ap (λ n. set words n given) is
