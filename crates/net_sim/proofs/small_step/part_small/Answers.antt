use Rattle.std.proofs.Common.{◌/◌, ◌^◌, bit_and, set, refl, ap, ◌∙◌, arith}
use Rattle.netlist.specs.declared.net.Cell.TheVariants.{Cut}
use Rattle.net_sim.specs.Tables.{value_in}
use Rattle.net_sim.proofs.Masks.{part_number}
use Rattle.net_sim.proofs.Steps.{number_of_read, part_within, renews_as, small_bits, small_read, target_of}
use Rattle.net_sim.proofs.Wiring.{is_wire}
use Rattle.net_sim.proofs.small_step.part_small.Goals as goal

pub word_at-requires : goal.word_at-requires
word_at-requires c = is_wire _ c.args.from _ c.requires.fits.2.2.2

pub small-requires : goal.small-requires
small-requires c = small_read c.args.words.now c.args.from _ c.word_at.ensures c.requires.fits.3.small_from

pub overflow_shr-n : goal.overflow_shr-n
overflow_shr-n c =
    let a = c.args in
    let r = c.requires.fits in
    let within = part_within a.words.now r.1 r.0 a.low a.to a.from r.2 in
    let few = small_bits a.words.now a.from r.3.small_from in
    omega (arith, within, few, r.2.0)

pub put_small_at-requires-clause-wire : goal.put_small_at-requires-clause-wire
put_small_at-requires-clause-wire c = is_wire _ c.args.to _ c.requires.fits.2.1

pub put_small_at-requires-clause-small : goal.put_small_at-requires-clause-small
put_small_at-requires-clause-small c = small_bits c.args.words.now c.args.to c.requires.fits.3.small

pub put_small_at-requires-clause-below : goal.put_small_at-requires-clause-below
put_small_at-requires-clause-below c =
    let a = c.args in
    let r = c.requires.fits in
    let bits = value_in a.words.now a.from.number in
    let within = part_within a.words.now r.1 r.0 a.low a.to a.from r.2 in
    let made = part_number bits r.0 a.low a.mask c.small.result r.2.0 within r.3.masks
    (number_of_read _ bits c.small.result c.word_at.ensures c.small.ensures.number) in
    (target_of (Cut a.to a.from r.0 a.low) a.words.now r.1 (bit_and (c.small.result / 2 ^ a.low) a.mask) a.to r.2 tt refl made).below

pub returns : goal.returns
returns c = λ high domains fits part.
    let a = c.args in
    let bits = value_in a.words.now a.from.number in
    let within = part_within a.words.now domains high a.low a.to a.from fits in
    let made = part_number bits high a.low a.mask c.small.result fits.0 within part.masks
    (number_of_read _ bits c.small.result c.word_at.ensures c.small.ensures.number) in
    let to = target_of (Cut a.to a.from high a.low) a.words.now domains (bit_and (c.small.result / 2 ^ a.low) a.mask) a.to fits tt refl made in
    renews_as (Cut a.to a.from high a.low) a.words.now c.put_small_at.new.words a.to.number tt refl
    (c.put_small_at.ensures.word ∙ ap (set a.words.now a.to.number) to.bits) c.put_small_at.ensures.widths
