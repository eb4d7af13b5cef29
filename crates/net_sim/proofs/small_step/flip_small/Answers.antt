use Rattle.std.proofs.Common.{◌-◌, ◌≤◌, length, set, refl, sym, ap, subst, ◌∙◌}
use Rattle.netlist.specs.declared.net.Cell.TheVariants.{Un}
use Rattle.netlist.specs.declared.net.Op1.TheVariants.{Not}
use Rattle.net_sim.specs.Tables.{value_in}
use Rattle.net_sim.proofs.Masks.{flipped_number, within_mask}
use Rattle.net_sim.proofs.Steps.{flip_mask, number_of_read, renews_as, small_bits, target_of}
use Rattle.net_sim.proofs.Wiring.{is_wire, wire_width}
use Rattle.net_sim.proofs.small_step.flip_small.Goals as goal

pub word_at-requires : goal.word_at-requires
word_at-requires c = is_wire _ c.args.from _ c.requires.fits.1.2

pub small-requires : goal.small-requires
small-requires c =
    let a = c.args in
    let fits = c.requires.fits.1 in
    let same = ap length c.word_at.ensures ∙ wire_width a.words.now a.from fits.0 fits.2 ∙ sym (wire_width a.words.now a.to fits.0 fits.1) in
    subst (λ k. k ≤ 64) (sym same) (small_bits a.words.now a.to c.requires.small)

pub overflow_sub-n : goal.overflow_sub-n
overflow_sub-n c =
    let a = c.args in
    let bits = value_in a.words.now a.from.number in
    within_mask bits a.mask c.small.result (flip_mask a.words.now c.requires.fits.0 a.to a.from a.mask c.requires.fits.1 c.requires.mask)
    (number_of_read _ bits c.small.result c.word_at.ensures c.small.ensures.number)

pub put_small_at-requires-clause-wire : goal.put_small_at-requires-clause-wire
put_small_at-requires-clause-wire c = is_wire _ c.args.to _ c.requires.fits.1.1

pub put_small_at-requires-clause-small : goal.put_small_at-requires-clause-small
put_small_at-requires-clause-small c = small_bits c.args.words.now c.args.to c.requires.small

pub put_small_at-requires-clause-below : goal.put_small_at-requires-clause-below
put_small_at-requires-clause-below c =
    let a = c.args in
    let bits = value_in a.words.now a.from.number in
    let made = flipped_number bits a.mask c.small.result (flip_mask a.words.now c.requires.fits.0 a.to a.from a.mask c.requires.fits.1 c.requires.mask)
    (number_of_read _ bits c.small.result c.word_at.ensures c.small.ensures.number) in
    (target_of (Un a.to Not a.from) a.words.now c.requires.fits.0 (a.mask - c.small.result) a.to c.requires.fits.1 tt refl made).below

pub returns : goal.returns
returns c =
    let a = c.args in
    let bits = value_in a.words.now a.from.number in
    let made = flipped_number bits a.mask c.small.result (flip_mask a.words.now c.requires.fits.0 a.to a.from a.mask c.requires.fits.1 c.requires.mask)
    (number_of_read _ bits c.small.result c.word_at.ensures c.small.ensures.number) in
    let to = target_of (Un a.to Not a.from) a.words.now c.requires.fits.0 (a.mask - c.small.result) a.to c.requires.fits.1 tt refl made in
    renews_as (Un a.to Not a.from) a.words.now c.put_small_at.new.words a.to.number tt refl
    (c.put_small_at.ensures.word ∙ ap (set a.words.now a.to.number) to.bits) c.put_small_at.ensures.widths
