use Rattle.std.proofs.Common.{◌-◌, ◌^◌, length, set, refl, sym, ap, subst, ◌∙◌}
use Rattle.chw_bits.specs.Bits.{number_of}
use Rattle.netlist.specs.Operators.{operator2}
use Rattle.netlist.specs.declared.net.Cell.TheVariants.{Bin}
use Rattle.net_sim.specs.Operands.{Suit}
use Rattle.net_sim.specs.Tables.{value_in}
use Rattle.net_sim.proofs.Steps.{renews_as, small_bits, small_read, target_of}
use Rattle.net_sim.proofs.Wiring.{pair_fits, width_at}
use Rattle.net_sim.proofs.small_step.settle_two.Goals as goal

pub word_at-requires : goal.word_at-requires
word_at-requires c = let a = c.args in (pair_fits a.words.now a.op a.to a.left a.right c.requires.fits.1).left

pub word_at-requires-2 : goal.word_at-requires-2
word_at-requires-2 c = let a = c.args in (pair_fits a.words.now a.op a.to a.left a.right c.requires.fits.1).right

pub small_of_two-n-requires-clause-left : goal.small_of_two-n-requires-clause-left
small_of_two-n-requires-clause-left c = small_read c.args.words.now c.args.left _ c.word_at.ensures c.requires.two.small_left

pub small_of_two-n-requires-clause-right : goal.small_of_two-n-requires-clause-right
small_of_two-n-requires-clause-right c = small_read c.args.words.now c.args.right _ c.word_at-2.ensures c.requires.two.small_right

pub small_of_two-n-requires-clause-suit : goal.small_of_two-n-requires-clause-suit
small_of_two-n-requires-clause-suit c =
    let a = c.args in
    let suit = (pair_fits a.words.now a.op a.to a.left a.right c.requires.fits.1).suit in
    subst (λ u. Suit a.op u c.word_at-2.result.now) (sym c.word_at.ensures)
    (subst (Suit a.op (value_in a.words.now a.left.number)) (sym c.word_at-2.ensures) suit)

pub small_of_two-n-requires-clause-quick : goal.small_of_two-n-requires-clause-quick
small_of_two-n-requires-clause-quick c = c.requires.two.quick

pub small_of_two-n-requires-clause-mask : goal.small_of_two-n-requires-clause-mask
small_of_two-n-requires-clause-mask c =
    c.requires.two.masks ∙ ap (λ k. 2 ^ k - 1) (width_at c.args.words.now c.args.left.number ∙ ap length (sym c.word_at.ensures))

pub put_small_at-requires-clause-wire : goal.put_small_at-requires-clause-wire
put_small_at-requires-clause-wire c =
    let a = c.args in
    let made = c.small_of_two-n.ensures ∙ ap (λ u. number_of (operator2 a.op u c.word_at-2.result.now)) c.word_at.ensures
    ∙ ap (λ u. number_of (operator2 a.op (value_in a.words.now a.left.number) u)) c.word_at-2.ensures in
    (target_of (Bin a.to a.op a.left a.right) a.words.now c.requires.fits.0 c.small_of_two-n.result a.to c.requires.fits.1 tt refl made).wire

pub put_small_at-requires-clause-small : goal.put_small_at-requires-clause-small
put_small_at-requires-clause-small c = small_bits c.args.words.now c.args.to c.requires.two.small

pub put_small_at-requires-clause-below : goal.put_small_at-requires-clause-below
put_small_at-requires-clause-below c =
    let a = c.args in
    let made = c.small_of_two-n.ensures ∙ ap (λ u. number_of (operator2 a.op u c.word_at-2.result.now)) c.word_at.ensures
    ∙ ap (λ u. number_of (operator2 a.op (value_in a.words.now a.left.number) u)) c.word_at-2.ensures in
    (target_of (Bin a.to a.op a.left a.right) a.words.now c.requires.fits.0 c.small_of_two-n.result a.to c.requires.fits.1 tt refl made).below

pub returns : goal.returns
returns c =
    let a = c.args in
    let made = c.small_of_two-n.ensures ∙ ap (λ u. number_of (operator2 a.op u c.word_at-2.result.now)) c.word_at.ensures
    ∙ ap (λ u. number_of (operator2 a.op (value_in a.words.now a.left.number) u)) c.word_at-2.ensures in
    let to = target_of (Bin a.to a.op a.left a.right) a.words.now c.requires.fits.0 c.small_of_two-n.result a.to c.requires.fits.1 tt refl made in
    renews_as (Bin a.to a.op a.left a.right) a.words.now c.put_small_at.new.words a.to.number tt refl
    (c.put_small_at.ensures.word ∙ ap (set a.words.now a.to.number) to.bits) c.put_small_at.ensures.widths
