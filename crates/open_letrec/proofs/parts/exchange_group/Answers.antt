use Rattle.std.proofs.Common.{slice_index_or, arith}
use Rattle.chw_terms.specs.TermMoves.{exchanged}
use Rattle.moved_in_place.specs.Moves.{renamed_binding}
use Rattle.moved_in_place.proofs.InPlace.{next_changed, all_done}
use Rattle.open_letrec.proofs.parts.exchange_group.Goals as goal

pub loop-binding-preserved : goal.loop-binding-preserved
loop-binding-preserved c =
    next_changed (renamed_binding (exchanged c.args.first c.args.next)) c.args.group.now c.loop-binding.group c.loop-binding.binding-index c.binding-item.result _
    (omega (arith, c.loop-binding-test.true, c.loop-binding.auto.group)) c.loop-binding.invariant
    (λ i. record { ty = (slice_index_or c.loop-binding.group c.loop-binding.binding-index c.binding-item.result).ty; body = c.in_ok-exchange.ensures i })

pub returns : goal.returns
returns c =
    all_done (renamed_binding (exchanged c.args.first c.args.next)) c.args.group.now c.loop-binding.group c.loop-binding.binding-index (omega (arith, c.loop-binding-test.false, c.loop-binding.auto.group)) c.loop-binding.invariant
