use Rattle.std.proofs.Common.{length, arith}
use Rattle.data_kinds.proofs.Settling.{sets_next, all_set}
use Rattle.data_kinds.proofs.kinds.set_kinds.Goals as goal

pub loop-number-preserved : goal.loop-number-preserved
loop-number-preserved c =
    sets_next c.args.datas.now c.loop-number.datas (length c.args.domains.now) c.args.order.now c.loop-number.number-index c.set_kind.new.datas c.requires
    (omega (arith, c.loop-number-test.true)) c.loop-number.invariant c.set_kind.ensures

pub returns-clause-kinds : goal.returns-clause-kinds
returns-clause-kinds c =
    all_set c.args.datas.now c.loop-number.datas (length c.args.domains.now) c.args.order.now c.loop-number.number-index c.requires (omega (arith, c.loop-number-test.false)) c.loop-number.invariant
