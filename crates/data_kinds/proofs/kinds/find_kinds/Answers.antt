use Rattle.data_kinds.proofs.Settling.{no_cycle_stays}
use Rattle.data_kinds.proofs.kinds.find_kinds.Goals as goal

pub returns-in-Order-clause-no_cycle : goal.returns-in-Order-clause-no_cycle
returns-in-Order-clause-no_cycle c =
    no_cycle_stays c.args.datas.now c.set_kinds.new.datas c.in_ok-order.field-0 c.in-Order.order c.in-Order.is c.in_ok-order.ensures.no_cycle c.set_kinds.ensures.same
