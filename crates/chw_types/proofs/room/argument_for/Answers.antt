use Rattle.std.proofs.Common.{◌-◌, length, sym, arith}
use Rattle.chw_types.proofs.Filled.{filled_below, filled_here, filled_above}
use Rattle.chw_types.proofs.room.argument_for.Goals as goal

pub returns-then-number-under-clause-none : goal.returns-then-number-under-clause-none
returns-then-number-under-clause-none c = (c.args.x.number, filled_below c.args.under c.args.x.number c.args.args.now c.if-number-under.true)

pub returns-then-at-args-clause-some : goal.returns-then-at-args-clause-some
returns-then-at-args-clause-some c =
    let x = c.args.x.number in
    let args = c.args.args.now in (
      (length args - 1 - (x - c.args.under), omega arith, sym c.index-args-args.is),
      filled_here c.args.under x args c.index-args-args.result c.if-number-under.false c.if-at-args.true c.index-args-args.is,
    )

pub returns-else-at-args-clause-none : goal.returns-else-at-args-clause-none
returns-else-at-args-clause-none c =
    (c.args.x.number - length c.args.args.now, filled_above c.args.under c.args.x.number c.args.args.now c.if-number-under.false c.if-at-args.false)
