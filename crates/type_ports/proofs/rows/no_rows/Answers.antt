use Rattle.std.proofs.Common.{length, arith, subst, sym, ◌≡◌}
use Rattle.type_ports.specs.RowsRight.{IsWholeTable}
use Rattle.type_ports.proofs.Settling.{start_table}
use Rattle.type_ports.proofs.rows.no_rows.Goals as goal

pub returns : goal.returns
returns c =
    let e : c.loop.index ≡ length c.args.datas.now = omega arith in
    subst (IsWholeTable c.args.datas.now) (sym c.loop.invariant) (start_table c.args.datas.now c.loop.index e)
