use Rattle.type_ports.proofs.RowLoops.{field_found, no_field_found}
use Rattle.type_ports.proofs.rows.unknown_field.Goals as goal

pub returns-in-Some : goal.returns-in-Some
returns-in-Some c =
    field_found c.args.rows.now c.args.cons.now c.loop-con.con-index c.con-item.result c.as_slice.result.now c.in-Some.found c.loop-con-test.true c.con-item.is c.as_slice.ensures c.in-Some.ensures c.loop-con.invariant

pub loop-con-preserved : goal.loop-con-preserved
loop-con-preserved c =
    no_field_found c.args.rows.now c.args.cons.now c.loop-con.con-index c.con-item.result c.as_slice.result.now c.loop-con-test.true c.con-item.is c.as_slice.ensures c.in_default.ensures c.loop-con.invariant
