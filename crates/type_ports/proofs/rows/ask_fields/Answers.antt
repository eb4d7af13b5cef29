use Rattle.std.proofs.Common.{◌≡◌, subst, false, true, length}
use Rattle.type_ports.specs.RowsFound.{fits_all}
use Rattle.type_ports.proofs.RowLoops.{fields_stop, fields_fit, fields_marked}
use Rattle.type_ports.proofs.rows.ask_fields.Goals as goal

pub returns-then-not-ask_all-clause-fits : goal.returns-then-not-ask_all-clause-fits
returns-then-not-ask_all-clause-fits c =
    fields_stop c.args.rows.now (length c.args.asked.now) c.args.cons.now c.loop-con.con-index c.con-item.result c.as_slice.result.now c.loop-con-test.true c.con-item.is c.as_slice.ensures
    (subst (λ n. false ≡ fits_all c.args.rows.now n c.as_slice.result.now) c.loop-con.auto.asked c.if-not-ask_all.ensures.fits) c.loop-con.invariant.0

pub loop-con-preserved : goal.loop-con-preserved
loop-con-preserved c = (
  fields_fit c.args.rows.now (length c.args.asked.now) c.args.cons.now c.loop-con.con-index c.con-item.result c.as_slice.result.now c.loop-con-test.true c.con-item.is c.as_slice.ensures
      (subst (λ n. true ≡ fits_all c.args.rows.now n c.as_slice.result.now) c.loop-con.auto.asked c.if-not-ask_all.ensures.fits) c.loop-con.invariant.0,
  fields_marked c.args.rows.now c.loop-con.asked c.args.asked.now c.ask_all.new.asked c.args.cons.now c.loop-con.con-index c.con-item.result c.as_slice.result.now c.loop-con-test.true c.con-item.is c.as_slice.ensures
      c.if-not-ask_all.ensures.marked c.loop-con.invariant.1,
)
