use Rattle.std.proofs.Common.{◌≡◌, arith, subst, sym, ap, ◌∙◌, false, length}
use Rattle.chw_types.specs.TypeView.{tree_of, trees_of}
use Rattle.type_ports.specs.RowsFound.{fits, fits_args}
use Rattle.type_ports.proofs.RowLoops.{data_fits, fits_args_lengths, fits_stops}
use Rattle.type_ports.proofs.rows.+ask.Goals as goal

pub returns-then-len-asks-clause-fits : goal.returns-then-len-asks-clause-fits
returns-then-len-asks-clause-fits t c =
    data_fits c.args.rows.now (length c.args.asked.now) c.in-DataOf.at.number (trees_of c.in-DataOf.args.items) c.args.t.now c.in-Some.asks.now false (ap tree_of (sym c.in-DataOf.is) ∙ c.t.view_is) c.in-Some.ensures.some.0 c.in-Some.ensures.some.1
    (fits_args_lengths c.args.rows.now (length c.args.asked.now) c.in-Some.asks.now c.in-DataOf.args.items (λ e. c.if-len-asks.true (c.len.ensures ∙ c.in-DataOf.args.ok.0 ∙ e)))

pub returns-then-not-ask-clause-fits : goal.returns-then-not-ask-clause-fits
returns-then-not-ask-clause-fits t c =
    let same = c.deref-arg-items.ensures.value in
    data_fits c.args.rows.now (length c.args.asked.now) c.in-DataOf.at.number (trees_of c.in-DataOf.args.items) c.args.t.now c.in-Some.asks.now false (ap tree_of (sym c.in-DataOf.is) ∙ c.t.view_is) c.in-Some.ensures.some.0 c.in-Some.ensures.some.1
    ((λ i. fits_args c.args.rows.now (length c.args.asked.now) c.in-Some.asks.now (trees_of (sym same i)))
    ∙ fits_stops c.args.rows.now (length c.args.asked.now) c.in-Some.asks.now c.deref-arg-items.result.now c.loop-i.i false c.arg-item.result (omega arith) c.loop-i-test.true c.if-asks-i.true c.arg-item.is
    (subst (λ n. false ≡ fits c.args.rows.now n c.arg-item.result) c.loop-i.auto.asked c.if-not-ask.ensures.fits) c.loop-i.invariant.0)
