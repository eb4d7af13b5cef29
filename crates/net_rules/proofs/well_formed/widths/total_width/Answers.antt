use Rattle.std.proofs.Common.{◌≤◌, ◌∙◌, sym, arith}
use Rattle.net_rules.proofs.JoinedWidths.{exist_more, width_more, width_fits}
use Rattle.net_rules.proofs.well_formed.widths.total_width.Goals as goal

pub loop-part-preserved : goal.loop-part-preserved
loop-part-preserved c =
    let widths = c.args.widths.now in
    let parts = c.args.parts.now in
    let l = c.loop-part in
    let found = sym c.width.ensures ∙ c.in-Some.is in
    let fits : c.in-Some.n ≤ 4294967295 = width_fits widths _ c.in-Some.n c.type_inv.widths found in
    record {
      exist = exist_more widths parts l.part-index c.in-Some.n _ c.loop-part-test.true l.invariant.exist found;
      total = rw c.from-total.ensures (width_more widths parts l.part-index c.in-Some.n l.total _ c.loop-part-test.true l.invariant.total found);
      small = omega (arith, fits, c.from-total.ensures, l.invariant.small);
    }
