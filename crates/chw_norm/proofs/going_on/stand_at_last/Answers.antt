use Rattle.std.proofs.Common.{◌-◌, arith, length, map, subst, sym}
use Rattle.norm_lines.specs.Places.{where_of}
use Rattle.chw_norm.specs.GoingOn.{EndsAt}
use Rattle.chw_norm.proofs.Lasts.{last_of_added}
use Rattle.chw_norm.proofs.going_on.stand_at_last.Goals as goal

pub returns : goal.returns
returns c old added is all =
    let f = c.args.finder.now in
    let x = c.index-trace-trace.result in
    let trace = c.args.trace.now in
    subst (λ q. EndsAt f.made.number f.path.items (map where_of added) x.made.number q)
    (sym c.in_ok-path.ensures)
    (last_of_added f.made.number f.path.items trace old added (length trace - 1) c.args.before x is
    all (omega (arith, c.if-trace-before.false)) (omega (arith, c.if-trace-before.false))
    c.index-trace-trace.is)
