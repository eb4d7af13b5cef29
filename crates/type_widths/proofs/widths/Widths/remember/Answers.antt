use Rattle.std.proofs.Common.{sym, subst}
use Rattle.type_widths.specs.Known.{AreRight}
use Rattle.type_widths.specs.Outcomes.{IsOutcomeOf}
use Rattle.type_widths.proofs.Kept.{kept}
use Rattle.type_widths.proofs.widths.Widths.remember.Goals as goal

pub invariant_of-self-2 : goal.invariant_of-self-2
invariant_of-self-2 c =
    let datas = c.self.inside.datas.now in
    let i = c.args.instance in
    let is = subst (λ ds. IsOutcomeOf ds i.at i.outs.items c.args.outcome) (sym c.self.view_is) c.requires in (
      c.self.invariant.0,
      subst (AreRight datas) (sym c.in_ok-insert.ensures.entries) (kept datas c.self.inside.known.entries i c.args.outcome c.self.invariant.1 is),
    )
