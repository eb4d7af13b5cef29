use Rattle.std.proofs.Common.{IfSome, subst, ◌∙◌}
use Rattle.type_widths.specs.Outcomes.{IsOutcomeOf}
use Rattle.type_widths.proofs.Kept.{recalled_right}
use Rattle.type_widths.proofs.widths.Widths.recall.Goals as goal

pub returns : goal.returns
returns c =
    let i = c.args.instance.now in
    subst (λ ds. IfSome c.copied.result (IsOutcomeOf ds i.at i.outs.items)) c.self.view_is
    (recalled_right c.self.inside.datas.now c.self.inside.known.entries i c.copied.result c.self.invariant.1 (c.copied.ensures ∙ c.get.ensures.value))
