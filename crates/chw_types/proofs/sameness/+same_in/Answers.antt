use Rattle.std.proofs.Common.{sym, ap, ◌∙◌}
use Rattle.chw_types.specs.TypeView.{tree_of}
use Rattle.chw_types.proofs.SameTypesFound.{data_lengths}
use Rattle.chw_types.proofs.sameness.+same_in.Goals as goal

pub returns-then-len : goal.returns-then-len
returns-then-len t c =
    data_lengths c.in-DataOf-DataOf.d.number c.in-DataOf-DataOf.e.number c.in-DataOf-DataOf.ts.items c.in-DataOf-DataOf.us.items c.args.a.now c.args.b.now
    (ap tree_of (sym c.in-DataOf-DataOf.is-0) ∙ c.a.view_is)
    (ap tree_of (sym c.in-DataOf-DataOf.is-1) ∙ c.b.view_is)
    (λ e. c.if-len.true (c.len.ensures ∙ c.in-DataOf-DataOf.ts.ok.0 ∙ e ∙ sym (c.len-in-DataOf-DataOf.ensures ∙ c.in-DataOf-DataOf.us.ok.0)))
