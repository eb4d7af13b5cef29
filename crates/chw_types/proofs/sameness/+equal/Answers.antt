use Rattle.std.proofs.Common.{ap, sym, ◌∙◌, length, arith}
use Rattle.chw_types.specs.TypeView.{tree_of}
use Rattle.chw_types.proofs.EqualTrees.{unequal_data, unequal_at}
use Rattle.chw_types.proofs.sameness.+equal.Goals as goal

pub returns-then-len : goal.returns-then-len
returns-then-len t c =
    unequal_data c.in-DataOf-DataOf.d.number c.in-DataOf-DataOf.e.number c.in-DataOf-DataOf.ts.items c.in-DataOf-DataOf.us.items c.args.a.now c.args.b.now
    (ap tree_of (sym c.in-DataOf-DataOf.is-0) ∙ c.a.view_is)
    (ap tree_of (sym c.in-DataOf-DataOf.is-1) ∙ c.b.view_is)
    (λ e. c.if-len.true (c.len.ensures ∙ c.in-DataOf-DataOf.ts.ok.0 ∙ ap length e ∙ sym (c.len-in-DataOf-DataOf.ensures ∙ c.in-DataOf-DataOf.us.ok.0)))

pub returns-then-not-equal : goal.returns-then-not-equal
returns-then-not-equal t c =
    unequal_data c.in-DataOf-DataOf.d.number c.in-DataOf-DataOf.e.number c.in-DataOf-DataOf.ts.items c.in-DataOf-DataOf.us.items c.args.a.now c.args.b.now
    (ap tree_of (sym c.in-DataOf-DataOf.is-0) ∙ c.a.view_is)
    (ap tree_of (sym c.in-DataOf-DataOf.is-1) ∙ c.b.view_is)
    (λ e. unequal_at c.deref-t-items.result.now c.in-DataOf-DataOf.us.items c.loop-i.i c.t-item.result c.index.result.now (omega arith) c.t-item.is c.index.ensures
    (λ same. let no = c.if-not-equal.ensures.1 same in absurd (cc)) (c.deref-t-items.ensures.value ∙ e))
