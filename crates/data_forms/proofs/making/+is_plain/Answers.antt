use Rattle.std.proofs.Common.{◌≡◌, List, sym, ap, subst, ◌∙◌}
use Rattle.chw_types.specs.TypeTree.{vector}
use Rattle.chw_types.specs.TypeView.{tree_of}
use Rattle.chw_types.specs.declared.declarations.Data.{Data}
use Rattle.data_forms.specs.Forms.{TakesAll}
use Rattle.data_forms.proofs.Taken.{on_true, scalars_take, vectors_take}
use Rattle.data_forms.proofs.making.+is_plain.Goals as goal

pub returns-in-Vec : goal.returns-in-Vec
returns-in-Vec t c =
    let n = c.in-Vec.field-0.value in
    let of = c.in-Vec.of.value in
    let e : vector n of ≡ c.args.t.now = ap tree_of (sym c.in-Vec.is) ∙ c.t.view_is in
    on_true c.is_plain.result ((datas : List Data) → TakesAll datas c.deref.result.now) ((datas : List Data) → TakesAll datas c.args.t.now)
    (λ takes datas. subst (TakesAll datas) e (vectors_take datas n of (subst (TakesAll datas) c.deref.ensures (takes datas)))) c.is_plain.ensures

pub returns-in_default : goal.returns-in_default
returns-in_default t c datas =
    subst (TakesAll datas) c.t.view_is (scalars_take datas c.t.inside.node c.in_default.not-Vec c.in_default.not-DataOf)
