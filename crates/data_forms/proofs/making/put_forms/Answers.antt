use Rattle.std.proofs.Common.{◌+◌, [], ◌∷◌, ◌++◌, take, sym, ap, ◌∙◌}
use Rattle.std.proofs.lemmas.List.{take_more}
use Rattle.data_forms.proofs.Tables.{type_put}
use Rattle.data_forms.proofs.making.put_forms.Goals as goal

pub loop-t-preserved : goal.loop-t-preserved
loop-t-preserved c =
    let l = c.loop-t in
    let types = c.args.types.now in
    let one = take_more types l.t-index c.t-item.result c.loop-t-test.true ∙ ap (λ x. take l.t-index types ++ x ∷ []) (sym c.t-item.is) in
    type_put c.args.datas.now c.args.forms.now.items l.forms.items c.put_form.new.forms.items (take l.t-index types) (take (l.t-index + 1) types)
    l.places.items c.push.new.self.items c.t-item.result c.in_ok-put_form.field-0 one c.in_ok-push.ensures.items
    c.in_ok-put_form.ensures.forms c.in_ok-put_form.ensures.grown c.in_ok-put_form.ensures.at l.invariant
