use Rattle.std.proofs.Common.{◌∙◌, ap, sym, subst, [], ◌∷◌, ◌++◌}
use Rattle.made_table.specs.Held.{HoldsNone}
use Rattle.made_table.proofs.Opened.{none_holds, last_of_one}
use Rattle.made_table.proofs.definitions.Table.open.Goals as goal

pub push-requires-clause-none : goal.push-requires-clause-none
push-requires-clause-none c =
    let e = c.in-Some.first.origin in
    subst (λ made. HoldsNone made e) (sym c.none-table.ensures) (none_holds e)

pub returns : goal.returns
returns c =
    let first = c.in-Some.first in
    let o = c.in_ok-made.ensures in
    (o.0, o.1, c.in_ok-push.ensures.added ∙ ap (λ ms. ms ++ first ∷ []) c.none-table.ensures ∙ last_of_one c.pop.new.self.items first _ (sym c.in-Some.ensures.items ∙ o.2))
