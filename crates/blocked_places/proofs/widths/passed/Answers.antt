use Rattle.std.proofs.Common.{IfSome, IfNone, ◌∙◌, subst}
use Rattle.type_ports.specs.Ports.{Leaves, IsNoPort}
use Rattle.type_ports.specs.declared.ports.Leaf.{Leaf}
use Rattle.chw_types.specs.TypeTree.{TypeTree}
use Rattle.blocked_places.specs.Firsts.{FindsOf, FindsFirstOf}
use Rattle.blocked_places.specs.Limits.{IsLeafTooWide, IsTooWide}
use Rattle.blocked_places.proofs.Measures.{own_passed, no_leaf_passed, leaves_told}
use Rattle.blocked_places.proofs.Results.{ok_more}
use Rattle.blocked_places.proofs.widths.passed.Goals as goal

pub returns-in-Some-clause-limit : goal.returns-in-Some-clause-limit
returns-in-Some-clause-limit c =
    let datas = c.args.widths.now in
    let ty = c.args.ty.now in
    own_passed c.measured_types.ensures.back datas ty c.in-Some.limit
    (subst (FindsOf TypeTree (IsTooWide datas) ty) c.in-Some.is c.in_ok-limit.ensures.limit)

pub returns-in_default-2-clause-limit : goal.returns-in_default-2-clause-limit
returns-in_default-2-clause-limit c =
    let datas = c.args.widths.now in
    let ty = c.args.ty.now in
    let same = c.datas.ensures.datas ∙ c.too_wide.ensures.same in
    let own = subst (FindsOf TypeTree (IsTooWide datas) ty) c.in_default.is c.in_ok-limit.ensures.limit in
    no_leaf_passed datas ty own
    (subst (λ ds. IsNoPort ds ty) same
    (subst (λ r. IfNone r (IsNoPort c.datas.result.now ty)) c.in_default-2.is c.in_ok-found.ensures.none))

pub returns-clause-limit : goal.returns-clause-limit
returns-clause-limit c =
    let datas = c.args.widths.now in
    let ty = c.args.ty.now in
    let same = c.datas.ensures.datas ∙ c.too_wide.ensures.same in
    let own = subst (FindsOf TypeTree (IsTooWide datas) ty) c.in_default.is c.in_ok-limit.ensures.limit in
    let found =
    subst (λ ds. Leaves ds ty c.in-Some-2.found.items) same
    (subst (λ r. IfSome r (λ ls. Leaves c.datas.result.now ty ls.items)) c.in-Some-2.is c.in_ok-found.ensures.some) in
    ok_more c.first_leaf.result _ _
    (λ answer h. leaves_told c.measured_types.ensures.there datas ty c.in-Some-2.found.items c.deref.result.now answer own found
    c.deref.ensures.value
    (subst (λ ds. FindsFirstOf Leaf (IsLeafTooWide ds) c.deref.result.now answer) c.too_wide.ensures.same h))
    c.first_leaf.ensures.limit
