use Rattle.std.proofs.Common.{rules, ◌∙◌, ap, IfOk, subst, ◌≡◌, map}
use Rattle.std.specs.List.{zip}
use Rattle.std.specs.Vec.{vec_items}
use Rattle.std.proofs.lemmas.Iterator.{items_from_collect, YieldsList-from_map, YieldsList-from_zip}
use Rattle.std.proofs.lemmas.Iterator.Adapters.{YieldsList-from_vec}
use Rattle.std.proofs.lemmas.Iterator.Consumers.{YieldsList-at}
use Rattle.chw_terms.specs.TermView.{group_of}
use Rattle.chw_terms.specs.Unrolled.{binding}
use Rattle.flow_cases.proofs.parts.named.Goals as goal

pub returns : goal.returns
returns c =
    let types = c.args.types in
    let sides = c.args.sides in
    let whole = map binding (zip types.items sides.items) in
    let all : IfOk c.collect.result (λ w. vec_items w ≡ whole) =
    items_from_collect _ c.collect.ensures.ran
    (YieldsList-from_map _ binding
    (YieldsList-at c.map.ensures.source
    (YieldsList-from_zip
    (YieldsList-at c.zip-both.ensures.first (YieldsList-from_vec types.items c.into_iter.ensures.rest (c.into_iter.ensures.len ∙ types.ok.0)))
    (YieldsList-from_vec sides.items c.zip-both.ensures.second.0 (c.zip-both.ensures.second.1 ∙ sides.ok.0))))
    c.map.ensures.closure (λ x r q k. search rules)) in
    ap group_of (subst (λ r. IfOk r (λ w. vec_items w ≡ whole)) c.in_ok-group.was all)
