use Rattle.std.proofs.Common.{◌≡◌, max, length, drop, sym, ap, ◌∙◌, arith, subst}
use Rattle.chw_types.specs.Polynomials.{ended}
use Rattle.chw_types.specs.TypeView.{tree_of}
use Rattle.chw_terms.specs.Depth.{type_depth}
use Rattle.chw_terms.specs.Deepest.{deepest_of}
use Rattle.chw_terms.proofs.Deep.{deepest_all, data_deep}
use Rattle.chw_terms.proofs.depths.+type_depth.Goals as goal

pub returns-after-loop-arg : goal.returns-after-loop-arg
returns-after-loop-arg t c =
    let all = c.deref-arg-items.ensures.value in
    data_deep c.in-DataOf.args.items _ c.loop-arg.deepest c.one_more.result
    (deepest_all type_depth c.in-DataOf.args.items c.loop-arg.arg-index c.loop-arg.deepest (ended (deepest_of type_depth c.in-DataOf.args.items)) (omega (arith, ap length all, c.loop-arg-test.false)) (subst (λ xs. max c.loop-arg.deepest (ended (deepest_of type_depth (drop c.loop-arg.arg-index xs))) ≡ ended (deepest_of type_depth xs)) all c.loop-arg.invariant))
    c.one_more.ensures
    ∙ ap (λ n. ended (type_depth (tree_of n))) (sym c.in-DataOf.is)
    ∙ ap (λ t. ended (type_depth t)) c.t.view_is
