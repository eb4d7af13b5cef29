use Rattle.std.proofs.Common.{length, sym, ap, ◌∙◌, arith, take, map}
use Rattle.chw_types.specs.TypeView.{tree_of}
use Rattle.chw_terms.specs.Evaluated.{evaluated}
use Rattle.chw_terms.proofs.TypesEvaluated.{evaluated_data}
use Rattle.chw_terms.proofs.numerals.+evaluate.Goals as goal

pub returns-after-loop-arg : goal.returns-after-loop-arg
returns-after-loop-arg t c =
    let all = c.deref-arg-items.ensures.value in
    c.data_of.ensures
    ∙ evaluated_data c.in-DataOf.args.items c.loop-arg.done.items c.in-DataOf.d.number c.loop-arg.arg-index (c.loop-arg.invariant ∙ ap (λ xs. map evaluated (take c.loop-arg.arg-index xs)) all) (omega (arith, ap length all, c.loop-arg-test.false))
    ∙ ap (λ n. evaluated (tree_of n)) (sym c.in-DataOf.is)
    ∙ ap evaluated c.t.view_is
