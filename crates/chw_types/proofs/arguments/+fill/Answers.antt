use Rattle.std.proofs.Common.{length, sym, ap, ◌∙◌, arith, take, map}
use Rattle.std.specs.Prelude.{reverse}
use Rattle.chw_types.specs.TypeView.{tree_of}
use Rattle.chw_types.specs.Arguments.{given}
use Rattle.chw_types.specs.TypeMoves.{sub, up_by}
use Rattle.chw_types.proofs.Filled.{fill_data, fill_for_all}
use Rattle.chw_types.proofs.arguments.+fill.Goals as goal

pub returns-after-loop-part : goal.returns-after-loop-part
returns-after-loop-part t c =
    let all = c.deref-part-items.ensures.value in
    let σ = up_by c.args.under (given (reverse c.args.args.now)) in
    c.data_of.ensures
    ∙ fill_data c.in-DataOf.parts.items c.loop-part.done.items c.in-DataOf.d.number c.loop-part.part-index σ (c.loop-part.invariant ∙ ap (λ xs. map (λ t. sub t σ) (take c.loop-part.part-index xs)) all) (omega (arith, ap length all, c.loop-part-test.false))
    ∙ ap (λ n. sub (tree_of n) σ) (sym c.in-DataOf.is)
    ∙ ap (λ t. sub t σ) c.t.view_is

pub returns-in_ok-forall-in-Forall : goal.returns-in_ok-forall-in-Forall
returns-in_ok-forall-in-Forall t c =
    let σ = given (reverse c.args.args.now) in
    c.in_ok-forall-in-Forall.ensures
    ∙ fill_for_all c.args.under σ c.in-Forall.k c.in-Forall.t.value c.in_ok-t-in-Forall.t (c.in_ok-t-in-Forall.ensures ∙ (λ i. sub (c.deref.ensures i) (up_by (c.in_ok-inner-in-Forall.ensures i) σ)))
    ∙ ap (λ n. sub (tree_of n) (up_by c.args.under σ)) (sym c.in-Forall.is)
    ∙ ap (λ t. sub t (up_by c.args.under σ)) c.t.view_is
