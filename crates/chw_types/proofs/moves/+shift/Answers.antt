use Rattle.std.proofs.Common.{length, sym, ap, ◌∙◌, arith, take, map}
use Rattle.chw_types.specs.TypeView.{tree_of}
use Rattle.chw_types.specs.TypeMoves.{shift}
use Rattle.chw_types.proofs.TypeMoved.{shift_data, shift_for_all}
use Rattle.chw_types.proofs.moves.+shift.Goals as goal

pub returns-after-loop-arg : goal.returns-after-loop-arg
returns-after-loop-arg t c =
    let all = c.deref-arg-items.ensures.value in
    c.data_of.ensures
    ∙ shift_data c.in-DataOf.args.items c.loop-arg.done.items c.in-DataOf.d.number c.loop-arg.arg-index c.args.from c.args.by (c.loop-arg.invariant ∙ ap (λ xs. map (λ t. shift t c.args.from c.args.by) (take c.loop-arg.arg-index xs)) all) (omega (arith, ap length all, c.loop-arg-test.false))
    ∙ ap (λ n. shift (tree_of n) c.args.from c.args.by) (sym c.in-DataOf.is)
    ∙ ap (λ t. shift t c.args.from c.args.by) c.t.view_is

pub returns-in_ok-forall-in-Forall : goal.returns-in_ok-forall-in-Forall
returns-in_ok-forall-in-Forall t c =
    c.in_ok-forall-in-Forall.ensures
    ∙ shift_for_all c.args.from c.args.by c.in-Forall.k c.in-Forall.t.value c.in_ok-t-in-Forall.t (c.in_ok-t-in-Forall.ensures ∙ (λ i. shift (c.deref.ensures i) (c.in_ok-inner-in-Forall.ensures i) c.args.by))
    ∙ ap (λ n. shift (tree_of n) c.args.from c.args.by) (sym c.in-Forall.is)
    ∙ ap (λ t. shift t c.args.from c.args.by) c.t.view_is
