use Rattle.std.proofs.Common.{length, sym, ap, ◌∙◌, arith, take, map}
use Rattle.chw_types.specs.TypeView.{tree_of}
use Rattle.chw_typing.specs.WithoutZeros.{without_zeros}
use Rattle.chw_typing.proofs.Loop.{data_left}
use Rattle.chw_typing.proofs.leaving.+leave.Goals as goal

pub returns-after-loop-arg : goal.returns-after-loop-arg
returns-after-loop-arg t c =
    let all = c.deref-arg-items.ensures.value in
    c.data_of.ensures
    ∙ data_left c.in-DataOf.args.items c.loop-arg.done.items c.in-DataOf.d.number c.loop-arg.arg-index (c.loop-arg.invariant ∙ ap (λ xs. map without_zeros (take c.loop-arg.arg-index xs)) all) (omega (arith, ap length all, c.loop-arg-test.false))
    ∙ ap (λ n. without_zeros (tree_of n)) (sym c.in-DataOf.is)
    ∙ ap without_zeros c.t.view_is
