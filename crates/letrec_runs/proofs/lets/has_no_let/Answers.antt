use Rattle.std.proofs.Common.{◌≡◌, ◌∙◌, sym, true, false}
use Rattle.moved_in_place.proofs.FirstLet.{none_more}
use Rattle.letrec_runs.proofs.lets.has_no_let.Goals as goal

pub loop-binding-preserved : goal.loop-binding-preserved
loop-binding-preserved c =
    none_more c.args.group.now c.loop-binding.binding-index c.binding-item.result c.loop-binding-test.true c.binding-item.is
    (λ l. let both : true ≡ false = sym (c.is_let.ensures.1 l) ∙ c.if-is_let.false in absurd cc)
    c.loop-binding.invariant
