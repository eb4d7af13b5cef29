use Rattle.std.proofs.Common.{◌≡◌, ◌∙◌, sym, true, false}
use Rattle.moved_in_place.proofs.FirstLet.{none_more}
use Rattle.moved_in_place.proofs.lets.first_let.Goals as goal

pub loop-i-preserved : goal.loop-i-preserved
loop-i-preserved c =
    none_more c.args.group.now c.loop-i.i c.index-group-i.result c.loop-i-test.true c.index-group-i.is
    (λ l. let both : true ≡ false = sym (c.is_let.ensures.1 l) ∙ c.if-is_let.false in absurd cc)
    c.loop-i.invariant
