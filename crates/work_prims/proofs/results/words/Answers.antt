use Rattle.std.proofs.Common.{◌≡◌, ◌∙◌, ◌+◌, ◌++◌, ◌∷◌, [], ap, sym, subst, take}
use Rattle.work_prims.specs.Given.{AreWords}
use Rattle.work_prims.proofs.Lists.{item_of_literals, words_more}
use Rattle.work_prims.proofs.results.words.Goals as goal

pub returns-in_default-clause-none : goal.returns-in_default-clause-none
returns-in_default-clause-none c bits w =
    let it = item_of_literals w.0 c.args.args.now c.loop-arg.arg-index c.arg-item.result _ c.loop-arg-test.true c.arg-item.is w.1 in
    c.in_default.ensures.none it.0.0 it.0.1 it.1

pub loop-arg-preserved : goal.loop-arg-preserved
loop-arg-preserved c =
    let args = c.args.args.now in
    let i = c.loop-arg.arg-index in
    let done = c.loop-arg.done.items in
    let bits = c.in-Some.bits.now in
    let it = c.in-Some.ensures.some in
    let pushed : c.push.new.self.items ≡ done ++ bits ∷ [] = c.in_ok-push.ensures.items ∙ ap (λ b. done ++ b ∷ []) c.in_ok-copy.ensures in
    subst (AreWords (take (i + 1) args)) (sym pushed)
    (words_more args done i c.arg-item.result _ it.0 bits c.loop-arg-test.true c.arg-item.is it.1 c.loop-arg.invariant)
