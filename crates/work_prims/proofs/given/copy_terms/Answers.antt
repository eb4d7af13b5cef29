use Rattle.chw_terms.specs.declared.term.Arg.TheVariants.{OfTerm}
use Rattle.work_prims.proofs.Lists.{item_of_mapped}
use Rattle.work_prims.proofs.given.copy_terms.Goals as goal

pub returns-in_default-clause-none : goal.returns-in_default-clause-none
returns-in_default-clause-none c es q =
    let it = item_of_mapped (λ e. OfTerm e) es c.args.args.now c.loop-arg.arg-index c.arg-item.result _ c.loop-arg-test.true c.arg-item.is q in
    c.in_default.not-OfTerm it.0 it.1
