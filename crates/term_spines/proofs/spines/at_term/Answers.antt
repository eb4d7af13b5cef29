use Rattle.std.proofs.Common.{subst}
use Rattle.term_spines.specs.Forms.{Takes, TakesNot}
use Rattle.term_spines.specs.Spines.{AtTerm}
use Rattle.term_spines.proofs.Waiting.{unnumbered}
use Rattle.term_spines.proofs.Waiting.{started_told}
use Rattle.term_spines.proofs.spines.at_term.Goals as goal

pub returns-clause-is : goal.returns-clause-is
returns-clause-is c =
    let t = c.args.arg.ty in
    let fun = c.in_ok-fun.fun in
    let told = started_told (TakesNot fun.ty t) (Takes fun t) c.in_ok-apply.field-0 c.started_again.result c.started_again.ensures.is c.in_ok-apply.ensures in
    subst (λ f. AtTerm f t c.started_again.result) c.in_ok-fun.ensures told

pub returns-clause-numbered : goal.returns-clause-numbered
returns-clause-numbered c = unnumbered c.args.types.now c.started_again.result c.started_again.ensures.number
