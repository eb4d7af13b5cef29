use Rattle.std.proofs.Common.{◌≡◌, ℕ, IfNone, subst}
use Rattle.chw_types.specs.TypeTree.{nat_lit}
use Rattle.chw_terms.specs.Evaluated.{evaluated}
use Rattle.work_prims.proofs.Lists.{mapped_alike}
use Rattle.work_prims.proofs.results.numbers.Goals as goal

pub returns-in_default-clause-none : goal.returns-in_default-clause-none
returns-in_default-clause-none c ns q =
    let it = mapped_alike evaluated (λ n. nat_lit n) c.args.types.now ns c.loop-ty.ty-index c.ty-item.result _ c.loop-ty-test.true c.ty-item.is q in
    (subst (λ r. IfNone r ((n : ℕ) → evaluated c.ty-item.result ≡ nat_lit n → ⊥)) c.in_default.is c.in_ok-n.ensures.none) it.0 it.1
