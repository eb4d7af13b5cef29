use Rattle.std.proofs.Common.{refl}
use Rattle.std.proofs.lemmas.Result.{IfOk-weaker}
use Rattle.work_prims.proofs.unrolled.may_unroll.Goals as goal

pub returns-in-VAt : goal.returns-in-VAt
returns-in-VAt c = IfOk-weaker c.begins_unnamed.result _ _ (λ b h. (λ t w. h.0 t, λ f. h.1 (f c.in-VAt.is))) c.begins_unnamed.ensures

pub returns-in_default : goal.returns-in_default
returns-in_default c = (λ t w. absurd (c.in_default.not-VAt w), λ f. refl)
