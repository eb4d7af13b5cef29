use Rattle.std.proofs.Common.{List, subst}
use Rattle.std.specs.Prelude.{IfNone, IfSome}
use Rattle.wave_text.specs.Faults.{IsBackAt}
use Rattle.wave_text.specs.VcdText.{Moment, Rise}
use Rattle.wave_read.proofs.rules.back_at.Goals as goal

pub returns-clause-some : goal.returns-clause-some
returns-clause-some c =
    subst (λ (ts : List Moment). IfSome c.back_among.result (IsBackAt ts)) c.parts.ensures.times (c.back_among.ensures.some c.parts.result.1.now)

pub returns-clause-none : goal.returns-clause-none
returns-clause-none c =
    subst (λ (ts : List Moment). IfNone c.back_among.result (Rise ts)) c.parts.ensures.times (c.back_among.ensures.none c.parts.result.1.now)
