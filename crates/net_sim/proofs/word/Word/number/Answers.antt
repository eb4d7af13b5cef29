use Rattle.net_sim.proofs.Keeping.{narrow_known, number_read, small_known}
use Rattle.net_sim.proofs.word.Word.number.Goals as goal

pub returns-in-Small-clause-bits : goal.returns-in-Small-clause-bits
returns-in-Small-clause-bits c =
    (number_read _ _ _ _ _ (small_known _ _ _ _ c.in-Small.is c.self.invariant c.self.view_is) c.from.ensures).bits_are

pub returns-in-Small-clause-below : goal.returns-in-Small-clause-below
returns-in-Small-clause-below c =
    (number_read _ _ _ _ _ (small_known _ _ _ _ c.in-Small.is c.self.invariant c.self.view_is) c.from.ensures).below

pub returns-in-Small-clause-number : goal.returns-in-Small-clause-number
returns-in-Small-clause-number c =
    (number_read _ _ _ _ _ (small_known _ _ _ _ c.in-Small.is c.self.invariant c.self.view_is) c.from.ensures).number_is

pub returns-in-Narrow-clause-bits : goal.returns-in-Narrow-clause-bits
returns-in-Narrow-clause-bits c =
    (number_read _ _ _ _ _ (narrow_known _ _ _ _ c.in-Narrow.is c.self.invariant c.self.view_is) c.deref.ensures).bits_are

pub returns-in-Narrow-clause-below : goal.returns-in-Narrow-clause-below
returns-in-Narrow-clause-below c =
    (number_read _ _ _ _ _ (narrow_known _ _ _ _ c.in-Narrow.is c.self.invariant c.self.view_is) c.deref.ensures).below

pub returns-in-Narrow-clause-number : goal.returns-in-Narrow-clause-number
returns-in-Narrow-clause-number c =
    (number_read _ _ _ _ _ (narrow_known _ _ _ _ c.in-Narrow.is c.self.invariant c.self.view_is) c.deref.ensures).number_is
