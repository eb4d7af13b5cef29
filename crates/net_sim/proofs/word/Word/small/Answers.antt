use Rattle.std.proofs.Common.{refl}
use Rattle.net_sim.proofs.Keeping.{is_small, number_read, small_known}
use Rattle.net_sim.proofs.word.Word.small.Goals as goal

pub unreachable-requires : goal.unreachable-requires
unreachable-requires c = is_small _ _ c.self.invariant c.self.view_is c.in_default.not-Small c.requires

pub returns-clause-bits : goal.returns-clause-bits
returns-clause-bits c =
    (number_read _ _ _ _ _ (small_known _ _ _ _ c.in-Small.is c.self.invariant c.self.view_is) refl).bits_are

pub returns-clause-below : goal.returns-clause-below
returns-clause-below c =
    (number_read _ _ _ _ _ (small_known _ _ _ _ c.in-Small.is c.self.invariant c.self.view_is) refl).below

pub returns-clause-number : goal.returns-clause-number
returns-clause-number c =
    (number_read _ _ _ _ _ (small_known _ _ _ _ c.in-Small.is c.self.invariant c.self.view_is) refl).number_is
