use Rattle.std.proofs.Common.{subst}
use Rattle.name_tables.specs.Names.{AreDistinct}
use Rattle.name_tables.proofs.space.Declared.len.Goals as goal

pub returns-clause-distinct : goal.returns-clause-distinct
returns-clause-distinct c = subst AreDistinct c.self.view_is c.self.invariant.distinct
