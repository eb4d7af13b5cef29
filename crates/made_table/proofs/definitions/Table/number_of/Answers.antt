use Rattle.std.proofs.Common.{sym, subst}
use Rattle.made_table.specs.Held.{HoldsNone, IsFirstOf}
use Rattle.made_table.proofs.Keyed.{first_found, none_found}
use Rattle.made_table.proofs.definitions.Table.number_of.Goals as goal

pub returns-in-Some-clause-some : goal.returns-in-Some-clause-some
returns-in-Some-clause-some c =
    subst (λ made. IsFirstOf made c.args.origin.now c.in-Some.at) c.self.view_is
    (first_found (λ k. k.items) c.self.inside.origins.keys c.self.inside.made.items c.in_ok-signs.signs.items c.args.origin.now c.in-Some.at c.self.invariant.written c.in_ok-signs.ensures (sym c.in-Some.ensures.index))

pub returns-clause-none : goal.returns-clause-none
returns-clause-none c =
    subst (λ made. HoldsNone made c.args.origin.now) c.self.view_is
    (none_found (λ k. k.items) c.self.inside.origins.keys c.self.inside.made.items c.in_ok-signs.signs.items c.args.origin.now c.self.invariant.written c.in_ok-signs.ensures (sym c.in-None.ensures.found))
