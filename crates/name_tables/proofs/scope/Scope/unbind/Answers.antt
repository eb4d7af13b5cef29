use Rattle.std.proofs.Common.{ap, sym}
use Rattle.std.specs.Option.{is_some}
use Rattle.std.proofs.lemmas.Map.Text.{btree_map_updates_str}
use Rattle.name_tables.proofs.Scopes.{closed, innermost_known}
use Rattle.name_tables.proofs.scope.Scope.unbind.Goals as goal

pub invariant_of-self : goal.invariant_of-self
invariant_of-self c =
    let there = sym (ap is_some c.in-Some-get_mut.ensures.value) in
    let writes = c.get_mut.follows.holds c.in-Some.binder.hidden in
    let new = c.get_mut.follows.lender c.in-Some.binder.hidden in
    let with_it = btree_map_updates_str c.in-Some.binder.name.now c.self.inside.innermost new _ (writes.3 there) in
    closed c.self.inside.innermost new c.self.inside.binders.items c.pop.new.self.items c.in-Some.binder
    c.self.invariant c.in-Some.ensures.items with_it

pub invariant_of-self-in_default-get_mut : goal.invariant_of-self-in_default-get_mut
invariant_of-self-in_default-get_mut c = absurd (innermost_known c.self.inside.innermost c.self.inside.binders.items c.pop.new.self.items c.in-Some.binder c.self.invariant c.in-Some.ensures.items (sym c.in_default-get_mut.ensures.value))
