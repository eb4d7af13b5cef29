use Rattle.std.proofs.Common.{◌≡◌, ◌++◌, ◌∷◌, [], ◌+◌, ◌<◌, ◌^◌, length, ap, ◌∙◌, sym, subst, arith, Some}
use Rattle.std.specs.Option.{option_flatten}
use Rattle.std.proofs.lemmas.Map.Text.{btree_map_updates_str}
use Rattle.name_tables.specs.Binders.{IsScope, level_at}
use Rattle.name_tables.specs.declared.scope.Binder.{Binder}
use Rattle.name_tables.proofs.Names.{IsWith}
use Rattle.name_tables.proofs.Scopes.{opened}
use Rattle.name_tables.proofs.scope.Scope.bind.Goals as goal

pub invariant_of-self-2 : goal.invariant_of-self-2
invariant_of-self-2 c =
    let old = c.self.inside.innermost in
    let new = c.insert.new.self in
    let binders = c.self.inside.binders.items in
    let binder : Binder = record { name = c.args.name; hidden = c.flatten-hidden.result } in
    let are = c.in_ok-push.ensures.items ∙ ap (λ bs. bs ++ binder ∷ []) c.in_ok-reserve.ensures.items in
    let few : length binders + 1 < 2 ^ 32 = omega arith in
    let hides : c.flatten-hidden.result ≡ level_at old c.args.name.now = c.flatten-hidden.ensures ∙ ap option_flatten c.in_ok-insert.ensures.old in
    let level : c.len-level.result ≡ length binders = omega arith in
    let with_it : IsWith old new c.args.name.now (Some (length binders)) =
    subst (λ level. IsWith old new c.args.name.now (Some level)) level (btree_map_updates_str c.args.name.now old new _ c.in_ok-insert.ensures.updates) in
    subst (IsScope new) (sym are) (opened old new binders binder c.self.invariant few hides with_it)
