use Rattle.std.proofs.Common.{◌≡◌, ◌+◌, ◌<◌, ◌^◌, ◌++◌, ◌∷◌, [], length, None, ap, ◌∙◌, sym, subst, arith}
use Rattle.std.proofs.lemmas.Map.Text.{btree_map_updates_str}
use Rattle.name_tables.specs.Names.{texts}
use Rattle.name_tables.specs.Places.{ArePlaces, at}
use Rattle.name_tables.proofs.Names.{IsWith, declared, no_place_at}
use Rattle.name_tables.proofs.space.Declared.declare.Goals as goal

pub invariant_of-self-2 : goal.invariant_of-self-2
invariant_of-self-2 c =
    let old = c.self.inside.places in
    let new = c.insert.new.self in
    let items = c.self.inside.names.items in
    let are = c.in_ok-push.ensures.items ∙ ap (λ names. names ++ c.args.name ∷ []) c.in_ok-reserve.ensures.items in
    let few : length items + 1 < 2 ^ 32 = omega arith in
    let absent : at old c.args.name.now ≡ None = no_place_at old c.args.name.now (sym c.contains_key.ensures ∙ c.if-contains_key.false) in
    let place : c.len-place.result ≡ length items = omega arith in
    let with_it : IsWith old new c.args.name.now (length items) =
    subst (IsWith old new c.args.name.now) place (btree_map_updates_str c.args.name.now old new _ c.in_ok-insert.ensures.updates) in
    subst (λ names. ArePlaces new (texts names)) (sym are) (declared old new items c.args.name c.self.invariant absent few with_it)
