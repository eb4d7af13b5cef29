use Rattle.std.proofs.Common.{◌≡◌, ◌<◌, length, set, sym, subst, refl}
use Rattle.chw_terms.specs.declared.scene.Made.{Made}
use Rattle.moved_in_place.specs.Swapped.{IsSwapped}
use Rattle.made_table.proofs.Bodies.{body_kept, body_is}
use Rattle.made_table.proofs.definitions.Table.swap_part.Goals as goal

pub invariant_of-self : goal.invariant_of-self
invariant_of-self c =
    let made = c.self.inside.made.items in
    let n = c.args.made.number in
    let within : n < length made = subst (λ ms. n < length ms) (sym c.self.view_is) c.requires in
    body_kept made _ n c.index_mut-it.result.now _ c.self.invariant within c.index_mut-it.ensures.value refl

pub returns : goal.returns
returns c it h =
    let made = c.self.inside.made.items in
    let n = c.args.made.number in
    let x = c.index_mut-it.result.now in
    let new = c.swap_part.new.term in
    let within : n < length made = subst (λ ms. n < length ms) (sym c.self.view_is) c.requires in
    let same : x ≡ it = body_is made c.args.self.now n x it c.self.view_is within c.index_mut-it.ensures.value h in (
      new,
      subst (λ (m : Made). IsSwapped m.body c.args.path.now c.args.other.now new c.swap_part.new.other c.swap_part.result) same (c.swap_part.ensures.put, c.swap_part.ensures.taken),
      λ i. set (c.self.view_is i) n (record (same i) { body = new }),
    )
