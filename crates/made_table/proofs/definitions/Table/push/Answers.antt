use Rattle.std.proofs.Common.{◌≡◌, ◌∙◌, ap, sym, subst, ◌+◌, [], ◌∷◌, ◌++◌, length, length-append, arith}
use Rattle.chw_terms.specs.declared.scene.Made.{Made}
use Rattle.made_table.specs.Held.{HoldsNone}
use Rattle.made_table.proofs.Keyed.{keys_more, signs_in}
use Rattle.made_table.proofs.definitions.Table.push.Goals as goal

pub invariant_of-self-2 : goal.invariant_of-self-2
invariant_of-self-2 c =
    let it : Made = c.args.it in
    let made = c.self.inside.made.items in
    let new = c.push.new.self.items in
    let are : new ≡ made ++ it ∷ [] = c.in_ok-push.ensures.items ∙ ap (λ ms. ms ++ it ∷ []) c.in_ok-reserve.ensures.items in
    let none : HoldsNone made it.origin = subst (λ ms. HoldsNone ms it.origin) (sym c.self.view_is) c.requires.none in
    let seen : length made ≡ length c.args.self.now = ap length c.self.view_is in
    let count : length new ≡ length made + 1 = ap length are ∙ length-append made (it ∷ []) in
    record {
      written = keys_more (λ k. k.items) c.self.inside.origins.keys c.insert.new.self.keys c.in_ok-signs.signs made it c.self.invariant.written c.in_ok-signs.ensures none c.in_ok-insert.ensures.keys
          ∙ ap signs_in (sym are);
      few = omega (arith, c.requires.room, seen, count);
    }
