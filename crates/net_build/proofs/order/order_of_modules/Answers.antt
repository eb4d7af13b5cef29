use Rattle.std.proofs.Common.{◌∙◌, [], sym, refl, subst, length, List, ℕ}
use Rattle.net_built.specs.Modules.{AllVisited}
use Rattle.net_build.specs.Marks.{AreBelow}
use Rattle.net_build.proofs.Marks.{one_more_below}
use Rattle.net_build.proofs.order.order_of_modules.Goals as goal

pub used_first-requires-clause-below : goal.used_first-requires-clause-below
used_first-requires-clause-below c = subst (λ (us : List ℕ). AreBelow (length c.args.made.now) us) (sym c.deref.ensures.value) c.in_ok-uses.ensures.below

pub returns-clause-order : goal.returns-clause-order
returns-clause-order c = λ datas marks.
    let made = c.args.made.now in
    let below = c.in_ok-order.order.items in
    record {
      top = c.in_ok-uses.ensures.it;
      is_top = c.in_ok-uses.ensures.is;
      below = below;
      visited = subst (λ (us : List ℕ). AllVisited datas made [] us below) (c.deref.ensures.value ∙ c.in_ok-uses.ensures.are) (c.in_ok-order.ensures.order datas marks);
      whole = c.in_ok-push.ensures.items;
    }

pub returns-clause-below : goal.returns-clause-below
returns-clause-below c =
    let count = length c.args.made.now in
    one_more_below count count 0 c.in_ok-order.order.items c.push.new.self.items refl c.in_ok-push.ensures.items c.requires.first c.in_ok-order.ensures.below
