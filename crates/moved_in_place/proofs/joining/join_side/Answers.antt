use Rattle.std.proofs.Common.{◌≡◌, ◌∙◌, ◌++◌, ◌∷◌, [], ap}
use Rattle.std.specs.Prelude.{option_to_list}
use Rattle.std.proofs.lemmas.Result.{on_ok_weaker}
use Rattle.moved_in_place.proofs.JoinedLets.{before_last, last_there, with_side_at}
use Rattle.moved_in_place.proofs.joining.join_side.Goals as goal

pub returns : goal.returns
returns c =
    let bs = c.args.group.now.items in
    let i = c.args.i in
    let now = c.split_off.new.self in
    let front = c.pop.new.self.items in
    let side = c.in-Some.side in
    let whole = c.in_ok-back.ensures.items in
    let some : now.items ≡ front ++ side ∷ [] = c.pop.ensures.items ∙ ap (λ o. front ++ option_to_list o) c.in-Some.is in
    let first = before_last i _ bs now.items front whole c.in_ok-back.ensures.len c.pop.ensures.rest in
    on_ok_weaker c.join_between.result
    (λ h. with_side_at bs front c.in_ok-back.back.items c.join_between.new.front.items side i c.args.body.now c.join_between.new.body c.requires.0 (last_there i bs now.items front side c.requires.0 whole first some) first c.in_ok-back.ensures.tail h)
    c.join_between.ensures
