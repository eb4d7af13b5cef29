use Rattle.std.proofs.lemmas.Result.{on_ok_weaker}
use Rattle.moved_in_place.proofs.JoinedLets.{with_side}
use Rattle.moved_in_place.proofs.joining.join_between.Goals as goal

pub returns : goal.returns
returns c =
    let inner = c.take_group-inner.result in
    let new = c.renumber_parts.new in
    let parts = c.in_ok-renumber_parts.ensures in
    let t = c.args.side.ty in
    on_ok_weaker c.put_together.result
    (λ h. with_side c.args.front.now.items inner.items c.args.back.items new.front.items new.inner.items new.back.items c.put_together.new.front.items c.args.side (record { ty = t; body = new.within }) c.take_group-inner.new.term c.args.body.now new.body
    c.take_group-inner.ensures parts.front parts.inner (λ i. record { ty = t; body = parts.within i }) parts.back parts.body h)
    c.put_together.ensures
