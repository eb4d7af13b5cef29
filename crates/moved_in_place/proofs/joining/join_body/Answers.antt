use Rattle.std.proofs.Common.{◌≡◌, ◌∙◌, ◌++◌, ap, length, arith}
use Rattle.std.proofs.lemmas.Result.{on_ok_weaker}
use Rattle.moved_in_place.proofs.JoinedLets.{with_body}
use Rattle.moved_in_place.proofs.joining.join_body.Goals as goal

pub returns : goal.returns
returns c =
    let inner = c.take_group-inner.result in
    let count : c.len.result ≡ length inner.items = omega (arith, c.len.ensures, inner.ok.0) in
    on_ok_weaker c.append.result
    (λ h. with_body c.args.group.now.items inner.items c.append.new.group.items c.args.body.now c.take_group-inner.new.term c.len.result c.take_group-inner.ensures count (h ∙ ap (λ xs. xs ++ inner.items) c.in_ok-make_room.ensures))
    c.append.ensures
