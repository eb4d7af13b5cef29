use Rattle.std.proofs.Common.{◌≡◌, ◌∙◌, ap, [], length, arith}
use Rattle.open_letrec.specs.declared.opened.OpenLetrec.TheInside.{Inside}
use Rattle.open_letrec.specs.Opened.{Opened}
use Rattle.open_letrec.specs.Stored.{stored}
use Rattle.open_letrec.proofs.Stored.{opened, sound, view_is}
use Rattle.open_letrec.proofs.opened.OpenLetrec.open.Goals as goal

pub invariant_of-result : goal.invariant_of-result
invariant_of-result c =
    let p = c.grow.new.self in
    let o : Inside = record { settled = c.new.result; waiting = c.move_group.new.group; body = c.move_term.new.term; places = p } in
    let v : Opened = record { settled = []; left = c.args.group.items; body = c.args.body } in
    let count : c.len.result ≡ length c.args.group.items = omega (arith, c.len.ensures, c.args.group.ok.0) in
    sound o v (opened o c.none-places.result c.args.group.items c.args.body c.len.result c.in_ok-grow.ensures.agrees c.none-places.ensures.settled c.none-places.ensures.waiting c.in_ok-grow.ensures.more count c.new.ensures.items (c.in_ok-move_group.ensures ∙ ap (stored p) c.turn.ensures) c.in_ok-move_term.ensures)

pub returns : goal.returns
returns c =
    let p = c.grow.new.self in
    let o : Inside = record { settled = c.new.result; waiting = c.move_group.new.group; body = c.move_term.new.term; places = p } in
    let v : Opened = record { settled = []; left = c.args.group.items; body = c.args.body } in
    let count : c.len.result ≡ length c.args.group.items = omega (arith, c.len.ensures, c.args.group.ok.0) in
    view_is o v (opened o c.none-places.result c.args.group.items c.args.body c.len.result c.in_ok-grow.ensures.agrees c.none-places.ensures.settled c.none-places.ensures.waiting c.in_ok-grow.ensures.more count c.new.ensures.items (c.in_ok-move_group.ensures ∙ ap (stored p) c.turn.ensures) c.in_ok-move_term.ensures)
