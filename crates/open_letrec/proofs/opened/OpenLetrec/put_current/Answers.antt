use Rattle.std.proofs.Common.{refl, arith}
use Rattle.open_letrec.specs.declared.opened.OpenLetrec.TheInside.{Inside}
use Rattle.open_letrec.specs.Opened.{with_side}
use Rattle.open_letrec.proofs.Stored.{stored_for, many_left_kept, side_put_for, sound, view_is}
use Rattle.open_letrec.proofs.opened.OpenLetrec.put_current.Goals as goal

pub swap_last-requires : goal.swap_last-requires
swap_last-requires c =
    let o = c.self.inside in
    omega (arith, c.requires, many_left_kept o c.args.self.now (stored_for o c.args.self.now c.self.invariant c.self.view_is))

pub invariant_of-self : goal.invariant_of-self
invariant_of-self c =
    let o = c.self.inside in
    let v = c.args.self.now in
    let new : Inside = record o { waiting = c.swap_last.new.group } in
    sound new (with_side v c.args.side) (side_put_for o new v c.move_term.new.term c.swap_last.new.term c.args.side (stored_for o v c.self.invariant c.self.view_is) refl refl refl c.requires c.swap_last.ensures c.in_ok-move_term.ensures)

pub returns-clause-put : goal.returns-clause-put
returns-clause-put c =
    let o = c.self.inside in
    let v = c.args.self.now in
    let new : Inside = record o { waiting = c.swap_last.new.group } in
    view_is new (with_side v c.args.side) (side_put_for o new v c.move_term.new.term c.swap_last.new.term c.args.side (stored_for o v c.self.invariant c.self.view_is) refl refl refl c.requires c.swap_last.ensures c.in_ok-move_term.ensures)
