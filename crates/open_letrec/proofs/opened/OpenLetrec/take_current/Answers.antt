use Rattle.std.proofs.Common.{◌∙◌, sym, refl, arith}
use Rattle.chw_terms.specs.TermTree.{global}
use Rattle.open_letrec.specs.declared.opened.OpenLetrec.TheInside.{Inside}
use Rattle.open_letrec.specs.Opened.{with_side}
use Rattle.open_letrec.proofs.Stored.{stored_for, many_left_kept, side_put_for, side_taken, global_stored, sound, view_is}
use Rattle.open_letrec.proofs.opened.OpenLetrec.take_current.Goals as goal

pub swap_last-requires : goal.swap_last-requires
swap_last-requires c =
    let o = c.self.inside in
    omega (arith, c.requires, many_left_kept o c.args.self.now (stored_for o c.args.self.now c.self.invariant c.self.view_is))

pub invariant_of-self : goal.invariant_of-self
invariant_of-self c =
    let o = c.self.inside in
    let v = c.args.self.now in
    let new : Inside = record o { waiting = c.swap_last.new.group } in
    let hole = c.global-side.ensures ∙ global_stored o.places 0 in
    sound new (with_side v (global 0)) (side_put_for o new v c.global-side.result c.swap_last.new.term (global 0) (stored_for o v c.self.invariant c.self.view_is) refl refl refl c.requires c.swap_last.ensures hole)

pub invariant_of-self-2 : goal.invariant_of-self-2
invariant_of-self-2 c =
    let o = c.self.inside in
    let v = c.args.self.now in
    let new : Inside = record o { waiting = c.swap_last.new.group } in
    let hole = c.global-side.ensures ∙ global_stored o.places 0 in
    sound new (with_side v (global 0)) (side_put_for o new v c.global-side.result c.swap_last.new.term (global 0) (stored_for o v c.self.invariant c.self.view_is) refl refl refl c.requires c.swap_last.ensures hole)

pub returns : goal.returns
returns c =
    let o = c.self.inside in
    let v = c.args.self.now in
    let new : Inside = record o { waiting = c.swap_last.new.group } in
    let hole = c.global-side.ensures ∙ global_stored o.places 0 in
    let f = stored_for o v c.self.invariant c.self.view_is in
    let seen = view_is new (with_side v (global 0)) (side_put_for o new v c.global-side.result c.swap_last.new.term (global 0) f refl refl refl c.requires c.swap_last.ensures hole) in
    side_taken o c.swap_last.new.group.items c.global-side.result c.swap_last.new.term (global 0) v f c.requires c.swap_last.ensures
    ∙ (λ i. with_side (sym seen i) (sym c.in_ok-move_term.ensures i))
