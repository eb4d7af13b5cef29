use Rattle.std.proofs.Common.{◌∙◌, ◌++◌, ap, refl}
use Rattle.std.specs.Prelude.{option_to_list}
use Rattle.open_letrec.specs.declared.opened.OpenLetrec.TheInside.{Inside}
use Rattle.open_letrec.specs.Opened.{settled_one}
use Rattle.open_letrec.proofs.Stored.{stored_for, one_settled_for, sound, view_is}
use Rattle.open_letrec.proofs.opened.OpenLetrec.settle.Goals as goal

pub invariant_of-result : goal.invariant_of-result
invariant_of-result c =
    let o = c.self.inside in
    let v = c.args.self in
    let new : Inside = record { settled = c.push.new.self; waiting = c.pop.new.self; body = o.body; places = c.settle.new.self } in
    let popped = c.pop.ensures.items ∙ ap (λ x. c.pop.new.self.items ++ option_to_list x) c.in-Some.is in
    sound new (settled_one v) (one_settled_for o new v c.in-Some.binding (stored_for o v c.self.invariant c.self.view_is) c.in_ok-settle.ensures.agrees c.in_ok-settle.ensures.settled refl c.requires popped c.in_ok-push.ensures.items)

pub returns : goal.returns
returns c =
    let o = c.self.inside in
    let v = c.args.self in
    let new : Inside = record { settled = c.push.new.self; waiting = c.pop.new.self; body = o.body; places = c.settle.new.self } in
    let popped = c.pop.ensures.items ∙ ap (λ x. c.pop.new.self.items ++ option_to_list x) c.in-Some.is in
    view_is new (settled_one v) (one_settled_for o new v c.in-Some.binding (stored_for o v c.self.invariant c.self.view_is) c.in_ok-settle.ensures.agrees c.in_ok-settle.ensures.settled refl c.requires popped c.in_ok-push.ensures.items)
