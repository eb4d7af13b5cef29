use Rattle.std.proofs.Common.{◌-◌, sym, refl, arith, ℕ, List}
use Rattle.std.specs.List.{slice_index}
use Rattle.std.proofs.lemmas.Grind.{get_or_default_zero}
use Rattle.net_build.proofs.Tasks.{visits_grown}
use Rattle.net_build.proofs.order.push_visits.Goals as goal

pub loop-i-preserved : goal.loop-i-preserved
loop-i-preserved c =
    let uses : List ℕ = c.args.uses.now in
    let i : ℕ = c.loop-i.i in
    let m : ℕ = slice_index uses (i - 1) in
    visits_grown uses i (i - 1) m c.loop-i.todo.items c.push.new.self.items _ refl (omega (arith, c.loop-i-test.true)) (omega (arith, c.loop-i.auto.i))
    (sym (get_or_default_zero uses (i - 1) m (omega (arith, c.loop-i-test.true, c.loop-i.auto.i)))) c.in_ok-push.ensures.items c.loop-i.invariant
