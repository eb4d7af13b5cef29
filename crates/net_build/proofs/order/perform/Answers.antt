use Rattle.std.proofs.Common.{◌∷◌, ◌∙◌, ◌<◌, ap, sym, subst, arith, length}
use Rattle.std.proofs.lemmas.Result.{on_ok_weaker}
use Rattle.net_build.specs.Marks.{Placings}
use Rattle.net_build.specs.Tasks.{Continues, TasksAreBelow, in_turn}
use Rattle.net_build.specs.declared.order.Task.{Task}
use Rattle.net_build.specs.Turns.{turns}
use Rattle.net_build.proofs.Tasks.{task_placed}
use Rattle.net_build.proofs.Turns.{fewer_placed}
use Rattle.net_build.proofs.order.perform.Goals as goal

pub visit-requires-clause-below : goal.visit-requires-clause-below
visit-requires-clause-below c = subst (λ (t : Task). TasksAreBelow (length c.args.made.now) (t ∷ in_turn c.args.todo.now.items)) c.in-Visit.is c.requires.below

pub put-requires : goal.put-requires
put-requires c =
    let l = (subst (λ (t : Task). TasksAreBelow (length c.args.made.now) (t ∷ in_turn c.args.todo.now.items)) c.in-Place.is c.requires.below).0 in
    omega (arith, c.requires.count, l)

pub returns-in-Visit-clause-order : goal.returns-in-Visit-clause-order
returns-in-Visit-clause-order c =
    let made = c.args.made.now in
    let placed = c.args.placed.now.order in
    on_ok_weaker c.visit.result
    (λ goes datas marks. subst (λ (t : Task). Continues datas made (t ∷ in_turn c.args.todo.now.items) placed (in_turn c.visit.new.todo.items) placed) (sym c.in-Visit.is) (goes datas marks))
    c.visit.ensures.order

pub returns-in-Visit-clause-fewer : goal.returns-in-Visit-clause-fewer
returns-in-Visit-clause-fewer c =
    let made = c.args.made.now in
    on_ok_weaker c.visit.result
    (λ l. subst (λ (t : Task). turns made (in_turn c.visit.new.todo.items) < turns made (t ∷ in_turn c.args.todo.now.items)) (sym c.in-Visit.is) l)
    c.visit.ensures.fewer

pub returns-in-Place-clause-order : goal.returns-in-Place-clause-order
returns-in-Place-clause-order c =
    let made = c.args.made.now in
    let tasks = in_turn c.args.todo.now.items in
    let before = c.args.placed.now.order in
    let after = c.put.new.self.order in
    on_ok_weaker c.put.result
    (λ is datas marks. subst (λ (t : Task). Continues datas made (t ∷ tasks) before tasks after) (sym c.in-Place.is)
    (task_placed datas made c.in-Place.m tasks before after (ap (λ (p : Placings). p.order) is)))
    c.put.ensures

pub returns-in-Place-clause-below : goal.returns-in-Place-clause-below
returns-in-Place-clause-below c = on_ok_weaker c.put.result (λ is. c.requires.below.1) c.put.ensures

pub returns-in-Place-clause-count : goal.returns-in-Place-clause-count
returns-in-Place-clause-count c = on_ok_weaker c.put.result (λ is. ap (λ (p : Placings). p.count) is ∙ c.requires.count) c.put.ensures

pub returns-in-Place-clause-fewer : goal.returns-in-Place-clause-fewer
returns-in-Place-clause-fewer c =
    let made = c.args.made.now in
    let tasks = in_turn c.args.todo.now.items in
    on_ok_weaker c.put.result
    (λ is. subst (λ (t : Task). turns made tasks < turns made (t ∷ tasks)) (sym c.in-Place.is) (fewer_placed made c.in-Place.m tasks))
    c.put.ensures
