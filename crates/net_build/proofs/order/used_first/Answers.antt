use Rattle.std.proofs.Common.{◌≡◌, ◌∙◌, ◌<◌, ◌∷◌, ◌++◌, [], ap, sym, subst, append-nil, length}
use Rattle.std.proofs.lemmas.List.{nil_from_length}
use Rattle.net_build.specs.Marks.{AreBelow, Placings}
use Rattle.net_build.specs.Tasks.{in_turn, visits, Leads, TasksAreBelow}
use Rattle.net_build.specs.Turns.{turns}
use Rattle.net_build.proofs.Tasks.{next_task, visits_alone, visits_below}
use Rattle.net_build.proofs.order.used_first.Goals as goal

pub loop-task-init : goal.loop-task-init
loop-task-init c =
    let made = c.args.made.now in
    let uses = c.args.uses.now in
    let are : in_turn c.push_visits.new.todo.items ≡ visits uses ++ [] = c.in_ok-push_visits.ensures ∙ ap (λ ts. visits uses ++ in_turn ts) c.new-todo.ensures.items in (
      λ datas marks end leads.
          visits_alone datas made uses (in_turn c.push_visits.new.todo.items) c.in_ok-placed.placed.order end
          (are ∙ append-nil (visits uses)) (ap (λ (p : Placings). p.order) c.in_ok-placed.ensures) leads,
      subst (λ ts. TasksAreBelow (length made) ts) (sym are) (visits_below (length made) uses [] c.requires.below tt),
      ap (λ (p : Placings). p.count) c.in_ok-placed.ensures,
    )

pub perform-requires-clause-count : goal.perform-requires-clause-count
perform-requires-clause-count c = c.loop-task.invariant.2

pub perform-requires-clause-below : goal.perform-requires-clause-below
perform-requires-clause-below c =
    subst (λ ts. TasksAreBelow (length c.args.made.now) ts)
    (ap in_turn c.in-Some.ensures.items ∙ next_task c.pop.new.self.items c.in-Some.task) c.loop-task.invariant.1

pub loop-task-preserved : goal.loop-task-preserved
loop-task-preserved c =
    let made = c.args.made.now in
    let turn : in_turn c.loop-task.todo.items ≡ c.in-Some.task ∷ in_turn c.pop.new.self.items =
    ap in_turn c.in-Some.ensures.items ∙ next_task c.pop.new.self.items c.in-Some.task in (
      λ datas marks end leads.
          c.loop-task.invariant.0 datas marks end
          (subst (λ ts. Leads datas made ts c.loop-task.placed.order end) (sym turn) (c.in_ok-perform.ensures.order datas marks end leads)),
      c.in_ok-perform.ensures.below,
      c.in_ok-perform.ensures.count,
    )

pub loop-task-smaller : goal.loop-task-smaller
loop-task-smaller c =
    let made = c.args.made.now in
    subst (λ ts. turns made (in_turn c.perform.new.todo.items) < turns made ts)
    (sym (ap in_turn c.in-Some.ensures.items ∙ next_task c.pop.new.self.items c.in-Some.task)) c.in_ok-perform.ensures.fewer

pub returns-clause-order : goal.returns-clause-order
returns-clause-order c = λ datas marks.
    let made = c.args.made.now in
    let none : c.loop-task.todo.items ≡ [] =
    nil_from_length c.loop-task.todo.items (sym c.loop-task.todo.ok.0 ∙ c.in_default.ensures.cases.0) in
    c.loop-task.invariant.0 datas marks c.into_order.result.items
    (subst (λ ts. Leads datas made (in_turn ts) c.loop-task.placed.order c.into_order.result.items) (sym none) (sym c.into_order.ensures.order))

pub returns-clause-below : goal.returns-clause-below
returns-clause-below c = subst (λ n. AreBelow n c.into_order.result.items) c.loop-task.invariant.2 c.into_order.ensures.below
