use Rattle.std.proofs.Common.{◌≡◌, ◌∙◌, ap, sym, Some, true, false, arith}
use Rattle.std.specs.List.{slice_get}
use Rattle.std.proofs.lemmas.Option.{slice_get-get_or}
use Rattle.std.proofs.lemmas.Result.{on_ok_weaker}
use Rattle.net_build.specs.Tasks.{in_turn}
use Rattle.net_build.proofs.Tasks.{visit_placed, visit_empty, visit_opened, opened_below}
use Rattle.net_build.proofs.Turns.{fewer_visited, fewer_opened}
use Rattle.net_build.proofs.order.visit.Goals as goal

pub has-requires : goal.has-requires
has-requires c = omega (arith, c.requires.count, c.requires.below.0)

pub bounds-has-m : goal.bounds-has-m
bounds-has-m c = omega (arith, c.requires.marks, c.requires.below.0)

pub open_uses-requires-clause-m : goal.open_uses-requires-clause-m
open_uses-requires-clause-m c = c.requires.below.0

pub returns-then-has-clause-order : goal.returns-then-has-clause-order
returns-then-has-clause-order c = λ datas marks.
    visit_placed datas c.args.made.now c.args.m (in_turn c.args.todo.now.items) c.args.placed.now.order (sym c.has.ensures ∙ c.if-has.true)

pub returns-then-has-clause-below : goal.returns-then-has-clause-below
returns-then-has-clause-below c = c.requires.below.1

pub returns-then-has-clause-fewer : goal.returns-then-has-clause-fewer
returns-then-has-clause-fewer c = fewer_visited c.args.made.now c.args.m (in_turn c.args.todo.now.items)

pub returns-then-not-has-m-clause-order : goal.returns-then-not-has-m-clause-order
returns-then-not-has-m-clause-order c = λ datas marks.
    let has = c.args.has.now in
    let m = c.args.m in
    let none : slice_get has m ≡ Some false =
    slice_get-get_or has m false (omega (arith, c.requires.marks, c.requires.below.0)) ∙ ap Some c.if-not-has-m.true in
    visit_empty datas c.args.made.now has m (in_turn c.args.todo.now.items) c.args.placed.now.order (sym c.has.ensures ∙ c.if-has.false) none marks

pub returns-then-not-has-m-clause-below : goal.returns-then-not-has-m-clause-below
returns-then-not-has-m-clause-below c = c.requires.below.1

pub returns-then-not-has-m-clause-fewer : goal.returns-then-not-has-m-clause-fewer
returns-then-not-has-m-clause-fewer c = fewer_visited c.args.made.now c.args.m (in_turn c.args.todo.now.items)

pub returns-clause-order : goal.returns-clause-order
returns-clause-order c =
    let has = c.args.has.now in
    let m = c.args.m in
    let some : slice_get has m ≡ Some true =
    slice_get-get_or has m false (omega (arith, c.requires.marks, c.requires.below.0)) ∙ ap Some c.if-not-has-m.false in
    on_ok_weaker c.open_uses.result
    (λ opens datas marks. visit_opened datas c.args.made.now has m (in_turn c.args.todo.now.items) (in_turn c.open_uses.new.todo.items) c.args.placed.now.order
    (sym c.has.ensures ∙ c.if-has.false) some opens marks)
    c.open_uses.ensures

pub returns-clause-below : goal.returns-clause-below
returns-clause-below c =
    on_ok_weaker c.open_uses.result
    (λ opens. opened_below c.args.made.now c.args.m (in_turn c.args.todo.now.items) (in_turn c.open_uses.new.todo.items) opens c.requires.below.0 c.requires.below.1)
    c.open_uses.ensures

pub returns-clause-fewer : goal.returns-clause-fewer
returns-clause-fewer c =
    on_ok_weaker c.open_uses.result
    (λ opens. fewer_opened c.args.made.now c.args.m (in_turn c.args.todo.now.items) (in_turn c.open_uses.new.todo.items) c.requires.acyclic c.requires.there c.requires.below.0 opens)
    c.open_uses.ensures
