use Rattle.std.proofs.Common.{◌+◌, ◌<◌, refl, sym, ap, subst, ◌∙◌, List, ◌++◌, ◌∷◌, [], arith}
use Rattle.chw_types.specs.declared.declarations.Data.{Data}
use Rattle.type_ports.specs.Ports.{IsNoPort}
use Rattle.chw_check.specs.Counting.{CountsOn}
use Rattle.chw_check.proofs.LeavesCounted.{count_begins, count_goes_on, count_shrinks, count_fails, counts_too_many, count_ends}
use Rattle.chw_check.proofs.counting.leaf_count.Goals as goal

pub loop-next-init : goal.loop-next-init
loop-next-init c = (
  refl,
  count_begins c.args.table.now c.args.t.now c.in_ok-copy.field-0 c.push.new.self.items c.in_ok-copy.ensures (c.in_ok-push.ensures.items ∙ ap (λ s. s ++ c.in_ok-copy.field-0 ∷ []) c.new-todo.ensures.items),
  omega arith,
)

pub returns-in_default-2-clause-count : goal.returns-in_default-2-clause-count
returns-in_default-2-clause-count c =
    let none = subst (λ (ds : List Data). IsNoPort ds c.in-Some.next) c.loop-next.invariant.0 (rw c.in_default-2.is at c.in_ok-more.ensures.none) in
    count_fails c.args.table.now c.args.t.now c.in-Some.next c.loop-next.count c.args.most c.loop-next.todo.items c.pop.new.self.items c.in-Some.ensures.items none c.loop-next.invariant.1

pub returns-then-most-count-clause-count : goal.returns-then-most-count-clause-count
returns-then-most-count-clause-count c =
    let todo = c.look_at-looked.new.todo.items in
    let looks = subst (λ (ds : List Data). CountsOn ds c.in-Some.next c.in-Some-2.more c.pop.new.self.items todo) c.loop-next.invariant.0 (rw c.in-Some-2.is at c.in_ok-more.ensures.some) in
    let passed : c.args.most < c.loop-next.count + c.in-Some-2.more = omega (arith, c.loop-next.invariant.2) in
    counts_too_many c.args.table.now c.args.t.now (c.loop-next.count + c.in-Some-2.more) c.args.most todo passed
    (count_goes_on c.args.table.now c.args.t.now c.in-Some.next c.loop-next.count c.in-Some-2.more c.loop-next.todo.items c.pop.new.self.items todo c.in-Some.ensures.items looks c.loop-next.invariant.1)

pub loop-next-preserved : goal.loop-next-preserved
loop-next-preserved c =
    let todo = c.look_at-looked.new.todo.items in
    let looks = subst (λ (ds : List Data). CountsOn ds c.in-Some.next c.in-Some-2.more c.pop.new.self.items todo) c.loop-next.invariant.0 (rw c.in-Some-2.is at c.in_ok-more.ensures.some) in (
      c.in_ok-more.ensures.same ∙ c.loop-next.invariant.0,
      count_goes_on c.args.table.now c.args.t.now c.in-Some.next c.loop-next.count c.in-Some-2.more c.loop-next.todo.items c.pop.new.self.items todo c.in-Some.ensures.items looks c.loop-next.invariant.1,
      omega (arith, c.loop-next.invariant.2),
    )

pub loop-next-smaller : goal.loop-next-smaller
loop-next-smaller c =
    let todo = c.look_at-looked.new.todo.items in
    let looks = subst (λ (ds : List Data). CountsOn ds c.in-Some.next c.in-Some-2.more c.pop.new.self.items todo) c.loop-next.invariant.0 (rw c.in-Some-2.is at c.in_ok-more.ensures.some) in
    count_shrinks c.args.table.now c.requires c.in-Some.next c.in-Some-2.more c.loop-next.todo.items c.pop.new.self.items todo c.in-Some.ensures.items looks

pub returns-clause-count : goal.returns-clause-count
returns-clause-count c = (
  count_ends c.args.table.now c.args.t.now c.loop-next.count c.loop-next.todo.items (sym c.loop-next.todo.ok.0 ∙ c.in_default.ensures.cases.0) c.loop-next.invariant.1,
  c.loop-next.invariant.2,
)
