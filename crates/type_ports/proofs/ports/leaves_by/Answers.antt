use Rattle.std.proofs.Common.{sym, ap, subst, ◌∙◌, ◌++◌, ◌∷◌, [], List, refl}
use Rattle.chw_types.specs.declared.declarations.Data.{Data}
use Rattle.type_ports.specs.PortsFound.{Looked}
use Rattle.type_ports.proofs.LeavesFound.{search_begins, search_goes_on, search_shrinks, search_ends, on_true}
use Rattle.type_ports.proofs.ports.leaves_by.Goals as goal

pub loop-next-init : goal.loop-next-init
loop-next-init c = (
  refl,
  search_begins c.args.table.now c.args.t.now c.in_ok-copy.field-0 c.new-found.result.items c.push.new.self.items c.in_ok-copy.ensures c.new-found.ensures.items (c.in_ok-push.ensures.items ∙ ap (λ s. s ++ c.in_ok-copy.field-0 ∷ []) c.new-todo.ensures.items),
)

pub loop-next-preserved : goal.loop-next-preserved
loop-next-preserved c =
    let found = c.loop-next.found.items in
    let todo = c.look_at-port.new.todo.items in
    let looked = subst (λ (ds : List Data). Looked ds c.in-Some.next found c.look_at-port.new.found.items c.pop.new.self.items todo) c.loop-next.invariant.0 (on_true c.in_ok-port.field-0 _ c.if-not-branch.false c.in_ok-port.ensures.yes) in (
      c.in_ok-port.ensures.same ∙ c.loop-next.invariant.0,
      search_goes_on c.args.table.now c.args.t.now c.in-Some.next found c.look_at-port.new.found.items c.loop-next.todo.items c.pop.new.self.items todo c.in-Some.ensures.items looked c.loop-next.invariant.1,
    )

pub loop-next-smaller : goal.loop-next-smaller
loop-next-smaller c =
    let found = c.loop-next.found.items in
    let todo = c.look_at-port.new.todo.items in
    let looked = subst (λ (ds : List Data). Looked ds c.in-Some.next found c.look_at-port.new.found.items c.pop.new.self.items todo) c.loop-next.invariant.0 (on_true c.in_ok-port.field-0 _ c.if-not-branch.false c.in_ok-port.ensures.yes) in
    search_shrinks c.args.table.now c.requires c.in-Some.next found c.look_at-port.new.found.items c.loop-next.todo.items c.pop.new.self.items todo c.in-Some.ensures.items looked

pub returns-clause-some : goal.returns-clause-some
returns-clause-some c =
    search_ends c.args.table.now c.args.t.now c.loop-next.found.items c.loop-next.todo.items (sym c.loop-next.todo.ok.0 ∙ c.in_default.ensures.cases.0) c.loop-next.invariant.1
