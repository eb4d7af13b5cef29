use Rattle.std.proofs.Common.{◌≡◌, ◌∙◌, ◌+◌, ◌-◌, length, arith, sym, ap}
use Rattle.chw_terms.specs.TermView.{group_of}
use Rattle.chw_typing.specs.Scopes.{declared}
use Rattle.active_parts.specs.Grounds.{with_variables}
use Rattle.letrec_runs.specs.Rush.{place_in}
use Rattle.letrec_runs.proofs.InScope.{place_joined, count_in_scope}
use Rattle.letrec_runs.proofs.rush.Rush.joined.Goals as goal

pub overflow_sub-before : goal.overflow_sub-before
overflow_sub-before c =
    let count = count_in_scope c.requires.stands.0 c.args.self.place c.args.self.apart c.requires.stands.1 in
    omega (arith, count, c.len.ensures, c.left.ensures)

pub insert_all-requires : goal.insert_all-requires
insert_all-requires c = omega (arith, c.len.ensures)

pub returns-clause-apart : goal.returns-clause-apart
returns-clause-apart c = (c.take_let-group.result.0.items, c.take_let-group.result.1, c.take_let-group.ensures, c.in_ok-apart.ensures)

pub returns-clause-place : goal.returns-clause-place
returns-clause-place c outer stands =
    let v = c.args.self.apart in
    let all = count_in_scope outer c.args.self.place v stands in
    let n = c.len.result - c.left.result in
    let count : n ≡ length outer.vars + length v.settled = omega (arith, all, c.len.ensures, c.left.ensures) in
    place_joined outer c.args.self.place (with_variables c.args.self.place c.insert_all.new.self) v c.take_let-group.result.0.items c.take_let-group.result.1 c.in_ok-types.types.items
    n stands (c.in_ok-types.ensures ∙ ap (λ bs. declared (group_of bs)) c.as_slice.ensures.value)
    count (ap (with_variables c.args.self.place) c.in_ok-insert_all.ensures)
    ∙ ap (place_in outer) (sym c.in_ok-apart.ensures)
