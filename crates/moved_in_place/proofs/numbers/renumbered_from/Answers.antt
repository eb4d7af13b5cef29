use Rattle.std.proofs.Common.{◌≡◌, ◌∙◌, ◌+◌, ap, sym, subst, arith, IfOk}
use Rattle.chw_types.specs.TypeMoves.{lift_by}
use Rattle.moved_in_place.proofs.Renamed.{lifted_below, lifted_above}
use Rattle.moved_in_place.proofs.numbers.renumbered_from.Goals as goal

pub returns-then-x-from : goal.returns-then-x-from
returns-then-x-from g c = sym (lifted_below c.args.from (g.R.Renumbering.renaming c.args.how.now) c.args.x c.if-x-from.true)

pub returns : goal.returns
returns g c =
    let ρ = g.R.Renumbering.renaming c.args.how.now in
    let is : c.in_ok-outer.outer + c.args.from ≡ lift_by c.args.from ρ c.args.x =
    ap (λ n. n + c.args.from) c.in_ok-outer.ensures ∙ sym (lifted_above c.args.from ρ c.args.x (omega (arith, c.if-x-from.false))) in
    subst (λ n. IfOk c.deeper.result (λ y. y ≡ n)) is c.deeper.ensures
