use Rattle.std.proofs.Common.{◌≡◌, sym, subst, [], ◌∷◌, arith}
use Rattle.std.proofs.lemmas.List.{nil_from_length}
use Rattle.step_search.specs.Begins.{BeginsAt}
use Rattle.step_search.proofs.Begins.{begins_anywhere, begins_later}
use Rattle.step_search.proofs.paths.begin_at_child.Goals as goal

pub returns-in_default : goal.returns-in_default
returns-in_default c =
    let none : c.args.from.now ≡ [] = nil_from_length _ c.in_default.ensures.cases in
    subst (λ z. BeginsAt (c.args.number ∷ []) z z) (sym none) (begins_anywhere (c.args.number ∷ []))

pub returns : goal.returns
returns c =
    let n = c.args.number in
    let all : c.args.from.now ≡ c.in-Some.first.now ∷ c.in-Some.rest.now = c.in-Some.ensures.cases.0 in
    subst (λ z. BeginsAt (n ∷ []) z []) (sym all) (begins_later n c.in-Some.first.now c.in-Some.rest.now (omega (arith, c.if-number-first.false, c.if-number-first-2.false)))
