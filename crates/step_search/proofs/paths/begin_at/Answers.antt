use Rattle.std.proofs.Common.{◌≡◌, ◌+◌, ◌++◌, subst, suc, [], ◌∷◌, arith, rules}
use Rattle.std.proofs.lemmas.List.{nil_from_length}
use Rattle.step_search.specs.Begins.{BeginsAt, IsPassed}
use Rattle.step_search.proofs.Begins.{zeros, one_zero_more, begins_at_all, zeros_passed, begins_behind, passed_behind}
use Rattle.step_search.proofs.Options.{match_more}
use Rattle.step_search.proofs.paths.begin_at.Goals as goal

pub returns-then-is_empty : goal.returns-then-is_empty
returns-then-is_empty c =
    begins_at_all c.loop.counter c.args.path.zeros (c.args.path.last ∷ []) c.args.from.now c.loop.left.now (omega (arith, c.loop-test.true)) (nil_from_length _ (search rules)) c.loop.invariant

pub returns-in_default : goal.returns-in_default
returns-in_default c =
    zeros_passed c.loop.counter c.args.path.zeros (c.args.path.last ∷ []) c.args.from.now c.loop.left.now (omega (arith, c.loop-test.true)) c.loop.invariant c.in_default.ensures

pub loop-preserved : goal.loop-preserved
loop-preserved c =
    let next : suc c.loop.counter ≡ c.loop.counter + 1 = omega arith in
    subst (λ n. BeginsAt (zeros n) c.args.from.now c.in-Some.next.now) next (one_zero_more c.loop.counter c.args.from.now c.loop.left.now c.in-Some.next.now c.loop.invariant c.in-Some.ensures)

pub returns : goal.returns
returns c =
    let from = c.args.from.now in
    let left = c.loop.left.now in
    let n = c.args.path.zeros in
    let all : c.loop.counter ≡ n = omega (arith, c.loop-test.false, c.loop.auto.counter-end) in
    let here : BeginsAt (zeros n) from left = subst (λ k. BeginsAt (zeros k) from left) all c.loop.invariant in
    match_more c.begin_at_child-2.result (IsPassed (c.args.path.last ∷ []) left) (IsPassed (zeros n ++ c.args.path.last ∷ []) from) (λ r. BeginsAt (c.args.path.last ∷ []) left r.now) (λ r. BeginsAt (zeros n ++ c.args.path.last ∷ []) from r.now)
    (passed_behind (zeros n) (c.args.path.last ∷ []) from left here) (λ r h. begins_behind (zeros n) (c.args.path.last ∷ []) from left r.now here h) c.begin_at_child-2.ensures
