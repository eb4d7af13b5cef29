use Rattle.std.proofs.Common.{◌≡◌, ℕ, ◌-◌, ap, ◌∙◌, arith}
use Rattle.std.specs.List.{fold}
use Rattle.chw_terms.specs.TermTree.{TermTree, var, app}
use Rattle.chw_terms.specs.Unrolled.{each, element}
use Rattle.prim_vec.proofs.Lists.{from_the_last}
use Rattle.prim_vec.proofs.folds.from_the_last.Goals as goal

pub returns : goal.returns
returns c =
    let step : TermTree → ℕ → TermTree = λ e j. app (app (var 2) (element c.args.kind c.args.n c.args.a.now (var 0) j)) e in
    let whole : c.loop-j.j ≡ c.args.n = omega (arith, c.loop-j-test.false, c.loop-j.auto.j-end) in
    c.loop-j.invariant ∙ ap (fold step (var 1)) (ap (λ k. each k (λ j. c.args.n - 1 - j)) whole ∙ from_the_last c.args.n)
