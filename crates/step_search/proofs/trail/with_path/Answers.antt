use Rattle.std.proofs.Common.{◌≡◌, ◌∙◌, ◌++◌, [], ◌∷◌, ap, reverse, replicate, arith}
use Rattle.step_search.proofs.Backward.{path_reversed}
use Rattle.step_search.proofs.trail.with_path.Goals as goal

pub returns : goal.returns
returns c =
    let back = c.args.back.items in
    let n = c.args.path.zeros in
    let last = c.args.path.last in
    let all : c.loop.counter ≡ n = omega (arith, c.loop-test.false, c.loop.auto.counter-end) in
    let pushed : c.push.new.self.items ≡ back ++ last ∷ [] = c.in_ok-push.ensures.items in
    ap reverse (c.loop.invariant ∙ (λ i. pushed i ++ replicate (all i) 0)) ∙ path_reversed n last back
