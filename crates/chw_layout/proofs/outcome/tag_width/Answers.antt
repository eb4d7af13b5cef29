use Rattle.std.proofs.Common.{◌≡◌, ◌-◌, ◌<◌, ◌^◌, suc, ◌∙◌, arith}
use Rattle.std.proofs.lemmas.Nat.{leading_top}
use Rattle.std.specs.Int.Count.{count_leading_zeros}
use Rattle.chw_layout.proofs.Tags.{tag_is}
use Rattle.chw_layout.proofs.outcome.tag_width.Goals as goal

pub returns-else-count-lt2 : goal.returns-else-count-lt2
returns-else-count-lt2 c =
    let n = c.args.count in
    let some : 0 < n - 1 = omega arith in
    let few : n - 1 < 2 ^ 64 = omega arith in
    let w = leading_top 64 (n - 1) some few in
    let e : 64 - count_leading_zeros 64 (n - 1) ≡ suc w.0 = omega (arith, w.1) in
    e ∙ tag_is n w.0 (omega (arith, w.3)) (omega (arith, w.2))
