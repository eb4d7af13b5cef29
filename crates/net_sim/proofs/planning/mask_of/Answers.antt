use Rattle.std.proofs.Common.{◌≡◌, ◌-◌, ◌^◌, ap, arith}
use Rattle.net_sim.proofs.Masks.{made_mask, mask_some}
use Rattle.net_sim.proofs.planning.mask_of.Goals as goal

pub overflow_sub-result : goal.overflow_sub-result
overflow_sub-result c = mask_some c.args.width c.if-width-lt64.true

pub returns-then-width-lt64 : goal.returns-then-width-lt64
returns-then-width-lt64 c = made_mask c.args.width c.if-width-lt64.true

pub returns-else-width-lt64 : goal.returns-else-width-lt64
returns-else-width-lt64 c =
    let few = c.requires in
    let more = c.if-width-lt64.false in
    let same : 64 ≡ c.args.width = omega arith in
    ap (λ k. 2 ^ k - 1) same
