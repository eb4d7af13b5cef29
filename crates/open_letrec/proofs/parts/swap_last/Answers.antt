use Rattle.std.proofs.Common.{◌≡◌, ◌-◌, length, arith}
use Rattle.open_letrec.proofs.Lasts.{last_swapped}
use Rattle.open_letrec.proofs.parts.swap_last.Goals as goal

pub returns : goal.returns
returns c =
    let bs = c.args.group.now.items in
    let last : c.len-last.result - 1 ≡ length bs - 1 = omega (arith, c.len-last.ensures, c.args.group.now.ok.0) in
    last_swapped bs c.index_mut-binding.result.now c.args.term.now c.swap.new.x c.swap.new.y (c.len-last.result - 1) c.requires last c.index_mut-binding.ensures.value c.swap.ensures.x_after c.swap.ensures.y_after
