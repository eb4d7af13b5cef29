use Rattle.std.proofs.Common.{◌≡◌, ◌<◌, ◌-◌, ◌∙◌, ℕ, List, ap, arith, drop, length, take}
use Rattle.std.proofs.lemmas.List.{take_rest}
use Rattle.graph_order.proofs.Turning.{turned_cycle}
use Rattle.graph_order.proofs.cycle.cycle.Goals as goal

pub returns-clause-cycle : goal.returns-clause-cycle
returns-clause-cycle c graph k =
    let path = c.args.path.now in
    let end : List ℕ = drop c.args.depth path in
    let rest : take (length path - c.args.depth) end ≡ end = rw take_rest in
    let copied : c.in_ok-nodes.nodes.items ≡ end = c.in_ok-nodes.ensures.items ∙ rest in
    let below : c.least_at.result < length end = omega (arith, c.least_at.ensures.within, ap length rest) in
    rw (c.rotate_left.ensures.items, copied) (turned_cycle graph c.least_at.result end below k)
