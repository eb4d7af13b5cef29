use Rattle.std.proofs.Common.{◌<◌, ◌^◌, length, arith}
use Rattle.graph_order.specs.Orders.{IsCycle as IsRound, IsOrder as OrdersNodes, LeastFirst as LeastFirstOf}
use Rattle.netlist.specs.Sound.{DrivesFrom}
use Rattle.netlist.specs.Waits.{waits}
use Rattle.netlist.proofs.Rounds.{round_cycle, round_least}
use Rattle.netlist.proofs.Waiting.{cells_ordered}
use Rattle.netlist.proofs.ordering.order.Goals as goal

pub returns-in-Order-clause-order : goal.returns-in-Order-clause-order
returns-in-Order-clause-order c =
    let flat = c.args.flat.now in
    let inputs = c.len-inputs.result in
    let places = c.in-Order.places.items in
    let order : OrdersNodes (waits inputs flat.cells) places = rw (c.in-Order.is, c.as_slice.ensures) at c.in_ok-places.ensures.order in
    rw c.from.ensures (cells_ordered inputs flat.cells (rw c.len-inputs.ensures c.requires.in_order) places order)

pub returns-in_ok-turned_round-in-Cycle-clause-loop_ : goal.returns-in_ok-turned_round-in-Cycle-clause-loop_
returns-in_ok-turned_round-in-Cycle-clause-loop_ c =
    let flat = c.args.flat.now in
    let inputs = c.len-inputs.result in
    let places = c.in-Cycle.places.items in
    let drives : DrivesFrom inputs flat.cells = rw c.len-inputs.ensures c.requires.in_order in
    let few : length flat.cells < 2 ^ 32 = omega (arith, c.requires.few, c.requires.all) in
    let round : IsRound (waits inputs flat.cells) places = rw (c.in-Cycle.is, c.as_slice.ensures) at c.in_ok-places.ensures.cycle in
    let least : LeastFirstOf places = rw c.in-Cycle.is at c.in_ok-places.ensures.least in
    rw c.in_ok-turned_round-in-Cycle.ensures (
      round_cycle inputs flat.cells drives few places round,
      round_least inputs flat.cells drives few places round least,
    )
