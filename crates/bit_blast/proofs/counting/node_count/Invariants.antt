-- the nodes of the cells so far, and then those of the outputs so far
use Rattle.std.proofs.Common.{◌≡◌, ◌+◌, take}
use Rattle.std.specs.Prelude.{sum_by}
use Rattle.chw_clock.specs.declared.event.Port.{Port}
use Rattle.bit_blast.specs.Counting.{capped, cell_count}
use Rattle.bit_blast.proofs.counting.node_count.Given as goal

abbrev pub invariant-loop-cell : goal.invariant-loop-cell
invariant-loop-cell l = l.count ≡ capped (sum_by (cell_count l.flat) (take l.cell-index l.cell-items))

abbrev pub invariant-loop-port : goal.invariant-loop-port
invariant-loop-port l =
    l.count ≡ capped (sum_by (cell_count l.flat) l.flat.cells + sum_by (λ (port : Port). port.width) (take l.port-index l.port-items))
