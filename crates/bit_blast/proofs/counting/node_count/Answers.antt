use Rattle.std.proofs.Common.{◌+◌, List, sym, ap, ◌∙◌, arith}
use Rattle.std.specs.Prelude.{sum_by}
use Rattle.chw_clock.specs.declared.event.Port.{Port}
use Rattle.bit_blast.specs.Counting.{capped, cell_count}
use Rattle.bit_blast.proofs.Counts.{capped_all}
use Rattle.bit_blast.proofs.Lengths.{nodes_length}
use Rattle.bit_blast.proofs.counting.node_count.Goals as goal

pub returns : goal.returns
returns c =
    let flat = c.args.flat.now in
    let f = λ (port : Port). port.width in
    let before = sum_by (cell_count flat) flat.cells in
    capped_all f c.as_slice-port-items.result.now c.loop-port.port-index c.loop-port.count before (omega (arith, c.loop-port-test.false)) c.loop-port.invariant
    ∙ ap (λ (ports : List Port). capped (before + sum_by f ports)) c.as_slice-port-items.ensures
    ∙ ap capped (sym (nodes_length flat c.requires))
