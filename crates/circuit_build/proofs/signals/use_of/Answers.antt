use Rattle.std.proofs.Common.{◌∙◌}
use Rattle.std.proofs.lemmas.Result.{on_ok_weaker}
use Rattle.netlist.specs.declared.net.Cell.TheVariants.{Use}
use Rattle.net_built.specs.Circuits.{use_cells}
use Rattle.net_built.specs.Wires.{◌▸◌, present}
use Rattle.value_build.specs.Added.{next}
use Rattle.circuit_build.proofs.signals.use_of.Goals as goal

pub returns : goal.returns
returns c =
    let s = c.args.into.now in
    let ws = c.args.widths.now in
    let reads = c.args.reads.now in
    on_ok_weaker c.used.result
    (λ is. is ∙ (λ i. s ▸ record { widths = present ws; cells = use_cells (next s) ws (λ drives. Use (c.module_of-callee.ensures i) reads drives) }))
    c.used.ensures
