use Rattle.std.proofs.Common.{◌+◌, length, Some, sym, ap, ◌∙◌}
use Rattle.netlist.proofs.Driven.{target_in_order}
use Rattle.wire_classes.proofs.labels.wire_at.Goals as goal

pub returns : goal.returns
returns c =
    let flat = c.args.flat.now in
    target_in_order (length flat.ports.inputs) flat.cells c.requires.sound.in_order c.args.place c.requires.within
    ∙ ap (λ n. Some (n + c.args.place)) (sym c.len-inputs.ensures)
