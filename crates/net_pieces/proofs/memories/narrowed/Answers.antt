use Rattle.std.proofs.Common.{length}
use Rattle.std.proofs.lemmas.Result.{IfOk-equal}
use Rattle.netlist.specs.declared.net.Cell.TheVariants.{Mux}
use Rattle.net_built.specs.Memories.{narrowed}
use Rattle.net_built.specs.Wires.{one, ◌▸◌}
use Rattle.net_pieces.proofs.Addresses.{narrowed_behind}
use Rattle.net_pieces.proofs.memories.narrowed.Goals as goal

pub returns : goal.returns
returns c =
    let s = c.args.into.now in
    let t = c.is_over.new.into in
    let u = c.greatest_and_low.new.into in
    IfOk-equal c.one.result c.one.new.self
    (u ▸ one 12 (Mux c.next_wire-w.result c.last_wire-over.result c.next_wire-greatest.result c.last_wire-low.result))
    (s ▸ narrowed c.args.k (length s.widths) c.args.a.now)
    c.one.ensures
    (narrowed_behind s t u c.args.k c.args.a.now c.last_wire-over.result c.next_wire-greatest.result c.last_wire-low.result
    c.next_wire-w.result c.requires c.in_ok-is_over.ensures c.last_wire-over.ensures c.next_wire-greatest.ensures
    c.in_ok-greatest_and_low.ensures c.last_wire-low.ensures c.next_wire-w.ensures)
