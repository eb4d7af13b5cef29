use Rattle.std.proofs.Common.{◌+◌, length}
use Rattle.std.proofs.lemmas.Result.{IfOk-equal}
use Rattle.chw_bits.specs.Bits.{bits_of}
use Rattle.netlist.specs.declared.net.Cell.TheVariants.{Const, Cut}
use Rattle.net_built.specs.Memories.{past_all}
use Rattle.net_built.specs.Wires.{wire, one, ◌▸◌}
use Rattle.net_built.specs.Words.{only}
use Rattle.net_pieces.proofs.Addresses.{low_behind}
use Rattle.net_pieces.proofs.memories.greatest_and_low.Goals as goal

pub returns : goal.returns
returns c =
    let s = c.args.into.now in
    let t = c.constant.new.into in
    let a = c.args.a.now in
    IfOk-equal c.one.result c.one.new.self
    (t ▸ one 12 (Cut c.next_wire-low.result c.only.result 11 0))
    (s ▸ (one 12 (Const (wire (length s.widths)) (bits_of 12 past_all)) ▸ one 12 (Cut (wire (length s.widths + 1)) (only a) 11 0)))
    c.one.ensures
    (low_behind s t a c.in_ok-bits.bits c.only.result c.next_wire-low.result c.in_ok-bits.ensures c.in_ok-constant.ensures
    c.next_wire-low.ensures c.only.ensures)
