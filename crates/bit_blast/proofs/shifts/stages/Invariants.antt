-- the stages so far, the bits behind them, the places that the next one moves by, and the number of
-- its first node
use Rattle.std.proofs.Common.{◌≡◌, ◌+◌, ◌*◌, ◌^◌, ◌≤◌, min}
use Rattle.netlist.specs.declared.net.Flat.{Flat}
use Rattle.bit_laws.specs.BitNames.{further}
use Rattle.bit_laws.specs.Blast.{shift_nodes, shifted_names}
use Rattle.bit_blast.specs.Adding.{Adds}
use Rattle.bit_blast.specs.Names.{end_of, lowest, names_of}
use Rattle.bit_blast.specs.Shifts.{mover}
use Rattle.bit_blast.proofs.shifts.stages.Given as goal

abbrev pub invariant-loop-turn : goal.invariant-loop-turn
invariant-loop-turn l = record {
  made : (flat : Flat) → Adds flat l.initial.nodes.items l.nodes.items
      (shift_nodes (mover l.way (further l.w.number 0)) l.w.number (lowest flat l.fn.a.number l.width) (lowest flat l.b.number l.turn));
  named : (flat : Flat) → names_of flat l.bits l.width ≡ shifted_names l.w.number (lowest flat l.fn.a.number l.width) (lowest flat l.b.number l.turn);
  places : l.places ≡ min (2 ^ l.turn) l.width;
  number : l.number ≡ 1 + l.turn * l.width;
  small : l.number ≤ 1 + l.turn * 4096;
  ends : end_of l.bits l.width ≤ 4097 + l.turn * 4096;
}
