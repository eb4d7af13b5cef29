-- the wires so far, from the last one on
use Rattle.std.proofs.Common.{◌≡◌, ◌-◌, length, drop}
use Rattle.std.specs.List.{flat_map}
use Rattle.chw_base.specs.declared.index.WireId.{WireId}
use Rattle.netlist.specs.Sound.{width_of_all}
use Rattle.bit_laws.specs.Blast.{on_each, word}
use Rattle.bit_laws.specs.Gates.Gate.{buffer}
use Rattle.bit_blast.specs.Adding.{Adds}
use Rattle.bit_blast.specs.Names.{lowest}
use Rattle.bit_blast.proofs.wiring.joined.Given as goal

abbrev pub invariant-loop-i : goal.invariant-loop-i
invariant-loop-i l = record {
  wide : l.low ≡ width_of_all l.flat.widths (drop (length l.parts - l.i) l.parts);
  adds : Adds l.flat l.fn.nodes.items l.nodes.items
      (on_each buffer (lowest l.flat l.w.number l.low) (flat_map (λ (p : WireId). word l.flat p.number) (drop (length l.parts - l.i) l.parts)));
}
