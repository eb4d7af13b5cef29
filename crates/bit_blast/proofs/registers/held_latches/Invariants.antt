-- the latches so far, each behind its gate
use Rattle.std.proofs.Common.{◌-◌, drop}
use Rattle.netlist.specs.declared.net.Flat.{Flat}
use Rattle.bit_laws.specs.Bitnet.{clock_of, reset_of}
use Rattle.bit_laws.specs.Blast.{reset_nodes}
use Rattle.bit_blast.specs.Adding.{Adds}
use Rattle.bit_blast.specs.Names.{lowest}
use Rattle.bit_blast.proofs.registers.held_latches.Given as goal

abbrev pub invariant-loop-place : goal.invariant-loop-place
invariant-loop-place l =
    (flat : Flat) → Adds flat l.initial.nodes.items l.nodes.items
    (reset_nodes l.w.number (clock_of flat.ports l.domain) (reset_of flat.ports l.domain) (lowest flat l.w.number l.place)
    (lowest flat l.a.number l.place) (drop (l.width - l.place) l.bits))
