-- the bits so far, from the last one on
use Rattle.std.proofs.Common.{◌-◌, length, drop}
use Rattle.netlist.specs.declared.net.Flat.{Flat}
use Rattle.bit_laws.specs.Blast.{constants}
use Rattle.bit_blast.specs.Adding.{Adds}
use Rattle.bit_blast.specs.Names.{lowest}
use Rattle.bit_blast.proofs.wiring.constants.Given as goal

abbrev pub invariant-loop-place : goal.invariant-loop-place
invariant-loop-place l =
    (flat : Flat) → Adds flat l.fn.nodes.items l.nodes.items
    (constants (lowest flat l.w.number l.place) (drop (length l.bits - l.place) l.bits))
