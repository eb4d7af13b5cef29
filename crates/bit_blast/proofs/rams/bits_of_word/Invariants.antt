-- the bits so far
use Rattle.std.proofs.Common.{◌-◌, drop}
use Rattle.netlist.specs.declared.net.Flat.{Flat}
use Rattle.bit_laws.specs.Bitnet.{clock_of}
use Rattle.bit_laws.specs.Blast.{word_nodes}
use Rattle.bit_blast.specs.Adding.{Adds}
use Rattle.bit_blast.specs.Names.{lowest}
use Rattle.bit_blast.specs.Numbering.{spaced}
use Rattle.bit_blast.proofs.rams.bits_of_word.Given as goal

abbrev pub invariant-loop-place : goal.invariant-loop-place
invariant-loop-place l =
    (flat : Flat) → Adds flat l.initial.nodes.items l.nodes.items
    (word_nodes l.memory.wire.number l.x (clock_of flat.ports l.memory.domain) (spaced l.memory.wire.number l.shown l.place)
    (lowest flat l.memory.inputs.value.number l.place) (drop (l.width - l.place) l.bits))
