-- The nodes so far, and those of the words that are left, are all. The numbers of the next word grow
-- by no more than the widest word has nodes.
use Rattle.std.proofs.Common.{◌≡◌, ◌+◌, ◌*◌, ◌≤◌, ◌++◌, drop, map}
use Rattle.netlist.specs.declared.net.Flat.{Flat}
use Rattle.bit_laws.specs.Blast.{ram_shown}
use Rattle.bit_nodes.specs.Standing.{node_of}
use Rattle.bit_blast.specs.Numbering.{nth, spaced}
use Rattle.bit_blast.specs.declared.numbers.Numbers.TheVariants.{Each}
use Rattle.bit_blast.proofs.RamWords.{words_from}
use Rattle.bit_blast.proofs.rams.all_words.Given as goal

abbrev pub invariant-loop-at : goal.invariant-loop-at
invariant-loop-at l = record {
  made : (flat : Flat)
      → map (node_of flat) l.nodes.items ++ words_from flat l.memory l.x l.at l.shown l.words
      ≡ map (node_of flat) l.initial.nodes.items ++ words_from flat l.memory l.memory.width 0 (Each 0) l.words;
  shown : ram_shown l.memory.wire.number l.memory.width l.x (spaced l.memory.wire.number l.shown l.memory.width) (drop l.at l.words)
      ≡ ram_shown l.memory.wire.number l.memory.width l.memory.width (spaced l.memory.wire.number (Each 0) l.memory.width) l.words;
  small : l.x ≤ 4096 + 12290 * l.at;
  numbers : nth l.shown 4096 ≤ 20000 + 12290 * l.at;
}
