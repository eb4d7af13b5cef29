-- the number of the parts so far, and their width
use Rattle.std.proofs.Common.{◌≡◌, length, ◌≤◌, ◌<◌, ◌^◌, take}
use Rattle.std.specs.Prelude.{flat_map}
use Rattle.chw_bits.specs.Bits.{number_of}
use Rattle.net_sim.specs.Tables.{values_in}
use Rattle.net_sim.proofs.narrow_step.joined.Given as goal

abbrev pub invariant-loop-part : goal.invariant-loop-part
invariant-loop-part l = record {
  number : l.n ≡ number_of (flat_map (λ bits. bits) (values_in l.words (take l.part-index l.parts)));
  below : l.n < 2 ^ l.width;
  narrow : l.width ≤ 128;
  count : length (flat_map (λ bits. bits) (values_in l.words (take l.part-index l.parts))) ≡ l.width;
}
