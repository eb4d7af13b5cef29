-- the bits of the parts so far
use Rattle.std.proofs.Common.{◌≡◌, length, take}
use Rattle.std.specs.Prelude.{flat_map}
use Rattle.net_sim.specs.Tables.{values_in}
use Rattle.net_sim.proofs.wide_step.joined.Given as goal

abbrev pub invariant-loop-part : goal.invariant-loop-part
invariant-loop-part l = record {
  bits : take l.count l.room ≡ flat_map (λ bits. bits) (values_in l.words (take l.part-index l.parts));
  count : length (flat_map (λ bits. bits) (values_in l.words (take l.part-index l.parts))) ≡ l.count;
  room : length l.room ≡ length l.fn.room;
}
