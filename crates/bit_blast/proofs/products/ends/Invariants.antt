-- the buffers so far, and the carry whose number is that of the next one less two
use Rattle.std.proofs.Common.{◌≡◌, ◌+◌, ◌*◌, ◌≤◌}
use Rattle.netlist.specs.declared.net.Flat.{Flat}
use Rattle.bit_laws.specs.BitNames.{further}
use Rattle.bit_laws.specs.Blast.{on_each}
use Rattle.bit_laws.specs.Gates.Gate.{buffer}
use Rattle.bit_blast.specs.Adding.{Adds}
use Rattle.bit_blast.specs.Names.{by_places, lowest}
use Rattle.bit_blast.specs.Products.{end_number, first_carry}
use Rattle.bit_blast.proofs.products.ends.Given as goal

abbrev pub invariant-loop-place : goal.invariant-loop-place
invariant-loop-place l = record {
  made : (flat : Flat) → Adds flat l.fn.nodes.items l.nodes.items
      (on_each buffer (lowest flat l.w.number l.place) (by_places (λ j. further l.w.number (end_number l.width j)) l.place));
  carry : l.carry ≡ first_carry l.width l.place;
  small : l.carry ≤ 128 + 385 * l.place;
}
