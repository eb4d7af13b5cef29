-- the rows so far, and the numbers of the sums that the next one adds to
use Rattle.std.proofs.Common.{◌≡◌, ℕ, ◌+◌, ◌*◌, ◌≤◌, take}
use Rattle.netlist.specs.declared.net.Flat.{Flat}
use Rattle.bit_laws.specs.Blast.{product_names, product_nodes}
use Rattle.bit_blast.specs.Adding.{Adds}
use Rattle.bit_blast.specs.Names.{lowest}
use Rattle.bit_blast.specs.Numbering.{nth, spaced}
use Rattle.bit_blast.specs.Products.{first_carry}
use Rattle.bit_blast.proofs.products.rows.Given as goal

abbrev pub invariant-loop-row : goal.invariant-loop-row
invariant-loop-row l = record {
  made : (flat : Flat) → Adds flat l.fn.nodes.items l.nodes.items
      (product_nodes l.w.number (lowest flat l.a.number l.width) (lowest flat l.b.number l.row));
  carry : l.carry ≡ first_carry l.width l.row;
  small : l.carry ≤ 128 + 385 * l.row;
  numbers : nth l.sums 128 ≤ 1024 + 385 * l.row;
  names : (flat : Flat) (left : ℕ) → l.width ≡ l.row + left
      → take left (product_names l.w.number (lowest flat l.a.number l.width) (lowest flat l.b.number l.row)) ≡ spaced l.w.number l.sums left;
}
