use Rattle.std.proofs.Common.{◌≡◌, ◌≤◌, ◌+◌, ◌*◌, ℕ, arith, subst}
use Rattle.bit_laws.specs.BitNames.{further, place_name, wire_name}
use Rattle.bit_laws.specs.Blast.{row_nodes}
use Rattle.bit_nodes.specs.Standing.{name_of}
use Rattle.bit_blast.specs.Adding.{Adds}
use Rattle.bit_blast.specs.Names.{lowest}
use Rattle.bit_blast.specs.Numbering.{spaced}
use Rattle.bit_blast.specs.Products.{place_nodes}
use Rattle.bit_blast.proofs.Adding.{nothing_added}
use Rattle.bit_blast.proofs.ByPlaces.{nth_below}
use Rattle.bit_blast.proofs.ProductRows.{row_added}
use Rattle.bit_blast.proofs.products.row.Goals as goal

pub loop-place-init : goal.loop-place-init
loop-place-init c = λ flat. nothing_added flat c.args.nodes.now.items

pub at-requires : goal.at-requires
at-requires c =
    let le : c.loop-place.place ≤ c.args.width = omega arith in
    nth_below c.args.sums c.loop-place.place c.args.width le c.requires.sums

pub loop-place-preserved : goal.loop-place-preserved
loop-place-preserved c = λ flat.
    let k = c.args.w.number in
    let j = c.loop-place.place in
    let mask = name_of flat c.args.mask in
    let x = place_name (wire_name flat.ports c.args.a.number) j in
    row_added flat c.args.nodes.now.items c.loop-place.nodes.items c.at_place.new.nodes.items k c.args.carry c.args.a.number c.args.sums mask j
    (c.loop-place.invariant flat)
    (subst (λ (n : ℕ). Adds flat c.loop-place.nodes.items c.at_place.new.nodes.items (place_nodes k (c.args.carry + 3 * j) (further k n) x mask))
    c.at.ensures (c.in_ok-at_place.ensures flat))

pub returns : goal.returns
returns c = λ flat.
    let same : c.loop-place.place ≡ c.args.width = omega arith in
    subst (λ (n : ℕ). Adds flat c.args.nodes.now.items c.loop-place.nodes.items
    (row_nodes c.args.w.number c.args.carry (spaced c.args.w.number c.args.sums n) (lowest flat c.args.a.number n) (name_of flat c.args.mask)))
    same (c.loop-place.invariant flat)
