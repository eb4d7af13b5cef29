use Rattle.std.proofs.Common.{◌≡◌, ℕ, arith, subst}
use Rattle.bit_laws.specs.BitNames.{furthers}
use Rattle.bit_laws.specs.Blast.{masked}
use Rattle.bit_nodes.specs.Standing.{name_of}
use Rattle.bit_blast.specs.Adding.{Adds}
use Rattle.bit_blast.specs.Names.{lowest}
use Rattle.bit_blast.proofs.Adding.{nothing_added}
use Rattle.bit_blast.proofs.ProductRows.{first_row_more}
use Rattle.bit_blast.proofs.products.first_row.Goals as goal

pub loop-place-init : goal.loop-place-init
loop-place-init c = λ flat. nothing_added flat c.args.nodes.now.items

pub loop-place-preserved : goal.loop-place-preserved
loop-place-preserved c = λ flat.
    first_row_more flat c.args.nodes.now.items c.loop-place.nodes.items c.push.new.self.items c.args.w c.args.a c.args.mask c.loop-place.place
    (c.loop-place.invariant flat) c.in_ok-push.ensures.items

pub returns : goal.returns
returns c = λ flat.
    let same : c.loop-place.place ≡ c.args.width = omega arith in
    subst (λ (n : ℕ). Adds flat c.args.nodes.now.items c.loop-place.nodes.items
    (masked (furthers c.args.w.number 0 n) (lowest flat c.args.a.number n) (name_of flat c.args.mask))) same (c.loop-place.invariant flat)
