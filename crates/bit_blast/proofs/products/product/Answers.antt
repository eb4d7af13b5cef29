use Rattle.std.proofs.Common.{List, ℕ, ◌++◌, ap, sym}
use Rattle.bit_laws.specs.BitNames.{wire_name}
use Rattle.bit_laws.specs.Blast.{on_each, product_nodes}
use Rattle.bit_laws.specs.Gates.Gate.{buffer}
use Rattle.bit_blast.specs.Names.{lowest}
use Rattle.bit_blast.proofs.Adding.{added_as, both_added}
use Rattle.bit_blast.proofs.Counted.{length-word_names}
use Rattle.bit_blast.proofs.ProductRows.{product_names_are}
use Rattle.bit_blast.proofs.products.product.Goals as goal

pub returns : goal.returns
returns c = λ flat.
    let k = c.args.w.number in
    let n = c.args.width in
    let xs = lowest flat c.args.a.number n in
    let ys = lowest flat c.args.b.number n in
    let names =
    product_names_are k xs (wire_name flat.ports c.args.b.number) n c.requires.some (length-word_names (wire_name flat.ports c.args.a.number) n) in
    added_as flat c.args.nodes.now.items c.ends.new.nodes.items _ _
    (ap (λ (q : List (List ℕ)). product_nodes k xs ys ++ on_each buffer (lowest flat k n) q) (sym names))
    (both_added flat c.args.nodes.now.items c.rows.new.nodes.items c.ends.new.nodes.items _ _ (c.in_ok-rows.ensures flat)
    (c.in_ok-ends.ensures flat))
