use Rattle.std.proofs.Common.{[]}
use Rattle.bit_blast.proofs.Adding.{nothing_added, three_added}
use Rattle.bit_blast.proofs.products.at_place.Goals as goal

pub returns : goal.returns
returns c = λ flat.
    three_added flat c.args.nodes.now.items c.args.nodes.now.items _ _ _ [] _ _ _ (nothing_added flat c.args.nodes.now.items)
    c.in_ok-push.ensures.items c.in_ok-push-2.ensures.items c.in_ok-push-3.ensures.items
