use Rattle.bit_blast.proofs.Adding.{added_behind}
use Rattle.bit_blast.proofs.products.next_row.Goals as goal

pub returns : goal.returns
returns c = λ flat.
    added_behind flat c.args.nodes.now.items c.push.new.self.items c.row.new.nodes.items _ _ c.in_ok-push.ensures.items
    (c.in_ok-row.ensures flat)
