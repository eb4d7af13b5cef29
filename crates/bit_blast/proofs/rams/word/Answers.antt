use Rattle.bit_blast.proofs.Adding.{added_behind}
use Rattle.bit_blast.proofs.rams.word.Goals as goal

pub returns : goal.returns
returns c = λ flat.
    added_behind flat c.args.nodes.now.items c.push.new.self.items c.bits_of_word.new.nodes.items _ _ c.in_ok-push.ensures.items
    (added_behind flat c.push.new.self.items c.push-2.new.self.items c.bits_of_word.new.nodes.items _ _ c.in_ok-push-2.ensures.items
    (c.in_ok-bits_of_word.ensures flat))
