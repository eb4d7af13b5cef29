use Rattle.std.proofs.Common.{◌≡◌, ◌+◌, ◌++◌, length, replicate, take, ap, ◌∙◌, arith}
use Rattle.net_sim.proofs.PartBits.{part_of_front}
use Rattle.net_sim.proofs.wide.moved_down.Goals as goal

pub returns : goal.returns
returns c =
    let x = c.args.word.now in
    let k = c.args.places in
    let n = c.len.result in
    let filled : take k c.fill.new.room ≡ replicate k c.args.above = (let zero_add : k ≡ 0 + k = omega arith in ap (λ j. take j c.fill.new.room) zero_add) ∙ c.fill.ensures in
    let front : take (k + length x) c.lay.new.room ≡ replicate k c.args.above ++ x = c.lay.ensures ∙ ap (λ l. l ++ x) filled in
    record {
      within = omega arith;
      same =
          part_of_front c.lay.new.room (replicate k c.args.above ++ x) 0 n (k + length x) front (omega arith)
          ∙ ap (λ j. take j (replicate k c.args.above ++ x)) c.len.ensures;
    }
