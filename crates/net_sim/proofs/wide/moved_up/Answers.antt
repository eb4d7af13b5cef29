use Rattle.std.proofs.Common.{◌≡◌, ◌+◌, ◌++◌, false, length, replicate, take, drop, ap, ◌∙◌, arith}
use Rattle.net_sim.proofs.PartBits.{part_of_front}
use Rattle.net_sim.proofs.wide.moved_up.Goals as goal

pub returns : goal.returns
returns c =
    let x = c.args.word.now in
    let k = c.args.places in
    let n = c.len-count.result in
    let laid : take n c.lay.new.room ≡ x = ap (λ j. take j c.lay.new.room) (c.len-count.ensures) ∙ (let zero_add : length x ≡ 0 + length x = omega arith in ap (λ j. take j c.lay.new.room) zero_add) ∙ c.lay.ensures in
    let front : take (n + k) c.fill.new.room ≡ x ++ replicate k false = c.fill.ensures ∙ ap (λ l. l ++ replicate k false) laid in
    record {
      within = omega arith;
      same =
          part_of_front c.fill.new.room (x ++ replicate k false) k n (n + k) front (omega arith)
          ∙ ap (λ j. take j (drop k (x ++ replicate k false))) c.len-count.ensures;
    }
