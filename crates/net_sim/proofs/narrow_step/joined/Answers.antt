use Rattle.std.proofs.Common.{length, ◌-◌, ◌++◌, take, length-append, get_or, ◌≡◌, sym, ap, ◌∙◌, arith}
use Rattle.std.specs.Prelude.{flat_map}
use Rattle.std.proofs.lemmas.List.{take_all}
use Rattle.chw_bits.specs.Bits.{number_of}
use Rattle.chw_bits.proofs.Numbers.{lt-pow}
use Rattle.net_sim.specs.Tables.{value_in, values_in}
use Rattle.net_sim.proofs.Made.{join_more, number_more}
use Rattle.net_sim.proofs.narrow_step.joined.Goals as goal

pub joined-n-requires-clause-high : goal.joined-n-requires-clause-high
joined-n-requires-clause-high c =
    lt-pow c.loop-part.n c.loop-part.width (128 - c.len-more.result) c.loop-part.invariant.below (omega arith)

pub loop-part-preserved : goal.loop-part-preserved
loop-part-preserved c =
    let l = c.loop-part in
    let words = c.args.words.now in
    let parts = c.args.parts.now in
    let front = flat_map (λ bits. bits) (values_in words (take l.part-index parts)) in
    let word = c.word_at-word.result.now in
    record {
      number =
          number_more l.width l.n c.len-more.result c.number.result c.joined-n.result front word l.invariant.number l.invariant.below
          c.len-more.ensures c.number.ensures.bits (c.joined-n.ensures.bits l.width) (c.joined-n.ensures.below l.width l.invariant.below)
          ∙ ap (λ bits. number_of (front ++ bits)) c.word_at-word.ensures
          ∙ ap number_of (sym (join_more words parts l.part-index (record { number = 0 }) c.loop-part-test.true));
      below = c.joined-n.ensures.below l.width l.invariant.below;
      narrow = omega arith;
      count =
          ap length (join_more words parts l.part-index (record { number = 0 }) c.loop-part-test.true)
          ∙ length-append front (value_in words (get_or parts l.part-index (record { number = 0 })).number)
          ∙ (let own = l.invariant.count in let more = c.len-more.ensures ∙ ap length c.word_at-word.ensures in omega arith);
    }

pub returns : goal.returns
returns c =
    let l = c.loop-part in
    let words = c.args.words.now in
    let parts = c.args.parts.now in
    let all : take l.part-index parts ≡ parts = take_all l.part-index parts (omega arith) in
    let whole = ap (λ ws. flat_map (λ bits. bits) (values_in words ws)) all in
    record {
      number = l.invariant.number ∙ ap number_of whole;
      narrow = let count = l.invariant.count in let few = l.invariant.narrow in omega (arith, ap length whole);
    }
