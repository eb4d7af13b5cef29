use Rattle.std.proofs.Common.{◌≡◌, ◌<◌, get_or, false, true, ap, sym, ◌∙◌, ◌^◌}
use lib.IntN.{negsuc}
use mir.Syntax.{w128}
use Rattle.std.proofs.lemmas.Int.{to_z_pos}
use Rattle.chw_bits.specs.Bits.{bits_of}
use Rattle.chw_bits.specs.Integers.{signed}
use Rattle.chw_bits.proofs.Signs.{complement_is}
use Rattle.chw_bits.proofs.WordSigns.{negative_word, negative_word_small, positive_word, positive_word_small}
use Rattle.chw_bits.proofs.machine.signed_number.Goals as goal

pub overflow_cast-result : goal.overflow_cast-result
overflow_cast-result c =
    let set : get_or (bits_of c.args.width c.args.a) 0 false ≡ true = sym c.is_negative.ensures ∙ c.if-is_negative.true in
    let small = negative_word_small c.args.width 127 c.args.a c.requires.whole c.requires.word set in
    record { sfits = rw c.lowest.ensures.number small }

pub overflow_cast-result-else-is_negative : goal.overflow_cast-result-else-is_negative
overflow_cast-result-else-is_negative c =
    let unset : get_or (bits_of c.args.width c.args.a) 0 false ≡ false = sym c.is_negative.ensures ∙ c.if-is_negative.false in
    record { sfits = positive_word_small c.args.width 127 c.args.a c.requires.whole c.requires.word unset }

pub returns-then-is_negative : goal.returns-then-is_negative
returns-then-is_negative c =
    let set : get_or (bits_of c.args.width c.args.a) 0 false ≡ true = sym c.is_negative.ensures ∙ c.if-is_negative.true in
    let small : c.lowest.result < 2 ^ 127 = rw c.lowest.ensures.number (negative_word_small c.args.width 127 c.args.a c.requires.whole c.requires.word set) in
    let same : negsuc c.lowest.result ≡ signed (bits_of c.args.width c.args.a) = ap negsuc c.lowest.ensures.number ∙ sym (negative_word c.args.width 128 c.args.a c.requires.whole c.requires.word set) in
    complement_is c.lowest.result small ∙ same

pub returns-else-is_negative : goal.returns-else-is_negative
returns-else-is_negative c =
    let unset : get_or (bits_of c.args.width c.args.a) 0 false ≡ false = sym c.is_negative.ensures ∙ c.if-is_negative.false in
    let small = positive_word_small c.args.width 127 c.args.a c.requires.whole c.requires.word unset in
    to_z_pos w128 c.args.a small ∙ sym (positive_word c.args.width c.args.a c.requires.word unset)
