use Rattle.std.proofs.Common.{◌≡◌, true, false, ltb, get_or, sym, ap, ◌∙◌}
use Rattle.std.proofs.lemmas.Int.Digits.{digits_more}
use Rattle.std.proofs.lemmas.Bool.{false≢true}
use Rattle.std.proofs.lemmas.Bool.Decides.{Decides-ltb}
use Rattle.std.specs.Char.{digit_value}
use Rattle.stimulus.proofs.Bytes.{digit_below}
use Rattle.stimulus.proofs.words.are_digits.Goals as goal

pub returns-then-not-is_digit : goal.returns-then-not-is_digit
returns-then-not-is_digit c =
    let byte = get_or c.args.text.now c.loop-byte.byte-index 0 in
    let test : false ≡ ltb (digit_value byte) c.args.radix =
    sym c.if-not-is_digit.true ∙ c.is_digit.ensures.value ∙ ap (λ x. ltb (digit_value x) c.args.radix) c.from.ensures in
    (λ e. absurd (false≢true e), λ all. test ∙ (Decides-ltb (digit_value byte) c.args.radix).1 (digit_below c.args.radix c.args.text.now c.loop-byte.byte-index all c.loop-byte-test.true))

pub loop-byte-preserved : goal.loop-byte-preserved
loop-byte-preserved c =
    let byte = get_or c.args.text.now c.loop-byte.byte-index 0 in
    let test : true ≡ ltb (digit_value byte) c.args.radix =
    sym c.if-not-is_digit.false ∙ c.is_digit.ensures.value ∙ ap (λ x. ltb (digit_value x) c.args.radix) c.from.ensures in
    digits_more c.args.radix c.args.text.now c.loop-byte.byte-index c.loop-byte-test.true c.loop-byte.invariant ((Decides-ltb (digit_value byte) c.args.radix).0 (sym test))
