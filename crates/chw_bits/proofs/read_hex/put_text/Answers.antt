use Rattle.std.proofs.Common.{◌≡◌, ◌+◌, ◌-◌, ◌*◌, ◌%◌, ◌<◌, ◌++◌, [], length, take, ap, sym, ◌∙◌, arith}
use Rattle.std.proofs.lemmas.Bool.{eqb-false}
use Rattle.std.specs.Str.Parse.{digits_value}
use Rattle.chw_bits.specs.Bits.{bits_of}
use Rattle.chw_bits.proofs.HexText.{digit_below, bits_of_digits_left}
use Rattle.chw_bits.proofs.read_hex.put_text.Goals as goal

pub loop-i-init : goal.loop-i-init
loop-i-init c =
    let text = c.args.text.now in
    let width = length c.args.bits.now in
    let few = (width - 1) % 4 + 1 in
    let value = digits_value 16 text in
    let rest = bits_of (4 * (length text - 1)) value in
    let digits = c.requires.count in
    let none = eqb-false width 0 (sym c.is_empty.ensures ∙ c.if-is_empty.false) in
    let some : 0 < width = omega (arith, none) in
    let all : 4 * (length text - (0 + 1)) + few ≡ width = omega arith in
    let place : few + 4 * (1 - 1) ≡ few = omega arith in
    ap (λ n. take n c.put_few.new.bits ++ rest) place
    ∙ ap (λ bits. bits ++ rest) (c.put_few.ensures ∙ ap (bits_of few) c.number_of_digit.ensures)
    ∙ bits_of_digits_left [] (bits_of width value) text 0 few c.requires.hex (omega arith) (omega arith) (ap (λ w. bits_of w value) all)

pub number_of_digit-requires-in-loop-i : goal.number_of_digit-requires-in-loop-i
number_of_digit-requires-in-loop-i c = digit_below c.args.text.now c.loop-i.i c.requires.hex c.loop-i-test.true

pub loop-i-preserved : goal.loop-i-preserved
loop-i-preserved c =
    let l = c.loop-i in
    let text = c.args.text.now in
    let width = length c.args.bits.now in
    let few = (width - 1) % 4 + 1 in
    let at = few + 4 * (l.i - 1) in
    let value = digits_value 16 text in
    let rest = bits_of (4 * (length text - (l.i + 1))) value in
    let first = l.auto.i in
    let within = c.loop-i-test.true in
    let left : 4 * (length text - (l.i + 1)) + 4 ≡ 4 * (length text - l.i) = omega arith in
    let place : few + 4 * (l.i + 1 - 1) ≡ at + 4 = omega arith in
    ap (λ n. take n c.put_digit.new.bits ++ rest) place
    ∙ ap (λ bits. bits ++ rest) (c.put_digit.ensures ∙ ap (λ d. take at l.bits ++ bits_of 4 d) c.number_of_digit-in-loop-i.ensures)
    ∙ bits_of_digits_left (take at l.bits) (bits_of width value) text l.i 4 c.requires.hex within (omega arith)
    (ap (λ w. take at l.bits ++ bits_of w value) left ∙ l.invariant)
