use Rattle.std.proofs.Common.{sym, ◌∙◌}
use Rattle.std.proofs.lemmas.Bool.{false≢true}
use Rattle.wave_read.specs.Reading.{end_of, words_in}
use Rattle.wave_read.specs.Shown.{bits_of, shown}
use Rattle.wave_read.proofs.BitDigits.{value_back, value_digits}
use Rattle.wave_read.proofs.Itemizing.{bits_item, code_fails, no_bits_fail}
use Rattle.wave_read.proofs.items.vector.Goals as goal

pub returns-then-not-is_value-clause-fault : goal.returns-then-not-is_value-clause-fault
returns-then-not-is_value-clause-fault c =
    let behind = c.args.behind in
    let digits = c.args.digits.now in
    no_bits_fail (shown c.args.word) digits (end_of behind) (words_in behind) c.requires.bytes
    (λ value is some. false≢true (sym c.if-not-is_value.true ∙ c.is_value.ensures.1 (value_digits digits value is some)))

pub returns-in-Ok-clause-item : goal.returns-in-Ok-clause-item
returns-in-Ok-clause-item c =
    let behind = c.args.behind in
    let digits = c.args.digits.now in
    let value = value_back c.args.word.bytes.now digits c.requires.bytes (c.is_value.ensures.0 c.if-not-is_value.false) in
    bits_item (shown c.args.word) (shown c.in-Ok.code) (bits_of digits) (words_in behind) (words_in c.in-Ok.left) (end_of behind) value c.in-Ok.ensures.fits c.in-Ok.ensures.word

pub returns-in-Err-clause-fault : goal.returns-in-Err-clause-fault
returns-in-Err-clause-fault c =
    let behind = c.args.behind in
    let digits = c.args.digits.now in
    let value = value_back c.args.word.bytes.now digits c.requires.bytes (c.is_value.ensures.0 c.if-not-is_value.false) in
    code_fails (shown c.args.word) (bits_of digits) (end_of behind) (words_in behind) c.in-Err.at value c.in-Err.ensures.fault
