use Rattle.std.proofs.Common.{sym, ◌∙◌}
use Rattle.std.proofs.lemmas.Bool.{false≢true}
use Rattle.wave_read.specs.Reading.{end_of, words_in}
use Rattle.wave_read.specs.Shown.{shown}
use Rattle.wave_read.proofs.BitDigits.{first_bit}
use Rattle.wave_read.proofs.Itemizing.{digit_fails, digit_item}
use Rattle.wave_read.proofs.items.scalar.Goals as goal

pub returns-then-not-is_code-clause-fault : goal.returns-then-not-is_code-clause-fault
returns-then-not-is_code-clause-fault c =
    let behind = c.args.behind in
    digit_fails (shown c.args.word) c.requires.0 c.args.code.now (end_of behind) (words_in behind) c.requires.1 (λ form. false≢true (sym c.if-not-is_code.true ∙ c.is_code.ensures.1 form))

pub returns-clause-item : goal.returns-clause-item
returns-clause-item c =
    let behind = c.args.behind in
    digit_item (shown c.args.word) c.requires.0 c.args.code.now _ (words_in behind) (end_of behind) (record { bytes_are = c.requires.1; form = c.is_code.ensures.0 c.if-not-is_code.false })
    (first_bit c.args.word.bytes.now c.args.code.now c.requires.0 c.requires.1)
