use Rattle.std.proofs.Common.{ℕ, ◌+◌, ◌-◌, ◌%◌, ◌^◌, ◌<◌, subst, sym, ◌∙◌, arith}
use Rattle.chw_bits.proofs.HexText.{first_below}
use Rattle.chw_bits.proofs.read_hex.fits_width.Goals as goal

pub returns : goal.returns
returns c =
    let first = first_below c.args.text.now c.args.width c.requires.hex c.requires.count (omega arith) in
    let digit = c.from.ensures ∙ c.number_of_digit.ensures in
    let P : ℕ → Type 0 = λ n. n < 2 ^ ((c.args.width - 1) % 4 + 1) in
    (λ yes. first.0 (subst P digit (c.fits.ensures.0 yes)), λ below. c.fits.ensures.1 (subst P (sym digit) (first.1 below)))
