use Rattle.std.proofs.Common.{◌≡◌, ◌+◌, ◌-◌, ◌/◌, ◌%◌, ◌^◌, ap, ◌∙◌, arith}
use Rattle.std.proofs.Math.Nat.{mod-mod}
use Rattle.chw_bits.specs.Bits.{bits_of}
use Rattle.chw_bits.proofs.Residues.{same_low_bits}
use Rattle.chw_bits.proofs.WordBits.{middle_bits}
use Rattle.chw_bits.proofs.machine.middle.Goals as goal

pub returns-clause-bits : goal.returns-clause-bits
returns-clause-bits c =
    let order = c.requires.order in
    let count = c.args.high + 1 - c.args.low in
    let n = c.args.a / 2 ^ c.args.low in
    let number : c.lowest.result ≡ n % 2 ^ count =
    c.lowest.ensures.number
    ∙ ap (λ k. k % 2 ^ (c.args.high - c.args.low + 1)) (c.lowered.ensures ∙ ap (λ p. c.args.a / 2 ^ p) c.from.ensures)
    ∙ ap (λ k. n % 2 ^ k) (omega arith) in
    λ width within. ap (bits_of count) number ∙ same_low_bits count (n % 2 ^ count) n (mod-mod n (2 ^ count)) ∙ middle_bits width c.args.a c.args.high c.args.low order within
