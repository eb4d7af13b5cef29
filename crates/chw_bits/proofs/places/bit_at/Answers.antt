use Rattle.std.proofs.Common.{◌≡◌, false, ltb, ◌∙◌, sym, arith}
use Rattle.std.proofs.lemmas.Bool.Decides.{nat_tests}
use Rattle.chw_bits.proofs.Numbers.{lt-pow, bit_of_past}
use Rattle.chw_bits.proofs.places.bit_at.Goals as goal

pub returns-else-place-lt128 : goal.returns-else-place-lt128
returns-else-place-lt128 c =
    let below = lt-pow c.args.n 128 c.args.place (omega arith) (omega arith) in
    let test : ltb c.args.place 128 ≡ false = grind (arith, nat_tests) in
    test ∙ sym (bit_of_past c.args.n c.args.place below)
