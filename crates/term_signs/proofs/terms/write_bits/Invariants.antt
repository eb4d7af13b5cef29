use Rattle.std.proofs.Common.{◌≡◌, ◌++◌, map, take}
use Rattle.term_signs.specs.declared.alphabet.Sign.TheVariants.{Bit}
use Rattle.term_signs.proofs.terms.write_bits.Given as goal

abbrev pub invariant-loop-bit : goal.invariant-loop-bit
invariant-loop-bit l = l.out.items ≡ l.initial.out.items ++ map (λ b. Bit b) (take l.bit-index l.bit-items)
