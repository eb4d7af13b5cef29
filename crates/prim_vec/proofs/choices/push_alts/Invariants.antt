use Rattle.std.proofs.Common.{◌≡◌, ◌++◌}
use Rattle.chw_bits.specs.Bits.{bits_of}
use Rattle.chw_types.specs.declared.kind.Kind.TheVariants.{Val}
use Rattle.chw_types.specs.declared.kind.Scalar.TheVariants.{U}
use Rattle.chw_terms.specs.declared.term.Pattern.TheVariants.{OfLit}
use Rattle.chw_terms.specs.TermTree.{var}
use Rattle.chw_terms.specs.Unrolled.{each, element, alternative}
use Rattle.prim_vec.proofs.choices.push_alts.Given as goal

abbrev pub invariant-loop-j : goal.invariant-loop-j
invariant-loop-j l = l.alts.items ≡ l.initial.alts.items ++ each l.j (λ j. alternative (OfLit U (bits_of l.k j)) (element Val l.len l.a (var 1) j))
