use Rattle.std.proofs.Common.{[], ◌∷◌, refl, arith}
use Rattle.chw_bits.specs.Bits.{bits_of}
use Rattle.chw_prims.specs.declared.prim.Primitive.TheVariants.{AddU, ExtS, ShrS}
use Rattle.net_built.specs.Wires.{wire}
use Rattle.cell_bits.specs.Bearing.{bears_bits}
use Rattle.cell_bits.proofs.Settling.{only_bears}
use Rattle.cell_bits.proofs.Table.{values_bear}
use Rattle.cell_bits.proofs.word_laws.word_examples.Goals as goal

pub returns : goal.returns
returns c = record {
  sum = λ net path h has left right. only_bears (values_bear AddU (4 ∷ []) (bits_of 4 13 ∷ bits_of 4 7 ∷ []) 2 (wire 0 ∷ []) (wire 1 ∷ []) (bits_of 4 4) refl (bears_bits left) (λ l. bears_bits right) has) (omega arith);
  extension = λ net path h has left. only_bears (values_bear ExtS (4 ∷ 4 ∷ []) (bits_of 4 13 ∷ []) 1 (wire 0 ∷ []) [] (bits_of 8 253) refl (bears_bits left) (λ l. absurd (omega (arith, l))) has) (omega arith);
  shift = λ net path h has left right. only_bears (values_bear ShrS (4 ∷ 2 ∷ []) (bits_of 4 13 ∷ bits_of 2 1 ∷ []) 2 (wire 0 ∷ []) (wire 1 ∷ []) (bits_of 4 14) refl (bears_bits left) (λ l. bears_bits right) has) (omega arith);
}
