use Rattle.std.proofs.Common.{[], ◌∷◌, arith}
use Rattle.cell_bits.proofs.Table.{values_bear}
use Rattle.cell_bits.proofs.word_laws.primitives_bear_values.Goals as goal

pub returns : goal.returns
returns c = record {
  one = λ net path h p nats n a b x bits on e left. values_bear p nats (x ∷ []) n a b bits e left (λ l. absurd (omega (arith, l)));
  two = λ net path h p nats n a b x y bits on e left right. values_bear p nats (x ∷ y ∷ []) n a b bits e left (λ l. right);
}
