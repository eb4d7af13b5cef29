-- Nodes that are found equal.
use Rattle.std.proofs.Common.{rules, ◌≡◌, ℕ, true, ◌&&◌, eqb, eqb-true}
use Rattle.std.proofs.lemmas.Bool.{and_parts, false≢true}
use denote.Enum.Bare.{sameb, same_true}
use Rattle.chw_types.specs.contracts.kind.Kind as kind_type
use Rattle.chw_types.specs.contracts.kind.Scalar as scalar_type
use Rattle.chw_types.specs.declared.kind.Kind.{Kind}
use Rattle.chw_types.specs.declared.kind.Scalar.{Scalar}
use Rattle.type_numbers.specs.contracts.node.Alone as alone_type
use Rattle.type_numbers.specs.contracts.node.Pair as pair_type
use Rattle.type_numbers.specs.contracts.node.NodePartialEq.TheImpl.{eq-value}
use Rattle.type_numbers.specs.declared.node.Alone.{Alone as AloneForm}
use Rattle.type_numbers.specs.declared.node.Pair.{Pair}
use Rattle.type_numbers.specs.declared.node.Node.{Node}
use Rattle.type_numbers.specs.declared.node.Node.TheVariants.{Alone, OfScalar, OfForall, OfPair}

alone_one : (f g : AloneForm) (m n : ℕ) → eq-value.it (Alone f m) (Alone g n) ≡ true → Alone f m ≡ Alone g n
alone_one f g m n e =
    let p = and_parts (sameb alone_type.the_type f g) (eqb m n) e in
    let form : f ≡ g = same_true alone_type.the_type (search rules) f g p.0 in
    let number : m ≡ n = eqb-true m n p.1 in
    λ i. Alone (form i) (number i)

scalar_one : (f g : Scalar) (m n : ℕ) → eq-value.it (OfScalar f m) (OfScalar g n) ≡ true → OfScalar f m ≡ OfScalar g n
scalar_one f g m n e =
    let p = and_parts (sameb scalar_type.the_type f g) (eqb m n) e in
    let form : f ≡ g = same_true scalar_type.the_type (search rules) f g p.0 in
    let number : m ≡ n = eqb-true m n p.1 in
    λ i. OfScalar (form i) (number i)

bound_one : (f g : Kind) (m n : ℕ) → eq-value.it (OfForall f m) (OfForall g n) ≡ true → OfForall f m ≡ OfForall g n
bound_one f g m n e =
    let p = and_parts (sameb kind_type.the_type f g) (eqb m n) e in
    let form : f ≡ g = same_true kind_type.the_type (search rules) f g p.0 in
    let number : m ≡ n = eqb-true m n p.1 in
    λ i. OfForall (form i) (number i)

pair_one : (f g : Pair) (l m n o : ℕ) → eq-value.it (OfPair f l m) (OfPair g n o) ≡ true → OfPair f l m ≡ OfPair g n o
pair_one f g l m n o e =
    let p = and_parts (sameb pair_type.the_type f g) (eqb l n && eqb m o) e in
    let q = and_parts (eqb l n) (eqb m o) p.1 in
    let form : f ≡ g = same_true pair_type.the_type (search rules) f g p.0 in
    let first : l ≡ n = eqb-true l n q.0 in
    let second : m ≡ o = eqb-true m o q.1 in
    λ i. OfPair (form i) (first i) (second i)

pub one_node : (n m : Node) → eq-value.it n m ≡ true → n ≡ m
one_node (Alone f m) (Alone g n) e = alone_one f g m n e
one_node (OfScalar f m) (OfScalar g n) e = scalar_one f g m n e
one_node (OfForall f m) (OfForall g n) e = bound_one f g m n e
one_node (OfPair f l m) (OfPair g n o) e = pair_one f g l m n o e
one_node (Alone f m) (OfScalar g n) e = absurd (false≢true e)
one_node (Alone f m) (OfForall g n) e = absurd (false≢true e)
one_node (Alone f m) (OfPair g n o) e = absurd (false≢true e)
one_node (OfScalar f m) (Alone g n) e = absurd (false≢true e)
one_node (OfScalar f m) (OfForall g n) e = absurd (false≢true e)
one_node (OfScalar f m) (OfPair g n o) e = absurd (false≢true e)
one_node (OfForall f m) (Alone g n) e = absurd (false≢true e)
one_node (OfForall f m) (OfScalar g n) e = absurd (false≢true e)
one_node (OfForall f m) (OfPair g n o) e = absurd (false≢true e)
one_node (OfPair f l m) (Alone g n) e = absurd (false≢true e)
one_node (OfPair f l m) (OfScalar g n) e = absurd (false≢true e)
one_node (OfPair f l m) (OfForall g n) e = absurd (false≢true e)
