-- Sums and differences bit by bit, with their carries.
use Rattle.std.proofs.Common.{◌≡◌, ℕ, suc, ◌+◌, ◌-◌, ◌*◌, ◌^◌, ◌<◌, Bool, true, false, not, List, [], ◌∷◌, length, map, refl, sym, ap, subst, ◌∙◌, arith}
use Rattle.std.proofs.Math.Nat.{pow-suc}
use Rattle.std.proofs.lemmas.List.{length-map}
use lib.IntN.{pos, ◌-ℤ◌}
use borrow.Author.Differences.{neg_is, sum_is_lem}
use Rattle.chw_bits.specs.Bits.{number_of}
use Rattle.chw_bits.proofs.Numbers.{number_of_lt}
use Rattle.chw_bits.proofs.Residues.{Alike, word_of_alike}
use Rattle.chw_clock.specs.declared.event.Event.{Event}
use Rattle.chw_clock.specs.declared.event.Ports.{Ports}
use Rattle.netlist.specs.Operators.{operator2}
use Rattle.netlist.specs.declared.net.Op2.TheVariants.{Add, Sub}
use Rattle.bit_laws.specs.BitNames.{further}
use Rattle.bit_laws.specs.Bitnet.{BitValue, Bitnet, HaveBits}
use Rattle.bit_laws.specs.Blast.{difference_nodes, gate_of, sum_nodes}
use Rattle.bit_laws.specs.Gates.{are_most, is_odd}
use Rattle.bit_laws.specs.Gates.Gate.{inverse, most, odd}
use Rattle.bit_laws.proofs.Numbers.{bits_are, low_number, number_of_opposite, same_power, weight, word_is}
use Rattle.bit_laws.proofs.Words.{HasNodes, gate_bit, parted}

-- the carry of two words behind a first carry, and the bits of their sum
abbrev pub carry_of : Bool → List Bool → List Bool → Bool
carry_of c (x ∷ us) (y ∷ vs) = are_most x y (carry_of c us vs)
carry_of c _ _ = c

abbrev pub sum_of : Bool → List Bool → List Bool → List Bool
sum_of c (x ∷ us) (y ∷ vs) = is_odd x y (carry_of c us vs) ∷ sum_of c us vs
sum_of c _ _ = []

pub length-sum_of : (c : Bool) (us vs : List Bool) → length us ≡ length vs → length (sum_of c us vs) ≡ length us
length-sum_of c [] vs e = refl
length-sum_of c (x ∷ us) [] e = absurd (omega arith)
length-sum_of c (x ∷ us) (y ∷ vs) e = ap suc (length-sum_of c us vs (omega arith))

pub pow_twice : (n : ℕ) → 2 ^ suc n ≡ 2 * 2 ^ n
pow_twice n = omega (arith, pow-suc 2 n)

-- one bit: what weighs p gives p and twice p
pub one_sum : (x y k : Bool) (p q r twice s a b w : ℕ) → q ≡ p → r ≡ p → twice ≡ 2 * p → s + weight k p ≡ a + b + w
    → weight (is_odd x y k) q + s + weight (are_most x y k) twice ≡ (weight x p + a) + (weight y r + b) + w
one_sum true true true p q r twice s a b w e f g h = omega arith
one_sum true true false p q r twice s a b w e f g h = omega arith
one_sum true false true p q r twice s a b w e f g h = omega arith
one_sum true false false p q r twice s a b w e f g h = omega arith
one_sum false true true p q r twice s a b w e f g h = omega arith
one_sum false true false p q r twice s a b w e f g h = omega arith
one_sum false false true p q r twice s a b w e f g h = omega arith
one_sum false false false p q r twice s a b w e f g h = omega arith

-- the sum, with its last carry above it
pub number_of-sum_of : (c : Bool) (us vs : List Bool) → length us ≡ length vs
    → number_of (sum_of c us vs) + weight (carry_of c us vs) (2 ^ length us) ≡ number_of us + number_of vs + weight c 1
number_of-sum_of true [] [] e = refl
number_of-sum_of false [] [] e = refl
number_of-sum_of c [] (y ∷ vs) e = absurd (omega arith)
number_of-sum_of c (x ∷ us) [] e = absurd (omega arith)
number_of-sum_of c (x ∷ us) (y ∷ vs) e =
    let rest : length us ≡ length vs = omega arith in
    one_sum x y (carry_of c us vs) (2 ^ length us) (2 ^ length (sum_of c us vs)) (2 ^ length vs) (2 ^ suc (length us))
    (number_of (sum_of c us vs)) (number_of us) (number_of vs) (weight c 1)
    (same_power (sum_of c us vs) us (length-sum_of c us vs rest)) (same_power vs us (sym rest)) (pow_twice (length us))
    (number_of-sum_of c us vs rest)

-- the sum of two words, cut to their width
pub sum_is : (us vs : List Bool) → length us ≡ length vs → sum_of false us vs ≡ operator2 Add us vs
sum_is us vs e =
    let below : number_of (sum_of false us vs) < 2 ^ length us =
    subst (λ n. number_of (sum_of false us vs) < 2 ^ n) (length-sum_of false us vs e) (number_of_lt (sum_of false us vs)) in
    let whole : number_of (sum_of false us vs) + weight (carry_of false us vs) (2 ^ length us) ≡ number_of us + number_of vs =
    omega (arith, number_of-sum_of false us vs e) in
    word_is (sum_of false us vs) (length us) (number_of us + number_of vs) (length-sum_of false us vs e)
    (low_number (number_of (sum_of false us vs)) (number_of us + number_of vs) (2 ^ length us) (length us) (carry_of false us vs) below refl whole)

-- a number's complement is alike its opposite
subtracted : (v m n : ℕ) → n < 2 ^ v → Alike (2 ^ v) (pos (m + (2 ^ v - n))) (pos m -ℤ pos n)
subtracted v m n below = record { over = 0; under = 1; is = omega (arith, sum_is_lem, neg_is) }

-- the difference of two words: the sum with the opposite bits, and one more
pub difference_is : (us vs : List Bool) → length us ≡ length vs → sum_of true us (map not vs) ≡ operator2 Sub us vs
difference_is us vs e =
    let long : length us ≡ length (map not vs) = e ∙ sym (length-map vs not) in
    let result = sum_of true us (map not vs) in
    let power : 2 ^ length vs ≡ 2 ^ length us = same_power vs us (sym e) in
    let small : number_of vs < 2 ^ length us = subst (λ p. number_of vs < p) power (number_of_lt vs) in
    let below : number_of result < 2 ^ length us =
    subst (λ n. number_of result < 2 ^ n) (length-sum_of true us (map not vs) long) (number_of_lt result) in
    let whole : number_of result + weight (carry_of true us (map not vs)) (2 ^ length us) ≡ number_of us + (2 ^ length us - number_of vs) =
    omega (arith, number_of-sum_of true us (map not vs) long, number_of_opposite vs, power, small) in
    bits_are result (length us) (number_of us + (2 ^ length us - number_of vs)) (length-sum_of true us (map not vs) long)
    (low_number (number_of result) (number_of us + (2 ^ length us - number_of vs)) (2 ^ length us) (length us) (carry_of true us (map not vs)) below refl whole)
    ∙ word_of_alike (length us) (length us) (number_of us + (2 ^ length us - number_of vs)) (pos (number_of us) -ℤ pos (number_of vs))
    (omega arith) (subtracted (length us) (number_of us) (number_of vs) small)

module _ (ports : Ports) (b : Bitnet) (h : List Event) (k : ℕ) where
  -- the nodes of a sum give its bits and its carry
  pub record Sums (outs xs : List (List ℕ)) (us : List Bool) (carry : List ℕ) (top : Bool) : Type 0 where
    pub bits : HaveBits ports b h outs us
    pub last : BitValue ports b h carry top

  pub sums_have : (c : Bool) (outs xs ys : List (List ℕ)) (us vs : List Bool) → length outs ≡ length xs → length outs ≡ length ys
      → HasNodes b (sum_nodes k outs xs ys) → BitValue ports b h (further k 0) c → HaveBits ports b h xs us → HaveBits ports b h ys vs
      → Sums outs xs (sum_of c us vs) (further k (length xs)) (carry_of c us vs)
  sums_have c [] [] [] [] [] e f all t v w = record { bits = tt; last = t }
  sums_have c [] [] [] [] (y ∷ vs) e f all t v w = absurd w
  sums_have c [] [] [] (x ∷ us) vs e f all t v w = absurd v
  sums_have c [] [] (m ∷ ys) us vs e f all t v w = absurd (omega arith)
  sums_have c [] (n ∷ xs) ys us vs e f all t v w = absurd (omega arith)
  sums_have c (o ∷ outs) [] ys us vs e f all t v w = absurd (omega arith)
  sums_have c (o ∷ outs) (n ∷ xs) [] us vs e f all t v w = absurd (omega arith)
  sums_have c (o ∷ outs) (n ∷ xs) (m ∷ ys) [] vs e f all t v w = absurd v
  sums_have c (o ∷ outs) (n ∷ xs) (m ∷ ys) (x ∷ us) [] e f all t v w = absurd w
  sums_have c (o ∷ outs) (n ∷ xs) (m ∷ ys) (x ∷ us) (y ∷ vs) e f all t v w =
      let read = n ∷ m ∷ further k (length xs) ∷ [] in
      let s = parted b (sum_nodes k outs xs ys) (gate_of odd read o ∷ gate_of most read (further k (length (n ∷ xs))) ∷ []) all in
      let rest = sums_have c outs xs ys us vs (omega arith) (omega arith) s.0 t v.1 w.1 in
      record {
        bits = (gate_bit ports b h odd read o (x ∷ y ∷ carry_of c us vs ∷ []) s.1.0 (v.0, (w.0, (rest.last, tt))), rest.bits);
        last = gate_bit ports b h most read (further k (length (n ∷ xs))) (x ∷ y ∷ carry_of c us vs ∷ []) s.1.1.0 (v.0, (w.0, (rest.last, tt)));
      }

  -- the nodes of a difference give the sum with the opposite bits
  pub differences_have : (c : Bool) (outs xs ys : List (List ℕ)) (us vs : List Bool) → length outs ≡ length xs → length outs ≡ length ys
      → HasNodes b (difference_nodes k outs xs ys) → BitValue ports b h (further k 0) c → HaveBits ports b h xs us → HaveBits ports b h ys vs
      → Sums outs xs (sum_of c us (map not vs)) (further k (2 * length xs)) (carry_of c us (map not vs))
  differences_have c [] [] [] [] [] e f all t v w = record { bits = tt; last = t }
  differences_have c [] [] [] [] (y ∷ vs) e f all t v w = absurd w
  differences_have c [] [] [] (x ∷ us) vs e f all t v w = absurd v
  differences_have c [] [] (m ∷ ys) us vs e f all t v w = absurd (omega arith)
  differences_have c [] (n ∷ xs) ys us vs e f all t v w = absurd (omega arith)
  differences_have c (o ∷ outs) [] ys us vs e f all t v w = absurd (omega arith)
  differences_have c (o ∷ outs) (n ∷ xs) [] us vs e f all t v w = absurd (omega arith)
  differences_have c (o ∷ outs) (n ∷ xs) (m ∷ ys) [] vs e f all t v w = absurd v
  differences_have c (o ∷ outs) (n ∷ xs) (m ∷ ys) (x ∷ us) [] e f all t v w = absurd w
  differences_have c (o ∷ outs) (n ∷ xs) (m ∷ ys) (x ∷ us) (y ∷ vs) e f all t v w =
      let opposite = further k (2 * length xs + 1) in
      let read = n ∷ opposite ∷ further k (2 * length xs) ∷ [] in
      let s = parted b (difference_nodes k outs xs ys)
      (gate_of inverse (m ∷ []) opposite ∷ gate_of odd read o ∷ gate_of most read (further k (2 * length (n ∷ xs))) ∷ []) all in
      let rest = differences_have c outs xs ys us vs (omega arith) (omega arith) s.0 t v.1 w.1 in
      let q : BitValue ports b h opposite (not y) = gate_bit ports b h inverse (m ∷ []) opposite (y ∷ []) s.1.0 (w.0, tt) in
      let values = x ∷ not y ∷ carry_of c us (map not vs) ∷ [] in
      record {
        bits = (gate_bit ports b h odd read o values s.1.1.0 (v.0, (q, (rest.last, tt))), rest.bits);
        last = gate_bit ports b h most read (further k (2 * length (n ∷ xs))) values s.1.1.1.0 (v.0, (q, (rest.last, tt)));
      }
