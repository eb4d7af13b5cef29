-- Comparisons of words bit by bit.
use Rattle.std.proofs.Common.{◌≡◌, ℕ, suc, ◌+◌, ◌-◌, ◌*◌, ◌^◌, ◌<◌, Bool, true, false, not, ◌&&◌, List, [], ◌∷◌, length, refl, sym, ap, subst, ◌∙◌, arith, eqb, ltb, int_lt}
use Rattle.std.proofs.Math.Nat.{pow-suc}
use Rattle.std.proofs.lemmas.Bool.{le-ltb, lt-ltb, ne_eqb}
use lib.IntN.{pos, negsuc}
use Rattle.chw_bits.specs.Bits.{number_of}
use Rattle.chw_bits.specs.Bitwise.{differ}
use Rattle.chw_bits.specs.Integers.{signed}
use Rattle.chw_bits.proofs.Numbers.{number_of_lt}
use Rattle.chw_bits.proofs.Signs.{complement_low, negative_is, positive_is}
use Rattle.chw_clock.specs.declared.event.Event.{Event}
use Rattle.chw_clock.specs.declared.event.Ports.{Ports}
use Rattle.bit_laws.specs.BitNames.{further}
use Rattle.bit_laws.specs.Bitnet.{BitValue, Bitnet, HaveBits}
use Rattle.bit_laws.specs.Blast.{equal_nodes, gate_of, less_nodes, signed_nodes}
use Rattle.bit_laws.specs.Gates.{is_less}
use Rattle.bit_laws.specs.Gates.Gate.{alike, both, less}
use Rattle.bit_laws.proofs.Numbers.{eqb_alike, ltb_alike, same_power, weight}
use Rattle.bit_laws.proofs.Words.{HasNodes, gate_bit, parted}

pub and_all : (x : Bool) → (x && true) ≡ x
and_all true = refl
and_all false = refl

pub and_no : (x : Bool) → (x && false) ≡ false
and_no true = refl
and_no false = refl

-- whether all bits of two words are equal
abbrev pub equal_of : List Bool → List Bool → Bool
equal_of (x ∷ us) (y ∷ vs) = equal_of us vs && not (differ x y)
equal_of _ _ = true

one_equal : (x y k : Bool) (p q a b : ℕ) → q ≡ p → a < p → b < p → k ≡ eqb a b
    → (k && not (differ x y)) ≡ eqb (weight x p + a) (weight y q + b)
one_equal true true k p q a b e l m f = and_all k ∙ f ∙ sym (eqb_alike (p + a) (q + b) a b (λ g. omega arith) (λ g. omega arith))
one_equal true false k p q a b e l m f = and_no k ∙ sym (ne_eqb (p + a) (0 + b) (λ g. omega arith))
one_equal false true k p q a b e l m f = and_no k ∙ sym (ne_eqb (0 + a) (q + b) (λ g. omega arith))
one_equal false false k p q a b e l m f = and_all k ∙ f ∙ sym (eqb_alike (0 + a) (0 + b) a b (λ g. omega arith) (λ g. omega arith))

pub equal_is : (us vs : List Bool) → length us ≡ length vs → equal_of us vs ≡ eqb (number_of us) (number_of vs)
equal_is [] [] e = refl
equal_is [] (y ∷ vs) e = absurd (omega arith)
equal_is (x ∷ us) [] e = absurd (omega arith)
equal_is (x ∷ us) (y ∷ vs) e =
    let rest : length us ≡ length vs = omega arith in
    let power : 2 ^ length vs ≡ 2 ^ length us = same_power vs us (sym rest) in
    let small : number_of vs < 2 ^ length us = subst (λ p. number_of vs < p) power (number_of_lt vs) in
    one_equal x y (equal_of us vs) (2 ^ length us) (2 ^ length vs) (number_of us) (number_of vs) power (number_of_lt us) small (equal_is us vs rest)

-- whether the first word is less than the second
abbrev pub less_of : List Bool → List Bool → Bool
less_of (x ∷ us) (y ∷ vs) = is_less x y (less_of us vs)
less_of _ _ = false

one_less : (x y k : Bool) (p q a b : ℕ) → q ≡ p → a < p → b < p → k ≡ ltb a b
    → is_less x y k ≡ ltb (weight x p + a) (weight y q + b)
one_less true true k p q a b e l m f = f ∙ sym (ltb_alike (p + a) (q + b) a b (λ g. omega arith) (λ g. omega arith))
one_less true false k p q a b e l m f = sym (le-ltb (p + a) (0 + b) (omega arith))
one_less false true k p q a b e l m f = sym (lt-ltb (0 + a) (q + b) (omega arith))
one_less false false k p q a b e l m f = f ∙ sym (ltb_alike (0 + a) (0 + b) a b (λ g. omega arith) (λ g. omega arith))

pub less_is : (us vs : List Bool) → length us ≡ length vs → less_of us vs ≡ ltb (number_of us) (number_of vs)
less_is [] [] e = refl
less_is [] (y ∷ vs) e = absurd (omega arith)
less_is (x ∷ us) [] e = absurd (omega arith)
less_is (x ∷ us) (y ∷ vs) e =
    let rest : length us ≡ length vs = omega arith in
    let power : 2 ^ length vs ≡ 2 ^ length us = same_power vs us (sym rest) in
    let small : number_of vs < 2 ^ length us = subst (λ p. number_of vs < p) power (number_of_lt vs) in
    one_less x y (less_of us vs) (2 ^ length us) (2 ^ length vs) (number_of us) (number_of vs) power (number_of_lt us) small (less_is us vs rest)

-- a signed word whose first bit is set, and one whose first bit isn't
abbrev complement : List Bool → ℕ
complement us = 2 ^ suc (length us) - 1 - (2 ^ length us + number_of us)

negative : (us : List Bool) → signed (true ∷ us) ≡ negsuc (complement us)
negative us =
    negative_is (true ∷ us) (suc (length us)) (omega arith) refl
    ∙ ap negsuc (complement_low (suc (length us)) (suc (length us)) (2 ^ length us + number_of us) (omega arith) (number_of_lt (true ∷ us)))

positive : (us : List Bool) → signed (false ∷ us) ≡ pos (number_of us)
positive us = positive_is (false ∷ us) refl ∙ ap pos (let e : 0 + number_of us ≡ number_of us = omega arith in e)

-- the first bits of signed words are compared the other way
pub signed_is : (x y : Bool) (us vs : List Bool) → length us ≡ length vs
    → is_less y x (less_of us vs) ≡ int_lt (signed (x ∷ us)) (signed (y ∷ vs))
signed_is true true us vs e =
    let power : 2 ^ length vs ≡ 2 ^ length us = same_power vs us (sym e) in
    let twice : 2 ^ suc (length vs) ≡ 2 ^ suc (length us) = ap (λ n. 2 ^ suc n) (sym e) in
    let double : 2 ^ suc (length us) ≡ 2 ^ length us * 2 = pow-suc 2 (length us) in
    let first = number_of_lt us in
    let second = number_of_lt vs in
    less_is us vs e
    ∙ ltb_alike (number_of us) (number_of vs) (complement vs) (complement us) (λ g. omega arith) (λ g. omega arith)
    ∙ sym (ap (λ z. int_lt z (signed (true ∷ vs))) (negative us) ∙ ap (λ z. int_lt (negsuc (complement us)) z) (negative vs))
signed_is true false us vs e =
    sym (ap (λ z. int_lt z (signed (false ∷ vs))) (negative us) ∙ ap (λ z. int_lt (negsuc (complement us)) z) (positive vs))
signed_is false true us vs e =
    sym (ap (λ z. int_lt z (signed (true ∷ vs))) (positive us) ∙ ap (λ z. int_lt (pos (number_of us)) z) (negative vs))
signed_is false false us vs e =
    less_is us vs e
    ∙ sym (ap (λ z. int_lt z (signed (false ∷ vs))) (positive us) ∙ ap (λ z. int_lt (pos (number_of us)) z) (positive vs))

module _ (ports : Ports) (b : Bitnet) (h : List Event) (k : ℕ) where
  pub equals_have : (xs ys : List (List ℕ)) (us vs : List Bool) → length xs ≡ length ys
      → HasNodes b (equal_nodes k xs ys) → BitValue ports b h (further k 0) true → HaveBits ports b h xs us → HaveBits ports b h ys vs
      → BitValue ports b h (further k (2 * length xs)) (equal_of us vs)
  equals_have [] [] [] [] e all t v w = t
  equals_have [] [] [] (y ∷ vs) e all t v w = absurd w
  equals_have [] [] (x ∷ us) vs e all t v w = absurd v
  equals_have [] (m ∷ ys) us vs e all t v w = absurd (omega arith)
  equals_have (n ∷ xs) [] us vs e all t v w = absurd (omega arith)
  equals_have (n ∷ xs) (m ∷ ys) [] vs e all t v w = absurd v
  equals_have (n ∷ xs) (m ∷ ys) (x ∷ us) [] e all t v w = absurd w
  equals_have (n ∷ xs) (m ∷ ys) (x ∷ us) (y ∷ vs) e all t v w =
      let same = further k (2 * length xs + 1) in
      let read = further k (2 * length xs) ∷ same ∷ [] in
      let s = parted b (equal_nodes k xs ys)
      (gate_of alike (n ∷ m ∷ []) same ∷ gate_of both read (further k (2 * length (n ∷ xs))) ∷ []) all in
      let rest = equals_have xs ys us vs (omega arith) s.0 t v.1 w.1 in
      let q : BitValue ports b h same (not (differ x y)) = gate_bit ports b h alike (n ∷ m ∷ []) same (x ∷ y ∷ []) s.1.0 (v.0, (w.0, tt)) in
      gate_bit ports b h both read (further k (2 * length (n ∷ xs))) (equal_of us vs ∷ not (differ x y) ∷ []) s.1.1.0 (rest, (q, tt))

  pub lesses_have : (xs ys : List (List ℕ)) (us vs : List Bool) → length xs ≡ length ys
      → HasNodes b (less_nodes k xs ys) → BitValue ports b h (further k 0) false → HaveBits ports b h xs us → HaveBits ports b h ys vs
      → BitValue ports b h (further k (length xs)) (less_of us vs)
  lesses_have [] [] [] [] e all t v w = t
  lesses_have [] [] [] (y ∷ vs) e all t v w = absurd w
  lesses_have [] [] (x ∷ us) vs e all t v w = absurd v
  lesses_have [] (m ∷ ys) us vs e all t v w = absurd (omega arith)
  lesses_have (n ∷ xs) [] us vs e all t v w = absurd (omega arith)
  lesses_have (n ∷ xs) (m ∷ ys) [] vs e all t v w = absurd v
  lesses_have (n ∷ xs) (m ∷ ys) (x ∷ us) [] e all t v w = absurd w
  lesses_have (n ∷ xs) (m ∷ ys) (x ∷ us) (y ∷ vs) e all t v w =
      let read = n ∷ m ∷ further k (length xs) ∷ [] in
      let s = parted b (less_nodes k xs ys) (gate_of less read (further k (length (n ∷ xs))) ∷ []) all in
      let rest = lesses_have xs ys us vs (omega arith) s.0 t v.1 w.1 in
      gate_bit ports b h less read (further k (length (n ∷ xs))) (x ∷ y ∷ less_of us vs ∷ []) s.1.0 (v.0, (w.0, (rest, tt)))

  pub signeds_have : (n m : List ℕ) (xs ys : List (List ℕ)) (x y : Bool) (us vs : List Bool) → length xs ≡ length ys
      → HasNodes b (signed_nodes k (n ∷ xs) (m ∷ ys)) → BitValue ports b h (further k 0) false
      → HaveBits ports b h (n ∷ xs) (x ∷ us) → HaveBits ports b h (m ∷ ys) (y ∷ vs)
      → BitValue ports b h (further k (length (n ∷ xs))) (is_less y x (less_of us vs))
  signeds_have n m xs ys x y us vs e all t v w =
      let read = m ∷ n ∷ further k (length xs) ∷ [] in
      let s = parted b (less_nodes k xs ys) (gate_of less read (further k (length (n ∷ xs))) ∷ []) all in
      let rest = lesses_have xs ys us vs e s.0 t v.1 w.1 in
      gate_bit ports b h less read (further k (length (n ∷ xs))) (y ∷ x ∷ less_of us vs ∷ []) s.1.0 (w.0, (v.0, (rest, tt)))
