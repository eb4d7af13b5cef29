-- Products, row by row.
use Rattle.std.proofs.Common.{◌≡◌, ℕ, zero, suc, ◌+◌, ◌*◌, ◌/◌, ◌%◌, ◌^◌, ◌<◌, ◌≤◌, Bool, true, false, ◌&&◌, List, [], ◌∷◌, length, map, take, drop, refl, sym, ap, subst, ◌∙◌, arith}
use Rattle.std.proofs.Math.Nat.{mod-eq_of_lt}
use Rattle.std.proofs.lemmas.List.{length-drop, length-map, take-append-drop}
use Rattle.std.proofs.lemmas.Nat.{div-add-mod', mod_low, pow-add}
use Rattle.chw_bits.specs.Bits.{number_of}
use Rattle.chw_bits.proofs.Numbers.{number_of-append, number_of_lt}
use Rattle.chw_clock.specs.declared.event.Event.{Event}
use Rattle.chw_clock.specs.declared.event.Ports.{Ports}
use Rattle.netlist.specs.Operators.{operator2}
use Rattle.netlist.specs.declared.net.Op2.TheVariants.{Mul}
use Rattle.bit_laws.specs.BitNames.{further, furthers}
use Rattle.bit_laws.specs.Bitnet.{BitValue, Bitnet, HaveBits}
use Rattle.bit_laws.specs.Blast.{gate_of, masked, product_count, product_names, product_nodes, row_names, row_nodes}
use Rattle.bit_laws.specs.Gates.{are_most, is_odd}
use Rattle.bit_laws.specs.Gates.Gate.{both, most, never, odd}
use Rattle.bit_laws.proofs.Numbers.{same_power, weight, word_is}
use Rattle.bit_laws.proofs.Sums.{one_sum, pow_twice}
use Rattle.bit_laws.proofs.Words.{HasNodes, gate_bit, have_dropped, have_length, parted}

-- a row: to the first bits of a word another word is added, masked by y; and its last carry
abbrev pub row_carry : List Bool → List Bool → Bool → Bool
row_carry (p ∷ pv) (x ∷ us) y = are_most p (x && y) (row_carry pv us y)
row_carry _ _ y = false

abbrev pub row_of : List Bool → List Bool → Bool → List Bool
row_of (p ∷ pv) (x ∷ us) y = is_odd p (x && y) (row_carry pv us y) ∷ row_of pv us y
row_of pv _ y = pv

length-row_of : (pv us : List Bool) (y : Bool) → length (row_of pv us y) ≡ length pv
length-row_of [] us y = refl
length-row_of (p ∷ pv) [] y = refl
length-row_of (p ∷ pv) (x ∷ us) y = ap suc (length-row_of pv us y)

masked_number : (x y : Bool) (q n e p : ℕ) → p ≡ q * e → weight (x && y) p + weight y (n * e) ≡ weight y ((weight x q + n) * e)
masked_number true true q n e p f = omega arith
masked_number true false q n e p f = omega arith
masked_number false true q n e p f = omega arith
masked_number false false q n e p f = omega arith

-- no bits are added
none_added : (y : Bool) (n e : ℕ) → n + 0 ≡ n + weight y (0 * e)
none_added true n e = omega arith
none_added false n e = omega arith

row_number : (i : ℕ) (pv us : List Bool) (y : Bool) → length pv ≡ length us + i
    → number_of (row_of pv us y) + weight (row_carry pv us y) (2 ^ length pv) ≡ number_of pv + weight y (number_of us * 2 ^ i)
row_number i [] [] y e = none_added y 0 (2 ^ i)
row_number i [] (x ∷ us) y e = absurd (omega arith)
row_number i (p ∷ pv) [] y e = none_added y (number_of (p ∷ pv)) (2 ^ i)
row_number i (p ∷ pv) (x ∷ us) y e =
    let rest : length pv ≡ length us + i = omega arith in
    let power : 2 ^ length pv ≡ 2 ^ length us * 2 ^ i = ap (λ n. 2 ^ n) rest ∙ pow-add 2 (length us) i in
    let before : number_of (row_of pv us y) + weight (row_carry pv us y) (2 ^ length pv) ≡ number_of pv + weight y (number_of us * 2 ^ i) + 0 =
    omega (arith, row_number i pv us y rest) in
    let own = one_sum p (x && y) (row_carry pv us y) (2 ^ length pv) (2 ^ length (row_of pv us y)) (2 ^ length pv) (2 ^ suc (length pv))
    (number_of (row_of pv us y)) (number_of pv) (weight y (number_of us * 2 ^ i)) 0
    (same_power (row_of pv us y) pv (length-row_of pv us y)) refl (pow_twice (length pv)) before in
    let added = masked_number x y (2 ^ length us) (number_of us) (2 ^ i) (2 ^ length pv) power in
    omega (arith, own, added)

-- a product: the first row is masked alone
abbrev pub product_of : List Bool → List Bool → List Bool
product_of us [] = []
product_of us (y ∷ []) = map (λ x. x && y) us
product_of us (y ∷ z ∷ vs) = row_of (product_of us (z ∷ vs)) (drop (length (z ∷ vs)) us) y

pub length-product_of : (us vs : List Bool) → 1 ≤ length vs → length (product_of us vs) ≡ length us
length-product_of us [] some = absurd (omega arith)
length-product_of us (y ∷ []) some = length-map us (λ x. x && y)
length-product_of us (y ∷ z ∷ vs) some =
    length-row_of (product_of us (z ∷ vs)) (drop (length (z ∷ vs)) us) y ∙ length-product_of us (z ∷ vs) (omega arith)

number_of_masked : (us : List Bool) (y : Bool) → number_of (map (λ x. x && y) us) ≡ weight y (number_of us)
number_of_masked [] true = refl
number_of_masked [] false = refl
number_of_masked (true ∷ us) true = omega (arith, number_of_masked us true, same_power (map (λ x. x && true) us) us (length-map us (λ x. x && true)))
number_of_masked (false ∷ us) true = omega (arith, number_of_masked us true)
number_of_masked (true ∷ us) false = omega (arith, number_of_masked us false)
number_of_masked (false ∷ us) false = omega (arith, number_of_masked us false)

one_row : (y : Bool) (a n : ℕ) → a < n → weight y a ≡ a * (weight y 1 + 0) % n
one_row true a n below = let same : a * (1 + 0) ≡ a = omega arith in sym (ap (λ k. k % n) same ∙ mod-eq_of_lt below)
one_row false a n below =
    let same : a * (0 + 0) ≡ 0 = omega arith in
    let small : 0 < n = omega arith in
    sym (ap (λ k. k % n) same ∙ mod-eq_of_lt small)

-- one row more
product_step : (y k : Bool) (a c d t p r e n q : ℕ) → a * e ≡ t * n + d * e → a * c ≡ q * n + p → r + weight k n ≡ p + weight y (d * e)
    → a * (weight y e + c) ≡ (weight y t + q + weight k 1) * n + r
product_step true true a c d t p r e n q f g h = omega arith
product_step true false a c d t p r e n q f g h = omega arith
product_step false true a c d t p r e n q f g h = omega arith
product_step false false a c d t p r e n q f g h = omega arith

-- the first bits of a word leave it when it is moved up
pub moved_number : (us : List Bool) (i : ℕ) → i ≤ length us
    → number_of us * 2 ^ i ≡ number_of (take i us) * 2 ^ length us + number_of (drop i us) * 2 ^ i
moved_number us i le =
    let rest = length-drop i us in
    let split : length us ≡ length (drop i us) + i = omega arith in
    let power : 2 ^ length us ≡ 2 ^ length (drop i us) * 2 ^ i = ap (λ n. 2 ^ n) split ∙ pow-add 2 (length (drop i us)) i in
    let whole : number_of us ≡ number_of (take i us) * 2 ^ length (drop i us) + number_of (drop i us) =
    ap number_of (sym (take-append-drop i us)) ∙ number_of-append (take i us) (drop i us) in
    let product = ap (λ n. n * 2 ^ i) whole in
    let high = ap (λ n. number_of (take i us) * n) power in
    omega (arith, product, high)

pub product_number : (us vs : List Bool) → 1 ≤ length vs → length vs ≤ length us
    → number_of (product_of us vs) ≡ number_of us * number_of vs % 2 ^ length us
product_number us [] some le = absurd (omega arith)
product_number us (y ∷ []) some le = number_of_masked us y ∙ one_row y (number_of us) (2 ^ length us) (number_of_lt us)
product_number us (y ∷ z ∷ vs) some le =
    let whole = 2 ^ length us in
    let i = length (z ∷ vs) in
    let before = product_of us (z ∷ vs) in
    let low = drop i us in
    let dropped = length-drop i us in
    let long = length-product_of us (z ∷ vs) (omega arith) in
    let less : i ≤ length us = omega (arith, le) in
    let fits : length before ≡ length low + i = omega (arith, long, dropped, less) in
    let power : 2 ^ length before ≡ whole = same_power before us long in
    let row = row_number i before low y fits in
    let row_is : number_of (row_of before low y) + weight (row_carry before low y) whole ≡ number_of before + weight y (number_of low * 2 ^ i) =
    subst (λ n. number_of (row_of before low y) + weight (row_carry before low y) n ≡ number_of before + weight y (number_of low * 2 ^ i)) power row in
    let quotient = number_of us * number_of (z ∷ vs) / whole in
    let rest : number_of us * number_of (z ∷ vs) ≡ quotient * whole + number_of before =
    sym (div-add-mod' (number_of us * number_of (z ∷ vs)) whole)
    ∙ ap (λ n. quotient * whole + n) (sym (product_number us (z ∷ vs) (omega arith) less)) in
    let below : number_of (row_of before low y) < whole =
    subst (λ n. number_of (row_of before low y) < n) (same_power (row_of before low y) us (length-row_of before low y ∙ long)) (number_of_lt (row_of before low y)) in
    sym (ap (λ n. n % whole)
    (product_step y (row_carry before low y) (number_of us) (number_of (z ∷ vs)) (number_of low) (number_of (take i us)) (number_of before)
    (number_of (row_of before low y)) (2 ^ i) whole quotient (moved_number us i less) rest row_is)
    ∙ mod_low (weight y (number_of (take i us)) + quotient + weight (row_carry before low y) 1) (length us) (number_of (row_of before low y)) below)

-- the product of two words, cut to their width
pub product_is : (us vs : List Bool) → 1 ≤ length us → length us ≡ length vs → product_of us vs ≡ operator2 Mul us vs
product_is us vs some e =
    word_is (product_of us vs) (length us) (number_of us * number_of vs) (length-product_of us vs (omega arith))
    (product_number us vs (omega arith) (omega arith))

pub length-furthers : (k x n : ℕ) → length (furthers k x n) ≡ n
length-furthers k x zero = refl
length-furthers k x (suc n) = ap suc (length-furthers k x n)

module _ (ports : Ports) (b : Bitnet) (h : List Event) (k : ℕ) where
  masked_has : (outs xs : List (List ℕ)) (m : List ℕ) (us : List Bool) (y : Bool) → length outs ≡ length xs → HasNodes b (masked outs xs m)
      → HaveBits ports b h xs us → BitValue ports b h m y → HaveBits ports b h outs (map (λ x. x && y) us)
  masked_has [] [] m [] y e all v w = tt
  masked_has [] [] m (x ∷ us) y e all v w = absurd v
  masked_has [] (n ∷ xs) m us y e all v w = absurd (omega arith)
  masked_has (o ∷ outs) [] m us y e all v w = absurd (omega arith)
  masked_has (o ∷ outs) (n ∷ xs) m [] y e all v w = absurd v
  masked_has (o ∷ outs) (n ∷ xs) m (x ∷ us) y e all v w =
      let s = parted b (masked outs xs m) (gate_of both (n ∷ m ∷ []) o ∷ []) all in
      (gate_bit ports b h both (n ∷ m ∷ []) o (x ∷ y ∷ []) s.1.0 (v.0, (w, tt)), masked_has outs xs m us y (omega arith) s.0 v.1 w)

  record Row (names : List (List ℕ)) (bits : List Bool) (carry : List ℕ) (top : Bool) : Type 0 where
    word : HaveBits ports b h names bits
    last : BitValue ports b h carry top

  row_has : (c : ℕ) (ps xs : List (List ℕ)) (m : List ℕ) (pv us : List Bool) (y : Bool) → length xs ≤ length ps
      → HasNodes b (row_nodes k c ps xs m) → BitValue ports b h (further k (c + 0)) false → HaveBits ports b h ps pv → HaveBits ports b h xs us
      → BitValue ports b h m y
      → Row (row_names k c ps xs) (row_of pv us y) (further k (c + 3 * length xs)) (row_carry pv us y)
  row_has c [] [] m [] [] y e all t p v w = record { word = tt; last = t }
  row_has c [] [] m [] (x ∷ us) y e all t p v w = absurd v
  row_has c [] [] m (z ∷ pv) us y e all t p v w = absurd p
  row_has c [] (n ∷ xs) m pv us y e all t p v w = absurd (omega arith)
  row_has c (q ∷ ps) [] m [] us y e all t p v w = absurd p
  row_has c (q ∷ ps) [] m (z ∷ pv) [] y e all t p v w = record { word = p; last = t }
  row_has c (q ∷ ps) [] m (z ∷ pv) (x ∷ us) y e all t p v w = absurd v
  row_has c (q ∷ ps) (n ∷ xs) m [] us y e all t p v w = absurd p
  row_has c (q ∷ ps) (n ∷ xs) m (z ∷ pv) [] y e all t p v w = absurd v
  row_has c (q ∷ ps) (n ∷ xs) m (z ∷ pv) (x ∷ us) y e all t p v w =
      let part = further k (c + (3 * length xs + 1)) in
      let read = q ∷ part ∷ further k (c + 3 * length xs) ∷ [] in
      let out = further k (c + (3 * length xs + 2)) in
      let next = further k (c + 3 * length (n ∷ xs)) in
      let s = parted b (row_nodes k c ps xs m) (gate_of both (n ∷ m ∷ []) part ∷ gate_of odd read out ∷ gate_of most read next ∷ []) all in
      let rest = row_has c ps xs m pv us y (omega arith) s.0 t p.1 v.1 w in
      let masked_bit : BitValue ports b h part (x && y) = gate_bit ports b h both (n ∷ m ∷ []) part (x ∷ y ∷ []) s.1.0 (v.0, (w, tt)) in
      let values = z ∷ (x && y) ∷ row_carry pv us y ∷ [] in
      record {
        word = (gate_bit ports b h odd read out values s.1.1.0 (p.0, (masked_bit, (rest.last, tt))), rest.word);
        last = gate_bit ports b h most read next values s.1.1.1.0 (p.0, (masked_bit, (rest.last, tt)));
      }

  pub products_have : (xs ys : List (List ℕ)) (us vs : List Bool) → 1 ≤ length ys → length ys ≤ length xs
      → HasNodes b (product_nodes k xs ys) → HaveBits ports b h xs us → HaveBits ports b h ys vs
      → HaveBits ports b h (product_names k xs ys) (product_of us vs)
  products_have xs [] us vs some le all v w = absurd (omega arith)
  products_have xs (m ∷ []) us [] some le all v w = absurd w
  products_have xs (m ∷ []) us (y ∷ []) some le all v w =
      masked_has (furthers k 0 (length xs)) xs m us y (length-furthers k 0 (length xs)) all v w.0
  products_have xs (m ∷ []) us (y ∷ z ∷ vs) some le all v w = absurd w.1
  products_have xs (m ∷ n ∷ ys) us [] some le all v w = absurd w
  products_have xs (m ∷ n ∷ ys) us (y ∷ []) some le all v w = absurd w.1
  products_have xs (m ∷ n ∷ ys) us (y ∷ z ∷ vs) some le all v w =
      let c = product_count xs (n ∷ ys) in
      let names = product_names k xs (n ∷ ys) in
      let i = length (n ∷ ys) in
      let s = parted b (product_nodes k xs (n ∷ ys)) (gate_of never [] (further k c) ∷ row_nodes k c names (drop i xs) m) all in
      let less : i ≤ length xs = omega arith in
      let before = products_have xs (n ∷ ys) us (z ∷ vs) (omega arith) less s.0 v w.1 in
      let first_carry : BitValue ports b h (further k c) false = gate_bit ports b h never [] (further k c) [] s.1.0 tt in
      let same_number : c ≡ c + 0 = omega arith in
      let carry : BitValue ports b h (further k (c + 0)) false = subst (λ x. BitValue ports b h (further k x) false) same_number first_carry in
      let as_many : i ≡ length (z ∷ vs) = have_length ports b h (n ∷ ys) (z ∷ vs) w.1 in
      let low : HaveBits ports b h (drop i xs) (drop (length (z ∷ vs)) us) =
      subst (λ j. HaveBits ports b h (drop i xs) (drop j us)) as_many (have_dropped ports b h i xs us v) in
      let long = have_length ports b h names (product_of us (z ∷ vs)) before in
      let wide = have_length ports b h xs us v in
      let count = length-product_of us (z ∷ vs) (omega arith) in
      let fits : length (drop i xs) ≤ length names = omega (arith, length-drop i xs, long, wide, count) in
      (row_has c names (drop i xs) m (product_of us (z ∷ vs)) (drop (length (z ∷ vs)) us) y fits s.1.1 carry before low w.0).word
