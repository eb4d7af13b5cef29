-- How many nodes each definition makes of words.
use Rattle.std.proofs.Common.{◌≡◌, ℕ, zero, suc, ◌+◌, ◌-◌, ◌*◌, ◌^◌, ◌<◌, ◌≤◌, min, Bool, false, List, [], ◌∷◌, ◌++◌, length, take, drop, replicate, refl, sym, ap, ◌∙◌, arith, if◌then◌else◌, suc-mul, zero-mul}
use Rattle.std.specs.List.{AllByRecursion}
use Rattle.std.proofs.lemmas.List.{length-append, length-drop, length-replicate, length-take}
use Rattle.bit_laws.specs.BitNames.{further, furthers, word_names}
use Rattle.bit_laws.specs.Bitnet.{Node}
use Rattle.bit_laws.specs.Bitnet.Node.{latch}
use Rattle.bit_laws.specs.Blast.{RamNames, all_zeros, choices, choices_by, constants, difference_nodes, equal_nodes, folded, gate_of, less_nodes, masked, moved_down, moved_up, on_both, on_each, part_of, product_count, product_names, product_nodes, ram_nodes, ram_shown, ram_words, register_nodes, reset_nodes, row_names, row_nodes, shift_nodes, shifted_names, shown_names, signed_nodes, sum_nodes, word_nodes}
use Rattle.bit_laws.specs.Gates.{Gate}
use Rattle.bit_laws.specs.Gates.Gate.{added, alike, always, both, choice, cleared, either, inverse, less, most, never, odd}

-- so many more nodes behind others
one_behind : (ns : List Node) (a : Node) (k : ℕ) → length ns ≡ k → length (ns ++ a ∷ []) ≡ suc k
one_behind ns a k e = omega (arith, length-append ns (a ∷ []))

two_behind : (ns : List Node) (a b : Node) (k : ℕ) → length ns ≡ k → length (ns ++ a ∷ b ∷ []) ≡ k + 2
two_behind ns a b k e = omega (arith, length-append ns (a ∷ b ∷ []))

three_behind : (ns : List Node) (a b c : Node) (k : ℕ) → length ns ≡ k → length (ns ++ a ∷ b ∷ c ∷ []) ≡ k + 3
three_behind ns a b c k e = omega (arith, length-append ns (a ∷ b ∷ c ∷ []))

pub length-word_names : (name : List ℕ) (n : ℕ) → length (word_names name n) ≡ n
length-word_names name zero = refl
length-word_names name (suc n) = ap suc (length-word_names name n)

pub length-furthers : (k x n : ℕ) → length (furthers k x n) ≡ n
length-furthers k x zero = refl
length-furthers k x (suc n) = ap suc (length-furthers k x n)

pub length-constants : (outs : List (List ℕ)) (bits : List Bool) → length outs ≡ length bits → length (constants outs bits) ≡ length outs
length-constants [] [] e = refl
length-constants [] (b ∷ bits) e = absurd (omega arith)
length-constants (o ∷ outs) [] e = absurd (omega arith)
length-constants (o ∷ outs) (b ∷ bits) e =
    one_behind (constants outs bits) (gate_of (if b then always else never) [] o) (length outs) (length-constants outs bits (omega arith))

pub length-on_each : (gate : Gate) (outs xs : List (List ℕ)) → length outs ≡ length xs → length (on_each gate outs xs) ≡ length outs
length-on_each gate [] [] e = refl
length-on_each gate [] (x ∷ xs) e = absurd (omega arith)
length-on_each gate (o ∷ outs) [] e = absurd (omega arith)
length-on_each gate (o ∷ outs) (x ∷ xs) e =
    one_behind (on_each gate outs xs) (gate_of gate (x ∷ []) o) (length outs) (length-on_each gate outs xs (omega arith))

pub length-on_both : (gate : Gate) (outs xs ys : List (List ℕ)) → length outs ≡ length xs → length outs ≡ length ys
    → length (on_both gate outs xs ys) ≡ length outs
length-on_both gate [] xs ys e f = refl
length-on_both gate (o ∷ outs) [] ys e f = absurd (omega arith)
length-on_both gate (o ∷ outs) (x ∷ xs) [] e f = absurd (omega arith)
length-on_both gate (o ∷ outs) (x ∷ xs) (y ∷ ys) e f =
    one_behind (on_both gate outs xs ys) (gate_of gate (x ∷ y ∷ []) o) (length outs) (length-on_both gate outs xs ys (omega arith) (omega arith))

pub length-choices : (c : List ℕ) (outs xs ys : List (List ℕ)) → length outs ≡ length xs → length outs ≡ length ys
    → length (choices c outs xs ys) ≡ length outs
length-choices c [] xs ys e f = refl
length-choices c (o ∷ outs) [] ys e f = absurd (omega arith)
length-choices c (o ∷ outs) (x ∷ xs) [] e f = absurd (omega arith)
length-choices c (o ∷ outs) (x ∷ xs) (y ∷ ys) e f =
    one_behind (choices c outs xs ys) (gate_of choice (c ∷ x ∷ y ∷ []) o) (length outs) (length-choices c outs xs ys (omega arith) (omega arith))

pub length-choices_by : (cs outs xs ys : List (List ℕ)) → length cs ≡ 1 → length outs ≡ length xs → length outs ≡ length ys
    → length (choices_by cs outs xs ys) ≡ length outs
length-choices_by [] outs xs ys one e f = absurd (omega arith)
length-choices_by (c ∷ cs) outs xs ys one e f = length-choices c outs xs ys e f

pub length-folded : (gate : Gate) (k : ℕ) (xs : List (List ℕ)) → length (folded gate k xs) ≡ length xs
length-folded gate k [] = refl
length-folded gate k (x ∷ []) = refl
length-folded gate k (x ∷ y ∷ xs) =
    one_behind (folded gate k (y ∷ xs)) (gate_of gate (further k (length xs) ∷ x ∷ []) (further k (length (y ∷ xs)))) (length (y ∷ xs))
    (length-folded gate k (y ∷ xs))

pub length-sum_nodes : (k : ℕ) (outs xs ys : List (List ℕ)) → length outs ≡ length xs → length outs ≡ length ys
    → length (sum_nodes k outs xs ys) ≡ 2 * length outs
length-sum_nodes k [] xs ys e f = refl
length-sum_nodes k (o ∷ outs) [] ys e f = absurd (omega arith)
length-sum_nodes k (o ∷ outs) (x ∷ xs) [] e f = absurd (omega arith)
length-sum_nodes k (o ∷ outs) (x ∷ xs) (y ∷ ys) e f =
    let read = x ∷ y ∷ further k (length xs) ∷ [] in
    omega (
      arith,
      two_behind (sum_nodes k outs xs ys) (gate_of odd read o) (gate_of most read (further k (length (x ∷ xs)))) (2 * length outs)
          (length-sum_nodes k outs xs ys (omega arith) (omega arith)),
    )

pub length-difference_nodes : (k : ℕ) (outs xs ys : List (List ℕ)) → length outs ≡ length xs → length outs ≡ length ys
    → length (difference_nodes k outs xs ys) ≡ 3 * length outs
length-difference_nodes k [] xs ys e f = refl
length-difference_nodes k (o ∷ outs) [] ys e f = absurd (omega arith)
length-difference_nodes k (o ∷ outs) (x ∷ xs) [] e f = absurd (omega arith)
length-difference_nodes k (o ∷ outs) (x ∷ xs) (y ∷ ys) e f =
    let read = x ∷ further k (2 * length xs + 1) ∷ further k (2 * length xs) ∷ [] in
    omega (
      arith,
      three_behind (difference_nodes k outs xs ys) (gate_of inverse (y ∷ []) (further k (2 * length xs + 1))) (gate_of odd read o)
          (gate_of most read (further k (2 * length (x ∷ xs)))) (3 * length outs) (length-difference_nodes k outs xs ys (omega arith) (omega arith)),
    )

pub length-equal_nodes : (k : ℕ) (xs ys : List (List ℕ)) → length xs ≡ length ys → length (equal_nodes k xs ys) ≡ 2 * length xs
length-equal_nodes k [] ys e = refl
length-equal_nodes k (x ∷ xs) [] e = absurd (omega arith)
length-equal_nodes k (x ∷ xs) (y ∷ ys) e =
    omega (
      arith,
      two_behind (equal_nodes k xs ys) (gate_of alike (x ∷ y ∷ []) (further k (2 * length xs + 1)))
          (gate_of both (further k (2 * length xs) ∷ further k (2 * length xs + 1) ∷ []) (further k (2 * length (x ∷ xs)))) (2 * length xs)
          (length-equal_nodes k xs ys (omega arith)),
    )

pub length-less_nodes : (k : ℕ) (xs ys : List (List ℕ)) → length xs ≡ length ys → length (less_nodes k xs ys) ≡ length xs
length-less_nodes k [] ys e = refl
length-less_nodes k (x ∷ xs) [] e = absurd (omega arith)
length-less_nodes k (x ∷ xs) (y ∷ ys) e =
    one_behind (less_nodes k xs ys) (gate_of less (x ∷ y ∷ further k (length xs) ∷ []) (further k (length (x ∷ xs)))) (length xs)
    (length-less_nodes k xs ys (omega arith))

pub length-signed_nodes : (k : ℕ) (xs ys : List (List ℕ)) → length xs ≡ length ys → length (signed_nodes k xs ys) ≡ length xs
length-signed_nodes k [] ys e = refl
length-signed_nodes k (x ∷ xs) [] e = absurd (omega arith)
length-signed_nodes k (x ∷ xs) (y ∷ ys) e =
    one_behind (less_nodes k xs ys) (gate_of less (y ∷ x ∷ further k (length xs) ∷ []) (further k (length (x ∷ xs)))) (length xs)
    (length-less_nodes k xs ys (omega arith))

length-masked : (outs xs : List (List ℕ)) (y : List ℕ) → length outs ≡ length xs → length (masked outs xs y) ≡ length outs
length-masked [] xs y e = refl
length-masked (o ∷ outs) [] y e = absurd (omega arith)
length-masked (o ∷ outs) (x ∷ xs) y e =
    one_behind (masked outs xs y) (gate_of both (x ∷ y ∷ []) o) (length outs) (length-masked outs xs y (omega arith))

length-row_nodes : (k c : ℕ) (ps xs : List (List ℕ)) (y : List ℕ) → length xs ≤ length ps → length (row_nodes k c ps xs y) ≡ 3 * length xs
length-row_nodes k c [] [] y le = refl
length-row_nodes k c [] (x ∷ xs) y le = absurd (omega arith)
length-row_nodes k c (p ∷ ps) [] y le = refl
length-row_nodes k c (p ∷ ps) (x ∷ xs) y le =
    let read = p ∷ further k (c + (3 * length xs + 1)) ∷ further k (c + 3 * length xs) ∷ [] in
    omega (
      arith,
      three_behind (row_nodes k c ps xs y) (gate_of both (x ∷ y ∷ []) (further k (c + (3 * length xs + 1))))
          (gate_of odd read (further k (c + (3 * length xs + 2)))) (gate_of most read (further k (c + 3 * length (x ∷ xs)))) (3 * length xs)
          (length-row_nodes k c ps xs y (omega arith)),
    )

length-row_names : (k c : ℕ) (ps xs : List (List ℕ)) → length (row_names k c ps xs) ≡ length ps
length-row_names k c [] xs = refl
length-row_names k c (p ∷ ps) [] = refl
length-row_names k c (p ∷ ps) (x ∷ xs) = ap suc (length-row_names k c ps xs)

pub length-product_names : (k : ℕ) (xs ys : List (List ℕ)) → 1 ≤ length ys → length (product_names k xs ys) ≡ length xs
length-product_names k xs [] some = absurd (omega arith)
length-product_names k xs (y ∷ []) some = length-furthers k 0 (length xs)
length-product_names k xs (y ∷ z ∷ ys) some =
    length-row_names k (product_count xs (z ∷ ys)) (product_names k xs (z ∷ ys)) (drop (length (z ∷ ys)) xs)
    ∙ length-product_names k xs (z ∷ ys) (omega arith)

pub length-product_nodes : (k : ℕ) (xs ys : List (List ℕ)) → 1 ≤ length ys → length (product_nodes k xs ys) ≡ product_count xs ys
length-product_nodes k xs [] some = absurd (omega arith)
length-product_nodes k xs (y ∷ []) some =
    length-masked (furthers k 0 (length xs)) xs y (length-furthers k 0 (length xs)) ∙ length-furthers k 0 (length xs)
length-product_nodes k xs (y ∷ z ∷ ys) some =
    let c = product_count xs (z ∷ ys) in
    let names = product_names k xs (z ∷ ys) in
    let low = drop (length (z ∷ ys)) xs in
    let fits : length low ≤ length names = omega (arith, length-drop (length (z ∷ ys)) xs, length-product_names k xs (z ∷ ys) (omega arith)) in
    omega (
      arith,
      length-append (product_nodes k xs (z ∷ ys)) (gate_of never [] (further k c) ∷ row_nodes k c names low y),
      length-product_nodes k xs (z ∷ ys) (omega arith),
      length-row_nodes k c names low y fits,
    )

pub length-moved_up : (f : List ℕ) (places : ℕ) (xs : List (List ℕ)) → length (moved_up places f xs) ≡ length xs
length-moved_up f places xs =
    length-append (drop places xs) (replicate (min places (length xs)) f)
    ∙ omega (arith, length-drop places xs, length-replicate (min places (length xs)) f)

pub length-moved_down : (f : List ℕ) (places : ℕ) (xs : List (List ℕ)) → length (moved_down places f xs) ≡ length xs
length-moved_down f places xs =
    length-append (replicate (min places (length xs)) f) (take (length xs - places) xs)
    ∙ omega (arith, length-take (length xs - places) xs, length-replicate (min places (length xs)) f)

pub length-shifted_names : (k : ℕ) (xs ss : List (List ℕ)) → length (shifted_names k xs ss) ≡ length xs
length-shifted_names k xs [] = refl
length-shifted_names k xs (s ∷ ss) = length-furthers k (1 + length ss * length xs) (length xs)

pub length-shift_nodes : (moved : ℕ → List (List ℕ) → List (List ℕ)) (k : ℕ) (xs ss : List (List ℕ))
    → ((places : ℕ) (ys : List (List ℕ)) → length (moved places ys) ≡ length ys)
    → length (shift_nodes moved k xs ss) ≡ length ss * length xs
length-shift_nodes moved k xs [] keeps = sym (zero-mul (length xs))
length-shift_nodes moved k xs (s ∷ ss) keeps =
    let before = shifted_names k xs ss in
    let outs = furthers k (1 + length ss * length xs) (length xs) in
    let long = length-furthers k (1 + length ss * length xs) (length xs) in
    let kept = length-shifted_names k xs ss in
    let stage = choices s outs (moved (2 ^ length ss) before) before in
    let this : length stage ≡ length xs =
    length-choices s outs (moved (2 ^ length ss) before) before (long ∙ sym kept ∙ sym (keeps (2 ^ length ss) before)) (long ∙ sym kept) ∙ long in
    length-append (shift_nodes moved k xs ss) stage
    ∙ ap (λ (n : ℕ). n + length stage) (length-shift_nodes moved k xs ss keeps)
    ∙ ap (λ (n : ℕ). length ss * length xs + n) this
    ∙ sym (suc-mul (length ss) (length xs))

pub length-register_nodes : (clock : List ℕ) (outs xs : List (List ℕ)) (bits : List Bool) → length outs ≡ length xs → length outs ≡ length bits
    → length (register_nodes clock outs xs bits) ≡ length outs
length-register_nodes clock [] xs bits e f = refl
length-register_nodes clock (o ∷ outs) [] bits e f = absurd (omega arith)
length-register_nodes clock (o ∷ outs) (x ∷ xs) [] e f = absurd (omega arith)
length-register_nodes clock (o ∷ outs) (x ∷ xs) (b ∷ bits) e f =
    one_behind (register_nodes clock outs xs bits) (latch x o clock b) (length outs) (length-register_nodes clock outs xs bits (omega arith) (omega arith))

pub length-reset_nodes : (k : ℕ) (clock reset : List ℕ) (outs xs : List (List ℕ)) (bits : List Bool) → length outs ≡ length xs → length outs ≡ length bits
    → length (reset_nodes k clock reset outs xs bits) ≡ 2 * length outs
length-reset_nodes k clock reset [] xs bits e f = refl
length-reset_nodes k clock reset (o ∷ outs) [] bits e f = absurd (omega arith)
length-reset_nodes k clock reset (o ∷ outs) (x ∷ xs) [] e f = absurd (omega arith)
length-reset_nodes k clock reset (o ∷ outs) (x ∷ xs) (b ∷ bits) e f =
    omega (
      arith,
      two_behind (reset_nodes k clock reset outs xs bits)
          (gate_of (if b then either else cleared) (x ∷ reset ∷ []) (further k (length xs))) (latch (further k (length xs)) o clock b) (2 * length outs)
          (length-reset_nodes k clock reset outs xs bits (omega arith) (omega arith)),
    )

length-word_nodes : (k x : ℕ) (clock : List ℕ) (cs values : List (List ℕ)) (bits : List Bool) → length cs ≡ length values → length cs ≡ length bits
    → length (word_nodes k x clock cs values bits) ≡ 3 * length cs
length-word_nodes k x clock [] values bits e f = refl
length-word_nodes k x clock (c ∷ cs) [] bits e f = absurd (omega arith)
length-word_nodes k x clock (c ∷ cs) (v ∷ values) [] e f = absurd (omega arith)
length-word_nodes k x clock (c ∷ cs) (v ∷ values) (b ∷ bits) e f =
    let own = further k (x + (3 * length cs + 2)) in
    let next = further k (x + (3 * length cs + 3)) in
    omega (
      arith,
      three_behind (word_nodes k x clock cs values bits) (latch next own clock b) (gate_of choice (further k x ∷ v ∷ own ∷ []) next)
          (gate_of added (c ∷ further k (x + 1) ∷ own ∷ []) (further k (x + (3 * length cs + 4)))) (3 * length cs)
          (length-word_nodes k x clock cs values bits (omega arith) (omega arith)),
    )

length-shown_names : (k x n : ℕ) → length (shown_names k x n) ≡ n
length-shown_names k x zero = refl
length-shown_names k x (suc n) = ap suc (length-shown_names k x n)

length-ram_shown : (k width x : ℕ) (cs : List (List ℕ)) (words : List (List Bool)) → length cs ≡ width → length (ram_shown k width x cs words) ≡ width
length-ram_shown k width x cs [] e = e
length-ram_shown k width x cs (bits ∷ words) e =
    length-ram_shown k width (x + (2 + 3 * width)) (shown_names k x width) words (length-shown_names k x width)

-- one more word of so many nodes
word_more : (m p n : ℕ) → n ≡ m * p → p + n ≡ suc m * p
word_more m p n e = ap (λ (i : ℕ). p + i) e ∙ around p (m * p) ∙ sym (suc-mul m p)
  where
    around : (a b : ℕ) → a + b ≡ b + a
    around a b = omega arith

length-ram_words : (k width x at : ℕ) (clock : List ℕ) (names : RamNames) (cs : List (List ℕ)) (words : List (List Bool)) → length cs ≡ width
    → length names.value ≡ width → AllByRecursion (λ (bits : List Bool). length bits ≡ width) words
    → length (ram_words k width x at clock names cs words) ≡ length words * (2 + 3 * width)
length-ram_words k width x at clock names cs [] e f all = sym (zero-mul (2 + 3 * width))
length-ram_words k width x at clock names cs (bits ∷ words) e f all =
    let own = word_nodes k x clock cs names.value bits in
    let rest = ram_words k width (x + (2 + 3 * width)) (at + 1) clock names (shown_names k x width) words in
    let this : length own ≡ 3 * width =
    length-word_nodes k x clock cs names.value bits (e ∙ sym f) (e ∙ sym all.0) ∙ ap (λ (n : ℕ). 3 * n) e in
    let others = length-ram_words k width (x + (2 + 3 * width)) (at + 1) clock names (shown_names k x width) words (length-shown_names k x width) f all.1 in
    let whole : suc (suc (length (own ++ rest))) ≡ 2 + 3 * width + length rest = omega (arith, length-append own rest, this) in
    whole ∙ word_more (length words) (2 + 3 * width) (length rest) others

pub length-ram_nodes : (k n : ℕ) (clock : List ℕ) (outs : List (List ℕ)) (names : RamNames) (words : List (List Bool)) → length outs ≡ n
    → length names.value ≡ n → AllByRecursion (λ (bits : List Bool). length bits ≡ n) words
    → length (ram_nodes k n clock outs names words) ≡ 2 * n + length words * (2 + 3 * n)
length-ram_nodes k n clock outs names words e f all =
    let first = constants (furthers k 0 n) (all_zeros n) in
    let middle = ram_words k n n 0 clock names (furthers k 0 n) words in
    let shown = ram_shown k n n (furthers k 0 n) words in
    let last = register_nodes clock outs shown (all_zeros n) in
    let long = length-furthers k 0 n in
    let zeros = length-replicate n false in
    let one = length-constants (furthers k 0 n) (all_zeros n) (long ∙ sym zeros) ∙ long in
    let two = length-ram_words k n n 0 clock names (furthers k 0 n) words long f all in
    let three = length-register_nodes clock outs shown (all_zeros n) (e ∙ sym (length-ram_shown k n n (furthers k 0 n) words long)) (e ∙ sym zeros) ∙ e in
    all_three (length first) (length middle) (length last) (length (first ++ (middle ++ last))) n (length words * (2 + 3 * n))
    (length-append first (middle ++ last) ∙ ap (λ (i : ℕ). length first + i) (length-append middle last)) one two three
  where
    all_three : (a b c whole n p : ℕ) → whole ≡ a + (b + c) → a ≡ n → b ≡ p → c ≡ n → whole ≡ 2 * n + p
    all_three a b c whole n p w e f g = omega arith

-- a part of a word
pub length-part_of : (high low : ℕ) (names : List (List ℕ)) → low ≤ high → high < length names → length (part_of high low names) ≡ high + 1 - low
length-part_of high low names order within =
    omega (arith, length-take (high + 1 - low) (drop (length names - 1 - high) names), length-drop (length names - 1 - high) names)
