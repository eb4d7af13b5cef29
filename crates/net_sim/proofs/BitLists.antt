-- Lists of bits: turned round, bit by bit, and compared by the first bit that differs.
use Rattle.std.proofs.Common.{◌≡◌, ℕ, zero, suc, ◌+◌, ◌-◌, ◌%◌, ◌<◌, ◌≤◌, ◌^◌, ◌==◌, Bool, true, false, not, List, [], ◌∷◌, ◌++◌, length, take, drop, set, get_or, pos, negsuc, refl, sym, ap, ◌∙◌, arith}
use Rattle.std.specs.Prelude.{int_lt, nat_lt}
use Rattle.std.specs.Bool.{beq}
use Rattle.std.proofs.lemmas.Bool.Decides.{nat_tests}
use Rattle.std.proofs.lemmas.List.{drop_more, length-drop, take_more, take_more_set}
use Rattle.chw_bits.specs.Bits.{number_of}
use Rattle.chw_bits.specs.Bitwise.{bit_by_bit}
use Rattle.chw_bits.specs.Integers.{signed}
use Rattle.chw_bits.proofs.Numbers.{number_of_lt}
use Rattle.chw_bits.proofs.RoundTrips.{same_bits}
use Rattle.chw_bits.proofs.Signs.{negative_is, positive_is}

-- bits that a test tells apart differ
pub differ_by_test : (a b : Bool) → beq a b ≡ false → a ≡ b → ⊥
differ_by_test true true e same = cc
differ_by_test true false e same = cc
differ_by_test false true e same = cc
differ_by_test false false e same = cc

pub differ_by_not : (a b x y : Bool) → not (beq a b) ≡ true → a ≡ x → b ≡ y → x ≡ y → ⊥
differ_by_not true true x y e is other same = cc
differ_by_not true false x y e is other same = cc
differ_by_not false true x y e is other same = cc
differ_by_not false false x y e is other same = cc

-- the bit at a place of two words bit by bit
pub get_or-bit_by_bit : (of : Bool → Bool → Bool) (x y : List Bool) (i : ℕ) → i < length x → length x ≡ length y
    → get_or (bit_by_bit of x y) i false ≡ of (get_or x i false) (get_or y i false)
get_or-bit_by_bit of [] y i lt same = absurd (omega arith)
get_or-bit_by_bit of (a ∷ x) [] i lt same = absurd (omega (arith, same))
get_or-bit_by_bit of (a ∷ x) (b ∷ y) zero lt same = refl
get_or-bit_by_bit of (a ∷ x) (b ∷ y) (suc i) lt same = get_or-bit_by_bit of x y i (omega (arith, lt)) (omega (arith, same))

pub length-bit_by_bit : (of : Bool → Bool → Bool) (x y : List Bool) → length x ≡ length y → length (bit_by_bit of x y) ≡ length x
length-bit_by_bit of [] y same = refl
length-bit_by_bit of (a ∷ x) [] same = absurd (omega (arith, same))
length-bit_by_bit of (a ∷ x) (b ∷ y) same = ap suc (length-bit_by_bit of x y (omega (arith, same)))

-- one more bit of two words bit by bit
pub bit_by_bit_more : (of : Bool → Bool → Bool) (x y room : List Bool) (i : ℕ) (bit : Bool) → i < length x → length x ≡ length y → i < length room
    → bit ≡ of (get_or x i false) (get_or y i false) → take i room ≡ take i (bit_by_bit of x y)
    → take (i + 1) (set room i bit) ≡ take (i + 1) (bit_by_bit of x y)
bit_by_bit_more of x y room i bit lt same within is so_far =
    let whole = bit_by_bit of x y in
    let there : i < length whole = omega (arith, length-bit_by_bit of x y same) in
    take_more_set room i bit within ∙ ap (λ front. front ++ bit ∷ []) so_far
    ∙ ap (λ b. take i whole ++ b ∷ []) (is ∙ sym (get_or-bit_by_bit of x y i lt same))
    ∙ sym (take_more whole i false there)

not_equal_test : (a b : ℕ) → (a ≡ b → ⊥) → (a == b) ≡ false
not_equal_test a b no_path = grind (arith, nat_tests)

-- words with a bit that differs mean two numbers
pub unequal_numbers : (x y : List Bool) (i : ℕ) → length x ≡ length y → (get_or x i false ≡ get_or y i false → ⊥)
    → (number_of x == number_of y) ≡ false
unequal_numbers x y i same differs =
    not_equal_test (number_of x) (number_of y) (λ e. differs (ap (λ b. get_or b i false) (same_bits x y same e)))

lt_test : (a b : ℕ) → a < b → nat_lt a b ≡ true
lt_test a b lt = grind (arith, nat_tests)

ge_test : (a b : ℕ) → b ≤ a → nat_lt a b ≡ false
ge_test a b le = grind (arith, nat_tests)

first_differs : (a b : Bool) (x y : List Bool) → length x ≡ length y → (a ≡ b → ⊥) → nat_lt (number_of (a ∷ x)) (number_of (b ∷ y)) ≡ b
first_differs true true x y same differs = absurd (differs refl)
first_differs false false x y same differs = absurd (differs refl)
first_differs true false x y same differs =
    let below = number_of_lt y in
    let powers : 2 ^ length x ≡ 2 ^ length y = ap (λ n. 2 ^ n) same in
    ge_test (2 ^ length x + number_of x) (0 + number_of y) (omega arith)
first_differs false true x y same differs =
    let below = number_of_lt x in
    let powers : 2 ^ length x ≡ 2 ^ length y = ap (λ n. 2 ^ n) same in
    lt_test (0 + number_of x) (2 ^ length y + number_of y) (omega arith)

-- of words from a place on, of which the first bits differ, the one without its bit is less
pub less_by_first : (x y : List Bool) (i : ℕ) → length x ≡ length y → i < length x → (get_or x i false ≡ get_or y i false → ⊥)
    → nat_lt (number_of (drop i x)) (number_of (drop i y)) ≡ get_or y i false
less_by_first x y i same lt differs =
    ap (λ l. nat_lt (number_of l) (number_of (drop i y))) (drop_more x i false lt)
    ∙ ap (λ r. nat_lt (number_of (get_or x i false ∷ drop (i + 1) x)) (number_of r)) (drop_more y i false (omega arith))
    ∙ first_differs (get_or x i false) (get_or y i false) (drop (i + 1) x) (drop (i + 1) y) (omega (arith, length-drop (i + 1) x, length-drop (i + 1) y)) differs

-- of two words of which one is negative, this one is less
pub less_by_sign : (x y : List Bool) (sign other : Bool) → get_or x 0 false ≡ sign → get_or y 0 false ≡ other → (sign ≡ other → ⊥)
    → sign ≡ int_lt (signed x) (signed y)
less_by_sign x y true true is other differs = absurd (differs refl)
less_by_sign x y false false is other differs = absurd (differs refl)
less_by_sign x y true false is other differs =
    let left = negative_is x (length x) (omega arith) is in
    let right = positive_is y other in
    sym (ap (λ z. int_lt z (signed y)) left ∙ ap (int_lt (negsuc ((2 ^ length x - 1 - number_of x) % 2 ^ length x))) right)
less_by_sign x y false true is other differs =
    let left = positive_is x is in
    let right = negative_is y (length y) (omega arith) other in
    sym (ap (λ z. int_lt z (signed y)) left ∙ ap (int_lt (pos (number_of x))) right)
