-- How long the text is at most.
use Rattle.std.specs.Prelude.{◌≡◌, ℕ, zero, suc, ◌+◌, ◌-◌, ◌*◌, ◌<◌, ◌≤◌, List, ◌++◌, length, flat_map, codes}
use Rattle.std.specs.List.{range_with_len}
use Rattle.std.proofs.Common.{ap, ◌∙◌, arith, length-append}
use Rattle.std.proofs.lemmas.Fmt.{length-decimal-le_succ}
use Rattle.chw_base.specs.declared.limits.TheConstants.{DESCRIPTION_BYTES}
use Rattle.make_text.specs.MakeText.{back, delay_text, element_text, first_text, front, make_text, product_text, sum_text}
use Rattle.make_text.proofs.Written.{made_written, sum_around, sum_written}

-- pieces of at most 1000 bytes
pieces_short : (piece : ℕ → List ℕ) (a n : ℕ) → ((k : ℕ) → k < a + n → length (piece k) ≤ 1000) → length (flat_map piece (range_with_len a n)) ≤ n * 1000
pieces_short piece a zero each = omega arith
pieces_short piece a (suc n) each =
    let first = each a (omega arith) in
    let more = pieces_short piece (a + 1) n (λ k inside. each k (omega (arith, inside))) in
    omega (arith, first, more, length-append (piece a) (flat_map piece (range_with_len (a + 1) n)))

delay_short : (k : ℕ) → k < 64 → length (delay_text k) ≤ 1000
delay_short k small = simp length-append (omega (arith, length-decimal-le_succ k (omega arith), length-decimal-le_succ (k + 1) (omega arith)))

product_short : (k : ℕ) → k < 64 → length (product_text k) ≤ 1000
product_short k small = simp length-append (omega (arith, length-decimal-le_succ k (omega arith), length-decimal-le_succ (k + 1) (omega arith)))

element_short : (k : ℕ) → k < 64 → length (element_text k) ≤ 1000
element_short k small = simp length-append (omega (arith, length-decimal-le_succ (k + 1) (omega arith)))

sum_short : (taps : ℕ) (elements : List ℕ) → taps ≤ 64 → length (sum_around taps elements) ≤ 1000 + length elements
sum_short taps elements small = simp length-append (omega (arith, length-decimal-le_succ taps (omega arith), length-decimal-le_succ 0 (omega arith)))

first_short : length first_text ≤ 1000
first_short = simp length-append (omega (arith, length-decimal-le_succ 0 (omega arith)))

front_short : length front ≤ 1000
front_short = omega arith

back_short : length back ≤ 1000
back_short = omega arith

elements_short : (n : ℕ) → n < 64 → length (flat_map element_text (range_with_len 0 n) ++ codes "] ; ") ≤ 65000
elements_short n small =
    let each = pieces_short element_text 0 n (λ k inside. element_short k (omega (arith, inside))) in
    omega (arith, each, length-append (flat_map element_text (range_with_len 0 n)) (codes "] ; "))

sum_text_short : (taps : ℕ) → taps ≤ 64 → length (sum_text taps) ≤ 66000
sum_text_short taps small =
    let elements : List ℕ = flat_map element_text (range_with_len 0 (taps - 1)) ++ codes "] ; " in
    let same : length (sum_text taps) ≡ length (sum_around taps elements) = ap length (sum_written taps) in
    omega (arith, same, sum_short taps elements small, elements_short (taps - 1) (omega arith))

pieces_in_all : (text a b c d e f : List ℕ) → text ≡ a ++ (b ++ (c ++ (d ++ (e ++ f)))) → length a ≤ 1000 → length b ≤ 1000 → length c ≤ 64000
    → length d ≤ 64000 → length e ≤ 66000 → length f ≤ 1000 → length text ≤ DESCRIPTION_BYTES
pieces_in_all text a b c d e f is one two three four five six =
    let all : length text ≡ length a + (length b + (length c + (length d + (length e + length f)))) = ap length is ∙ simp length-append in
    omega (arith, all)

pub text_short : (taps : ℕ) → taps ≤ 64 → length (make_text taps) ≤ DESCRIPTION_BYTES
text_short taps small =
    let delays = pieces_short delay_text 0 (taps - 1) (λ k inside. delay_short k (omega (arith, inside))) in
    let products = pieces_short product_text 0 taps (λ k inside. product_short k (omega (arith, inside))) in
    pieces_in_all (make_text taps) front first_text (flat_map delay_text (range_with_len 0 (taps - 1))) (flat_map product_text (range_with_len 0 taps))
    (sum_text taps) back (made_written taps) front_short first_short (omega (arith, delays)) (omega (arith, products)) (sum_text_short taps small) back_short
