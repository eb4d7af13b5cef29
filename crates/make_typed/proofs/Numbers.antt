-- What digits and literals of words say.
use Rattle.std.specs.Prelude.{◌≡◌, ℕ, suc, ◌+◌, ◌-◌, ◌<◌, ◌≤◌, ◌^◌, Bool, true, false, cond, List, [], ◌∷◌, ◌++◌, map, length, take, drop, codes, decimal, Some, None, refl}
use Rattle.std.specs.Char.{digit_value}
use Rattle.std.specs.Int.Digits.{number_from_digits}
use Rattle.std.specs.List.{prefix_len}
use Rattle.std.specs.Str.Parse.{AllDigits}
use Rattle.std.proofs.Common.{arith, ap, eqb, leb, ltb, sym, ◌∙◌}
use Rattle.std.proofs.lemmas.Bool.{and_from, le-leb, lt-ltb, le-ltb, ne_eqb}
use Rattle.std.proofs.lemmas.Fmt.{decimal_is_IsNumeral}
use Rattle.std.proofs.lemmas.Int.Digits.{digits_value_is}
use Rattle.std.proofs.lemmas.Str.Parse.{digit_from_value}
use Rattle.chw_base.specs.Names.{is_digit}
use Rattle.chw_bits.specs.Bits.{bits_of}
use Rattle.chw_grammar.specs.declared.literal.Letter.TheVariants as letter
use Rattle.chw_grammar.specs.declared.literal.Literal.{Literal}
use Rattle.chw_grammar.specs.Literals.{literal_of, number_of, parts_behind, parts_of, within}
use Rattle.chw_resolve.specs.Literals.{bits_in, bits_or_unfit}

digit_minus : (c : ℕ) → digit_value c < 10 → digit_value c ≡ c - 48
digit_minus c small =
    let inside = digit_from_value c small in
    ap (λ (b : Bool). cond b 36 (cond (ltb c 58) (c - 48) (cond (ltb c 65) 36 (cond (ltb c 91) (c - 55) (cond (ltb c 97) 36 (cond (ltb c 123) (c - 87) 36))))))
    (le-ltb c 48 inside.0)
    ∙ ap (λ (b : Bool). cond b (c - 48) (cond (ltb c 65) 36 (cond (ltb c 91) (c - 55) (cond (ltb c 97) 36 (cond (ltb c 123) (c - 87) 36)))))
    (lt-ltb c 58 (omega (arith, inside.1)))

digits_minus : (ds : List ℕ) → AllDigits 10 ds → map digit_value ds ≡ map (λ (digit : ℕ). digit - 48) ds
digits_minus [] each = refl
digits_minus (d ∷ ds) each = λ i. digit_minus d each.0 i ∷ digits_minus ds each.1 i

-- the number of the decimal digits of a number
pub number_decimal : (n : ℕ) → n < 2 ^ 64 → number_of (decimal n) ≡ n
number_decimal n small =
    let numeral = decimal_is_IsNumeral n small in
    ap (number_from_digits 10) (sym (digits_minus (decimal n) numeral.0.1)) ∙ sym (digits_value_is 10 (decimal n)) ∙ numeral.1

pub within_some : (bits n : ℕ) → n < 2 ^ bits → within bits n ≡ Some n
within_some bits n small = ap (λ (b : Bool). cond b (Some n) None) (lt-ltb n (2 ^ bits) small)

-- literals

digit : (c : ℕ) → digit_value c < 10 → is_digit c ≡ true
digit c small =
    let inside = digit_from_value c small in
    and_from (leb 48 c) (leb c 57) (le-leb 48 c inside.0) (le-leb c 57 inside.1)

digits_first : (ds rest : List ℕ) → AllDigits 10 ds → prefix_len is_digit rest ≡ 0 → prefix_len is_digit (ds ++ rest) ≡ length ds
digits_first [] rest each none = none
digits_first (d ∷ ds) rest each none =
    let one : is_digit d ≡ true = digit d each.0 in
    let more : prefix_len is_digit (ds ++ rest) ≡ length ds = digits_first ds rest each.1 none in
    let next : 1 + length ds ≡ suc (length ds) = omega arith in
    (λ i. cond (one i) (1 + more i) 0) ∙ next

take_first : (ds rest : List ℕ) → take (length ds) (ds ++ rest) ≡ ds
take_first [] rest = refl
take_first (d ∷ ds) rest = λ i. d ∷ take_first ds rest i

drop_first : (ds rest : List ℕ) → drop (length ds) (ds ++ rest) ≡ rest
drop_first [] rest = refl
drop_first (d ∷ ds) rest = drop_first ds rest

-- digits before a letter
parts_are : (ds rest : List ℕ) → 0 < length ds → AllDigits 10 ds → prefix_len is_digit rest ≡ 0 → literal_of (ds ++ rest) ≡ parts_behind false ds rest
parts_are [] rest some each none = absurd (omega arith)
parts_are (d ∷ ds) rest some each none =
    let inside = digit_from_value d each.0 in
    let low : 48 ≤ d = inside.0 in
    let no_sign : eqb d 45 ≡ false = ne_eqb d 45 (λ e. omega (arith, e, low)) in
    let all : List ℕ = d ∷ ds in
    let len : prefix_len is_digit (all ++ rest) ≡ length all = digits_first all rest each none in
    ap (λ (b : Bool). cond b (parts_of true (ds ++ rest)) (parts_of false (all ++ rest))) no_sign
    ∙ (λ i. parts_behind false (take (len i) (all ++ rest)) (drop (len i) (all ++ rest)))
    ∙ (λ i. parts_behind false (take_first all rest i) (drop_first all rest i))

-- a number of 16 bits without sign
abbrev pub word_of : ℕ → Literal
word_of n = record { negative = false; value = Some n; letter = letter.U; width = Some 16 }

pub literal_is : (n : ℕ) → n < 2 ^ 64 → literal_of (decimal n ++ codes "u16") ≡ word_of n
literal_is n small =
    let numeral = decimal_is_IsNumeral n small in
    let known : within 128 (number_of (decimal n)) ≡ Some n = ap (within 128) (number_decimal n small) ∙ within_some 128 n (omega arith) in
    parts_are (decimal n) (codes "u16") numeral.0.0 numeral.0.1 refl
    ∙ (λ i. record { negative = false; value = known i; letter = letter.U; width = Some 16 })

pub bits_are : (n : ℕ) → n < 2 ^ 16 → bits_in (word_of n) ≡ bits_of 16 n
bits_are n small = ap (bits_or_unfit 16) (within_some 16 n small)
