-- Numbers by their digits, and the digits at the front of a literal.
use Rattle.std.proofs.Common.{◌≡◌, ℕ, ◌+◌, ◌-◌, ◌*◌, ◌^◌, ◌<◌, ◌≤◌, Bool, true, false, cond, ltb, List, [], ◌∷◌, length, map, get_or, take, drop, Option, Some, None, refl, sym, ap, ◌∙◌, arith}
use Rattle.std.specs.Int.Digits.{number_from_digits, number_from_digits_after}
use Rattle.std.specs.List.{prefix_len}
use Rattle.std.proofs.lemmas.Bool.{ltb-false, ltb-true}
use Rattle.std.proofs.lemmas.Int.Digits.{number_after_append, number_after_ge, number_push}
use Rattle.std.proofs.lemmas.List.{map-append, take_more, take-append-drop, drop_more, drop_all}
use Rattle.std.proofs.lemmas.Option.{cond_some, none-some}
use Rattle.chw_base.specs.Names.{is_digit}
use Rattle.chw_grammar.specs.Literals.{number_of, within}

digit : ℕ → ℕ
digit byte = byte - 48

-- one more digit
pub number_next : (bytes : List ℕ) (i : ℕ) → i < length bytes → number_of (take (i + 1) bytes) ≡ number_of (take i bytes) * 10 + (get_or bytes i 0 - 48)
number_next bytes i lt =
    ap number_of (take_more bytes i 0 lt)
    ∙ ap (number_from_digits 10) (map-append (λ byte. byte - 48) (take i bytes) (get_or bytes i 0 ∷ []))
    ∙ number_push 10 (map (λ byte. byte - 48) (take i bytes)) (get_or bytes i 0 - 48)

-- more digits make no smaller number
pub number_grows : (bytes : List ℕ) (i : ℕ) → number_of (take i bytes) ≤ number_of bytes
number_grows bytes i =
    let front = map (λ byte. byte - 48) (take i bytes) in
    let back = map (λ byte. byte - 48) (drop i bytes) in
    let whole : number_of bytes ≡ number_from_digits_after 10 (number_of (take i bytes)) back =
    ap number_of (sym (take-append-drop i bytes)) ∙ ap (number_from_digits 10) (map-append (λ byte. byte - 48) (take i bytes) (drop i bytes))
    ∙ number_after_append 10 0 front back in
    let grows = number_after_ge 10 (number_of (take i bytes)) back (omega arith) in
    omega arith

not_chosen : (b : Bool) (n : ℕ) → None ≡ cond b (Some n) None → b ≡ false
not_chosen true n e = absurd (none-some n e)
not_chosen false n e = refl

pub some_within : (bits n m : ℕ) → Some m ≡ within bits n → m ≡ n
some_within bits n m e = sym (cond_some (ltb n (2 ^ bits)) n m (sym e)).1

pub none_within : (bits n : ℕ) → None ≡ within bits n → 2 ^ bits ≤ n
none_within bits n e = ltb-false n (2 ^ bits) (not_chosen (ltb n (2 ^ bits)) n e)

-- so many digits stand at the front, and then what stands at the front of the rest
abbrev pub Counts : List ℕ → ℕ → Type 0
Counts bytes n = prefix_len is_digit bytes ≡ n + prefix_len is_digit (drop n bytes)

front : (bytes : List ℕ) (n : ℕ) (b : Bool) → n < length bytes → is_digit (get_or bytes n 0) ≡ b → prefix_len is_digit (drop n bytes) ≡ cond b (1 + prefix_len is_digit (drop (n + 1) bytes)) 0
front bytes n b lt is = ap (prefix_len is_digit) (drop_more bytes n 0 lt) ∙ ap (λ d. cond d (1 + prefix_len is_digit (drop (n + 1) bytes)) 0) is

pub digit_more : (bytes : List ℕ) (n : ℕ) → n < length bytes → is_digit (get_or bytes n 0) ≡ true → Counts bytes n → Counts bytes (n + 1)
digit_more bytes n lt is counts = let f = front bytes n true lt is in omega arith

pub digits_stop : (bytes : List ℕ) (n : ℕ) → n < length bytes → is_digit (get_or bytes n 0) ≡ false → Counts bytes n → n ≡ prefix_len is_digit bytes
digits_stop bytes n lt is counts = let f = front bytes n false lt is in omega arith

pub digits_end : (bytes : List ℕ) (n : ℕ) → length bytes ≤ n → Counts bytes n → n ≡ prefix_len is_digit bytes
digits_end bytes n le counts =
    let none : prefix_len is_digit (drop n bytes) ≡ 0 = ap (prefix_len is_digit) (drop_all n bytes le) in
    omega arith

within_none : (bits n : ℕ) → 2 ^ bits ≤ n → None ≡ within bits n
within_none bits n le = at (ltb n (2 ^ bits)) refl
  where
    at : (b : Bool) → ltb n (2 ^ bits) ≡ b → None ≡ cond b (Some n) None
    at false is = refl
    at true is = let lt : n < 2 ^ bits = ltb-true n (2 ^ bits) is in absurd (omega arith)

-- digits so far whose number passes the limit with one more
pub too_great : (bits : ℕ) (bytes : List ℕ) (i number : ℕ) → i < length bytes → Some number ≡ within bits (number_of (take i bytes))
    → None ≡ within bits (number * 10 + (get_or bytes i 0 - 48)) → None ≡ within bits (number_of bytes)
too_great bits bytes i number lt so_far none =
    let le : 2 ^ bits ≤ number * 10 + (get_or bytes i 0 - 48) = none_within bits _ none in
    let next : number_of (take (i + 1) bytes) ≡ number * 10 + (get_or bytes i 0 - 48) =
    number_next bytes i lt ∙ ap (λ n. n * 10 + (get_or bytes i 0 - 48)) (sym (some_within bits (number_of (take i bytes)) number so_far)) in
    within_none bits (number_of bytes) (omega (arith, number_grows bytes (i + 1)))

-- with one more digit
pub so_far_more : (bits : ℕ) (bytes : List ℕ) (i number : ℕ) {more : Option ℕ} → i < length bytes → Some number ≡ within bits (number_of (take i bytes))
    → more ≡ within bits (number * 10 + (get_or bytes i 0 - 48)) → more ≡ within bits (number_of (take (i + 1) bytes))
so_far_more bits bytes i number lt so_far is =
    is ∙ ap (λ n. within bits (n * 10 + (get_or bytes i 0 - 48))) (some_within bits (number_of (take i bytes)) number so_far)
    ∙ ap (within bits) (sym (number_next bytes i lt))
