-- What literals mean: their sizes and amounts, and the bits made of these.
use Rattle.std.proofs.Common.{◌≡◌, ℕ, suc, ◌+◌, ◌<◌, ◌^◌, Bool, true, false, eqb, ltb, List, [], ◌∷◌, ◌++◌, length, take, drop, refl, sym, ap, ◌∙◌, arith}
use Rattle.std.specs.List.{position_or_len}
use Rattle.std.specs.Str.Parse.{digits_value}
use Rattle.std.proofs.lemmas.Bool.{and_from, and_parts, eq-eqb, eqb-true, ltb-true, lt-ltb, ne_eqb}
use Rattle.std.proofs.Math.Nat.{mod-eq_of_lt}
use Rattle.chw_base.specs.Names.{AllOf, is_digit}
use Rattle.chw_bits.specs.Bits.{number_of}
use Rattle.chw_bits.proofs.Numbers.{length-bits_of}
use Rattle.chw_bits.proofs.RoundTrips.{bits_of-number_of, number_of-bits_of}
use Rattle.verilog_text.specs.Declared.{IsLiteralOf, MeansBits, value}
use Rattle.verilog_text.specs.VForms.{HasParts, IsLiteral, IsNumber}
use Rattle.verilog_text.proofs.Firsts.{digit_range}
use Rattle.verilog_tree.specs.Sources.{bytes_of}
use Rattle.verilog_tree.specs.declared.word.Word.{Word}
use Rattle.verilog_rules.specs.NetOf.{bits}
use Rattle.verilog_rules.specs.Texts.{amount, is_literal_of, is_word_of, size}

-- the first `'` behind digits
digits_first : (digits rest : List ℕ) → AllOf is_digit digits → position_or_len (λ (b : ℕ). eqb b 39) (digits ++ 39 ∷ rest) ≡ length digits
digits_first [] rest all = refl
digits_first (d ∷ digits) rest all =
    let inside = digit_range d all.0 in
    let other : eqb d 39 ≡ false = ne_eqb d 39 (λ same. omega arith) in
    let more : position_or_len (λ (b : ℕ). eqb b 39) (digits ++ 39 ∷ rest) ≡ length digits = digits_first digits rest all.1 in
    rw other (rw more (omega arith))

all_digits : (digits : List ℕ) → IsNumber digits → AllOf is_digit digits
all_digits [] form = absurd form
all_digits (d ∷ digits) form = form

take_all : (xs ys : List ℕ) → take (length xs) (xs ++ ys) ≡ xs
take_all [] ys = refl
take_all (x ∷ xs) ys = ap (λ (rest : List ℕ). x ∷ rest) (take_all xs ys)

drop_all : (xs : List ℕ) (y : ℕ) (ys : List ℕ) → drop (suc (length xs)) (xs ++ y ∷ ys) ≡ ys
drop_all [] y ys = refl
drop_all (x ∷ xs) y ys = drop_all xs y ys

-- a literal's size and amount are those of its parts
pub sized : (literal : Word) (digits hex : List ℕ) → HasParts (bytes_of literal) digits hex
    → (size literal ≡ value digits) × (amount literal ≡ digits_value 16 hex)
sized literal digits hex parts =
    let at : position_or_len (λ (b : ℕ). eqb b 39) (bytes_of literal) ≡ length digits =
    rw parts.bytes_are (digits_first digits (104 ∷ hex) (all_digits digits parts.size_is)) in
    let front : take (length digits) (bytes_of literal) ≡ digits = rw parts.bytes_are (take_all digits (39 ∷ 104 ∷ hex)) in
    let next : length digits + 1 ≡ suc (length digits) = omega arith in
    let back : drop (length digits + 1) (bytes_of literal) ≡ 104 ∷ hex = rw (next, parts.bytes_are) (drop_all digits 39 (104 ∷ hex)) in
    (rw at (ap value front), rw at (ap (λ (rest : List ℕ). digits_value 16 (drop 1 rest)) back))

pub word_parts : (n : ℕ) (literal : Word) → is_word_of n literal ≡ true → (size literal ≡ n) × (amount literal < 2 ^ n)
word_parts n literal is =
    let parts = and_parts (eqb (size literal) n) (ltb (amount literal) (2 ^ n)) is in
    (eqb-true (size literal) n parts.0, ltb-true (amount literal) (2 ^ n) parts.1)

pub is_word : (n : ℕ) (literal : Word) → size literal ≡ n → amount literal < 2 ^ n → is_word_of n literal ≡ true
is_word n literal size_is below =
    and_from (eqb (size literal) n) (ltb (amount literal) (2 ^ n)) (eq-eqb (size literal) n size_is) (lt-ltb (amount literal) (2 ^ n) below)

pub literal_meant : (n k : ℕ) (literal : Word) → IsLiteral (bytes_of literal) → size literal ≡ n → amount literal ≡ k → k < 2 ^ n → IsLiteralOf (bytes_of literal) n k
literal_meant n k literal form size_is amount_is below =
    let made = sized literal form.0 form.1 form.2 in
    record {
      size_digits = form.0;
      digits = form.1;
      parts = form.2;
      size_is = sym made.0 ∙ size_is;
      number_is = sym made.1 ∙ amount_is;
      fits = below;
    }

pub bits_meant : (n : ℕ) (literal : Word) → IsLiteral (bytes_of literal) → is_word_of n literal ≡ true → MeansBits (bytes_of literal) (bits literal)
bits_meant n literal form is =
    let parts = word_parts n literal is in
    let long : length (bits literal) ≡ size literal = length-bits_of (size literal) (amount literal) in
    let below : amount literal < 2 ^ size literal = rw parts.0 parts.1 in
    let means : number_of (bits literal) ≡ amount literal = number_of-bits_of (size literal) (amount literal) ∙ mod-eq_of_lt below in
    literal_meant (length (bits literal)) (number_of (bits literal)) literal form (sym long) (sym means) (rw (long, means) below)

pub bits_length : (n : ℕ) (literal : Word) → is_word_of n literal ≡ true → length (bits literal) ≡ n
bits_length n literal is = length-bits_of (size literal) (amount literal) ∙ (word_parts n literal is).0

pub literal_back : (n k : ℕ) (literal : Word) → IsLiteralOf (bytes_of literal) n k → (size literal ≡ n) × (amount literal ≡ k) × (k < 2 ^ n)
literal_back n k literal is =
    let made = sized literal is.size_digits is.digits is.parts in
    (made.0 ∙ is.size_is, made.1 ∙ is.number_is, is.fits)

pub is_literal : (n k : ℕ) (literal : Word) → size literal ≡ n → amount literal ≡ k → k < 2 ^ n → is_literal_of n k literal ≡ true
is_literal n k literal size_is amount_is below =
    let word : is_word_of n literal ≡ true = is_word n literal size_is (rw amount_is below) in
    and_from (is_word_of n literal) (eqb (amount literal) k) word (eq-eqb (amount literal) k amount_is)

pub literal_parts : (n k : ℕ) (literal : Word) → is_literal_of n k literal ≡ true → (size literal ≡ n) × (amount literal ≡ k) × (k < 2 ^ n)
literal_parts n k literal is =
    let parts = and_parts (is_word_of n literal) (eqb (amount literal) k) is in
    let word = word_parts n literal parts.0 in
    let same : amount literal ≡ k = eqb-true (amount literal) k parts.1 in
    (word.0, same, rw (sym same) word.1)

-- bits that a literal means are those of its size and amount
pub bits_back : (literal : Word) (bs : List Bool) → MeansBits (bytes_of literal) bs → (bs ≡ bits literal) × (is_word_of (length bs) literal ≡ true)
bits_back literal bs means =
    let back = literal_back (length bs) (number_of bs) literal means in
    let below : amount literal < 2 ^ length bs = rw back.1 back.2 in
    (rw (back.0, back.1) (sym (bits_of-number_of bs)), is_word (length bs) literal back.0 below)
