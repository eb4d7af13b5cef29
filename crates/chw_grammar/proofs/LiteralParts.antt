-- A literal has the parts of which it is made.
use Rattle.std.proofs.Common.{◌≡◌, ℕ, ◌+◌, Bool, true, false, cond, eqb, List, [], ◌∷◌, ◌++◌, length, take, drop, refl, sym, ap, ◌∙◌, arith}
use Rattle.std.specs.List.{prefix_len}
use Rattle.std.proofs.lemmas.Bool.{false≢true, eqb-true}
use Rattle.std.proofs.lemmas.List.{take-append-le, drop-append-le, take_all, drop_all}
use Rattle.chw_base.specs.Names.{AllOf, is_digit}
use Rattle.chw_lexer.specs.Forms.{IsNumeral}
use Rattle.chw_grammar.specs.Literals.{parts, parts_behind, parts_of, literal_of}

-- the digits stand before what is no digit
digits_before : (value : List ℕ) (byte : ℕ) (width : List ℕ) → AllOf is_digit value → is_digit byte ≡ false → prefix_len is_digit (value ++ byte ∷ width) ≡ length value
digits_before [] byte width all not_digit = ap (λ d. cond d (1 + prefix_len is_digit width) 0) not_digit
digits_before (d ∷ value) byte width all not_digit =
    let rest = digits_before value byte width all.1 not_digit in
    let here = ap (λ b. cond b (1 + prefix_len is_digit (value ++ byte ∷ width)) 0) all.0 in
    omega arith

pub made : (negative : Bool) (value : List ℕ) (byte : ℕ) (width : List ℕ) → AllOf is_digit value → is_digit byte ≡ false
    → parts_of negative (value ++ byte ∷ width) ≡ parts negative value byte width
made negative value byte width all not_digit =
    let rest = byte ∷ width in
    let front : take (length value) (value ++ rest) ≡ value = take-append-le (length value) value rest (omega arith) ∙ take_all (length value) value (omega arith) in
    let back : drop (length value) (value ++ rest) ≡ rest =
    drop-append-le (length value) value rest (omega arith) ∙ ap (λ none. none ++ rest) (drop_all (length value) value (omega arith)) in
    ap (λ n. parts_behind negative (take n (value ++ rest)) (drop n (value ++ rest))) (digits_before value byte width all not_digit)
    ∙ ap (λ v. parts_behind negative v (drop (length value) (value ++ rest))) front ∙ ap (parts_behind negative value) back

no_sign : (b : ℕ) → is_digit b ≡ true → eqb b 45 ≡ false
no_sign b digit = at (eqb b 45) refl
  where
    at : (e : Bool) → eqb b 45 ≡ e → e ≡ false
    at false is = refl
    at true is = absurd (false≢true (sym (ap is_digit (eqb-true b 45 is)) ∙ digit))

pub made_without_sign : (value width : List ℕ) (byte : ℕ) → IsNumeral value → is_digit byte ≡ false → literal_of (value ++ byte ∷ width) ≡ parts false value byte width
made_without_sign [] width byte numeral not_digit = absurd numeral
made_without_sign (d ∷ value) width byte numeral not_digit =
    ap (λ b. cond b (parts_of true (value ++ byte ∷ width)) (parts_of false ((d ∷ value) ++ byte ∷ width))) (no_sign d numeral.0)
    ∙ made false (d ∷ value) byte width numeral not_digit

pub made_with_sign : (value width : List ℕ) (byte : ℕ) → IsNumeral value → is_digit byte ≡ false → literal_of (45 ∷ (value ++ byte ∷ width)) ≡ parts true value byte width
made_with_sign [] width byte numeral not_digit = absurd numeral
made_with_sign (d ∷ value) width byte numeral not_digit = made true (d ∷ value) byte width numeral not_digit
