-- Decimal numbers, digit by digit.
use Rattle.std.proofs.Common.{◌≡◌, ℕ, ◌+◌, ◌*◌, ◌<◌, ◌≤◌, ◌^◌, List, [], ◌∷◌, length, get_or, drop, take, Option, sym, ap, ◌∙◌, subst, arith}
use Rattle.std.specs.Prelude.{IfNone}
use Rattle.std.specs.Char.{digit_value}
use Rattle.std.specs.Str.Parse.{digits_value, IsNumeral}
use Rattle.std.proofs.lemmas.Int.Digits.{digits_value_more}
use Rattle.std.proofs.lemmas.Str.Parse.{digits_value-take-le}
use Rattle.wave_text.specs.VcdText.{IsTime, IsWidth}
use Rattle.name_forms.proofs.Bytes.{digit_below}

-- a byte that is no digit, or for which there is no room
pub stops_here : (digits : List ℕ) (i number d : ℕ) → i < length digits → number ≡ digits_value 10 (take i digits) → d ≡ digit_value (get_or digits i 0)
    → (((d < 10) × (number * 10 + d < 2 ^ 64)) → ⊥) → (IsNumeral 10 digits × (digits_value 10 digits < 2 ^ 64)) → ⊥
stops_here digits i number d within is digit never all =
    let more = digits_value_more 10 digits i within in
    let less = digits_value-take-le 10 digits (i + 1) (omega arith) in
    let low = digit_below 10 digits i all.0.1 within in
    let fits = all.1 in
    never (omega arith, omega arith)

-- one digit more
pub number_more : (digits : List ℕ) (i number d next : ℕ) → i < length digits → number ≡ digits_value 10 (take i digits) → d ≡ digit_value (get_or digits i 0)
    → next ≡ number * 10 + d → next ≡ digits_value 10 (take (i + 1) digits)
number_more digits i number d next within is digit then =
    let more = digits_value_more 10 digits i within in
    omega arith

pub is_width : (bytes : List ℕ) (n : ℕ) → IsNumeral 10 bytes → n ≡ digits_value 10 bytes → 1 ≤ n → n < 2 ^ 32 → IsWidth bytes n
is_width bytes n numeral is some fits = record { digits = numeral; value = sym is; some = some; fits = fits }

-- a text by its first byte
pub cut_first : (bytes digits : List ℕ) (b : ℕ) → 1 ≤ length bytes → get_or bytes 0 0 ≡ b → digits ≡ drop 1 bytes → bytes ≡ b ∷ digits
cut_first [] digits b some first rest = absurd (omega arith)
cut_first (x ∷ bytes) digits b some first rest = ap (λ (y : ℕ). y ∷ bytes) first ∙ ap (λ (ds : List ℕ). b ∷ ds) (sym rest)

-- what isn't read behind `#` is no time
pub no_time_cut : (bytes digits : List ℕ) (r : Option ℕ) → bytes ≡ 35 ∷ digits → IfNone r ((time : ℕ) → IsTime (35 ∷ digits) time → ⊥) → IfNone r ((time : ℕ) → IsTime bytes time → ⊥)
no_time_cut bytes digits r is none = subst (λ (bs : List ℕ). IfNone r ((time : ℕ) → IsTime bs time → ⊥)) (sym is) none
