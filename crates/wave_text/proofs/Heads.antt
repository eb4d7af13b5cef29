-- Words that are told apart by their first bytes.
use Rattle.std.proofs.Common.{◌≡◌, ◌<◌, ℕ, Bool, true, false, List, [], ◌∷◌, codes, ◌⊎◌, inl, inr, sym, ap, ◌∙◌, arith, lit<}
use Rattle.wave_text.specs.VcdText.{AreBits, IsDigit, IsTime}

-- the first byte, or 0
unfoldable pub head : List ℕ → ℕ
head [] = 0
head (b ∷ bytes) = b

pub time_head : (bytes : List ℕ) (t : ℕ) → IsTime bytes t → head bytes ≡ 35
unfolding head
time_head bytes t is = ap head is.bytes_are

pub digit_head : (bytes : List ℕ) (bit : Bool) (code : List ℕ) → IsDigit bytes bit code → (head bytes ≡ 48) ⊎ (head bytes ≡ 49)
unfolding head
digit_head bytes true code is = inr (ap head is.bytes_are)
digit_head bytes false code is = inl (ap head is.bytes_are)

pub bits_head : (bytes : List ℕ) (value : List Bool) → AreBits bytes value → head bytes ≡ 98
unfolding head
bits_head bytes value is = ap head is.bytes_are

pub no_time_digit : (bytes : List ℕ) (t : ℕ) (bit : Bool) (code : List ℕ) → IsTime bytes t → IsDigit bytes bit code → ⊥
no_time_digit bytes t bit code is digit_is =
    let first = time_head bytes t is in
    elim (digit_head bytes bit code digit_is) [ inl e ↦ absurd (omega arith) | inr e ↦ absurd (omega arith) ]

pub no_time_bits : (bytes : List ℕ) (t : ℕ) (value : List Bool) → IsTime bytes t → AreBits bytes value → ⊥
no_time_bits bytes t value is bits_are =
    let first = time_head bytes t is in
    let second = bits_head bytes value bits_are in
    absurd (omega arith)

pub no_digit_bits : (bytes : List ℕ) (bit : Bool) (code : List ℕ) (value : List Bool) → IsDigit bytes bit code → AreBits bytes value → ⊥
no_digit_bits bytes bit code value is bits_are =
    let second = bits_head bytes value bits_are in
    elim (digit_head bytes bit code is) [ inl e ↦ absurd (omega arith) | inr e ↦ absurd (omega arith) ]

-- the second byte, or 0
abbrev second_byte : List ℕ → ℕ
second_byte (a ∷ b ∷ bytes) = b
second_byte _ = 0

differ : (a b : ℕ) → a ≡ b → b < a → ⊥
differ a b same less = absurd (omega arith)

-- `$var` isn't `$upscope`
pub apart : (bytes : List ℕ) → bytes ≡ codes "$var" → bytes ≡ codes "$upscope" → ⊥
apart bytes var upscope =
    let same : codes "$var" ≡ codes "$upscope" = sym var ∙ upscope in
    differ 118 117 (ap second_byte same) (lit< tt)
