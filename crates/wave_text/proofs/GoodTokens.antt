-- Each word of a printed text is a token.
use Rattle.std.proofs.Common.{◌≡◌, ℕ, ◌+◌, ◌*◌, ◌<◌, ◌≤◌, ◌^◌, Bool, true, false, cond, List, [], ◌∷◌, length, map, drop, refl, arith}
use Rattle.std.specs.Prelude.{decimal}
use Rattle.std.specs.List.{AllByRecursion}
use Rattle.std.proofs.lemmas.Bool.{false≢true}
use Rattle.std.proofs.lemmas.Fmt.{decimal_nonempty}
use Rattle.chw_clock.specs.declared.event.Event.{Event}
use Rattle.chw_clock.specs.declared.event.Ports.{Ports}
use Rattle.verilog_text.specs.VTokens.{is_white}
use Rattle.waves.specs.Vcd.{code_of, digit_of, is_shown, values_at}
use Rattle.waves.specs.declared.wave.WaveVar.{WaveVar}
use Rattle.wave_text.proofs.Plain.{AreVisible, Plain, bits_plain, decimal_plain, name_plain, visible_plain}
use Rattle.wave_text.proofs.Lists.{all_append}
use Rattle.wave_text.proofs.Spaced.{IsToken}
use Rattle.wave_text.proofs.Telling.{IsGood}
use Rattle.wave_text.proofs.Tokens.{changes_tokens, event_tokens, events_tokens, first_tokens, last_tokens, time_token, value_tokens, variable_tokens, variables_tokens}

-- a word has a byte and no white ones, by a test
is_plain : List ℕ → Bool
is_plain [] = true
is_plain (b ∷ bytes) = cond (is_white b) false (is_plain bytes)

plain_by_test : (bytes : List ℕ) → is_plain bytes ≡ true → Plain bytes
unfolding is_plain
plain_by_test [] test = tt
plain_by_test (b ∷ bytes) test = at (is_white b) refl (plain_by_test bytes) test
  where
    at : (white : Bool) → is_white b ≡ white → (is_plain bytes ≡ true → Plain bytes) → cond white false (is_plain bytes) ≡ true → Plain (b ∷ bytes)
    at true is others passes = absurd (false≢true passes)
    at false is others passes = (is, others passes)

literal : (b : ℕ) (bytes : List ℕ) (white : ℕ) → is_plain (b ∷ bytes) ≡ true → is_white white ≡ true → IsToken (b ∷ bytes, white)
literal b bytes white test is = record { some = omega arith; plain = plain_by_test (b ∷ bytes) test; white = is }

token : (bytes : List ℕ) (white : ℕ) → 0 < length bytes → Plain bytes → is_white white ≡ true → IsToken (bytes, white)
token bytes white some plain is = record { some = some; plain = plain; white = is }

pub first_good : AllByRecursion IsToken first_tokens
unfolding is_plain
first_good = (
  literal _ _ 32 refl refl,
  (
    literal _ _ 32 refl refl,
    (
      literal _ _ 32 refl refl,
      (
        literal _ _ 10 refl refl,
        (literal _ _ 32 refl refl, (literal _ _ 32 refl refl, (literal _ _ 32 refl refl, (literal _ _ 10 refl refl, tt)))),
      ),
    ),
  ),
)

pub last_good : AllByRecursion IsToken last_tokens
unfolding is_plain
last_good = (literal _ _ 32 refl refl, (literal _ _ 10 refl refl, (literal _ _ 32 refl refl, (literal _ _ 10 refl refl, tt))))

-- what is known of codes
pub record AreCodes : Type 0 where
  pub some : (k : ℕ) → 0 < length (code_of k)
  pub visible : (k : ℕ) → AreVisible (code_of k)

code_token : AreCodes → (k white : ℕ) → is_white white ≡ true → IsToken (code_of k, white)
code_token known k white is = token (code_of k) white (known.some k) (visible_plain (code_of k) (known.visible k)) is

variable_good : AreCodes → (k : ℕ) (it : WaveVar) → IsGood it → AllByRecursion IsToken (variable_tokens k it)
unfolding is_plain
variable_good known k it good =
    let fits = good.fits in
    let low : it.width < 2 ^ 64 = omega arith in
    let name = name_plain it.name good.name in (
      literal _ _ 32 refl refl,
      (
        literal _ _ 32 refl refl,
        (
          token (decimal it.width) 32 (decimal_nonempty it.width low) (decimal_plain it.width low) refl,
          (code_token known k 32 refl, (token it.name 32 name.0 name.1 refl, (literal _ _ 10 refl refl, tt))),
        ),
      ),
    )

pub variables_good : AreCodes → (k : ℕ) (vars : List WaveVar) → AllByRecursion IsGood vars → AllByRecursion IsToken (variables_tokens k vars)
variables_good known k [] good = tt
variables_good known k (it ∷ vars) good =
    all_append IsToken (variable_tokens k it) (variables_tokens (k + 1) vars) (variable_good known k it good.0) (variables_good known (k + 1) vars good.1)

digit_plain : (bit : Bool) → is_white (digit_of bit) ≡ false
digit_plain true = refl
digit_plain false = refl

value_good : AreCodes → (k : ℕ) (value : List Bool) → AllByRecursion IsToken (value_tokens k value)
value_good known k [] = (token (98 ∷ []) 32 (omega arith) (refl, tt) refl, (code_token known k 10 refl, tt))
value_good known k (bit ∷ []) = (token (digit_of bit ∷ code_of k) 10 (omega arith) (digit_plain bit, visible_plain (code_of k) (known.visible k)) refl, tt)
value_good known k (a ∷ b ∷ value) = (token (98 ∷ map digit_of (a ∷ b ∷ value)) 32 (omega arith) (refl, bits_plain (a ∷ b ∷ value)) refl, (code_token known k 10 refl, tt))

changes_good : AreCodes → (k : ℕ) (old new : List (List Bool)) → AllByRecursion IsToken (changes_tokens k old new)
changes_good known k old [] = tt
changes_good known k old (value ∷ new) =
    all_append IsToken (cond (is_shown old value) [] (value_tokens k value)) (changes_tokens (k + 1) (drop 1 old) new) (at (is_shown old value)) (changes_good known (k + 1) (drop 1 old) new)
  where
    at : (shown : Bool) → AllByRecursion IsToken (cond shown [] (value_tokens k value))
    at true = tt
    at false = value_good known k value

time_good : (time : ℕ) → time < 2 ^ 64 → IsToken (time_token time)
time_good time low = token (35 ∷ decimal time) 10 (omega arith) (refl, decimal_plain time low) refl

pub events_good : AreCodes → (number : ℕ) (ports : Ports) (last : List (List Bool)) (events : List Event) (outputs : List (List (List Bool)))
    → 2 * (number + length events) ≤ 2 ^ 64 → AllByRecursion IsToken (events_tokens number ports last events outputs)
events_good known number ports last [] outputs few = tt
events_good known number ports last (event ∷ events) [] few = tt
events_good known number ports last (event ∷ events) (shown ∷ outputs) few =
    let low = values_at ports false event shown in
    let high = values_at ports true event shown in
    all_append IsToken (event_tokens number ports last event shown) (events_tokens (number + 1) ports high events outputs) (
      time_good (2 * number) (omega arith),
      all_append IsToken (changes_tokens 0 last low) (time_token (2 * number + 1) ∷ changes_tokens 0 low high) (changes_good known 0 last low)
          (time_good (2 * number + 1) (omega arith), changes_good known 0 low high),
    )
    (events_good known (number + 1) ports high events outputs (omega arith))
