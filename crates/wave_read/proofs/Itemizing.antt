-- Changes and times that were read.
use Rattle.std.proofs.Common.{◌≡◌, ℕ, ◌<◌, Bool, true, false, List, [], ◌∷◌, ◌++◌, length, map, None, Some, sym, ◌∙◌, subst, arith}
use Rattle.std.proofs.lemmas.List.{append-nil}
use Rattle.wave_text.specs.Faults.{FailsAt}
use Rattle.wave_read.specs.Reading.{FailsBehind, GoesOn, HasChanges, IsOther, PutsChanges}
use Rattle.wave_read.specs.Shown.{change_of}
use Rattle.wave_text.specs.VcdText.{AreBits, AreChanges, Changed, IsCode, IsDigit, IsTime, Moment}
use Rattle.wave_text.specs.VcdText.AreChanges.{none as nothing, at_time as time, by_digit as digit, by_bits as bits}
use Rattle.wave_text.specs.Words.{Word}
use Rattle.wave_read.specs.declared.items.Stamp.{Stamp}
use Rattle.wave_read.specs.declared.source.Changed.{Changed as ReadChange}
use Rattle.wave_read.proofs.WordKinds.{bits_behind, bits_fail, digit_behind, none_fails, time_behind}
use Rattle.wave_read.specs.Slots.{FailsRow}
use Rattle.wave_read.specs.declared.slots.Slot.TheVariants.{Code}
use Rattle.waves.specs.Vcd.{digit_of}

-- what stands first
same_first : (a b : ℕ) (xs ys : List ℕ) → a ∷ xs ≡ b ∷ ys → a ≡ b
same_first a b xs ys same = cc

same_rest : (a b : ℕ) (xs ys : List ℕ) → a ∷ xs ≡ b ∷ ys → xs ≡ ys
same_rest a b xs ys same = cc

pub digit_item : (w : Word) (bit : Bool) (code : List ℕ) (value : List Bool) (words : List Word) (end : ℕ) → IsDigit w.bytes bit code → value ≡ bit ∷ []
    → ((changes : List Changed) (moments : List Moment) → AreChanges words changes moments
    → AreChanges (w ∷ words) ((record { at = w.at; code_at = w.at; code = code; bits = value }) ∷ changes) moments)
    × FailsBehind HasChanges HasChanges end words (w ∷ words)
digit_item w bit code value words end is same = (
  λ changes moments rest.
      subst (λ (v : List Bool). AreChanges (w ∷ words) ((let c : Changed = record { at = w.at; code_at = w.at; code = code; bits = v } in c) ∷ changes) moments) (sym same)
      (digit w words bit code changes moments is rest),
  digit_behind w end words bit code is,
)

-- a digit with no code behind it
pub digit_fails : (w : Word) (bit : Bool) (code : List ℕ) (end : ℕ) (words : List Word) → w.bytes ≡ digit_of bit ∷ code → (IsCode code → ⊥)
    → FailsAt HasChanges end (w ∷ words) w.at
digit_fails w bit code end words bytes no_code =
    none_fails w end words (λ at is. no_time at is bit bytes) (λ b c is. no_code (same_code b c is)) (λ value is. no_bits value is bit bytes)
  where
    no_time : (at : ℕ) → IsTime w.bytes at → (b : Bool) → w.bytes ≡ digit_of b ∷ code → ⊥
    no_time at is true there =
        let first = same_first 35 49 is.digits code (sym is.bytes_are ∙ there) in
        absurd (omega arith)
    no_time at is false there =
        let first = same_first 35 48 is.digits code (sym is.bytes_are ∙ there) in
        absurd (omega arith)

    no_bits : (value : List Bool) → AreBits w.bytes value → (b : Bool) → w.bytes ≡ digit_of b ∷ code → ⊥
    no_bits value is true there =
        let first = same_first 98 49 (map digit_of value) code (sym is.bytes_are ∙ there) in
        absurd (omega arith)
    no_bits value is false there =
        let first = same_first 98 48 (map digit_of value) code (sym is.bytes_are ∙ there) in
        absurd (omega arith)

    same_code : (b : Bool) (c : List ℕ) → IsDigit w.bytes b c → IsCode code
    same_code b c is = subst IsCode (same_rest (digit_of b) (digit_of bit) c code (sym is.bytes_are ∙ bytes)) is.form

pub bits_item : (w c : Word) (value : List Bool) (words rest : List Word) (end : ℕ) → AreBits w.bytes value → IsCode c.bytes → words ≡ c ∷ rest
    → ((changes : List Changed) (moments : List Moment) → AreChanges rest changes moments
    → AreChanges (w ∷ words) ((record { at = w.at; code_at = c.at; code = c.bytes; bits = value }) ∷ changes) moments)
    × FailsBehind HasChanges HasChanges end rest (w ∷ words)
bits_item w c value words rest end is form there = (
  λ changes moments others.
      subst (λ (ws : List Word). AreChanges (w ∷ ws) ((let d : Changed = record { at = w.at; code_at = c.at; code = c.bytes; bits = value } in d) ∷ changes) moments) (sym there)
      (bits w c rest value changes moments is form others),
  λ at fails. subst (λ (ws : List Word). FailsAt HasChanges end (w ∷ ws) at) (sym there) (bits_behind w c end rest value is form at fails),
)

-- `b` and bits, with no code in the next word
pub code_fails : (w : Word) (value : List Bool) (end : ℕ) (words : List Word) (at : ℕ) → AreBits w.bytes value → FailsRow (Code ∷ []) end words at
    → FailsAt HasChanges end (w ∷ words) at
code_fails w value end words at is fails = bits_fail w end words value at is fails

-- `b` before what are no bits
pub no_bits_fail : (w : Word) (digits : List ℕ) (end : ℕ) (words : List Word) → w.bytes ≡ 98 ∷ digits
    → ((value : List Bool) → digits ≡ map digit_of value → 0 < length value → ⊥) → FailsAt HasChanges end (w ∷ words) w.at
no_bits_fail w digits end words bytes never = none_fails w end words no_time (λ b c is. no_digit b c is) (λ value is. never value (same_digits value is) is.some)
  where
    no_time : (at : ℕ) → IsTime w.bytes at → ⊥
    no_time at is =
        let first = same_first 98 35 digits is.digits (sym bytes ∙ is.bytes_are) in
        absurd (omega arith)

    no_digit : (b : Bool) (c : List ℕ) → IsDigit w.bytes b c → ⊥
    no_digit true c is =
        let first = same_first 98 49 digits c (sym bytes ∙ is.bytes_are) in
        absurd (omega arith)
    no_digit false c is =
        let first = same_first 98 48 digits c (sym bytes ∙ is.bytes_are) in
        absurd (omega arith)

    same_digits : (value : List Bool) → AreBits w.bytes value → digits ≡ map digit_of value
    same_digits value is = same_rest 98 98 digits (map digit_of value) (sym bytes ∙ is.bytes_are)

pub time_item : (w : Word) (at : ℕ) (words : List Word) (end : ℕ) → IsTime w.bytes at
    → ((changes : List Changed) (moments : List Moment) → AreChanges words changes moments
    → AreChanges (w ∷ words) [] ((record { at = w.at; time = at; changes = changes }) ∷ moments))
    × FailsBehind HasChanges HasChanges end words (w ∷ words)
time_item w at words end is = (λ changes moments rest. time w words at changes moments is rest, time_behind w end words at is)

-- neither a time nor a change
pub other_fails : (w : Word) (end : ℕ) (words : List Word) → IsOther w.bytes → ((time : ℕ) → IsTime w.bytes time → ⊥) → FailsAt HasChanges end (w ∷ words) w.at
other_fails w end words other no_time = none_fails w end words no_time (λ b c is. no_digit w.bytes b c other is) (λ value is. no_value w.bytes value other is)
  where
    no_digit : (bytes : List ℕ) (b : Bool) (c : List ℕ) → IsOther bytes → IsDigit bytes b c → ⊥
    no_digit [] b c other is = let e = is.bytes_are in cc
    no_digit (x ∷ bytes) true c other is = other.1 (same_first x 49 bytes c is.bytes_are)
    no_digit (x ∷ bytes) false c other is = other.0 (same_first x 48 bytes c is.bytes_are)

    no_value : (bytes : List ℕ) (value : List Bool) → IsOther bytes → AreBits bytes value → ⊥
    no_value [] value other is = let e = is.bytes_are in cc
    no_value (x ∷ bytes) value other is = other.2 (same_first x 98 bytes (map digit_of value) is.bytes_are)

-- no word is left
no_more : (words : List Word) → words ≡ [] → AreChanges words [] []
no_more words none = subst (λ (ws : List Word). AreChanges ws [] []) (sym none) nothing

-- changes were put behind others, and stand before what is left
abbrev pub Added : (all rest : List Word) (old new : List ReadChange) → Type 0
Added all rest old new =
    (read : List ReadChange) × (new ≡ old ++ read)
    × ((others : List Changed) (moments : List Moment) → AreChanges rest others moments → AreChanges all (map change_of read ++ others) moments)

-- a time stands behind the changes
goes_on : (end : ℕ) (all rest behind : List Word) (read : List ReadChange) (stamp : Stamp)
    → ((others : List Changed) (moments : List Moment) → AreChanges rest others moments → AreChanges all (map change_of read ++ others) moments)
    → FailsBehind HasChanges HasChanges end rest all
    → ((others : List Changed) (moments : List Moment) → AreChanges behind others moments
    → AreChanges rest [] ((record { at = stamp.at; time = stamp.time; changes = others }) ∷ moments))
    → FailsBehind HasChanges HasChanges end behind rest → GoesOn end all (map change_of read) (Some stamp) behind
goes_on end all rest behind read stamp forms fails step step_fails = (
  λ others moments is.
      subst (λ (cs : List Changed). AreChanges all cs ((let m : Moment = record { at = stamp.at; time = stamp.time; changes = others } in m) ∷ moments)) (append-nil (map change_of read))
      (forms [] ((let m : Moment = record { at = stamp.at; time = stamp.time; changes = others } in m) ∷ moments) (step others moments is)),
  λ at here. fails at (step_fails at here),
)

pub puts_time : (end inner : ℕ) (all rest behind : List Word) (old new : List ReadChange) (stamp : Stamp) → inner ≡ end → Added all rest old new
    → FailsBehind HasChanges HasChanges end rest all
    → ((others : List Changed) (moments : List Moment) → AreChanges behind others moments
    → AreChanges rest [] ((record { at = stamp.at; time = stamp.time; changes = others }) ∷ moments))
    × FailsBehind HasChanges HasChanges inner behind rest → PutsChanges end all old new (Some stamp) behind
puts_time end inner all rest behind old new stamp same added fails step = (
  added.0,
  added.1,
  goes_on end all rest behind added.0 stamp added.2 fails step.0 (subst (λ (n : ℕ). FailsBehind HasChanges HasChanges n behind rest) same step.1),
)

-- nothing stands behind the changes
pub puts_all : (end : ℕ) (all rest : List Word) (old new : List ReadChange) → Added all rest old new → rest ≡ [] → (left : List Word)
    → PutsChanges end all old new None left
puts_all end all rest old new added none left = (
  added.0,
  added.1,
  subst (λ (cs : List Changed). AreChanges all cs []) (append-nil (map change_of added.0)) (added.2 [] [] (no_more rest none)),
)
