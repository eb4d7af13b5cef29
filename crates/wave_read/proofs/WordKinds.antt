-- The kinds of words among changes and times, told apart by their first bytes.
use Rattle.std.proofs.Common.{◌≡◌, ℕ, Bool, List, [], ◌∷◌, refl}
use Rattle.wave_text.specs.Faults.{FailsAt}
use Rattle.wave_read.specs.Reading.{FailsBehind, HasChanges, HasTimes}
use Rattle.wave_read.specs.Slots.{FailsRow}
use Rattle.wave_text.specs.VcdText.{AreBits, AreChanges, Changed, IsCode, IsDigit, IsTime, Moment}
use Rattle.wave_text.specs.VcdText.AreChanges.{none as ends, at_time as time, by_digit as digit, by_bits as bits}
use Rattle.wave_text.specs.Words.{Word}
use Rattle.wave_read.specs.declared.slots.Slot.TheVariants.{Code}
use Rattle.wave_text.proofs.Heads.{no_digit_bits, no_time_bits, no_time_digit}
use Rattle.wave_read.proofs.Failing.{RowThen, later, leaves_here, row_fails}

some_changes : (more : List Word) × HasChanges more
some_changes = ([], ([], [], ends))

some_times : (more : List Word) × HasTimes more
some_times = ([], ([], ends))

-- behind a time
behind_time : (w : Word) (words : List Word) (at : ℕ) (changes : List Changed) (moments : List Moment) → IsTime w.bytes at
    → AreChanges (w ∷ words) changes moments → HasChanges words
behind_time w words at _ _ is (time _ _ _ changes moments _ rest) = (changes, moments, rest)
behind_time w words at _ _ is (digit _ _ bit code changes moments other rest) = absurd (no_time_digit w.bytes at bit code is other)
behind_time w _ at _ _ is (bits _ c words value changes moments other form rest) = absurd (no_time_bits w.bytes at value is other)

time_up : (w : Word) (words : List Word) (at : ℕ) → IsTime w.bytes at → HasChanges words → HasChanges (w ∷ words)
time_up w words at is it = ([], (record { at = w.at; time = at; changes = it.0 }) ∷ it.1, time w words at it.0 it.1 is it.2)

pub time_behind : (w : Word) (end : ℕ) (words : List Word) (at : ℕ) → IsTime w.bytes at → FailsBehind HasChanges HasChanges end words (w ∷ words)
time_behind w end words at is place fails =
    later HasChanges HasChanges (w ∷ []) end words place (λ more it. behind_time w more at it.0 it.1 is it.2) (λ more it. time_up w more at is it) fails

pub first_behind : (w : Word) (end : ℕ) (words : List Word) (at : ℕ) → IsTime w.bytes at → FailsBehind HasChanges HasTimes end words (w ∷ words)
first_behind w end words at is place fails =
    later HasTimes HasChanges (w ∷ []) end words place (λ more it. behind_time w more at [] it.0 is it.1)
    (λ more it. ((record { at = w.at; time = at; changes = it.0 }) ∷ it.1, time w more at it.0 it.1 is it.2)) fails

-- behind a digit with its code
behind_digit : (w : Word) (words : List Word) (bit : Bool) (code : List ℕ) (changes : List Changed) (moments : List Moment) → IsDigit w.bytes bit code
    → AreChanges (w ∷ words) changes moments → HasChanges words
behind_digit w words bit code _ _ is (time _ _ at changes moments other rest) = absurd (no_time_digit w.bytes at bit code other is)
behind_digit w words bit code _ _ is (digit _ _ _ _ changes moments _ rest) = (changes, moments, rest)
behind_digit w _ bit code _ _ is (bits _ c words value changes moments other form rest) = absurd (no_digit_bits w.bytes bit code value is other)

digit_up : (w : Word) (words : List Word) (bit : Bool) (code : List ℕ) → IsDigit w.bytes bit code → HasChanges words → HasChanges (w ∷ words)
digit_up w words bit code is it =
    ((record { at = w.at; code_at = w.at; code = code; bits = bit ∷ [] }) ∷ it.0, it.1, digit w words bit code it.0 it.1 is it.2)

pub digit_behind : (w : Word) (end : ℕ) (words : List Word) (bit : Bool) (code : List ℕ) → IsDigit w.bytes bit code
    → FailsBehind HasChanges HasChanges end words (w ∷ words)
digit_behind w end words bit code is place fails =
    later HasChanges HasChanges (w ∷ []) end words place (λ more it. behind_digit w more bit code it.0 it.1 is it.2) (λ more it. digit_up w more bit code is it) fails

-- behind bits
behind_bits : (w : Word) (words : List Word) (value : List Bool) (changes : List Changed) (moments : List Moment) → AreBits w.bytes value
    → AreChanges (w ∷ words) changes moments → RowThen (Code ∷ []) HasChanges words
behind_bits w words value _ _ is (time _ _ at changes moments other rest) = absurd (no_time_bits w.bytes at value other is)
behind_bits w words value _ _ is (digit _ _ bit code changes moments other rest) = absurd (no_digit_bits w.bytes bit code value other is)
behind_bits w _ value _ _ is (bits _ c words _ changes moments _ form rest) = (form, (changes, moments, rest))

bits_up : (w : Word) (words : List Word) (value : List Bool) → AreBits w.bytes value → RowThen (Code ∷ []) HasChanges words → HasChanges (w ∷ words)
bits_up w [] value is row = absurd row
bits_up w (c ∷ words) value is row =
    let it = row.1 in
    ((record { at = w.at; code_at = c.at; code = c.bytes; bits = value }) ∷ it.0, it.1, bits w c words value it.0 it.1 is row.0 it.2)

pub bits_behind : (w c : Word) (end : ℕ) (words : List Word) (value : List Bool) → AreBits w.bytes value → IsCode c.bytes
    → FailsBehind HasChanges HasChanges end words (w ∷ c ∷ words)
bits_behind w c end words value is form place fails =
    later HasChanges HasChanges (w ∷ c ∷ []) end words place (λ more it. (behind_bits w (c ∷ more) value it.0 it.1 is it.2).1)
    (λ more it. bits_up w (c ∷ more) value is (form, it)) fails

pub bits_fail : (w : Word) (end : ℕ) (words : List Word) (value : List Bool) (at : ℕ) → AreBits w.bytes value → FailsRow (Code ∷ []) end words at
    → FailsAt HasChanges end (w ∷ words) at
bits_fail w end words value at is fails =
    later HasChanges (RowThen (Code ∷ []) HasChanges) (w ∷ []) end words at (λ more it. behind_bits w more value it.0 it.1 is it.2) (λ more it. bits_up w more value is it)
    (row_fails (Code ∷ []) HasChanges end words at some_changes fails)

-- none of the three
none_of : (w : Word) (words : List Word) (changes : List Changed) (moments : List Moment) → ((at : ℕ) → IsTime w.bytes at → ⊥)
    → ((bit : Bool) (code : List ℕ) → IsDigit w.bytes bit code → ⊥) → ((value : List Bool) → AreBits w.bytes value → ⊥)
    → AreChanges (w ∷ words) changes moments → ⊥
none_of w words _ _ no_time no_digit no_bits (time _ _ at changes moments is rest) = no_time at is
none_of w words _ _ no_time no_digit no_bits (digit _ _ bit code changes moments is rest) = no_digit bit code is
none_of w _ _ _ no_time no_digit no_bits (bits _ c words value changes moments is form rest) = no_bits value is

pub none_fails : (w : Word) (end : ℕ) (words : List Word) → ((at : ℕ) → IsTime w.bytes at → ⊥)
    → ((bit : Bool) (code : List ℕ) → IsDigit w.bytes bit code → ⊥) → ((value : List Bool) → AreBits w.bytes value → ⊥)
    → FailsAt HasChanges end (w ∷ words) w.at
none_fails w end words no_time no_digit no_bits =
    leaves_here HasChanges end w words some_changes (λ more it. none_of w more it.0 it.1 no_time no_digit no_bits it.2)

-- no change stands before the first time
not_first : (w : Word) (words : List Word) (changes : List Changed) (moments : List Moment) → ((at : ℕ) → IsTime w.bytes at → ⊥) → changes ≡ []
    → AreChanges (w ∷ words) changes moments → ⊥
not_first w words _ _ no_time none (time _ _ at changes moments is rest) = no_time at is
not_first w words _ _ no_time none (digit _ _ bit code changes moments is rest) = cc
not_first w _ _ _ no_time none (bits _ c words value changes moments is form rest) = cc

pub first_fails : (w : Word) (end : ℕ) (words : List Word) → ((at : ℕ) → IsTime w.bytes at → ⊥) → FailsAt HasTimes end (w ∷ words) w.at
first_fails w end words no_time =
    leaves_here HasTimes end w words some_times (λ more it. not_first w more [] it.0 no_time refl it.1)
