-- A printed wave has the values of its events.
use Rattle.std.proofs.Common.{◌≡◌, ◌≢◌, ℕ, zero, suc, ◌+◌, ◌*◌, ◌<◌, ◌≤◌, Bool, true, false, cond, eqb, leb, List, [], ◌∷◌, ◌++◌, length, drop, slice_get, Option, Some, None, inl, inr, refl, sym, ap, ◌∙◌, arith}
use Rattle.std.specs.Bool.{beq}
use Rattle.std.specs.Cmp.Lexicographic.{pointwise, pointwise_decides}
use Rattle.std.proofs.lemmas.Bool.{false≢true}
use Rattle.std.proofs.lemmas.Bool.Decides.{eqb_tells, leb_tells}
use Rattle.chw_clock.specs.declared.event.Event.{Event}
use Rattle.chw_clock.specs.declared.event.Ports.{Ports}
use Rattle.waves.specs.Vcd.{is_shown, values_at}
use Rattle.wave_text.specs.PrintedWave.{changed, events_steps, step}
use Rattle.wave_text.specs.Values.{at_steps, latest}
use Rattle.wave_text.specs.declared.wave.WaveStep.{WaveStep}

same_bit : (a b : Bool) → beq a b ≡ true → a ≡ b
same_bit true true same = refl
same_bit true false same = absurd (false≢true same)
same_bit false true same = absurd (false≢true same)
same_bit false false same = refl

its_own : (a b : Bool) → a ≡ b → beq a b ≡ true
its_own true b same = ap (beq true) (sym same)
its_own false b same = ap (beq false) (sym same)

same_values : (xs ys : List Bool) → pointwise beq xs ys ≡ true → xs ≡ ys
same_values xs ys = (pointwise_decides (λ a b. (same_bit a b, its_own a b)) xs ys).0

-- a change of another variable
other_change : (var k : ℕ) (bits : List Bool) (before : Option (List Bool)) → k ≢ var → (cond (eqb k var) (Some bits) before) ≡ before
other_change var k bits before other =
    elim (eqb_tells k var) [ inl same ↦ absurd (other same.1) | inr apart ↦ ap (λ b. cond b (Some bits) before) apart.0 ]

-- changes of later variables
untouched : (var k : ℕ) (old new : List (List Bool)) (before : Option (List Bool)) → var < k → latest var before (changed k old new) ≡ before
untouched var k old [] before less = refl
untouched var k old (bits ∷ new) before less =
    at (is_shown old bits) (untouched var (k + 1) (drop 1 old) new before (omega arith))
  where
    at : (shown : Bool) → latest var before (changed (k + 1) (drop 1 old) new) ≡ before → latest var before (cond shown [] (record { var = k; value = bits } ∷ []) ++ changed (k + 1) (drop 1 old) new) ≡ before
    at true later = later
    at false later =
        let apart : k ≢ var = λ same. absurd (omega arith) in
        ap (λ b. latest var b (changed (k + 1) (drop 1 old) new)) (other_change var k bits before apart)
        ∙ later

-- what was shown of a place is the value before
abbrev pub Agrees : List (List Bool) → ℕ → Option (List Bool) → Type 0
Agrees old j before = (bits : List Bool) → slice_get old j ≡ Some bits → before ≡ Some bits

agrees_behind : (old : List (List Bool)) (j : ℕ) (before : Option (List Bool)) → Agrees old (suc j) before → Agrees (drop 1 old) j before
agrees_behind [] j before agrees bits there = agrees bits there
agrees_behind (was ∷ old) j before agrees bits there = agrees bits there

-- a value that was shown
shown_before : (old : List (List Bool)) (bits : List Bool) (before : Option (List Bool)) → is_shown old bits ≡ true → Agrees old 0 before → before ≡ Some bits
shown_before [] bits before same agrees = absurd (false≢true same)
shown_before (was ∷ old) bits before same agrees = agrees was refl ∙ ap (λ (b : List Bool). Some b) (same_values was bits same)

-- its own change
own_change : (var k : ℕ) (bits : List Bool) (before : Option (List Bool)) → k ≡ var → cond (eqb k var) (Some bits) before ≡ Some bits
own_change var k bits before same =
    elim (eqb_tells k var) [ inl here ↦ ap (λ b. cond b (Some bits) before) here.0 | inr apart ↦ absurd (apart.1 same) ]

-- behind the changes each variable has its new value
shows : (j k : ℕ) (old new : List (List Bool)) (before : Option (List Bool)) → j < length new → Agrees old j before
    → latest (k + j) before (changed k old new) ≡ slice_get new j
shows j k old [] before within agrees = absurd (omega arith)
shows zero k old (bits ∷ new) before within agrees = at (is_shown old bits) refl
  where
    at : (shown : Bool) → is_shown old bits ≡ shown
        → latest (k + 0) before (cond shown [] (record { var = k; value = bits } ∷ []) ++ changed (k + 1) (drop 1 old) new) ≡ Some bits
    at true same = untouched (k + 0) (k + 1) (drop 1 old) new before (omega arith) ∙ shown_before old bits before same agrees
    at false other =
        let place : k ≡ k + 0 = omega arith in
        ap (λ b. latest (k + 0) b (changed (k + 1) (drop 1 old) new)) (own_change (k + 0) k bits before place)
        ∙ untouched (k + 0) (k + 1) (drop 1 old) new (Some bits) (omega arith)
shows (suc j) k old (bits ∷ new) before within agrees =
    let place : k + suc j ≡ k + 1 + j = omega arith in
    at (is_shown old bits)
    (ap (λ n. latest n before (changed (k + 1) (drop 1 old) new)) place
    ∙ shows j (k + 1) (drop 1 old) new before (omega arith) (agrees_behind old j before agrees))
  where
    at : (shown : Bool) → latest (k + suc j) before (changed (k + 1) (drop 1 old) new) ≡ slice_get new j → latest (k + suc j) before (cond shown [] (record { var = k; value = bits } ∷ []) ++ changed (k + 1) (drop 1 old) new) ≡ slice_get new j
    at true later = later
    at false later =
        let apart : k ≢ k + suc j = λ same. absurd (omega arith) in
        ap (λ b. latest (k + suc j) b (changed (k + 1) (drop 1 old) new)) (other_change (k + suc j) k bits before apart) ∙ later

-- steps behind a time
not_yet : (var time number : ℕ) (ports : Ports) (last : List (List Bool)) (events : List Event) (outputs : List (List (List Bool))) (before : Option (List Bool))
    → time < 2 * number → at_steps var time before (events_steps number ports last events outputs) ≡ before
not_yet var time number ports last [] outputs before less = refl
not_yet var time number ports last (event ∷ events) [] before less = refl
not_yet var time number ports last (event ∷ events) (shown ∷ outputs) before less =
    let low = values_at ports false event shown in
    let high = values_at ports true event shown in
    let rest = events_steps (number + 1) ports high events outputs in
    let first = changed 0 last low in
    let second = changed 0 low high in
    ap (λ b. at_steps var time (cond b (latest var before first) before) (step (2 * number + 1) second ∷ rest)) (above (2 * number) time (omega arith))
    ∙ ap (λ b. at_steps var time (cond b (latest var before second) before) rest) (above (2 * number + 1) time (omega arith))
    ∙ not_yet var time (number + 1) ports high events outputs before (omega arith)
  where
    above : (m n : ℕ) → n < m → leb m n ≡ false
    above m n less = elim (leb_tells m n) [ inl low ↦ absurd (omega arith) | inr high ↦ high.0 ]

-- so many values at each time of these events
abbrev pub Wide : ℕ → Ports → List Event → List (List (List Bool)) → Type 0
Wide n ports (event ∷ events) (outputs ∷ others) =
    (length (values_at ports false event outputs) ≡ n) × (length (values_at ports true event outputs) ≡ n) × Wide n ports events others
Wide n ports _ _ = Unit {0}

reached : (m n : ℕ) → m ≤ n → leb m n ≡ true
reached m n low = elim (leb_tells m n) [ inl is ↦ is.0 | inr high ↦ absurd (omega arith) ]

ahead : (m n : ℕ) → n < m → leb m n ≡ false
ahead m n less = elim (leb_tells m n) [ inl low ↦ absurd (omega arith) | inr high ↦ high.0 ]

-- both values at an event
abbrev pub Shows : (var time : ℕ) → Option (List Bool) → List WaveStep → Ports → Event → List (List Bool) → Type 0
Shows var time before steps ports event outputs =
    (at_steps var time before steps ≡ slice_get (values_at ports false event outputs) var)
    × (at_steps var (time + 1) before steps ≡ slice_get (values_at ports true event outputs) var)

pub at_event : (i number var n : ℕ) (ports : Ports) (last : List (List Bool)) (events : List Event) (outputs : List (List (List Bool)))
    (before : Option (List Bool)) (event : Event) (shown : List (List Bool)) → var < n → Wide n ports events outputs → Agrees last var before
    → slice_get events i ≡ Some event → slice_get outputs i ≡ Some shown
    → Shows var (2 * (number + i)) before (events_steps number ports last events outputs) ports event shown
at_event i number var n ports last [] outputs before event shown within wide agrees there beside = absurd (none_some there)
  where
    none_some : {A : Type 0} {x : A} → None ≡ Some x → ⊥
    none_some e = cc
at_event i number var n ports last (e ∷ events) [] before event shown within wide agrees there beside = absurd (none_some beside)
  where
    none_some : {A : Type 0} {x : A} → None ≡ Some x → ⊥
    none_some e = cc
at_event zero number var n ports last (e ∷ events) (o ∷ outputs) before event shown within wide agrees there beside =
    let low = values_at ports false e o in
    let high = values_at ports true e o in
    let rest = events_steps (number + 1) ports high events outputs in
    let first = changed 0 last low in
    let second = changed 0 low high in
    let is : e ≡ event = cc in
    let are : o ≡ shown = cc in
    let place : 0 + var ≡ var = omega arith in
    let even = 2 * (number + 0) in
    let now : latest var before first ≡ slice_get low var =
    ap (λ v. latest v before first) (sym place) ∙ shows var 0 last low before (omega (arith, wide.0)) agrees in
    let next : latest var (slice_get low var) second ≡ slice_get high var =
    ap (λ v. latest v (slice_get low var) second) (sym place) ∙ shows var 0 low high (slice_get low var) (omega (arith, wide.1)) (λ bits at. at) in (
      ap (λ b. at_steps var even (cond b (latest var before first) before) (step (2 * number + 1) second ∷ rest)) (reached (2 * number) even (omega arith))
          ∙ ap (λ b. at_steps var even (cond b (latest var (latest var before first) second) (latest var before first)) rest) (ahead (2 * number + 1) even (omega arith))
          ∙ not_yet var even (number + 1) ports high events outputs (latest var before first) (omega arith)
          ∙ now ∙ ap (λ x. slice_get (values_at ports false x o) var) is ∙ ap (λ x. slice_get (values_at ports false event x) var) are,
      ap (λ b. at_steps var (even + 1) (cond b (latest var before first) before) (step (2 * number + 1) second ∷ rest)) (reached (2 * number) (even + 1) (omega arith))
          ∙ ap (λ b. at_steps var (even + 1) (cond b (latest var (latest var before first) second) (latest var before first)) rest) (reached (2 * number + 1) (even + 1) (omega arith))
          ∙ not_yet var (even + 1) (number + 1) ports high events outputs (latest var (latest var before first) second) (omega arith)
          ∙ ap (λ b. latest var b second) now ∙ next ∙ ap (λ x. slice_get (values_at ports true x o) var) is ∙ ap (λ x. slice_get (values_at ports true event x) var) are,
    )
at_event (suc i) number var n ports last (e ∷ events) (o ∷ outputs) before event shown within wide agrees there beside =
    let low = values_at ports false e o in
    let high = values_at ports true e o in
    let rest = events_steps (number + 1) ports high events outputs in
    let first = changed 0 last low in
    let second = changed 0 low high in
    let zero_place : 0 + var ≡ var = omega arith in
    let place : number + 1 + i ≡ number + suc i = omega arith in
    let now : latest var before first ≡ slice_get low var =
    ap (λ v. latest v before first) (sym zero_place) ∙ shows var 0 last low before (omega (arith, wide.0)) agrees in
    let next : latest var (slice_get low var) second ≡ slice_get high var =
    ap (λ v. latest v (slice_get low var) second) (sym zero_place) ∙ shows var 0 low high (slice_get low var) (omega (arith, wide.1)) (λ bits at. at) in
    let later = at_event i (number + 1) var n ports high events outputs (slice_get high var) event shown within wide.2 (λ bits at. at) there beside in
    let passed : (time : ℕ) → 2 * number + 1 ≤ time → at_steps var time before (events_steps number ports last (e ∷ events) (o ∷ outputs)) ≡ at_steps var time (slice_get high var) rest =
    λ time low_enough.
    ap (λ b. at_steps var time (cond b (latest var before first) before) (step (2 * number + 1) second ∷ rest)) (reached (2 * number) time (omega arith))
    ∙ ap (λ b. at_steps var time (cond b (latest var (latest var before first) second) (latest var before first)) rest) (reached (2 * number + 1) time (omega arith))
    ∙ ap (λ b. at_steps var time (latest var b second) rest) now ∙ ap (λ b. at_steps var time b rest) next in (
      passed (2 * (number + suc i)) (omega arith) ∙ ap (λ m. at_steps var (2 * m) (slice_get high var) rest) (sym place) ∙ later.0,
      passed (2 * (number + suc i) + 1) (omega arith) ∙ ap (λ m. at_steps var (2 * m + 1) (slice_get high var) rest) (sym place) ∙ later.1,
    )
