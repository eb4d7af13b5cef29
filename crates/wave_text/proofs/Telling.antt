-- Printed words are those of changes and times with the same codes and bits.
use Rattle.std.proofs.Common.{◌≡◌, ℕ, ◌+◌, ◌*◌, ◌<◌, ◌≤◌, ◌^◌, Bool, true, false, cond, List, [], ◌∷◌, ◌++◌, length, map, drop, codes, refl, sym, subst, arith, append_assoc}
use Rattle.std.specs.Prelude.{decimal}
use Rattle.std.specs.List.{AllByRecursion}
use Rattle.std.proofs.lemmas.Fmt.{decimal_is_IsNumeral}
use Rattle.std.proofs.lemmas.List.{append-nil}
use Rattle.chw_clock.specs.declared.event.Event.{Event}
use Rattle.chw_clock.specs.declared.event.Ports.{Ports}
use Rattle.waves.specs.Vcd.{code_of, digit_of, is_shown, values_at}
use Rattle.waves.specs.declared.wave.WaveVar.{WaveVar}
use Rattle.wave_text.specs.PrintedWave.{changed, events_steps, step}
use Rattle.wave_text.specs.VcdText.{AreChanges, AreDeclarations, Changed, Declared, IsCode, IsName, IsWidth, Moment}
use Rattle.wave_text.specs.VcdText.AreChanges.{none as no_changes, at_time as time, by_digit as digit, by_bits as bits}
use Rattle.wave_text.specs.VcdText.AreDeclarations.{last as no_declarations, next as variable}
use Rattle.wave_text.specs.Words.{word}
use Rattle.wave_text.specs.declared.wave.Change.{Change}
use Rattle.wave_text.specs.declared.wave.WaveStep.{WaveStep}
use Rattle.wave_text.proofs.Spaced.{placed}
use Rattle.wave_text.proofs.Tokens.{changes_tokens, events_tokens, last_tokens, time_token, value_tokens, variable_tokens, variables_tokens}

-- read changes have the codes and bits of these
abbrev pub Told : List Changed → List Change → Type 0
Told [] [] = Unit {0}
Told (c ∷ cs) (p ∷ ps) = (c.code ≡ code_of p.var) × (c.bits ≡ p.value) × Told cs ps
Told _ _ = ⊥

-- read times have the numbers and changes of these
abbrev pub Timed : List Moment → List WaveStep → Type 0
Timed [] [] = Unit {0}
Timed (m ∷ ms) (s ∷ ss) = (m.time ≡ s.time) × Told m.changes s.changes × Timed ms ss
Timed _ _ = ⊥

-- read variables, the first of this number, are these
abbrev pub Named : ℕ → List Declared → List WaveVar → Type 0
Named k [] [] = Unit {0}
Named k (d ∷ ds) (v ∷ vs) = (d.code ≡ code_of k) × (d.width ≡ v.width) × (d.name ≡ v.name) × Named (k + 1) ds vs
Named k _ _ = ⊥

-- wherever they stand, the words are those of these changes and steps
abbrev pub Prints : List (List ℕ × ℕ) → List Change → List WaveStep → Type 0
Prints tokens changes steps =
    (at : ℕ) → (cs : List Changed) × (ms : List Moment) × AreChanges (placed at tokens) cs ms × Told cs changes × Timed ms steps

prints_nothing : Prints [] [] []
prints_nothing at = ([], [], no_changes, tt, tt)

prints_value : (code : (k : ℕ) → IsCode (code_of k)) (k : ℕ) (value : List Bool) (rest : List (List ℕ × ℕ)) (changes : List Change) (steps : List WaveStep)
    → 0 < length value → Prints rest changes steps → Prints (value_tokens k value ++ rest) (record { var = k; value = value } ∷ changes) steps
prints_value code k [] rest changes steps some prints at = absurd (omega arith)
prints_value code k (bit ∷ []) rest changes steps some prints at =
    let it = prints (at + length (digit_of bit ∷ code_of k) + 1) in
    let w = word at (digit_of bit ∷ code_of k) in (
      (record { at = at; code_at = at; code = code_of k; bits = bit ∷ [] }) ∷ it.0,
      it.1,
      digit w (placed (at + length (digit_of bit ∷ code_of k) + 1) rest) bit (code_of k) it.0 it.1 (record { bytes_are = refl; form = code k }) it.2,
      (refl, refl, it.3),
      it.4,
    )
prints_value code k (a ∷ b ∷ value) rest changes steps some prints at =
    let text = 98 ∷ map digit_of (a ∷ b ∷ value) in
    let here = at + length text + 1 in
    let behind = here + length (code_of k) + 1 in
    let it = prints behind in (
      (record { at = at; code_at = here; code = code_of k; bits = a ∷ b ∷ value }) ∷ it.0,
      it.1,
      bits (word at text) (word here (code_of k)) (placed behind rest) (a ∷ b ∷ value) it.0 it.1 (record { bytes_are = refl; some = omega arith }) (code k) it.2,
      (refl, refl, it.3),
      it.4,
    )

prints_changes : (code : (k : ℕ) → IsCode (code_of k)) (k : ℕ) (old new : List (List Bool)) (rest : List (List ℕ × ℕ)) (changes : List Change) (steps : List WaveStep)
    → AllByRecursion (λ value. 0 < length value) new → Prints rest changes steps
    → Prints (changes_tokens k old new ++ rest) (changed k old new ++ changes) steps
prints_changes code k old [] rest changes steps some prints = prints
prints_changes code k old (value ∷ new) rest changes steps some prints =
    at (is_shown old value) (prints_changes code (k + 1) (drop 1 old) new rest changes steps some.1 prints)
  where
    at : (shown : Bool) → Prints (changes_tokens (k + 1) (drop 1 old) new ++ rest) (changed (k + 1) (drop 1 old) new ++ changes) steps → Prints ((cond shown [] (value_tokens k value) ++ changes_tokens (k + 1) (drop 1 old) new) ++ rest)
        ((cond shown [] (record { var = k; value = value } ∷ []) ++ changed (k + 1) (drop 1 old) new) ++ changes) steps
    at true later = later
    at false later =
        subst (λ (ts : List (List ℕ × ℕ)). Prints ts (record { var = k; value = value } ∷ (changed (k + 1) (drop 1 old) new ++ changes)) steps)
        (sym (append_assoc (value_tokens k value) (changes_tokens (k + 1) (drop 1 old) new) rest))
        (prints_value code k value (changes_tokens (k + 1) (drop 1 old) new ++ rest) (changed (k + 1) (drop 1 old) new ++ changes) steps some.0 later)

prints_time : (instant : ℕ) (rest : List (List ℕ × ℕ)) (changes : List Change) (steps : List WaveStep) → instant < 2 ^ 64
    → Prints rest changes steps → Prints (time_token instant ∷ rest) [] (step instant changes ∷ steps)
prints_time instant rest changes steps low prints at =
    let text = 35 ∷ decimal instant in
    let it = prints (at + length text + 1) in
    let numeral = decimal_is_IsNumeral instant low in (
      [],
      (record { at = at; time = instant; changes = it.0 }) ∷ it.1,
      time (word at text) (placed (at + length text + 1) rest) instant it.0 it.1
          (record { digits = decimal instant; bytes_are = refl; numeral = numeral.0; value = numeral.1; fits = low }) it.2,
      tt,
      (refl, it.3, it.4),
    )

prints_all : (code : (k : ℕ) → IsCode (code_of k)) (old new : List (List Bool)) (rest : List (List ℕ × ℕ)) (steps : List WaveStep)
    → AllByRecursion (λ value. 0 < length value) new → Prints rest [] steps → Prints (changes_tokens 0 old new ++ rest) (changed 0 old new) steps
prints_all code old new rest steps some prints =
    subst (λ (ps : List Change). Prints (changes_tokens 0 old new ++ rest) ps steps) (append-nil (changed 0 old new))
    (prints_changes code 0 old new rest [] steps some prints)

-- each value at both times of these events has a bit
abbrev pub Filled : Ports → List Event → List (List (List Bool)) → Type 0
Filled ports (event ∷ events) (outputs ∷ others) =
    AllByRecursion (λ value. 0 < length value) (values_at ports false event outputs)
    × AllByRecursion (λ value. 0 < length value) (values_at ports true event outputs) × Filled ports events others
Filled ports _ _ = Unit {0}

pub prints_events : (code : (k : ℕ) → IsCode (code_of k)) (number : ℕ) (ports : Ports) (last : List (List Bool)) (events : List Event) (outputs : List (List (List Bool)))
    → Filled ports events outputs → 2 * (number + length events) ≤ 2 ^ 64
    → Prints (events_tokens number ports last events outputs) [] (events_steps number ports last events outputs)
prints_events code number ports last [] outputs filled few = prints_nothing
prints_events code number ports last (event ∷ events) [] filled few = prints_nothing
prints_events code number ports last (event ∷ events) (shown ∷ outputs) filled few =
    let low = values_at ports false event shown in
    let high = values_at ports true event shown in
    let first = changes_tokens 0 last low in
    let second = changes_tokens 0 low high in
    let rest = events_tokens (number + 1) ports high events outputs in
    let steps = events_steps (number + 1) ports high events outputs in
    let later = prints_events code (number + 1) ports high events outputs filled.2 (omega arith) in
    let odd = prints_time (2 * number + 1) (second ++ rest) (changed 0 low high) steps (omega arith) (prints_all code low high rest steps filled.1 later) in
    let even = prints_all code last low (time_token (2 * number + 1) ∷ (second ++ rest)) (step (2 * number + 1) (changed 0 low high) ∷ steps) filled.0 odd in
    prints_time (2 * number) ((first ++ time_token (2 * number + 1) ∷ second) ++ rest) (changed 0 last low) (step (2 * number + 1) (changed 0 low high) ∷ steps) (omega arith)
    (subst (λ (ts : List (List ℕ × ℕ)). Prints ts (changed 0 last low) (step (2 * number + 1) (changed 0 low high) ∷ steps))
    (sym (append_assoc first (time_token (2 * number + 1) ∷ second) rest)) even)

-- wherever they stand, the words are those of these variables, the first of this number, and of these steps
abbrev pub Declare : ℕ → List (List ℕ × ℕ) → List WaveVar → List WaveStep → Type 0
Declare k tokens vars steps =
    (at : ℕ) → (ds : List Declared) × (ms : List Moment) × AreDeclarations (placed at tokens) ds ms × Named k ds vars × Timed ms steps

none_told : (cs : List Changed) → Told cs [] → [] ≡ cs
none_told [] told = refl
none_told (c ∷ cs) told = absurd told

pub declare_last : (k : ℕ) (rest : List (List ℕ × ℕ)) (steps : List WaveStep) → Prints rest [] steps → Declare k (last_tokens ++ rest) [] steps
declare_last k rest steps prints at =
    let a = at + length (codes "$upscope") + 1 in
    let b = a + length (codes "$end") + 1 in
    let c = b + length (codes "$enddefinitions") + 1 in
    let d = c + length (codes "$end") + 1 in
    let it = prints d in
    let changes = subst (λ (cs : List Changed). AreChanges (placed d rest) cs it.1) (sym (none_told it.0 it.3)) it.2 in (
      [],
      it.1,
      no_declarations (word at (codes "$upscope")) (word a (codes "$end") ∷ word b (codes "$enddefinitions") ∷ word c (codes "$end") ∷ placed d rest) it.1 refl
          (refl, (refl, (refl, changes))),
      tt,
      it.4,
    )

-- a variable with a name that is read and a width that fits
pub record IsGood (it : WaveVar) : Type 0 where
  pub name : IsName it.name
  pub some : 1 ≤ it.width
  pub fits : it.width < 2 ^ 32

width_is : (it : WaveVar) → IsGood it → IsWidth (decimal it.width) it.width
width_is it good =
    let fits = good.fits in
    let numeral = decimal_is_IsNumeral it.width (omega arith) in
    record { digits = numeral.0; value = numeral.1; some = good.some; fits = fits }

pub declare_variables : (code : (k : ℕ) → IsCode (code_of k)) (k : ℕ) (vars : List WaveVar) (rest : List (List ℕ × ℕ)) (steps : List WaveStep)
    → AllByRecursion IsGood vars → ((j : ℕ) → Declare j rest [] steps) → Declare k (variables_tokens k vars ++ rest) vars steps
declare_variables code k [] rest steps good last = last k
declare_variables code k (it ∷ vars) rest steps good last =
    subst (λ (ts : List (List ℕ × ℕ)). Declare k ts (it ∷ vars) steps) (sym (append_assoc (variable_tokens k it) (variables_tokens (k + 1) vars) rest))
    (here (declare_variables code (k + 1) vars rest steps good.1 last))
  where
    here : Declare (k + 1) (variables_tokens (k + 1) vars ++ rest) vars steps → Declare k (variable_tokens k it ++ (variables_tokens (k + 1) vars ++ rest)) (it ∷ vars) steps
    here later at =
        let a = at + length (codes "$var") + 1 in
        let b = a + length (codes "wire") + 1 in
        let c = b + length (decimal it.width) + 1 in
        let d = c + length (code_of k) + 1 in
        let e = d + length it.name + 1 in
        let f = e + length (codes "$end") + 1 in
        let others = later f in (
          (record { at = c; width = it.width; code = code_of k; name = it.name }) ∷ others.0,
          others.1,
          variable (word at (codes "$var")) (word a (codes "wire")) (word b (decimal it.width)) (word c (code_of k)) (word d it.name) (word e (codes "$end"))
              (placed f (variables_tokens (k + 1) vars ++ rest)) it.width others.0 others.1 refl refl (width_is it good.0) (code k) good.0.name refl others.2,
          (refl, refl, refl, others.3),
          others.4,
        )
