-- One change and one step before those that were passed.
use Rattle.std.proofs.Common.{◌≡◌, ◌≢◌, ℕ, ◌+◌, ◌<◌, ◌≤◌, Bool, true, false, cond, eqb, leb, List, [], ◌∷◌, ◌++◌, length, take, get_or, Option, Some, None, ◌⊎◌, inl, inr, refl, sym, ap, ◌∙◌, arith}
use Rattle.std.proofs.lemmas.Bool.Decides.{eqb_tells, leb_tells}
use Rattle.std.proofs.lemmas.List.{get_or_default, take_more}
use Rattle.wave_text.specs.Values.{at_steps, latest}
use Rattle.wave_text.specs.declared.wave.Change.{Change}
use Rattle.wave_text.specs.declared.wave.WaveStep.{WaveStep}

latest_push : (var : ℕ) (before : Option (List Bool)) (changes : List Change) (change : Change)
    → latest var before (changes ++ change ∷ []) ≡ cond (eqb change.var var) (Some change.value) (latest var before changes)
latest_push var before [] change = refl
latest_push var before (c ∷ changes) change = latest_push var (cond (eqb c.var var) (Some c.value) before) changes change

steps_push : (var time : ℕ) (before : Option (List Bool)) (steps : List WaveStep) (step : WaveStep)
    → at_steps var time before (steps ++ step ∷ [])
    ≡ cond (leb step.time time) (latest var (at_steps var time before steps) step.changes) (at_steps var time before steps)
steps_push var time before [] step = refl
steps_push var time before (s ∷ steps) step = steps_push var time (cond (leb s.time time) (latest var before s.changes) before) steps step

-- the change of a place
pub latest_at : (var : ℕ) (changes : List Change) (k : ℕ) (change : Change) → k < length changes → change ≡ get_or changes k change
    → latest var None (take (k + 1) changes) ≡ cond (eqb change.var var) (Some change.value) (latest var None (take k changes))
latest_at var changes k change within is =
    ap (latest var None) (take_more changes k change within ∙ ap (λ c. take k changes ++ c ∷ []) (sym is)) ∙ latest_push var None (take k changes) change

pub steps_at : (var time : ℕ) (steps : List WaveStep) (k : ℕ) (step : WaveStep) → k < length steps → step ≡ get_or steps k step
    → at_steps var time None (take (k + 1) steps)
    ≡ cond (leb step.time time) (latest var (at_steps var time None (take k steps)) step.changes) (at_steps var time None (take k steps))
steps_at var time steps k step within is =
    ap (at_steps var time None) (take_more steps k step within ∙ ap (λ s. take k steps ++ s ∷ []) (sym is)) ∙ steps_push var time None (take k steps) step

-- a value stays one
some_stays : (var : ℕ) (before : Option (List Bool)) (value : List Bool) (changes : List Change) → before ≡ Some value
    → (last : List Bool) × (latest var before changes ≡ Some last)
some_stays var before value [] is = (value, is)
some_stays var before value (c ∷ changes) is =
    at (eqb c.var var) (some_stays var (Some c.value) c.value changes refl) (some_stays var before value changes is)
  where
    at : (b : Bool) → ((last : List Bool) × (latest var (Some c.value) changes ≡ Some last)) → ((last : List Bool) × (latest var before changes ≡ Some last))
        → (last : List Bool) × (latest var (cond b (Some c.value) before) changes ≡ Some last)
    at true here there = here
    at false here there = there

-- changes behind a value: those of the variable, or none
either : (var : ℕ) (before : Option (List Bool)) (changes : List Change)
    → ((value : List Bool) × (latest var None changes ≡ Some value) × (latest var before changes ≡ Some value))
    ⊎ ((latest var None changes ≡ None) × (latest var before changes ≡ before))
either var before [] = inr (refl, refl)
either var before (c ∷ changes) = at (eqb c.var var) (either var before changes) (some_stays var (Some c.value) (c.value) changes refl)
  where
    at : (b : Bool)
        → ((value : List Bool) × (latest var None changes ≡ Some value) × (latest var before changes ≡ Some value))
        ⊎ ((latest var None changes ≡ None) × (latest var before changes ≡ before))
        → ((value : List Bool) × (latest var (Some c.value) changes ≡ Some value))
        → ((value : List Bool) × (latest var (cond b (Some c.value) None) changes ≡ Some value) × (latest var (cond b (Some c.value) before) changes ≡ Some value))
        ⊎ ((latest var (cond b (Some c.value) None) changes ≡ None) × (latest var (cond b (Some c.value) before) changes ≡ before))
    at true later known = inl (known.0, known.1, known.1)
    at false later known = later

pub latest_some : (var : ℕ) (before : Option (List Bool)) (changes : List Change) (value : List Bool) → latest var None changes ≡ Some value
    → latest var before changes ≡ Some value
latest_some var before changes value some = elim (either var before changes) [
  | inl w ↦ w.2 ∙ sym w.1 ∙ some
  | inr w ↦ absurd (none_some (sym w.0 ∙ some))
]
  where
    none_some : {A : Type 0} {x : A} → None ≡ Some x → ⊥
    none_some e = cc

pub latest_none : (var : ℕ) (before : Option (List Bool)) (changes : List Change) → latest var None changes ≡ None → latest var before changes ≡ before
latest_none var before changes none = elim (either var before changes) [
  | inl w ↦ absurd (none_some (sym none ∙ w.1))
  | inr w ↦ w.1
]
  where
    none_some : {A : Type 0} {x : A} → None ≡ Some x → ⊥
    none_some e = cc

unlike : (a b : ℕ) → a ≢ b → eqb a b ≡ false
unlike a b apart = elim (eqb_tells a b) [ inl same ↦ absurd (apart same.1) | inr other ↦ other.0 ]

alike : (a b : ℕ) → a ≡ b → eqb a b ≡ true
alike a b is = elim (eqb_tells a b) [ inl same ↦ same.0 | inr other ↦ absurd (other.1 is) ]

-- the change of a place is of another variable
pub not_here : (var : ℕ) (changes : List Change) (k next : ℕ) (d : Change) (x : Option (List Bool)) → k + 1 ≡ next → k < length changes
    → (get_or changes k d).var ≢ var → latest var None (take next changes) ≡ x → latest var None (take k changes) ≡ x
not_here var changes k next d x one within other known =
    let change = get_or changes k d in
    sym (ap (λ n. latest var None (take n changes)) (sym one) ∙ latest_at var changes k change within (get_or_default changes k d change within)
    ∙ ap (λ b. cond b (Some change.value) (latest var None (take k changes))) (unlike change.var var other))
    ∙ known

-- the change of a place is of the variable
pub here : (var : ℕ) (changes : List Change) (k next : ℕ) (d other : Change) (x : Option (List Bool)) → k + 1 ≡ next → k < length changes
    → (get_or changes k d).var ≡ var → latest var None (take next changes) ≡ x → Some (get_or changes k other).value ≡ x
here var changes k next d other x one within same known =
    let change = get_or changes k d in
    ap (λ (c : Change). Some c.value) (get_or_default changes k other d within)
    ∙ sym (ap (λ n. latest var None (take n changes)) (sym one) ∙ latest_at var changes k change within (get_or_default changes k d change within)
    ∙ ap (λ b. cond b (Some change.value) (latest var None (take k changes))) (alike change.var var same))
    ∙ known

reached : (m n : ℕ) → m ≤ n → leb m n ≡ true
reached m n low = elim (leb_tells m n) [ inl is ↦ is.0 | inr high ↦ absurd (omega (arith, high.1)) ]

ahead : (m n : ℕ) → n < m → leb m n ≡ false
ahead m n less = elim (leb_tells m n) [ inl low ↦ absurd (omega (arith, low.1)) | inr high ↦ high.0 ]

-- the step of a place is behind the time
pub not_yet : (var time : ℕ) (read steps : List WaveStep) (k next : ℕ) (d : WaveStep) (x : Option (List Bool)) → read ≡ steps → k + 1 ≡ next → k < length read
    → time < (get_or read k d).time → at_steps var time None (take next steps) ≡ x → at_steps var time None (take k steps) ≡ x
not_yet var time read steps k next d x same one within later known =
    let step = get_or read k d in
    let before : List WaveStep → Option (List Bool) = λ ss. at_steps var time None ss in
    ap (λ ss. before (take k ss)) (sym same)
    ∙ sym (ap (λ n. before (take n read)) (sym one) ∙ steps_at var time read k step within (get_or_default read k d step within)
    ∙ ap (λ b. cond b (latest var (before (take k read)) step.changes) (before (take k read))) (ahead step.time time later))
    ∙ ap (λ ss. before (take next ss)) same ∙ known

-- the step of a place has no change of the variable
pub no_change : (var time : ℕ) (read steps : List WaveStep) (k next : ℕ) (d other : WaveStep) (x : Option (List Bool)) → read ≡ steps → k + 1 ≡ next → k < length read
    → (get_or read k d).time ≤ time → latest var None (get_or read k other).changes ≡ None → at_steps var time None (take next steps) ≡ x
    → at_steps var time None (take k steps) ≡ x
no_change var time read steps k next d other x same one within low none known =
    let step = get_or read k d in
    let before : List WaveStep → Option (List Bool) = λ ss. at_steps var time None ss in
    let none_here : latest var None step.changes ≡ None = ap (λ (s : WaveStep). latest var None s.changes) (get_or_default read k d other within) ∙ none in
    ap (λ ss. before (take k ss)) (sym same)
    ∙ sym (ap (λ n. before (take n read)) (sym one) ∙ steps_at var time read k step within (get_or_default read k d step within)
    ∙ ap (λ b. cond b (latest var (before (take k read)) step.changes) (before (take k read))) (reached step.time time low)
    ∙ latest_none var (before (take k read)) step.changes none_here)
    ∙ ap (λ ss. before (take next ss)) same ∙ known

-- the step of a place has a change of the variable
pub change_there : (var time : ℕ) (read steps : List WaveStep) (k next : ℕ) (d other : WaveStep) (value : List Bool) (x : Option (List Bool)) → read ≡ steps → k + 1 ≡ next
    → k < length read → (get_or read k d).time ≤ time → Some value ≡ latest var None (get_or read k other).changes → at_steps var time None (take next steps) ≡ x
    → Some value ≡ x
change_there var time read steps k next d other value x same one within low some known =
    let step = get_or read k d in
    let before : List WaveStep → Option (List Bool) = λ ss. at_steps var time None ss in
    let some_here : latest var None step.changes ≡ Some value = ap (λ (s : WaveStep). latest var None s.changes) (get_or_default read k d other within) ∙ sym some in
    sym (ap (λ n. before (take n read)) (sym one) ∙ steps_at var time read k step within (get_or_default read k d step within)
    ∙ ap (λ b. cond b (latest var (before (take k read)) step.changes) (before (take k read))) (reached step.time time low)
    ∙ latest_some var (before (take k read)) step.changes value some_here)
    ∙ ap (λ ss. before (take next ss)) same ∙ known
