-- The words of a printed text.
use Rattle.std.proofs.Common.{◌≡◌, ℕ, ◌+◌, ◌*◌, Bool, true, false, cond, List, [], ◌∷◌, ◌++◌, map, drop, codes, refl, sym, ap, ◌∙◌, append_assoc}
use Rattle.std.specs.Prelude.{decimal}
use Rattle.chw_clock.specs.declared.event.Event.{Event}
use Rattle.chw_clock.specs.declared.event.Ports.{Ports}
use Rattle.waves.specs.Vcd.{Vcd, changes, code_of, digit_of, event_text, events_text, is_shown, time_line, value_line, values_at, variable_line, variable_lines, variables}
use Rattle.waves.specs.declared.wave.WaveVar.{WaveVar}
use Rattle.wave_text.proofs.Spaced.{spaced, spaced_append}

abbrev pub first_tokens : List (List ℕ × ℕ)
first_tokens =
    (codes "$timescale", 32) ∷ (codes "1", 32) ∷ (codes "ns", 32) ∷ (codes "$end", 10) ∷ (codes "$scope", 32) ∷ (codes "module", 32) ∷ (codes "chw_top", 32) ∷ (codes "$end", 10) ∷ []

abbrev pub last_tokens : List (List ℕ × ℕ)
last_tokens = (codes "$upscope", 32) ∷ (codes "$end", 10) ∷ (codes "$enddefinitions", 32) ∷ (codes "$end", 10) ∷ []

abbrev pub variable_tokens : ℕ → WaveVar → List (List ℕ × ℕ)
variable_tokens k it = (codes "$var", 32) ∷ (codes "wire", 32) ∷ (decimal it.width, 32) ∷ (code_of k, 32) ∷ (it.name, 32) ∷ (codes "$end", 10) ∷ []

abbrev pub variables_tokens : ℕ → List WaveVar → List (List ℕ × ℕ)
variables_tokens k [] = []
variables_tokens k (it ∷ others) = variable_tokens k it ++ variables_tokens (k + 1) others

abbrev pub value_tokens : ℕ → List Bool → List (List ℕ × ℕ)
value_tokens k (bit ∷ []) = (digit_of bit ∷ code_of k, 10) ∷ []
value_tokens k bits = (98 ∷ map digit_of bits, 32) ∷ (code_of k, 10) ∷ []

abbrev pub changes_tokens : ℕ → (old new : List (List Bool)) → List (List ℕ × ℕ)
changes_tokens k old [] = []
changes_tokens k old (bits ∷ new) = cond (is_shown old bits) [] (value_tokens k bits) ++ changes_tokens (k + 1) (drop 1 old) new

abbrev pub time_token : ℕ → List ℕ × ℕ
time_token time = (35 ∷ decimal time, 10)

abbrev pub event_tokens : ℕ → Ports → List (List Bool) → Event → List (List Bool) → List (List ℕ × ℕ)
event_tokens number ports last event outputs =
    time_token (2 * number) ∷ (changes_tokens 0 last (values_at ports false event outputs)
    ++ time_token (2 * number + 1) ∷ changes_tokens 0 (values_at ports false event outputs) (values_at ports true event outputs))

abbrev pub events_tokens : ℕ → Ports → List (List Bool) → List Event → List (List (List Bool)) → List (List ℕ × ℕ)
events_tokens number ports last (event ∷ events) (outputs ∷ others) =
    event_tokens number ports last event outputs ++ events_tokens (number + 1) ports (values_at ports true event outputs) events others
events_tokens number ports last _ _ = []

abbrev pub vcd_tokens : Ports → List Event → List (List (List Bool)) → List (List ℕ × ℕ)
vcd_tokens ports events outputs = first_tokens ++ (variables_tokens 0 (variables ports) ++ (last_tokens ++ events_tokens 0 ports [] events outputs))

variable_text : (k : ℕ) (it : WaveVar) → variable_line k it ≡ spaced (variable_tokens k it)
variable_text k it = simp append_assoc

variables_text : (k : ℕ) (vars : List WaveVar) → variable_lines k vars ≡ spaced (variables_tokens k vars)
variables_text k [] = refl
variables_text k (it ∷ others) =
    ap (λ t. t ++ variable_lines (k + 1) others) (variable_text k it) ∙ ap (λ t. spaced (variable_tokens k it) ++ t) (variables_text (k + 1) others)
    ∙ sym (spaced_append (variable_tokens k it) (variables_tokens (k + 1) others))

value_text_is : (k : ℕ) (bits : List Bool) → value_line k bits ≡ spaced (value_tokens k bits)
value_text_is k [] = refl
value_text_is k (bit ∷ []) = refl
value_text_is k (a ∷ b ∷ bits) = simp append_assoc

changes_text : (k : ℕ) (old new : List (List Bool)) → changes k old new ≡ spaced (changes_tokens k old new)
changes_text k old [] = refl
changes_text k old (bits ∷ new) =
    ap (λ t. cond (is_shown old bits) [] (value_line k bits) ++ t) (changes_text (k + 1) (drop 1 old) new)
    ∙ ap (λ t. t ++ spaced (changes_tokens (k + 1) (drop 1 old) new)) (at (is_shown old bits))
    ∙ sym (spaced_append (cond (is_shown old bits) [] (value_tokens k bits)) (changes_tokens (k + 1) (drop 1 old) new))
  where
    at : (shown : Bool) → cond shown [] (value_line k bits) ≡ spaced (cond shown [] (value_tokens k bits))
    at true = refl
    at false = value_text_is k bits

time_text : (time : ℕ) (rest : List ℕ) → time_line time ++ rest ≡ 35 ∷ (decimal time ++ 10 ∷ rest)
time_text time rest = simp append_assoc

event_is : (number : ℕ) (ports : Ports) (last : List (List Bool)) (event : Event) (outputs : List (List Bool))
    → event_text number ports last event outputs ≡ spaced (event_tokens number ports last event outputs)
event_is number ports last event outputs =
    let low = values_at ports false event outputs in
    let high = values_at ports true event outputs in
    let first = changes_tokens 0 last low in
    let second = changes_tokens 0 low high in
    ap (λ t. ((time_line (2 * number) ++ t) ++ time_line (2 * number + 1)) ++ changes 0 low high) (changes_text 0 last low)
    ∙ ap (λ t. ((time_line (2 * number) ++ spaced first) ++ time_line (2 * number + 1)) ++ t) (changes_text 0 low high)
    ∙ append_assoc (time_line (2 * number) ++ spaced first) (time_line (2 * number + 1)) (spaced second)
    ∙ append_assoc (time_line (2 * number)) (spaced first) (time_line (2 * number + 1) ++ spaced second)
    ∙ time_text (2 * number) (spaced first ++ (time_line (2 * number + 1) ++ spaced second))
    ∙ ap (λ t. 35 ∷ (decimal (2 * number) ++ 10 ∷ (spaced first ++ t))) (time_text (2 * number + 1) (spaced second))
    ∙ ap (λ t. 35 ∷ (decimal (2 * number) ++ 10 ∷ t)) (sym (spaced_append first (time_token (2 * number + 1) ∷ second)))

events_are : (number : ℕ) (ports : Ports) (last : List (List Bool)) (events : List Event) (outputs : List (List (List Bool)))
    → events_text number ports last events outputs ≡ spaced (events_tokens number ports last events outputs)
events_are number ports last [] outputs = refl
events_are number ports last (event ∷ events) [] = refl
events_are number ports last (event ∷ events) (shown ∷ outputs) =
    let high = values_at ports true event shown in
    ap (λ t. t ++ events_text (number + 1) ports high events outputs) (event_is number ports last event shown)
    ∙ ap (λ t. spaced (event_tokens number ports last event shown) ++ t) (events_are (number + 1) ports high events outputs)
    ∙ sym (spaced_append (event_tokens number ports last event shown) (events_tokens (number + 1) ports high events outputs))

-- the text is that of its words
pub vcd_is : (ports : Ports) (events : List Event) (outputs : List (List (List Bool))) → Vcd ports events outputs ≡ spaced (vcd_tokens ports events outputs)
vcd_is ports events outputs =
    let vars = variables_tokens 0 (variables ports) in
    let rest = events_tokens 0 ports [] events outputs in
    let start = codes "$timescale 1 ns $end\n$scope module chw_top $end\n" in
    let stop = codes "$upscope $end\n$enddefinitions $end\n" in
    ap (λ t. ((start ++ t) ++ stop) ++ events_text 0 ports [] events outputs) (variables_text 0 (variables ports))
    ∙ ap (λ t. ((start ++ spaced vars) ++ stop) ++ t) (events_are 0 ports [] events outputs)
    ∙ append_assoc (start ++ spaced vars) stop (spaced rest)
    ∙ append_assoc start (spaced vars) (stop ++ spaced rest)
    ∙ ap (λ t. start ++ t) (sym (spaced_append vars (last_tokens ++ rest)))
