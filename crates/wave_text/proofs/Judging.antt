-- The source of a printed text keeps all rules, and its wave is the printed one.
use Rattle.std.proofs.Common.{◌≡◌, ◌≢◌, ℕ, zero, suc, ◌+◌, ◌*◌, ◌<◌, ◌≤◌, Bool, true, false, cond, List, [], ◌∷◌, ◌++◌, length, map, drop, get_or, Option, Some, None, refl, sym, ap, ◌∙◌, subst, arith, append_assoc}
use Rattle.std.specs.List.{AllByRecursion}
use Rattle.std.specs.Option.{is_some, option_map}
use Rattle.std.specs.Str.{bytes_eq}
use Rattle.std.proofs.lemmas.List.{get_or-append-add, length-append, length-map}
use Rattle.std.proofs.lemmas.Slice.Eq.{bytes_eq-Decides}
use Rattle.chw_clock.specs.declared.event.Event.{Event}
use Rattle.chw_clock.specs.declared.event.Ports.{Ports}
use Rattle.name_tables.specs.Names.{AreDistinct, place_of}
use Rattle.waves.specs.Vcd.{code_of, is_shown, values_at, variable}
use Rattle.waves.specs.declared.wave.WaveVar.{WaveVar}
use Rattle.wave_text.specs.PrintedWave.{changed, events_steps}
use Rattle.wave_text.specs.VcdText.{Changed, Declared, HasWidth, IsKnown, Moment, Rise, all_changes, change_of, codes_of, number_of_place, step_of}
use Rattle.wave_text.specs.declared.wave.Change.{Change}
use Rattle.wave_text.specs.declared.wave.WaveStep.{WaveStep}
use Rattle.wave_text.proofs.Lists.{all_append}
use Rattle.wave_text.proofs.Telling.{Named, Timed, Told}

-- the codes of so many numbers from one on
abbrev pub numbered : ℕ → ℕ → List (List ℕ)
numbered k zero = []
numbered k (suc n) = code_of k ∷ numbered (k + 1) n

named_codes : (k : ℕ) (ds : List Declared) (vs : List WaveVar) → Named k ds vs → codes_of ds ≡ numbered k (length ds)
named_codes k [] [] named = refl
named_codes k [] (v ∷ vs) named = absurd named
named_codes k (d ∷ ds) [] named = absurd named
named_codes k (d ∷ ds) (v ∷ vs) named = λ i. named.0 i ∷ named_codes (k + 1) ds vs named.3 i

unequal : (b : Bool) → (b ≡ true → ⊥) → b ≡ false
unequal true never = absurd (never refl)
unequal false never = refl

other_code : (one : (i j : ℕ) → code_of i ≡ code_of j → i ≡ j) (i j : ℕ) → i ≢ j → bytes_eq (code_of i) (code_of j) ≡ false
other_code one i j apart = unequal (bytes_eq (code_of i) (code_of j)) (λ same. apart (one i j ((bytes_eq-Decides (code_of i) (code_of j)).0 same)))

no_place : (one : (i j : ℕ) → code_of i ≡ code_of j → i ≡ j) (i k n : ℕ) → i < k → place_of (numbered k n) (code_of i) ≡ None
no_place one i k zero less = refl
no_place one i k (suc n) less =
    let apart : i ≢ k = λ same. absurd (omega arith) in
    ap (λ b. cond b (Some 0) (option_map (λ (place : ℕ). place + 1) (place_of (numbered (k + 1) n) (code_of i)))) (other_code one i k apart)
    ∙ ap (option_map (λ (place : ℕ). place + 1)) (no_place one i (k + 1) n (omega arith))

place_there : (one : (i j : ℕ) → code_of i ≡ code_of j → i ≡ j) (j k n : ℕ) → j < n → place_of (numbered k n) (code_of (k + j)) ≡ Some j
place_there one j k zero within = absurd (omega arith)
place_there one zero k (suc n) within =
    let same : k + 0 ≡ k = omega arith in
    ap (λ b. cond b (Some 0) (option_map (λ (place : ℕ). place + 1) (place_of (numbered (k + 1) n) (code_of (k + 0)))))
    ((bytes_eq-Decides (code_of (k + 0)) (code_of k)).1 (ap code_of same))
place_there one (suc j) k (suc n) within =
    let apart : k + suc j ≢ k = λ same. absurd (omega arith) in
    let place : k + suc j ≡ k + 1 + j = omega arith in
    let more : j + 1 ≡ suc j = omega arith in
    ap (λ b. cond b (Some 0) (option_map (λ (p : ℕ). p + 1) (place_of (numbered (k + 1) n) (code_of (k + suc j))))) (other_code one (k + suc j) k apart)
    ∙ ap (λ i. option_map (λ (p : ℕ). p + 1) (place_of (numbered (k + 1) n) (code_of i))) place
    ∙ ap (option_map (λ (p : ℕ). p + 1)) (place_there one j (k + 1) n (omega arith))
    ∙ ap (λ (p : ℕ). Some p) more

distinct_codes : (one : (i j : ℕ) → code_of i ≡ code_of j → i ≡ j) (k n : ℕ) → AreDistinct (numbered k n)
distinct_codes one k zero = tt
distinct_codes one k (suc n) = (ap (λ (o : Option ℕ). is_some o) (no_place one k (k + 1) n (omega arith)), distinct_codes one (k + 1) n)

-- the change is of one of so many variables, and has its width
abbrev pub Fine : List ℕ → Change → Type 0
Fine sizes p = (p.var < length sizes) × (length p.value ≡ get_or sizes p.var 0)

pub fine_changes : (sizes : List ℕ) (k : ℕ) (old new : List (List Bool)) (front : List ℕ) → sizes ≡ front ++ map length new → length front ≡ k
    → AllByRecursion (Fine sizes) (changed k old new)
fine_changes sizes k old [] front is count = tt
fine_changes sizes k old (value ∷ new) front is count =
    at (is_shown old value)
    (fine_changes sizes (k + 1) (drop 1 old) new (front ++ length value ∷ []) (is ∙ sym (append_assoc front (length value ∷ []) (map length new)))
    (omega (arith, length-append front (length value ∷ []))))
  where
    here : Fine sizes (record { var = k; value = value })
    here =
        let size = ap length is in
        let some = length-append front (length value ∷ map length new) in
        let place : k ≡ length front + 0 = omega arith in (
          omega arith,
          sym (ap (λ l. get_or l k 0) is ∙ ap (λ n. get_or (front ++ length value ∷ map length new) n 0) place
              ∙ get_or-append-add front (length value ∷ map length new) 0 0),
        )

    at : (shown : Bool) → AllByRecursion (Fine sizes) (changed (k + 1) (drop 1 old) new) → AllByRecursion (Fine sizes) (cond shown [] (record { var = k; value = value } ∷ []) ++ changed (k + 1) (drop 1 old) new)
    at true later = later
    at false later = (here, later)

-- what is known of variables with these codes and widths
pub record AreNumbered (ds : List Declared) (sizes : List ℕ) : Type 0 where
  pub codes : codes_of ds ≡ numbered 0 (length sizes)
  pub widths : map (λ (it : Declared). it.width) ds ≡ sizes

its_place : (one : (i j : ℕ) → code_of i ≡ code_of j → i ≡ j) (ds : List Declared) (sizes : List ℕ) (c : Changed) (p : Change) → AreNumbered ds sizes
    → c.code ≡ code_of p.var → p.var < length sizes → place_of (codes_of ds) c.code ≡ Some p.var
its_place one ds sizes c p known code within =
    let place : p.var ≡ 0 + p.var = omega arith in
    ap (place_of (codes_of ds)) code ∙ ap (λ (cs : List (List ℕ)). place_of cs (code_of p.var)) known.codes
    ∙ ap (λ n. place_of (numbered 0 (length sizes)) (code_of n)) place ∙ place_there one p.var 0 (length sizes) within

pub told_known : (one : (i j : ℕ) → code_of i ≡ code_of j → i ≡ j) (ds : List Declared) (sizes : List ℕ) (cs : List Changed) (ps : List Change) → AreNumbered ds sizes
    → Told cs ps → AllByRecursion (Fine sizes) ps → AllByRecursion (IsKnown ds) cs
told_known one ds sizes [] ps known told fine = tt
told_known one ds sizes (c ∷ cs) [] known told fine = absurd told
told_known one ds sizes (c ∷ cs) (p ∷ ps) known told fine =
    (ap (λ (o : Option ℕ). is_some o) (its_place one ds sizes c p known told.0 fine.0.0), told_known one ds sizes cs ps known told.2 fine.1)

pub told_widths : (one : (i j : ℕ) → code_of i ≡ code_of j → i ≡ j) (ds : List Declared) (sizes : List ℕ) (cs : List Changed) (ps : List Change) → AreNumbered ds sizes
    → Told cs ps → AllByRecursion (Fine sizes) ps → AllByRecursion (HasWidth ds) cs
told_widths one ds sizes [] ps known told fine = tt
told_widths one ds sizes (c ∷ cs) [] known told fine = absurd told
told_widths one ds sizes (c ∷ cs) (p ∷ ps) known told fine =
    let place = ap number_of_place (its_place one ds sizes c p known told.0 fine.0.0) in (
      ap length told.1 ∙ fine.0.1 ∙ ap (λ (l : List ℕ). get_or l p.var 0) (sym known.widths)
          ∙ ap (λ k. get_or (map (λ (it : Declared). it.width) ds) k 0) (sym place),
      told_widths one ds sizes cs ps known told.2 fine.1,
    )

pub told_changes : (one : (i j : ℕ) → code_of i ≡ code_of j → i ≡ j) (ds : List Declared) (sizes : List ℕ) (cs : List Changed) (ps : List Change) → AreNumbered ds sizes
    → Told cs ps → AllByRecursion (Fine sizes) ps → map (change_of ds) cs ≡ ps
told_changes one ds sizes [] [] known told fine = refl
told_changes one ds sizes [] (p ∷ ps) known told fine = absurd told
told_changes one ds sizes (c ∷ cs) [] known told fine = absurd told
told_changes one ds sizes (c ∷ cs) (p ∷ ps) known told fine =
    let place = ap number_of_place (its_place one ds sizes c p known told.0 fine.0.0) in
    λ i. record { var = place i; value = told.1 i } ∷ told_changes one ds sizes cs ps known told.2 fine.1 i

-- each step has fine changes
abbrev pub FineSteps : List ℕ → List WaveStep → Type 0
FineSteps sizes steps = AllByRecursion (λ (s : WaveStep). AllByRecursion (Fine sizes) s.changes) steps

pub timed_known : (one : (i j : ℕ) → code_of i ≡ code_of j → i ≡ j) (ds : List Declared) (sizes : List ℕ) (ms : List Moment) (ss : List WaveStep) → AreNumbered ds sizes
    → Timed ms ss → FineSteps sizes ss → AllByRecursion (IsKnown ds) (all_changes ms)
timed_known one ds sizes [] ss known timed fine = tt
timed_known one ds sizes (m ∷ ms) [] known timed fine = absurd timed
timed_known one ds sizes (m ∷ ms) (s ∷ ss) known timed fine =
    all_append (IsKnown ds) m.changes (all_changes ms) (told_known one ds sizes m.changes s.changes known timed.1 fine.0) (timed_known one ds sizes ms ss known timed.2 fine.1)

pub timed_widths : (one : (i j : ℕ) → code_of i ≡ code_of j → i ≡ j) (ds : List Declared) (sizes : List ℕ) (ms : List Moment) (ss : List WaveStep) → AreNumbered ds sizes
    → Timed ms ss → FineSteps sizes ss → AllByRecursion (HasWidth ds) (all_changes ms)
timed_widths one ds sizes [] ss known timed fine = tt
timed_widths one ds sizes (m ∷ ms) [] known timed fine = absurd timed
timed_widths one ds sizes (m ∷ ms) (s ∷ ss) known timed fine =
    all_append (HasWidth ds) m.changes (all_changes ms) (told_widths one ds sizes m.changes s.changes known timed.1 fine.0) (timed_widths one ds sizes ms ss known timed.2 fine.1)

pub timed_steps : (one : (i j : ℕ) → code_of i ≡ code_of j → i ≡ j) (ds : List Declared) (sizes : List ℕ) (ms : List Moment) (ss : List WaveStep) → AreNumbered ds sizes
    → Timed ms ss → FineSteps sizes ss → map (step_of ds) ms ≡ ss
timed_steps one ds sizes [] [] known timed fine = refl
timed_steps one ds sizes [] (s ∷ ss) known timed fine = absurd timed
timed_steps one ds sizes (m ∷ ms) [] known timed fine = absurd timed
timed_steps one ds sizes (m ∷ ms) (s ∷ ss) known timed fine =
    let changes = told_changes one ds sizes m.changes s.changes known timed.1 fine.0 in
    λ i. record { time = timed.0 i; changes = changes i } ∷ timed_steps one ds sizes ms ss known timed.2 fine.1 i

pub named_vars : (k : ℕ) (ds : List Declared) (vs : List WaveVar) → Named k ds vs → map (λ (it : Declared). variable it.name it.width) ds ≡ vs
named_vars k [] [] named = refl
named_vars k [] (v ∷ vs) named = absurd named
named_vars k (d ∷ ds) [] named = absurd named
named_vars k (d ∷ ds) (v ∷ vs) named = λ i. record { name = named.2 i; width = named.1 i } ∷ named_vars (k + 1) ds vs named.3 i

named_widths : (k : ℕ) (ds : List Declared) (vs : List WaveVar) → Named k ds vs → map (λ (it : Declared). it.width) ds ≡ map (λ (it : WaveVar). it.width) vs
named_widths k [] [] named = refl
named_widths k [] (v ∷ vs) named = absurd named
named_widths k (d ∷ ds) [] named = absurd named
named_widths k (d ∷ ds) (v ∷ vs) named = λ i. named.1 i ∷ named_widths (k + 1) ds vs named.3 i

pub named_numbers : (ds : List Declared) (vs : List WaveVar) → Named 0 ds vs → AreNumbered ds (map (λ (it : WaveVar). it.width) vs)
named_numbers ds vs named =
    let same = named_widths 0 ds vs named in
    let count : length ds ≡ length (map (λ (it : WaveVar). it.width) vs) = sym (length-map ds (λ (it : Declared). it.width)) ∙ ap length same in
    record { codes = named_codes 0 ds vs named ∙ ap (numbered 0) count; widths = same }

pub numbers_distinct : (one : (i j : ℕ) → code_of i ≡ code_of j → i ≡ j) (ds : List Declared) (sizes : List ℕ) → AreNumbered ds sizes → AreDistinct (codes_of ds)
numbers_distinct one ds sizes known = subst AreDistinct (sym known.codes) (distinct_codes one 0 (length sizes))

-- times from one on that rise
abbrev pub RiseFrom : ℕ → List WaveStep → Type 0
RiseFrom least [] = Unit {0}
RiseFrom least (s ∷ ss) = (least ≤ s.time) × RiseFrom (s.time + 1) ss

pub timed_rise : (least : ℕ) (ms : List Moment) (ss : List WaveStep) → Timed ms ss → RiseFrom least ss → Rise ms
timed_rise least [] ss timed rise = tt
timed_rise least (m ∷ ms) [] timed rise = absurd timed
timed_rise least (m ∷ []) (s ∷ ss) timed rise = tt
timed_rise least (m ∷ n ∷ ms) (s ∷ []) timed rise = absurd timed.2
timed_rise least (m ∷ n ∷ ms) (s ∷ t ∷ ss) timed rise =
    let first = timed.0 in
    let second = timed.2.0 in
    let above = rise.1.0 in
    (omega arith, timed_rise (s.time + 1) (n ∷ ms) (t ∷ ss) timed.2 rise.1)

pub events_rise : (least number : ℕ) (ports : Ports) (last : List (List Bool)) (events : List Event) (outputs : List (List (List Bool))) → least ≤ 2 * number
    → RiseFrom least (events_steps number ports last events outputs)
events_rise least number ports last [] outputs low = tt
events_rise least number ports last (event ∷ events) [] low = tt
events_rise least number ports last (event ∷ events) (shown ∷ outputs) low =
    (low, (omega arith, events_rise (2 * number + 1 + 1) (number + 1) ports (values_at ports true event shown) events outputs (omega arith)))

-- the values have these widths at all times
abbrev pub Sized : List ℕ → Ports → List Event → List (List (List Bool)) → Type 0
Sized sizes ports (event ∷ events) (outputs ∷ others) =
    (map length (values_at ports false event outputs) ≡ sizes) × (map length (values_at ports true event outputs) ≡ sizes) × Sized sizes ports events others
Sized sizes ports _ _ = Unit {0}

pub events_fine : (sizes : List ℕ) (number : ℕ) (ports : Ports) (last : List (List Bool)) (events : List Event) (outputs : List (List (List Bool))) → Sized sizes ports events outputs
    → FineSteps sizes (events_steps number ports last events outputs)
events_fine sizes number ports last [] outputs sized = tt
events_fine sizes number ports last (event ∷ events) [] sized = tt
events_fine sizes number ports last (event ∷ events) (shown ∷ outputs) sized =
    let low = values_at ports false event shown in
    let high = values_at ports true event shown in (
      fine_changes sizes 0 last low [] (sym sized.0) refl,
      (fine_changes sizes 0 low high [] (sym sized.1) refl, events_fine sizes (number + 1) ports high events outputs sized.2),
    )
