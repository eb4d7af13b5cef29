-- The event of a right line is an event of the ports.
use Rattle.std.proofs.Common.{◌≡◌, ℕ, zero, suc, ◌+◌, ◌<◌, Bool, true, false, cond, ◌||◌, List, [], ◌∷◌, ◌++◌, length, map, Option, Some, None, refl, sym, ap, ◌∙◌, subst, arith, append_assoc}
use Rattle.std.specs.Prelude.{IsTrue, ◌==◌, replicate}
use Rattle.std.specs.List.{AllByRecursion, filter}
use Rattle.std.specs.Option.{is_some, option_map}
use Rattle.std.specs.Str.{bytes_eq}
use Rattle.std.proofs.Common.{eq-eqb}
use Rattle.std.proofs.lemmas.Bool.{false≢true}
use Rattle.std.proofs.lemmas.List.{length-map, map-append}
use Rattle.std.proofs.lemmas.List.Folds.{list_any-append}
use Rattle.std.proofs.lemmas.List.Splits.{length-slice_split}
use Rattle.chw_bits.specs.Bits.{bits_of}
use Rattle.chw_base.specs.declared.index.DomId.{DomId}
use Rattle.chw_clock.specs.Histories.{FitsEvent, HaveWidths, has_reset, is_one_of}
use Rattle.chw_clock.specs.declared.event.Event.{Event}
use Rattle.chw_clock.specs.declared.event.Port.{Port}
use Rattle.chw_clock.specs.declared.event.Ports.{Ports}
use Rattle.name_tables.specs.Names.{place_of, is_among}
use Rattle.stimulus.specs.Stimulus.{AreWide, IsKnown, IsRight, body_of, count_of, domain_of, domains_of, event_of, events_of, inputs_of, number_of_place, parts_of}
use Rattle.stimulus.specs.Texts.{before, has, is}

length-bits : (width n : ℕ) → length (bits_of width n) ≡ width
length-bits zero n = refl
length-bits (suc width) n = ap suc (length-bits width n)

inputs_wide : (ports : List Port) (parts : List (List ℕ)) → AreWide ports parts → HaveWidths ports (inputs_of ports parts)
inputs_wide [] [] wide = tt
inputs_wide [] (part ∷ parts) wide = absurd wide
inputs_wide (port ∷ ports) [] wide = absurd wide
inputs_wide (port ∷ ports) (part ∷ parts) wide = (length-bits port.width _, inputs_wide ports parts wide.1)

place_below : (names : List (List ℕ)) (name : List ℕ) → IsTrue (is_among names name) → number_of_place (place_of names name) < length names
place_below [] name among = absurd (false≢true among)
place_below (n ∷ names) name among = at (bytes_eq name n) (place_of names name) (place_below names name) among
  where
    at : (b : Bool) (o : Option ℕ) → (IsTrue (is_some o) → number_of_place o < length names)
        → IsTrue (is_some (cond b (Some 0) (option_map (λ (p : ℕ). p + 1) o))) → number_of_place (cond b (Some 0) (option_map (λ (p : ℕ). p + 1) o)) < length (n ∷ names)
    at true o later is = omega arith
    at false None later is = absurd (false≢true is)
    at false (Some p) later is = let below = later refl in omega arith

known_below : (ports : Ports) (ds : List (List ℕ)) → AllByRecursion (IsKnown ports) ds → AllByRecursion (λ (d : DomId). d.number < length ports.domains) (map (domain_of ports) ds)
known_below ports [] known = tt
known_below ports (d ∷ ds) known = (place_below ports.domains (before 33 d) known.0.0, known_below ports ds known.1)

or_right : (a b : Bool) → b ≡ true → (a || b) ≡ true
or_right true b e = refl
or_right false b e = e

or_left : (a b : Bool) → a ≡ true → (a || b) ≡ true
or_left true b e = refl
or_left false b e = absurd (false≢true e)

-- each domain ticks, also among those before it
all_tick : (ports : Ports) (earlier ds : List (List ℕ)) → AllByRecursion (λ (d : List ℕ). IsTrue (is_one_of (map (domain_of ports) (earlier ++ ds)) (domain_of ports d))) ds
all_tick ports earlier [] = tt
all_tick ports earlier (d ∷ ds) = (
  subst (λ (ids : List DomId). IsTrue (is_one_of ids (domain_of ports d))) (sym (map-append (domain_of ports) earlier (d ∷ ds)))
      (list_any-append (λ (e : DomId). e.number == (domain_of ports d).number) (map (domain_of ports) earlier) (domain_of ports d ∷ map (domain_of ports) ds)
      ∙ or_right (is_one_of (map (domain_of ports) earlier) (domain_of ports d)) _
      (or_left _ (is_one_of (map (domain_of ports) ds) (domain_of ports d)) (eq-eqb (domain_of ports d).number (domain_of ports d).number refl))),
  subst (λ (es : List (List ℕ)). AllByRecursion (λ (x : List ℕ). IsTrue (is_one_of (map (domain_of ports) es) (domain_of ports x))) ds) (append_assoc earlier (d ∷ []) ds)
      (all_tick ports (earlier ++ d ∷ []) ds),
)

resets_fit : (ports : Ports) (ids : List DomId) (ds : List (List ℕ)) → AllByRecursion (λ (d : List ℕ). IsTrue (is_one_of ids (domain_of ports d))) ds → AllByRecursion (IsKnown ports) ds
    → AllByRecursion (λ (d : DomId). IsTrue (is_one_of ids d) × IsTrue (has_reset ports d)) (map (domain_of ports) (filter (has 33) ds))
resets_fit ports ids [] tick known = tt
resets_fit ports ids (d ∷ ds) tick known = at (has 33 d) refl (resets_fit ports ids ds tick.1 known.1)
  where
    at : (b : Bool) → has 33 d ≡ b → AllByRecursion (λ (e : DomId). IsTrue (is_one_of ids e) × IsTrue (has_reset ports e)) (map (domain_of ports) (filter (has 33) ds))
        → AllByRecursion (λ (e : DomId). IsTrue (is_one_of ids e) × IsTrue (has_reset ports e)) (map (domain_of ports) (cond b (d ∷ filter (has 33) ds) (filter (has 33) ds)))
    at true marked rest = ((tick.0, known.0.1 marked), rest)
    at false marked rest = rest

right_fits : (ports : Ports) (line : List ℕ) → IsRight ports line → FitsEvent ports (event_of ports line)
right_fits ports line right =
    let ds = domains_of (body_of line) in record {
      some_tick = omega (arith, length-map ds (domain_of ports), length-slice_split (is 32) (before 58 (body_of line)));
      known = known_below ports ds right.1.0;
      resets = resets_fit ports (map (domain_of ports) ds) ds (all_tick ports [] ds) right.1.0;
      inputs = inputs_wide ports.inputs (parts_of (body_of line)) right.2;
    }

all_equal : (P : Event → Type 0) (n : ℕ) (event : Event) (rest : List Event) → P event → AllByRecursion P rest → AllByRecursion P (replicate n event ++ rest)
all_equal P zero event rest here others = others
all_equal P (suc n) event rest here others = (here, all_equal P n event rest here others)

-- the events of right lines fit the ports
pub events_fit : (ports : Ports) (lines : List (List ℕ)) → AllByRecursion (IsRight ports) lines → AllByRecursion (FitsEvent ports) (events_of ports lines)
events_fit ports [] right = tt
events_fit ports (line ∷ lines) right = all_equal (FitsEvent ports) (count_of line) (event_of ports line) (events_of ports lines) (right_fits ports line right.0) (events_fit ports lines right.1)
