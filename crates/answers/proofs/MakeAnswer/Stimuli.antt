-- The stimulus of a filter is one of its events.
use Rattle.std.proofs.Common.{◌≡◌, ℕ, zero, suc, ◌*◌, ◌%◌, ◌≤◌, ◌==◌, List, [], ◌∷◌, ◌++◌, length, refl, sym, ap, ap₂, subst, ◌∙◌, arith, append_assoc, length-append}
use Rattle.std.specs.Prelude.{replicate}
use Rattle.std.specs.List.{AllByRecursion, onto_first}
use Rattle.std.proofs.lemmas.Grind.{flat_map-append}
use Rattle.std.proofs.lemmas.List.{append-nil}
use Rattle.chw_bits.specs.Hex.{hex_digits}
use Rattle.chw_clock.specs.declared.event.Ports.{Ports}
use Rattle.stimulus.specs.Stimulus.{IsRight, count_of, event_from, event_of, events_of, line_events}
use Rattle.stimulus.specs.Texts.{lines_of}
use Rattle.answers.specs.MakeAnswer.Events.{HasX, event_at, event_line, events_below, input_at, lines_below}
use Rattle.answers.specs.MakeAnswer.Laws.{MadeStimuliAreRead}
use Rattle.answers.proofs.MakeAnswer.Digits.{DigitsReadBack, MadeLength, input_digits}
use Rattle.answers.proofs.MakeAnswer.EventLines.{Lacks, Reads, event_from_is, event_is, is_right, line_length, names_at, no_feed, once, part_of, ports_are, reads, text_at}

-- a line with its line feed, before others
whole : (line rest : List ℕ) → Lacks 10 line → lines_of (line ++ 10 ∷ rest) ≡ line ∷ lines_of rest
whole [] rest lacks = refl
whole (b ∷ line) rest lacks = rw lacks.0 (ap (onto_first b) (whole line rest lacks.1))

-- the line of an event, without its line feed
abbrev pub shown : ℕ → List ℕ
shown j = text_at (j % 2 == 1) (hex_digits (input_at j))

abbrev pub shown_below : ℕ → List (List ℕ)
shown_below zero = []
shown_below (suc j) = shown_below j ++ shown j ∷ []

line_is : (j : ℕ) → event_line j ≡ shown j ++ 10 ∷ []
line_is j = refl

pub all_push : {A : Type 0} (P : A → Type 0) (xs : List A) (x : A) → AllByRecursion P xs → P x
    → AllByRecursion P (xs ++ x ∷ [])
all_push P [] x all here = (here, tt)
all_push P (y ∷ xs) x all here = (all.0, all_push P xs x all.1 here)

module _ (lengths : MadeLength) (law : DigitsReadBack) where
  -- the lines of the text
  lines_are : (n : ℕ) (rest : List ℕ) → lines_of (lines_below n ++ rest) ≡ shown_below n ++ lines_of rest
  lines_are zero rest = refl
  lines_are (suc j) rest =
      let feed = no_feed (input_at j) (hex_digits (input_at j)) (input_digits lengths law j) (j % 2 == 1) in
      ap lines_of (append_assoc (lines_below j) (event_line j) rest)
      ∙ lines_are j (event_line j ++ rest)
      ∙ ap (λ ls. shown_below j ++ ls)
      (ap lines_of (append_assoc (shown j) (10 ∷ []) rest) ∙ whole (shown j) rest feed)
      ∙ sym (append_assoc (shown_below j) (shown j ∷ []) (lines_of rest))

  pub text_lines : (n : ℕ) → lines_of (lines_below n) ≡ shown_below n
  text_lines n =
      ap lines_of (sym (append-nil (lines_below n))) ∙ lines_are n [] ∙ append-nil (shown_below n)

  short : (n : ℕ) → length (lines_below n) ≤ 12 * n
  short zero = omega arith
  short (suc j) =
      let four = line_length (input_at j) (hex_digits (input_at j)) (input_digits lengths law j) (j % 2 == 1) in
      omega (arith, short j, length-append (lines_below j) (event_line j), ap length (line_is j), length-append (shown j) (10 ∷ []), four)

  module _ (ports : Ports) (has : HasX ports) where
    reads_line : (j : ℕ) → Reads ports (shown j) (names_at (j % 2 == 1)) (part_of (hex_digits (input_at j)) ∷ [])
    reads_line j =
        subst (λ ps. Reads ps (shown j) (names_at (j % 2 == 1)) (part_of (hex_digits (input_at j)) ∷ [])) (sym (ports_are ports has))
        (reads (input_at j) (hex_digits (input_at j)) (input_digits lengths law j) ports.resets has.domain_of_x ports.outputs (j % 2 == 1))

    all_right : (n : ℕ) → AllByRecursion (IsRight ports) (shown_below n)
    all_right zero = tt
    all_right (suc j) =
        all_push (IsRight ports) (shown_below j) (shown j) (all_right j)
        (is_right ports (shown j) (names_at (j % 2 == 1)) (part_of (hex_digits (input_at j)) ∷ []) (reads_line j))

    its_event : (j : ℕ) → event_of ports (shown j) ≡ event_at j
    its_event j =
        event_is ports (shown j) (names_at (j % 2 == 1)) (part_of (hex_digits (input_at j)) ∷ []) (reads_line j)
        ∙ ap (λ ps. event_from ps (names_at (j % 2 == 1)) (part_of (hex_digits (input_at j)) ∷ [])) (ports_are ports has)
        ∙ event_from_is (input_at j) (hex_digits (input_at j)) (input_digits lengths law j) ports.resets has.domain_of_x ports.outputs (j % 2 == 1)

    events_are : (n : ℕ) → events_of ports (shown_below n) ≡ events_below n
    events_are zero = refl
    events_are (suc j) =
        let one : count_of (shown j) ≡ 1 = once ports (shown j) (names_at (j % 2 == 1)) (part_of (hex_digits (input_at j)) ∷ []) (reads_line j) in
        flat_map-append (line_events ports) (shown_below j) (shown j ∷ [])
        ∙ ap₂ (λ a b. a ++ b) (events_are j) (ap₂ (λ n e. replicate n e ++ []) one (its_event j))

pub events_length : (n : ℕ) → length (events_below n) ≡ n
events_length zero = refl
events_length (suc j) = let rest = events_length j in omega (arith, rest, length-append (events_below j) (event_at j ∷ []))

pub made_stimuli : MadeLength → DigitsReadBack → MadeStimuliAreRead
made_stimuli lengths law taps ports few has =
    let text = text_lines lengths law (4 * taps) in
    record {
      short = omega (arith, short lengths law (4 * taps));
      right = subst (AllByRecursion (IsRight ports)) (sym text) (all_right lengths law ports has (4 * taps));
      events_are = sym (ap (events_of ports) text ∙ events_are lengths law ports has (4 * taps));
      few = omega (arith, events_length (4 * taps));
    }
