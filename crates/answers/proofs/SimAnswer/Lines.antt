-- The line of an event.
use Rattle.std.proofs.Common.{◌≡◌, ℕ, suc, ◌+◌, ◌-◌, ◌<◌, ◌≤◌, ◌==◌, ◌^◌, Bool, true, false, not, List, [], ◌∷◌, ◌++◌, length, take, refl, sym, ap, ◌∙◌, subst, append_assoc, arith}
use Rattle.std.specs.List.{AllByRecursion, position_or_len, onto_first}
use Rattle.std.specs.Prelude.{IsTrue, cond, if◌then◌else◌}
use Rattle.std.specs.Str.Parse.{digits_value}
use Rattle.std.proofs.lemmas.Grind.{flat_map-append}
use Rattle.std.proofs.lemmas.List.{append-nil, length-append, length-drop, length-replicate, length-take, nil_from_length}
use Rattle.chw_clock.specs.declared.event.Event.{Event}
use Rattle.chw_clock.specs.declared.event.Ports.{Ports}
use Rattle.stimulus.specs.Stimulus.{HasCount, IsRight, Stim, count_of, event_of, events_of, line_events}
use Rattle.stimulus.specs.Texts.{before, behind, has, is, lines_of}
use Rattle.stimulus.proofs.Splits.{lines_first}
use Rattle.answers.specs.SimAnswer.Places.{HasEvent, IsLineOf, IsOneLine}

-- ---- one line

of_rest : (b : ℕ) (l : List ℕ) → (0 < length l → lines_of l ≡ l ∷ []) → onto_first b (lines_of l) ≡ (b ∷ l) ∷ []
of_rest b [] later = refl
of_rest b (c ∷ l) later = ap (onto_first b) (later (omega arith))

line_step : (b : ℕ) (text : List ℕ) (is_end : Bool) → (b == 10) ≡ is_end → (0 < length (before 10 text) → lines_of (before 10 text) ≡ before 10 text ∷ [])
    → 0 < length (take (cond (not is_end) (1 + position_or_len (is 10) text) 0) (b ∷ text))
    → lines_of (take (cond (not is_end) (1 + position_or_len (is 10) text) 0) (b ∷ text)) ≡ take (cond (not is_end) (1 + position_or_len (is 10) text) 0) (b ∷ text) ∷ []
line_step b text true e later some = absurd (omega (arith, some))
line_step b text false e later some =
    let k = position_or_len (is 10) text in
    let l = before 10 text in
    let one : suc k ≡ 1 + k = omega arith in
    let rest : cond (b == 10) ([] ∷ lines_of l) (onto_first b (lines_of l)) ≡ (b ∷ l) ∷ [] =
    subst (λ x. cond x ([] ∷ lines_of l) (onto_first b (lines_of l)) ≡ (b ∷ l) ∷ []) (sym e) (of_rest b l later) in
    subst (λ n. lines_of (take n (b ∷ text)) ≡ take n (b ∷ text) ∷ []) one rest

-- a text before its first line feed is one line, if anything is there
pub one_line : (text : List ℕ) → 0 < length (before 10 text) → lines_of (before 10 text) ≡ before 10 text ∷ []
one_line [] some = absurd (omega (arith, some))
one_line (b ∷ text) some = line_step b text (b == 10) refl (one_line text) some

-- a right line has bytes
some_bytes : (ports : Ports) (line : List ℕ) → IsRight ports line → 0 < length line
some_bytes ports [] right = let colon : IsTrue (has 58 []) = right.0.1.colon in absurd (cc)
some_bytes ports (b ∷ line) right = omega arith

counted_by : (b : Bool) (n : ℕ) → (IsTrue b → 0 < n) → 0 < (if b then n else 1)
counted_by true n h = h refl
counted_by false n h = omega arith

-- it stands for an event at least
pub counted : (line : List ℕ) → HasCount line → 0 < count_of line
counted line h = counted_by (has 42 line) (digits_value 10 (before 42 line)) (λ t. (h t).0.2)

-- ---- the events of lines

pub events_split : (ports : Ports) (earlier : List (List ℕ)) (line : List ℕ) (later : List (List ℕ)) → events_of ports (earlier ++ line ∷ later) ≡ events_of ports earlier ++ (line_events ports line ++ events_of ports later)
events_split ports earlier line later = flat_map-append (line_events ports) earlier (line ∷ later)

pub many_events : (ports : Ports) (earlier : List (List ℕ)) (line : List ℕ) (later : List (List ℕ))
    → length (events_of ports (earlier ++ line ∷ later)) ≡ length (events_of ports earlier) + (count_of line + length (events_of ports later))
many_events ports earlier line later =
    let e = ap length (events_split ports earlier line later) in
    let one = length-append (events_of ports earlier) (line_events ports line ++ events_of ports later) in
    let two = length-append (line_events ports line) (events_of ports later) in
    let three = length-replicate (count_of line) (event_of ports line) in
    omega (arith, e, one, two, three)

pub all_middle : {A : Type 0} (P : A → Type 0) (xs : List A) (y : A) (ys : List A) → AllByRecursion P (xs ++ y ∷ ys) → P y
all_middle P [] y ys all = all.0
all_middle P (x ∷ xs) y ys all = all_middle P xs y ys all.1

-- ---- line by line

-- so many lines stand before what is left, and they have so many events, which aren't more than those before the event
pub record Walked (ports : Ports) (text left : List ℕ) (line events place : ℕ) : Type 0 where
  pub earlier : List (List ℕ)
  pub lines : lines_of text ≡ earlier ++ lines_of left
  pub number : line ≡ length earlier + 1
  pub events_are : events ≡ length (events_of ports earlier)
  pub from : events ≤ place
  pub within : line + length left ≤ length text + 1

pub walked_first : (ports : Ports) (text : List ℕ) (place : ℕ) → Walked ports text text 1 0 place
walked_first ports text place = record { earlier = []; lines = refl; number = refl; events_are = refl; from = omega arith; within = omega arith }

pub rest_shorter : (left : List ℕ) → 0 < length left → length (behind 10 left) < length left
rest_shorter left some = omega (arith, length-drop (position_or_len (is 10) left + 1) left)

module _ (ports : Ports) (text left : List ℕ) (line events place : ℕ) (walked : Walked ports text left line events place) (some : 0 < length left) where
  lines_are : lines_of text ≡ walked.earlier ++ before 10 left ∷ lines_of (behind 10 left)
  lines_are = walked.lines ∙ ap (λ ls. walked.earlier ++ ls) (lines_first left some)

  total : (has : HasEvent ports text place) → length has.events ≡ events + (count_of (before 10 left) + length (events_of ports (lines_of (behind 10 left))))
  total has =
      let all : length has.events ≡ length (events_of ports (walked.earlier ++ before 10 left ∷ lines_of (behind 10 left))) =
      ap length (has.read.events_are ∙ ap (events_of ports) lines_are) in
      let e = walked.events_are in
      let m = many_events ports walked.earlier (before 10 left) (lines_of (behind 10 left)) in
      omega (arith, all, e, m)

  pub first_alone : HasEvent ports text place → IsOneLine ports (before 10 left)
  first_alone has =
      let right = all_middle (IsRight ports) walked.earlier (before 10 left) (lines_of (behind 10 left)) (subst (AllByRecursion (IsRight ports)) lines_are has.read.right) in
      let t = total has in
      let few = has.read.few in
      let short = has.read.short in
      let within = walked.within in
      let number = walked.number in
      let taken = length-take (position_or_len (is 10) left) left in
      record {
        right = right;
        alone = one_line left (some_bytes ports (before 10 left) right);
        short = omega (arith, taken, short, within, number);
        few = omega (arith, t, few);
      }

  pub found : (count : ℕ) → count ≡ count_of (before 10 left) → place - events < count → IsLineOf ports text place line
  found count is_count below =
      let e = walked.events_are in
      let from = walked.from in
      record {
        earlier = walked.earlier;
        line = before 10 left;
        later = lines_of (behind 10 left);
        lines = lines_are;
        number_is = walked.number;
        from = omega (arith, e, from);
        to = omega (arith, e, from, is_count, below);
      }

  pub line_fits : HasEvent ports text place → line + 1 < 2 ^ 32
  line_fits has = let short = has.read.short in let within = walked.within in omega (arith, short, within)

  pub walked_more : (count : ℕ) (rest : List ℕ) → rest ≡ behind 10 left → count ≡ count_of (before 10 left) → count ≤ place - events → Walked ports text rest (line + 1) (events + count) place
  walked_more count rest rest_is is_count above =
      let e = walked.events_are in
      let from = walked.from in
      let within = walked.within in
      let number = walked.number in
      let shorter = rest_shorter left some in
      let same : length rest ≡ length (behind 10 left) = ap length rest_is in
      let m = many_events ports walked.earlier (before 10 left) [] in
      record {
        earlier = walked.earlier ++ before 10 left ∷ [];
        lines = lines_are ∙ sym (append_assoc walked.earlier (before 10 left ∷ []) (lines_of (behind 10 left))) ∙ ap (λ r. (walked.earlier ++ before 10 left ∷ []) ++ lines_of r) (sym rest_is);
        number = omega (arith, number, length-append walked.earlier (before 10 left ∷ []));
        events_are = omega (arith, e, m, is_count);
        from = omega (arith, from, above);
        within = omega (arith, within, shorter, same);
      }

-- the event stands in the text
pub none_left : (ports : Ports) (text left : List ℕ) (line events place : ℕ) → Walked ports text left line events place → HasEvent ports text place → length left ≡ 0 → ⊥
none_left ports text left line events place walked has none =
    let all : lines_of text ≡ walked.earlier = walked.lines ∙ ap (λ l. walked.earlier ++ lines_of l) (nil_from_length left none) ∙ append-nil walked.earlier in
    let many : length has.events ≡ length (events_of ports walked.earlier) = ap length (has.read.events_are ∙ ap (events_of ports) all) in
    let e = walked.events_are in
    let from = walked.from in
    let within = has.within in
    omega (arith, many, e, from, within)

-- a line by itself has so many events
pub alone_read : (ports : Ports) (line : List ℕ) → IsOneLine ports line → Stim line ports (line_events ports line)
alone_read ports line one = record {
  short = one.short;
  right = subst (AllByRecursion (IsRight ports)) (sym one.alone) (one.right, tt);
  events_are = sym (append-nil (line_events ports line)) ∙ ap (events_of ports) (sym one.alone);
  few = let n = length-replicate (count_of line) (event_of ports line) in let few = one.few in omega (arith, n, few);
}

pub alone_counted : (ports : Ports) (line : List ℕ) (events : List Event) → IsOneLine ports line → Stim line ports events → length events ≡ count_of line
alone_counted ports line events one read =
    let all : events ≡ line_events ports line ++ [] = read.events_are ∙ ap (events_of ports) one.alone in
    let n = ap length (all ∙ append-nil (line_events ports line)) in
    let m = length-replicate (count_of line) (event_of ports line) in
    omega (arith, n, m)
