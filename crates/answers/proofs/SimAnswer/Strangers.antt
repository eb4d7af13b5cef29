-- The first line of a stimulus without values is that of the first event without them.
use Rattle.std.proofs.Common.{◌≡◌, ℕ, suc, zero, ◌+◌, ◌<◌, ◌≤◌, List, [], ◌∷◌, ◌++◌, length, take, replicate, Some, sym, ap, ◌∙◌, subst, arith}
use Rattle.std.specs.List.{AllByRecursion}
use Rattle.std.specs.Prelude.{slice_get}
use Rattle.chw_clock.specs.declared.event.Event.{Event}
use Rattle.chw_clock.specs.declared.event.Ports.{Ports}
use Rattle.chw_types.specs.TypeTree.{TypeTree}
use Rattle.chw_terms.specs.declared.program.Program.{Program}
use Rattle.stimulus.specs.Stimulus.{IsRight, Stim, count_of, event_of, events_of, line_events}
use Rattle.answers.specs.SimAnswer.Places.{IsLineOf}
use Rattle.answers.specs.SimAnswer.Simulation.{HasInputs, HasValues, IsFirstWithoutValues}
use Rattle.answers.specs.SimAnswer.Types.{IsFirstStranger}
use Rattle.answers.proofs.SimAnswer.Lines.{counted, events_split}
use Rattle.answers.proofs.SimAnswer.Pairs.{all_before}

all_front : {A : Type 0} (P : A → Type 0) (xs ys : List A) (n : ℕ) → AllByRecursion P (take n (xs ++ ys)) → length xs ≤ n → AllByRecursion P xs
all_front P [] ys n all le = tt
all_front P (x ∷ xs) ys zero all le = absurd (omega (arith, le))
all_front P (x ∷ xs) ys (suc n) all le = (all.0, all_front P xs ys n all.1 (omega (arith, le)))

copies_parts : (P : Event → Type 0) (n : ℕ) (e : Event) (rest : List Event) → 0 < n → AllByRecursion P (replicate n e ++ rest) → P e × AllByRecursion P rest
copies_parts P zero e rest some all = absurd (omega (arith, some))
copies_parts P (suc zero) e rest some all = all
copies_parts P (suc (suc n)) e rest some all = copies_parts P (suc n) e rest (omega arith) all.1

-- what holds of the events of right lines holds of the event of each
pub of_events : (P : Event → Type 0) (ports : Ports) (lines : List (List ℕ)) → AllByRecursion (IsRight ports) lines → AllByRecursion P (events_of ports lines) → AllByRecursion (λ l. P (event_of ports l)) lines
of_events P ports [] right all = tt
of_events P ports (l ∷ lines) right all =
    let parts = copies_parts P (count_of l) (event_of ports l) (events_of ports lines) (counted l right.0.0.0) all in
    (parts.0, of_events P ports lines right.1 parts.1)

-- an event among copies is what they are of
in_copies : (earlier : List Event) (n : ℕ) (e : Event) (later : List Event) (place : ℕ) (it : Event) → length earlier ≤ place → place < length earlier + n
    → slice_get (earlier ++ (replicate n e ++ later)) place ≡ Some it → it ≡ e
in_copies [] zero e later place it from to at = absurd (omega (arith, to))
in_copies [] (suc n) e later zero it from to at = cc
in_copies [] (suc n) e later (suc place) it from to at = in_copies [] n e later place it (omega arith) (omega (arith, to)) at
in_copies (x ∷ earlier) n e later zero it from to at = absurd (omega (arith, from))
in_copies (x ∷ earlier) n e later (suc place) it from to at = in_copies earlier n e later place it (omega (arith, from)) (omega (arith, to)) at

pub first_line_without : (p : Program) (text : List ℕ) (ports : Ports) (types : List TypeTree) (events : List Event) (place number : ℕ) → HasInputs p ports types → Stim text ports events
    → IsFirstStranger p.datas types events place → IsLineOf ports text place number → IsFirstWithoutValues p text number
first_line_without p text ports types events place number has read first at =
    let all : events ≡ events_of ports at.earlier ++ (line_events ports at.line ++ events_of ports at.later) =
    read.events_are ∙ ap (events_of ports) at.lines ∙ events_split ports at.earlier at.line at.later in
    let same : first.event ≡ event_of ports at.line =
    in_copies (events_of ports at.earlier) (count_of at.line) (event_of ports at.line) (events_of ports at.later) place first.event at.from at.to
    (subst (λ es. slice_get es place ≡ Some first.event) all first.is_event) in
    let right = all_before (IsRight ports) at.earlier (at.line ∷ at.later) (subst (AllByRecursion (IsRight ports)) at.lines read.right) in
    let front = all_front (HasValues p.datas types) (events_of ports at.earlier) (line_events ports at.line ++ events_of ports at.later) place
    (subst (λ es. AllByRecursion (HasValues p.datas types) (take place es)) all first.values) at.from in
    record {
      ports = ports;
      types = types;
      has = has;
      events = events;
      read = read;
      earlier = at.earlier;
      line = at.line;
      later = at.later;
      lines = at.lines;
      number_is = at.number_is;
      values = of_events (HasValues p.datas types) ports at.earlier right front;
      cause = λ v. first.cause (subst (HasValues p.datas types) (sym same) v);
    }
