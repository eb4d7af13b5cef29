-- A text that is read line by line.
use Rattle.std.proofs.Common.{◌≡◌, ℕ, ◌+◌, ◌<◌, ◌≤◌, List, [], ◌∷◌, ◌++◌, length, inr, refl, sym, ap, ◌∙◌, subst, arith, append_assoc}
use Rattle.std.specs.List.{AllByRecursion, position_or_len}
use Rattle.std.proofs.lemmas.List.{append-nil, flat_map_more, length-append, length-drop, nil_from_length}
use Rattle.chw_base.specs.Outcome.{OfFault}
use Rattle.chw_base.specs.declared.outcome.Or.{Or}
use Rattle.chw_base.specs.declared.outcome.Or.TheVariants.{Memory, Fault}
use Rattle.chw_base.specs.declared.limits.TheConstants.{EVENTS, STIMULUS_BYTES}
use Rattle.chw_clock.specs.declared.event.Event.{Event}
use Rattle.chw_clock.specs.declared.event.Ports.{Ports}
use Rattle.stimulus.specs.Stimulus.{IsFaultOf, IsRight, IsStimFault, Stim, events_of, line_events}
use Rattle.stimulus.specs.Texts.{before, behind, is, lines_of}
use Rattle.stimulus.specs.declared.fault.StimFault.{StimFault}
use Rattle.stimulus.proofs.Splits.{lines_first}

-- so many lines are read, to these events, and this is left
pub record Reads (ports : Ports) (text left : List ℕ) (lines : ℕ) (events : List Event) : Type 0 where
  pub taken : List (List ℕ)
  pub lines_are : lines_of text ≡ taken ++ lines_of left
  pub number : lines ≡ length taken
  pub right : AllByRecursion (IsRight ports) taken
  pub events_are : events ≡ events_of ports taken
  pub few : length events ≤ EVENTS
  pub within : lines + length left ≤ length text

all_push : (P : List ℕ → Type 0) (xs : List (List ℕ)) (x : List ℕ) → AllByRecursion P xs → P x → AllByRecursion P (xs ++ x ∷ [])
all_push P [] x all here = (here, tt)
all_push P (y ∷ ys) x all here = (all.0, all_push P ys x all.1 here)

-- at first all is left
pub reads_first : (ports : Ports) (text : List ℕ) (events : List Event) → events ≡ [] → Reads ports text text 0 events
reads_first ports text events none = record {
  taken = [];
  lines_are = refl;
  number = refl;
  right = tt;
  events_are = none;
  few = rw none (omega arith);
  within = omega arith;
}

rest_shorter : (left : List ℕ) → 0 < length left → length (behind 10 left) < length left
rest_shorter left some = omega (arith, length-drop (position_or_len (is 10) left + 1) left)

-- one line more
pub reads_more : (ports : Ports) (text left rest : List ℕ) (lines next : ℕ) (events after : List Event) → Reads ports text left lines events → 0 < length left
    → rest ≡ behind 10 left → next ≡ lines + 1 → IsRight ports (before 10 left) → after ≡ events ++ line_events ports (before 10 left) → length after ≤ EVENTS
    → Reads ports text rest next after
reads_more ports text left rest lines next events after reads some rest_is next_is right after_is few =
    let line = before 10 left in
    let shorter = rest_shorter left some in
    let rest_length : length rest ≡ length (behind 10 left) = ap length rest_is in
    let all : lines_of text ≡ (reads.taken ++ line ∷ []) ++ lines_of rest =
    reads.lines_are ∙ ap (λ ls. reads.taken ++ ls) (lines_first left some) ∙ sym (append_assoc reads.taken (line ∷ []) (lines_of (behind 10 left)))
    ∙ ap (λ r. (reads.taken ++ line ∷ []) ++ lines_of r) (sym rest_is) in
    record {
      taken = reads.taken ++ line ∷ [];
      lines_are = all;
      number = omega (arith, reads.number, length-append reads.taken (line ∷ []));
      right = all_push (IsRight ports) reads.taken line reads.right right;
      events_are = after_is ∙ ap (λ es. es ++ line_events ports line) reads.events_are ∙ flat_map_more (line_events ports) [] reads.taken line;
      few = few;
      within = omega (arith, reads.within);
    }

-- the measure of the loop
pub rest_measure : (left rest : List ℕ) → 0 < length left → rest ≡ behind 10 left → length rest < length left
rest_measure left rest some rest_is = let shorter = rest_shorter left some in omega (arith, ap length rest_is)

-- where nothing is left, it is a stimulus
pub reads_end : (ports : Ports) (text left : List ℕ) (lines : ℕ) (events : List Event) → Reads ports text left lines events → length left ≡ 0 → length text ≤ STIMULUS_BYTES
    → Stim text ports events
reads_end ports text left lines events reads none short =
    let all : lines_of text ≡ reads.taken = reads.lines_are ∙ ap (λ l. reads.taken ++ lines_of l) (nil_from_length left none) ∙ append-nil reads.taken in
    record {
      short = short;
      right = subst (AllByRecursion (IsRight ports)) (sym all) reads.right;
      events_are = reads.events_are ∙ ap (events_of ports) (sym all);
      few = reads.few;
    }

-- a line that isn't taken
line_fault : (ports : Ports) (text left : List ℕ) (lines : ℕ) (events : List Event) (fault : StimFault) → Reads ports text left lines events → 0 < length left
    → length text ≤ STIMULUS_BYTES → fault.line ≡ lines + 1 → IsFaultOf ports (length events) (before 10 left) fault.code → IsStimFault text ports fault
line_fault ports text left lines events fault reads some short number cause = inr record {
  short = short;
  taken = reads.taken;
  line = before 10 left;
  others = lines_of (behind 10 left);
  lines = reads.lines_are ∙ ap (λ ls. reads.taken ++ ls) (lines_first left some);
  number = omega (arith, reads.number);
  right = reads.right;
  few = subst (λ es. length es ≤ EVENTS) reads.events_are reads.few;
  cause = subst (λ es. IsFaultOf ports (length es) (before 10 left) fault.code) reads.events_are cause;
}

pub reads_fault : (ports : Ports) (text left : List ℕ) (lines : ℕ) (events : List Event) (e : Or StimFault) → Reads ports text left lines events → 0 < length left
    → length text ≤ STIMULUS_BYTES → OfFault e (λ fault. fault.line ≡ lines + 1) → OfFault e (λ fault. IsFaultOf ports (length events) (before 10 left) fault.code)
    → OfFault e (IsStimFault text ports)
reads_fault ports text left lines events Memory reads some short number cause = tt
reads_fault ports text left lines events (Fault fault) reads some short number cause = line_fault ports text left lines events fault reads some short number cause
