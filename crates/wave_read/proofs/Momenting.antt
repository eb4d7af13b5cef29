-- Times that were read one after the other.
use Rattle.std.proofs.Common.{◌≡◌, ℕ, ◌+◌, List, [], ◌∷◌, ◌++◌, length, map, Option, Some, None, refl, sym, ap, ◌∙◌, subst, append_assoc}
use Rattle.chw_base.specs.Outcome.{OfFault}
use Rattle.chw_base.specs.declared.outcome.Or.{Or}
use Rattle.chw_base.specs.declared.outcome.Or.TheVariants.{Fault, Memory}
use Rattle.wave_text.specs.Faults.{FailsAt}
use Rattle.wave_read.specs.Reading.{FailsBehind, GoesOn, HasChanges, HasTimes, PutsChanges}
use Rattle.wave_read.specs.Shown.{change_of, count_of, time_with, times_of}
use Rattle.wave_text.specs.VcdText.{AreChanges, Changed, IsTime, Moment}
use Rattle.wave_text.specs.VcdText.AreChanges.{at_time as time, none as nothing}
use Rattle.wave_text.specs.Words.{Word}
use Rattle.wave_read.specs.declared.items.Stamp.{Stamp}
use Rattle.wave_read.specs.declared.source.Changed.{Changed as ReadChange}
use Rattle.wave_read.specs.declared.source.Moment.{Moment as ReadMoment}
use Rattle.wave_read.proofs.Timing.{added_count, times_push}
use Rattle.wave_read.proofs.WordKinds.{first_behind, first_fails}

abbrev pub moment_at : Stamp → List Changed → Moment
moment_at stamp changes = record { at = stamp.at; time = stamp.time; changes = changes }

-- what is known of all words once these times were read, and the next one's stamp
abbrev pub Reached : ℕ → List Word → List Moment → Option Stamp → List Word → Type 0
Reached end all read None rest = AreChanges all [] read
Reached end all read (Some stamp) rest =
    ((others : List Changed) (moments : List Moment) → AreChanges rest others moments → AreChanges all [] (read ++ moment_at stamp others ∷ moments))
    × FailsBehind HasChanges HasTimes end rest all

reached_first : (w : Word) (first : Stamp) (end : ℕ) (words : List Word) → IsTime w.bytes first.time → w.at ≡ first.at → Reached end (w ∷ words) [] (Some first) words
reached_first w first end words is same = (
  λ others moments rest.
      subst (λ (n : ℕ). AreChanges (w ∷ words) [] ((let m : Moment = record { at = n; time = first.time; changes = others } in m) ∷ moments)) same
      (time w words first.time others moments is rest),
  first_behind w end words first.time is,
)

pub reached_none : (w : Word) (first : Stamp) (end : ℕ) (words : List Word) (read : List ReadMoment) (changes : List ReadChange) → read ≡ [] → IsTime w.bytes first.time
    → w.at ≡ first.at → Reached end (w ∷ words) (times_of read changes) (Some first) words
reached_none w first end words read changes none is same =
    subst (λ (ms : List ReadMoment). Reached end (w ∷ words) (times_of ms changes) (Some first) words) (sym none) (reached_first w first end words is same)

reached_more : (end : ℕ) (all rest behind : List Word) (read : List Moment) (stamp : Stamp) (changes : List Changed) (next : Option Stamp)
    → Reached end all read (Some stamp) rest → GoesOn end rest changes next behind → Reached end all (read ++ moment_at stamp changes ∷ []) next behind
reached_more end all rest behind read stamp changes None reached goes = reached.0 changes [] goes
reached_more end all rest behind read stamp changes (Some next) reached goes = (
  λ others moments is.
      subst (AreChanges all []) (sym (append_assoc read (moment_at stamp changes ∷ []) (moment_at next others ∷ moments)))
      (reached.0 changes (moment_at next others ∷ moments) (goes.0 others moments is)),
  λ at fails. reached.1 at (goes.1 at fails),
)

-- one time more, in the reader's own form
pub reached_push : (end inner : ℕ) (all rest behind : List Word) (read pushed : List ReadMoment) (it : ReadMoment) (old new : List ReadChange) (stamp : Stamp) (next : Option Stamp)
    → pushed ≡ read ++ it ∷ [] → it.at ≡ stamp.at → it.time ≡ stamp.time → it.count + length old ≡ length new → count_of read ≡ length old → inner ≡ end
    → Reached end all (times_of read old) (Some stamp) rest → PutsChanges inner rest old new next behind → Reached end all (times_of pushed new) next behind
reached_push end inner all rest behind read pushed it old new stamp next more at instant count whole same reached puts =
    let own : List Changed = map change_of puts.0 in
    let shown : time_with it puts.0 ≡ moment_at stamp own = λ i. record { at = at i; time = instant i; changes = own } in
    let both : times_of pushed new ≡ times_of (read ++ it ∷ []) (old ++ puts.0) = λ i. times_of (more i) (puts.1 i) in
    let listed : times_of pushed new ≡ times_of read old ++ moment_at stamp own ∷ [] =
    both ∙ times_push read old puts.0 it whole (added_count old new puts.0 it.count puts.1 count) ∙ ap (λ (m : Moment). times_of read old ++ m ∷ []) shown in
    subst (λ (ms : List Moment). Reached end all ms next behind) (sym listed)
    (reached_more end all rest behind (times_of read old) stamp own next reached (subst (λ (n : ℕ). GoesOn n rest own next behind) same puts.2))

-- the same of all words behind the first time
pub fails_from : (end inner : ℕ) (first : Stamp) (rest left : List Word) (read : List Moment) (stamp : Stamp) (e : Or ℕ)
    → ((w : Word) → IsTime w.bytes first.time → w.at ≡ first.at → Reached end (w ∷ left) read (Some stamp) rest) → inner ≡ end
    → OfFault e (FailsAt HasChanges inner rest)
    → OfFault e (λ at. (w : Word) → IsTime w.bytes first.time → w.at ≡ first.at → FailsAt HasTimes end (w ∷ left) at)
fails_from end inner first rest left read stamp Memory reached same fails = tt
fails_from end inner first rest left read stamp (Fault at) reached same fails =
    λ w is there. (reached w is there).1 at (subst (λ (n : ℕ). FailsAt HasChanges n rest at) same fails)

-- no time is next
pub reached_end : (end : ℕ) (all : List Word) (read : List Moment) (next : Option Stamp) (rest : List Word) → ((stamp : Stamp) → next ≡ Some stamp → ⊥) → Reached end all read next rest
    → AreChanges all [] read
reached_end end all read None rest none reached = reached
reached_end end all read (Some stamp) rest none reached = absurd (none stamp refl)

-- no times
pub no_times : (words : List Word) (times : List Moment) → words ≡ [] → times ≡ [] → AreChanges words [] times
no_times words times none unread = subst (AreChanges words []) (sym unread) (subst (λ (ws : List Word). AreChanges ws [] []) (sym none) nothing)

-- the first word is no time
pub no_first_time : (w : Word) (end : ℕ) (words rest : List Word) → words ≡ w ∷ rest → ((at : ℕ) → IsTime w.bytes at → ⊥) → FailsAt HasTimes end words w.at
no_first_time w end words rest is no_time = subst (λ (ws : List Word). FailsAt HasTimes end ws w.at) (sym is) (first_fails w end rest no_time)
