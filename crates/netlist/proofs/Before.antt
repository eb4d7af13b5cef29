-- The history before the last tick, and the one at whose last event a register took its input.
use Rattle.std.proofs.Common.{◌≡◌, ℕ, ◌<◌, ◌≤◌, Bool, true, false, List, [], ◌∷◌, length, Option, Some, None, subst, arith, if◌then◌else◌}
use Rattle.std.specs.List.{AllByRecursion}
use Rattle.chw_base.specs.declared.index.DomId.{DomId}
use Rattle.chw_clock.specs.Histories.{FitsEvent, FitsPorts, is_reset, taken, ticks, unless_reset, up_to_tick, before}
use Rattle.chw_clock.specs.declared.event.Event.{Event}
use Rattle.chw_clock.specs.declared.event.Ports.{Ports}

-- what is left of a history is a history of the same ports, and no longer
pub record IsPast (ports : Ports) (limit : ℕ) (past : List Event) : Type 0 where
  pub fits : FitsPorts ports past
  pub shorter : length past ≤ limit

weaker : (ports : Ports) (m n : ℕ) (past : List Event) → m ≤ n → IsPast ports m past → IsPast ports n past
weaker ports m n past h p = record { fits = p.fits; shorter = omega (arith, p.shorter) }

-- the events from the latest tick on, by whether the first one ticks
chosen : (ports : Ports) (event : Event) (events past : List Event) (d : DomId) (b : Bool) → AllByRecursion (FitsEvent ports) (event ∷ events)
    → (up_to_tick events d ≡ Some past → IsPast ports (length events) past)
    → (if b then Some (event ∷ events) else up_to_tick events d) ≡ Some past → IsPast ports (length (event ∷ events)) past
chosen ports event events past d true f rest e =
    let is : event ∷ events ≡ past = cc in
    subst (λ p. IsPast ports (length (event ∷ events)) p) is (record { fits = f; shorter = omega arith })
chosen ports event events past d false f rest e = weaker ports (length events) (length (event ∷ events)) past (omega arith) (rest e)

up_to : (ports : Ports) (events : List Event) (d : DomId) (past : List Event) → AllByRecursion (FitsEvent ports) events → up_to_tick events d ≡ Some past
    → IsPast ports (length events) past
up_to ports [] d past f e = absurd (cc)
up_to ports (event ∷ events) d past f e = chosen ports event events past d (ticks event d) f (λ e. up_to ports events d past f.1 e) e

pub before_is_past : (ports : Ports) (present : Event) (events past : List Event) (d : DomId) → FitsPorts ports (present ∷ events)
    → before (present ∷ events) d ≡ Some past → IsPast ports (length events) past
before_is_past ports present events past d f e = up_to ports events d past f.1 e

kept : (ports : Ports) (limit : ℕ) (d : DomId) (tick : Option (List Event)) (past : List Event)
    → ((past : List Event) → tick ≡ Some past → IsPast ports limit past) → unless_reset tick d ≡ Some past → IsPast ports limit past
kept ports limit d None past is e = absurd (cc)
kept ports limit d (Some g) past is e = by_reset (is_reset g d) e
  where
    by_reset : (b : Bool) → (if b then None else Some g) ≡ Some past → IsPast ports limit past
    by_reset true e = absurd (cc)
    by_reset false e = is past e

pub taken_is_past : (ports : Ports) (present : Event) (events past : List Event) (d : DomId) → FitsPorts ports (present ∷ events)
    → taken (present ∷ events) d ≡ Some past → IsPast ports (length events) past
taken_is_past ports present events past d f e =
    kept ports (length events) d (before (present ∷ events) d) past (λ past e. before_is_past ports present events past d f e) e

-- both are histories of the same ports
pub before_fits : (ports : Ports) (h past : List Event) (d : DomId) → FitsPorts ports h → before h d ≡ Some past → FitsPorts ports past
before_fits ports [] past d f e = absurd f
before_fits ports (present ∷ events) past d f e = (before_is_past ports present events past d f e).fits

pub taken_fits : (ports : Ports) (h past : List Event) (d : DomId) → FitsPorts ports h → taken h d ≡ Some past → FitsPorts ports past
taken_fits ports [] past d f e = absurd f
taken_fits ports (present ∷ events) past d f e = (taken_is_past ports present events past d f e).fits

-- the history before the last tick is shorter
pub before_shorter : (ports : Ports) (h past : List Event) (d : DomId) → FitsPorts ports h → before h d ≡ Some past → length past < length h
before_shorter ports [] past d f e = absurd f
before_shorter ports (present ∷ events) past d f e =
    let is = before_is_past ports present events past d f e in omega (arith, is.shorter)

pub taken_shorter : (ports : Ports) (h past : List Event) (d : DomId) → FitsPorts ports h → taken h d ≡ Some past → length past < length h
taken_shorter ports [] past d f e = absurd f
taken_shorter ports (present ∷ events) past d f e =
    let is = taken_is_past ports present events past d f e in omega (arith, is.shorter)
