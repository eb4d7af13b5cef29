-- The text of a stimulus. A line of it is `12* Sys! Clk: x=05 y=1f`: a count of equal events, which
-- may be missing, the domains that tick, with `!` where their reset is asserted, and each input
-- with its digits.
use Rattle.std.specs.Prelude.{◌≡◌, ℕ, ◌+◌, ◌<◌, ◌≤◌, Bool, IsTrue, if◌then◌else◌, ◌⊎◌}
use Rattle.std.specs.Prelude.{List, [], ◌∷◌, ◌++◌, length, map, drop, replicate, Option, None, Some}
use Rattle.std.specs.List.{AllByRecursion, filter, flat_map}
use Rattle.std.specs.Str.Parse.{digits_value, AllDigits}
use Rattle.chw_base.specs.Names.{IsUpper, IsLowerWord}
use Rattle.chw_base.specs.declared.index.DomId.{DomId}
use Rattle.chw_base.specs.declared.limits.TheConstants.{EVENTS, STIMULUS_BYTES}
use Rattle.chw_bits.specs.Bits.{bits_of}
use Rattle.chw_bits.specs.Hex.{HasWidth}
use Rattle.chw_clock.specs.Histories.{has_reset}
use Rattle.chw_clock.specs.declared.event.Event.{Event}
use Rattle.chw_clock.specs.declared.event.Port.{Port}
use Rattle.chw_clock.specs.declared.event.Ports.{Ports}
use Rattle.name_tables.specs.Names.{place_of, is_among, AreDistinct}
use Rattle.stimulus.specs.Texts.{has, before, behind, split_at, lines_of}
use Rattle.stimulus.specs.declared.fault.StimCode.{StimCode}
use Rattle.stimulus.specs.declared.fault.StimCode.TheVariants.{S01, S02, S03, S05}
use Rattle.stimulus.specs.declared.fault.StimFault.{StimFault}

-- 1 to 6 decimal digits of a number of at least 1
abbrev pub IsCount : List ℕ → Type 0
IsCount text = AllDigits 10 text × (length text ≤ 6) × (0 < digits_value 10 text)

-- a space stands first
abbrev pub BeginsWithSpace : List ℕ → Type 0
BeginsWithSpace [] = ⊥
BeginsWithSpace (b ∷ text) = b ≡ 32

-- a space stands first, or nothing is there
abbrev pub IsApart : List ℕ → Type 0
IsApart [] = Unit {0}
IsApart (b ∷ text) = b ≡ 32

-- where `*` stands in the line, a count is before it and a space behind it
abbrev pub HasCount : List ℕ → Type 0
HasCount line =
    IsTrue (has 42 line) → IsCount (before 42 line) × BeginsWithSpace (behind 42 line)

-- how many equal events the line stands for
abbrev pub count_of : List ℕ → ℕ
count_of line = if has 42 line then digits_value 10 (before 42 line) else 1

-- the line without its count
abbrev pub body_of : List ℕ → List ℕ
body_of line = if has 42 line then drop 1 (behind 42 line) else line

-- the domains before the colon, each with its `!`
abbrev pub domains_of : List ℕ → List (List ℕ)
domains_of body = split_at 32 (before 58 body)

-- the texts behind the spaces behind the colon
abbrev pub parts_in : List ℕ → List (List ℕ)
parts_in [] = []
parts_in (b ∷ text) = split_at 32 text

abbrev pub parts_of : List ℕ → List (List ℕ)
parts_of body = parts_in (behind 58 body)

-- the name of a domain, with nothing or `!` behind it
abbrev pub IsDomain : List ℕ → Type 0
IsDomain domain = IsUpper (before 33 domain) × (behind 33 domain ≡ [])

-- the name of an input, `=`, and at least one hexadecimal digit
abbrev pub IsPart : List ℕ → Type 0
IsPart part =
    IsLowerWord (before 61 part) × (0 < length (behind 61 part)) × AllDigits 16 (behind 61 part)

-- domains, each named once, and as many parts as inputs
pub record HaveForm (inputs : ℕ) (domains parts : List (List ℕ)) : Type 0 where
  pub each : length parts ≡ inputs
  pub domains_are : AllByRecursion IsDomain domains
  pub parts_are : AllByRecursion IsPart parts
  pub once : AreDistinct (map (before 33) domains)

-- domains, a colon, and a part for each input with a space before it
pub record IsBody (inputs : ℕ) (body : List ℕ) : Type 0 where
  pub colon : IsTrue (has 58 body)
  pub apart : IsApart (behind 58 body)
  pub words : HaveForm inputs (domains_of body) (parts_of body)

-- the line is of the form
abbrev pub HasForm : Ports → List ℕ → Type 0
HasForm ports line = HasCount line × IsBody (length ports.inputs) (body_of line)

abbrev pub number_of_place : Option ℕ → ℕ
number_of_place None = 0
number_of_place (Some place) = place

-- the domain of this name
abbrev pub domain_of : Ports → List ℕ → DomId
domain_of ports domain =
    record { number = number_of_place (place_of ports.domains (before 33 domain)) }

-- a domain of the ports, with `!` only where it has a reset
abbrev pub IsKnown : Ports → List ℕ → Type 0
IsKnown ports domain =
    IsTrue (is_among ports.domains (before 33 domain))
    × (IsTrue (has 33 domain) → IsTrue (has_reset ports (domain_of ports domain)))

-- the parts name these ports, in order
abbrev pub AreNamed : List Port → List (List ℕ) → Type 0
AreNamed [] [] = Unit {0}
AreNamed (port ∷ ports) (part ∷ parts) = (before 61 part ≡ port.name) × AreNamed ports parts
AreNamed _ _ = ⊥

-- the domains and the parts name domains and inputs of the ports
abbrev pub HaveNames : Ports → (domains parts : List (List ℕ)) → Type 0
HaveNames ports domains parts = AllByRecursion (IsKnown ports) domains × AreNamed ports.inputs parts

abbrev pub HasNames : Ports → List ℕ → Type 0
HasNames ports line = HaveNames ports (domains_of (body_of line)) (parts_of (body_of line))

-- the digits of the parts are of the widths of these ports
abbrev pub AreWide : List Port → List (List ℕ) → Type 0
AreWide [] [] = Unit {0}
AreWide (port ∷ ports) (part ∷ parts) = HasWidth port.width (behind 61 part) × AreWide ports parts
AreWide _ _ = ⊥

-- the line gives each input as many digits as its width takes, with no bit above it
abbrev pub HasWidths : Ports → List ℕ → Type 0
HasWidths ports line = AreWide ports.inputs (parts_of (body_of line))

-- the line is right in its form, its names and its widths
abbrev pub IsRight : Ports → List ℕ → Type 0
IsRight ports line = HasForm ports line × HasNames ports line × HasWidths ports line

-- the bits of inputs
abbrev pub inputs_of : List Port → List (List ℕ) → List (List Bool)
inputs_of (port ∷ ports) (part ∷ parts) =
    bits_of port.width (digits_value 16 (behind 61 part)) ∷ inputs_of ports parts
inputs_of _ _ = []

-- the event of these domains and parts
abbrev pub event_from : Ports → (domains parts : List (List ℕ)) → Event
event_from ports domains parts = record {
  ticks = map (domain_of ports) domains;
  resets = map (domain_of ports) (filter (has 33) domains);
  inputs = inputs_of ports.inputs parts;
}

-- the event of a right line
abbrev pub event_of : Ports → List ℕ → Event
event_of ports line = event_from ports (domains_of (body_of line)) (parts_of (body_of line))

-- the line stands for so many of these events
pub record LineOf (ports : Ports) (line : List ℕ) (count : ℕ) (event : Event) : Type 0 where
  pub right : IsRight ports line
  pub count_is : count ≡ count_of line
  pub event_is : event ≡ event_of ports line

-- the events of a right line, and of right lines
abbrev pub line_events : Ports → List ℕ → List Event
line_events ports line = replicate (count_of line) (event_of ports line)

abbrev pub events_of : Ports → List (List ℕ) → List Event
events_of ports lines = flat_map (line_events ports) lines

-- the text is a stimulus of these events
pub record Stim (text : List ℕ) (ports : Ports) (events : List Event) : Type 0 where
  pub short : length text ≤ STIMULUS_BYTES
  pub right : AllByRecursion (IsRight ports) (lines_of text)
  pub events_are : events ≡ events_of ports (lines_of text)
  pub few : length events ≤ EVENTS

-- what a line breaks that isn't right
abbrev pub IsBroken : Ports → List ℕ → StimCode → Type 0
IsBroken ports line S01 = ¬ HasForm ports line
IsBroken ports line S02 = HasForm ports line × ¬ HasNames ports line
IsBroken ports line S03 = HasForm ports line × HasNames ports line × ¬ HasWidths ports line
IsBroken ports line S05 = ⊥

-- with the line the events are too many
pub record IsTooMuch (ports : Ports) (events : ℕ) (line : List ℕ) (code : StimCode) : Type 0 where
  pub right : IsRight ports line
  pub many : EVENTS < events + count_of line
  pub code_is : code ≡ S05

-- why a line isn't taken behind so many events
abbrev pub IsFaultOf : Ports → ℕ → List ℕ → StimCode → Type 0
IsFaultOf ports events line code = IsBroken ports line code ⊎ IsTooMuch ports events line code

-- the first line of a text that isn't taken, and why
pub record IsLineFault (text : List ℕ) (ports : Ports) (fault : StimFault) : Type 0 where
  pub short : length text ≤ STIMULUS_BYTES
  pub taken : List (List ℕ)
  pub line : List ℕ
  pub others : List (List ℕ)
  pub lines : lines_of text ≡ taken ++ line ∷ others
  pub number : fault.line ≡ length taken + 1
  pub right : AllByRecursion (IsRight ports) taken
  pub few : length (events_of ports taken) ≤ EVENTS
  pub cause : IsFaultOf ports (length (events_of ports taken)) line fault.code

-- the text is too long, which is S05 of line 0
pub record IsTooLong (text : List ℕ) (fault : StimFault) : Type 0 where
  pub long : STIMULUS_BYTES < length text
  pub line : fault.line ≡ 0
  pub code : fault.code ≡ S05

-- why a text is no stimulus
abbrev pub IsStimFault : List ℕ → Ports → StimFault → Type 0
IsStimFault text ports fault = IsTooLong text fault ⊎ IsLineFault text ports fault
