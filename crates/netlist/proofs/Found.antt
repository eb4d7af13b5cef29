-- Bits of the wires of a given net at a given history are found by computing, each with the evidence that the wire has them. It is for
-- examples: a net whose cells drive the wires in order, and as many turns as its wires take.
use Rattle.std.proofs.Common.{◌≡◌, ℕ, zero, suc, ◌-◌, ◌<◌, ◌==◌, Bool, true, false, List, [], ◌∷◌, length, Option, Some, None, slice_get, refl, ap, subst}
use Rattle.std.proofs.lemmas.Bool.{and_parts, eqb-true, ltb-true, ltb-false}
use Rattle.std.specs.Prelude.{nat_lt, option_map, ◌&&◌}
use Rattle.std.specs.List.{AllByRecursion}
use Rattle.chw_base.specs.declared.index.DomId.{DomId}
use Rattle.chw_base.specs.declared.index.WireId.{WireId}
use Rattle.chw_bits.specs.Bits.{number_of}
use Rattle.chw_clock.specs.Histories.{before, taken}
use Rattle.chw_clock.specs.declared.event.Event.{Event}
use Rattle.netlist.specs.Examples.{Line, Shows}
use Rattle.netlist.specs.Feeds.{target}
use Rattle.netlist.specs.NetValue.{HasCell, HasRam, Memory, NetValue, ReadValues, WordAt, writes, zeros}
use Rattle.netlist.specs.NetValue.NetValue.{input, operated, first, later, unread, outside, shown}
use Rattle.netlist.specs.NetValue.ReadValues.{read_none, read_and}
use Rattle.netlist.specs.NetValue.WordAt.{unwritten, written, kept}
use Rattle.netlist.specs.Operators.{operator}
use Rattle.netlist.specs.Wires.{read_by}
use Rattle.netlist.specs.declared.net.Cell.{Cell}
use Rattle.netlist.specs.declared.net.Cell.TheVariants.{Reg, Ram, Use}
use Rattle.netlist.specs.declared.net.Flat.{Flat}

-- the wire has bits
abbrev pub Has : Flat → List Event → ℕ → Type 0
Has flat h w = (bits : List Bool) × NetValue flat h w bits

abbrev HasWord : Flat → Memory → List Event → ℕ → Type 0
HasWord flat ram h address = (bits : List Bool) × WordAt flat ram h address bits

abbrev HaveAll : Flat → List Event → List WireId → Type 0
HaveAll flat h wires = (values : List (List Bool)) × ReadValues flat h wires values

abbrev at_number : (n w : ℕ) (b : Bool) → (n == w) ≡ b → Option (Some n ≡ Some w)
at_number n w true e = Some (ap Some (eqb-true n w e))
at_number n w false e = None

-- whether this is that wire
abbrev same_wire : (o : Option ℕ) (w : ℕ) → Option (o ≡ Some w)
same_wire None w = None
same_wire (Some n) w = at_number n w (n == w) refl

abbrev given : (flat : Flat) (present : Event) (past : List Event) (w : ℕ) → w < length flat.ports.inputs → (o : Option (List Bool))
    → slice_get present.inputs w ≡ o → Option (Has flat (present ∷ past) w)
given flat present past w lt None e = None
given flat present past w lt (Some bits) e = Some (bits, input w present past bits lt e)

abbrev input_found : (flat : Flat) (h : List Event) (w : ℕ) → w < length flat.ports.inputs → Option (Has flat h w)
input_found flat [] w lt = None
input_found flat (present ∷ past) w lt = given flat present past w lt (slice_get present.inputs w) refl

pub same_number : {v w : ℕ} → Some v ≡ Some w → v ≡ w
same_number e = cc

abbrev moved : (flat : Flat) (h : List Event) (v w : ℕ) → Some v ≡ Some w → Option (Has flat h v) → Option (Has flat h w)
moved flat h v w e None = None
moved flat h v w e (Some x) = Some (x.0, subst (λ w. NetValue flat h w x.0) (same_number e) x.1)

abbrev first_word : (flat : Flat) (ram : Memory) (h : List Event) (address : ℕ) → before h ram.domain ≡ None → (o : Option (List Bool))
    → slice_get ram.words address ≡ o → Option (HasWord flat ram h address)
first_word flat ram h address e None at = None
first_word flat ram h address e (Some bits) at = Some (bits, unwritten ram h address bits e at)

abbrev read_more : (flat : Flat) (h : List Event) (w : WireId) (wires : List WireId) → Option (Has flat h w.number) → Option (HaveAll flat h wires)
    → Option (HaveAll flat h (w ∷ wires))
read_more flat h w wires (Some v) (Some more) = Some (v.0 ∷ more.0, read_and h w wires v.0 more.0 v.1 more.1)
read_more flat h w wires _ _ = None

unfoldable mutual
  pub found : ℕ → (flat : Flat) (h : List Event) (w : ℕ) → Option (Has flat h w)
  found zero flat h w = None
  found (suc n) flat h w = by_wire n flat h w (nat_lt w (length flat.ports.inputs)) refl

  pub by_wire : ℕ → (flat : Flat) (h : List Event) (w : ℕ) (b : Bool) → nat_lt w (length flat.ports.inputs) ≡ b → Option (Has flat h w)
  by_wire zero flat h w b e = None
  by_wire (suc n) flat h w true e = input_found flat h w (ltb-true w (length flat.ports.inputs) e)
  by_wire (suc n) flat h w false e =
      by_cell n flat h w (w - length flat.ports.inputs) (slice_get flat.cells (w - length flat.ports.inputs)) refl

  pub by_cell : ℕ → (flat : Flat) (h : List Event) (w place : ℕ) (o : Option Cell) → slice_get flat.cells place ≡ o → Option (Has flat h w)
  by_cell zero flat h w place o e = None
  by_cell (suc n) flat h w place None e = None
  by_cell (suc n) flat h w place (Some cell) e = driven n flat h w cell (place, e) (same_wire (target cell) w)

  pub driven : ℕ → (flat : Flat) (h : List Event) (w : ℕ) (cell : Cell) → HasCell flat cell → Option (target cell ≡ Some w) → Option (Has flat h w)
  driven zero flat h w cell has t = None
  driven (suc n) flat h w cell has None = None
  driven (suc n) flat h w (Reg x domain initial a) has (Some t) =
      moved flat h x.number w t (register n flat h x a domain initial has (taken h domain) refl)
  driven (suc n) flat h w (Ram x domain words inputs) has (Some t) =
      moved flat h x.number w t
      (memory n flat h x (record { domain = domain; words = words; inputs = inputs }) has (slice_get flat.widths x.number) refl (before h domain) refl)
  driven (suc n) flat h w (Use m reads drives) has (Some t) = None
  driven (suc n) flat h w cell has (Some t) =
      option_map (λ (r : HaveAll flat h (read_by cell)). (operator cell r.0, operated cell w h r.0 has tt t r.1)) (read n flat h (read_by cell))

  pub read : ℕ → (flat : Flat) (h : List Event) (wires : List WireId) → Option (HaveAll flat h wires)
  read zero flat h wires = None
  read (suc n) flat h [] = Some ([], read_none h)
  read (suc n) flat h (w ∷ wires) = read_more flat h w wires (found n flat h w.number) (read n flat h wires)

  pub register : ℕ → (flat : Flat) (h : List Event) (w a : WireId) (domain : DomId) (initial : List Bool) → HasCell flat (Reg w domain initial a)
      → (past : Option (List Event)) → taken h domain ≡ past → Option (Has flat h w.number)
  register zero flat h w a domain initial has past e = None
  register (suc n) flat h w a domain initial has None e = Some (initial, first w a domain initial h has e)
  register (suc n) flat h w a domain initial has (Some past) e =
      option_map (λ (v : Has flat past a.number). (v.0, later w a domain initial v.0 h past has e v.1)) (found n flat past a.number)

  pub memory : ℕ → (flat : Flat) (h : List Event) (w : WireId) (ram : Memory) → HasRam flat w ram → (o : Option ℕ) → slice_get flat.widths w.number ≡ o
      → (past : Option (List Event)) → before h ram.domain ≡ past → Option (Has flat h w.number)
  memory zero flat h w ram has o wide past e = None
  memory (suc n) flat h w ram has None wide past e = None
  memory (suc n) flat h w ram has (Some width) wide None e = Some (zeros width, unread w ram width h has wide e)
  memory (suc n) flat h w ram has (Some width) wide (Some past) e =
      addressed n flat h w ram has width wide past e (found n flat past ram.inputs.read.number)

  pub addressed : ℕ → (flat : Flat) (h : List Event) (w : WireId) (ram : Memory) → HasRam flat w ram → (width : ℕ) → slice_get flat.widths w.number ≡ Some width
      → (past : List Event) → before h ram.domain ≡ Some past → Option (Has flat past ram.inputs.read.number) → Option (Has flat h w.number)
  addressed zero flat h w ram has width wide past e v = None
  addressed (suc n) flat h w ram has width wide past e None = None
  addressed (suc n) flat h w ram has width wide past e (Some v) =
      in_words n flat h w ram has width wide past e v (nat_lt (number_of v.0) (length ram.words)) refl

  pub in_words : ℕ → (flat : Flat) (h : List Event) (w : WireId) (ram : Memory) → HasRam flat w ram → (width : ℕ) → slice_get flat.widths w.number ≡ Some width
      → (past : List Event) → before h ram.domain ≡ Some past → (v : Has flat past ram.inputs.read.number) (b : Bool)
      → nat_lt (number_of v.0) (length ram.words) ≡ b → Option (Has flat h w.number)
  in_words zero flat h w ram has width wide past e v b lt = None
  in_words (suc n) flat h w ram has width wide past e v true lt =
      option_map (λ (x : HasWord flat ram past (number_of v.0)). (x.0, shown w ram h past v.0 x.0 has e v.1 (ltb-true (number_of v.0) (length ram.words) lt) x.1))
      (word n flat past ram (number_of v.0))
  in_words (suc n) flat h w ram has width wide past e v false lt =
      Some (zeros width, outside w ram width h past v.0 has wide e v.1 (ltb-false (number_of v.0) (length ram.words) lt))

  pub word : ℕ → (flat : Flat) (h : List Event) (ram : Memory) (address : ℕ) → Option (HasWord flat ram h address)
  word zero flat h ram address = None
  word (suc n) flat h ram address = word_after n flat h ram address (before h ram.domain) refl

  pub word_after : ℕ → (flat : Flat) (h : List Event) (ram : Memory) (address : ℕ) (past : Option (List Event)) → before h ram.domain ≡ past
      → Option (HasWord flat ram h address)
  word_after zero flat h ram address past e = None
  word_after (suc n) flat h ram address None e = first_word flat ram h address e (slice_get ram.words address) refl
  word_after (suc n) flat h ram address (Some past) e =
      word_by n flat h ram address past e (found n flat past ram.inputs.enable.number) (found n flat past ram.inputs.place.number)

  pub word_by : ℕ → (flat : Flat) (h : List Event) (ram : Memory) (address : ℕ) (past : List Event) → before h ram.domain ≡ Some past
      → Option (Has flat past ram.inputs.enable.number) → Option (Has flat past ram.inputs.place.number) → Option (HasWord flat ram h address)
  word_by zero flat h ram address past e on at = None
  word_by (suc n) flat h ram address past e (Some on) (Some at) = word_if n flat h ram address past e on at (writes on.0 at.0 address) refl
  word_by (suc n) flat h ram address past e _ _ = None

  pub word_if : ℕ → (flat : Flat) (h : List Event) (ram : Memory) (address : ℕ) (past : List Event) → before h ram.domain ≡ Some past
      → (on : Has flat past ram.inputs.enable.number) (at : Has flat past ram.inputs.place.number) (b : Bool) → writes on.0 at.0 address ≡ b
      → Option (HasWord flat ram h address)
  word_if zero flat h ram address past e on at b t = None
  word_if (suc n) flat h ram address past e on at true t =
      option_map (λ (v : Has flat past ram.inputs.value.number). (v.0, written ram h past address on.0 at.0 v.0 e on.1 at.1 t v.1))
      (found n flat past ram.inputs.value.number)
  word_if (suc n) flat h ram address past e on at false t =
      option_map (λ (x : HasWord flat ram past address). (x.0, kept ram h past address on.0 at.0 x.0 e on.1 at.1 t x.1)) (word n flat past ram address)

-- whether the bits are the same
abbrev pub same_bits : (x y : List Bool) → Bool
same_bits [] [] = true
same_bits (true ∷ x) (true ∷ y) = same_bits x y
same_bits (false ∷ x) (false ∷ y) = same_bits x y
same_bits _ _ = false

same : (x y : List Bool) → same_bits x y ≡ true → x ≡ y
same [] [] e = refl
same (true ∷ x) (true ∷ y) e = ap (λ bits. true ∷ bits) (same x y e)
same (false ∷ x) (false ∷ y) e = ap (λ bits. false ∷ bits) (same x y e)
same _ _ e = absurd (cc)

abbrev pub is_found : (flat : Flat) (h : List Event) (w : ℕ) → Option (Has flat h w) → List Bool → Bool
is_found flat h w None bits = false
is_found flat h w (Some v) bits = same_bits v.0 bits

found_is : (flat : Flat) (h : List Event) (w : ℕ) (o : Option (Has flat h w)) (bits : List Bool) → is_found flat h w o bits ≡ true → NetValue flat h w bits
found_is flat h w None bits e = absurd (cc)
found_is flat h w (Some v) bits e = subst (NetValue flat h w) (same v.0 bits e) v.1

-- whether the wires are found to have these bits
unfoldable pub all_found : (flat : Flat) (h : List Event) → List (ℕ × List Bool) → Bool
all_found flat h [] = true
all_found flat h (s ∷ shows) = is_found flat h s.0 (found 1000 flat h s.0) s.1 && all_found flat h shows

all_have : (flat : Flat) (h : List Event) (shows : List (ℕ × List Bool)) → all_found flat h shows ≡ true
    → AllByRecursion (λ (s : ℕ × List Bool). NetValue flat h s.0 s.1) shows
unfolding all_found
all_have flat h [] e = tt
all_have flat h (s ∷ shows) e =
    let both = and_parts _ _ e in
    (found_is flat h s.0 (found 1000 flat h s.0) s.1 both.0, all_have flat h shows both.1)

unfoldable pub lines_found : (flat : Flat) (past : List Event) → List Line → Bool
lines_found flat past [] = true
lines_found flat past (line ∷ lines) = all_found flat (line.present ∷ past) line.shows && lines_found flat (line.present ∷ past) lines

-- what the wires are found to have they have
pub lines_shown : (flat : Flat) (past : List Event) (lines : List Line) → lines_found flat past lines ≡ true → Shows flat past lines
unfolding lines_found
lines_shown flat past [] e = tt
lines_shown flat past (line ∷ lines) e =
    let both = and_parts _ _ e in (all_have flat (line.present ∷ past) line.shows both.0, lines_shown flat (line.present ∷ past) lines both.1)
