-- No bits of an input are known, and no two inputs are equal: each may have any bits.
use Rattle.std.proofs.Common.{◌≡◌, ℕ, zero, suc, ◌<◌, ◌≤◌, ◌⊎◌, inl, inr, Bool, true, false, List, [], ◌∷◌, length, Some, slice_get, refl, sym, ap, ◌∙◌, arith}
use Rattle.std.specs.Prelude.{nat_lt}
use Rattle.std.proofs.lemmas.Bool.{cases_lt, le-ltb, lt-ltb}
use Rattle.chw_clock.specs.Histories.{FitsEvent, FitsPorts, HaveWidths}
use Rattle.chw_clock.specs.declared.event.Event.{Event}
use Rattle.chw_clock.specs.declared.event.Port.{Port}
use Rattle.chw_clock.specs.declared.event.Ports.{Ports}
use Rattle.net_rules.specs.PortsHold.{PortsHold}
use Rattle.netlist.specs.NetValue.{NetValue}
use Rattle.netlist.specs.NetValue.NetValue.{input}
use Rattle.netlist.specs.Orders.{HasNoLoop}
use Rattle.netlist.specs.Sound.{IsWireWidth, Sound}
use Rattle.netlist.specs.declared.net.Flat.{Flat}
use Rattle.netlist.proofs.Lengths.{value_width}
use Rattle.netlist.proofs.OneValue.{one_value}
use Rattle.netlist.proofs.Places.{all_at}
use Rattle.share_laws.specs.Same.{IsKnown, IsOpen, Same}
use Rattle.share_laws.specs.Same.Same.{turned}
use Rattle.share_laws.proofs.Values.{item_at, known_value, one_of_same}

-- so many times the same bit
abbrev word : Bool → ℕ → List Bool
word bit zero = []
word bit (suc n) = bit ∷ word bit n

word_length : (bit : Bool) (n : ℕ) → length (word bit n) ≡ n
word_length bit zero = refl
word_length bit (suc n) = ap suc (word_length bit n)

words_differ : (n m : ℕ) → 1 ≤ length (word true n) → word true n ≡ word false m → ⊥
words_differ zero m l e = absurd (omega (arith, l))
words_differ (suc n) zero l e = absurd (cc)
words_differ (suc n) (suc m) l e = absurd (let bit : true ≡ false = cc in cc)

-- words of these ports: that of each has the bit of its place
abbrev filled : (ℕ → Bool) → List Port → List (List Bool)
filled bit [] = []
filled bit (port ∷ ports) = word (bit zero) port.width ∷ filled (λ k. bit (suc k)) ports

filled_widths : (bit : ℕ → Bool) (ports : List Port) → HaveWidths ports (filled bit ports)
filled_widths bit [] = tt
filled_widths bit (port ∷ ports) = (word_length (bit zero) port.width, filled_widths (λ k. bit (suc k)) ports)

filled_at : (bit : ℕ → Bool) (ports : List Port) (k : ℕ) (port : Port) → slice_get ports k ≡ Some port
    → slice_get (filled bit ports) k ≡ Some (word (bit k) port.width)
filled_at bit [] k port e = absurd (cc)
filled_at bit (x ∷ ports) zero port e =
    let is : x ≡ port = cc in ap (λ (p : Port). Some (word (bit zero) p.width)) is
filled_at bit (x ∷ ports) (suc k) port e = filled_at (λ k. bit (suc k)) ports k port e

-- an event in which these words come in
abbrev event_of : (ℕ → Bool) → Ports → Event
event_of bit ports = record {
  ticks = record { number = 0 } ∷ [];
  resets = [];
  inputs = filled bit ports.inputs;
}

abbrev history_of : (ℕ → Bool) → Ports → List Event
history_of bit ports = event_of bit ports ∷ []

event_fits : (bit : ℕ → Bool) (ports : Ports) → PortsHold ports → FitsPorts ports (history_of bit ports)
event_fits bit ports hold =
    let event : FitsEvent ports (event_of bit ports) = record {
      some_tick = omega arith;
      known = (omega (arith, hold.domains.some), tt);
      resets = tt;
      inputs = filled_widths bit ports.inputs;
    } in (event, tt)

module _ (flat : Flat) (sound : Sound flat) (no_loop : HasNoLoop flat) (hold : PortsHold flat.ports) where
  module _ (v : ℕ) (l : v < length flat.ports.inputs) where
    port_there : (port : Port) × (slice_get flat.ports.inputs v ≡ Some port)
    port_there = item_at flat.ports.inputs v l

    input_value : (bit : ℕ → Bool) → NetValue flat (history_of bit flat.ports) v (word (bit v) port_there.0.width)
    input_value bit =
        input v (event_of bit flat.ports) [] (word (bit v) port_there.0.width) l (filled_at bit flat.ports.inputs v port_there.0 port_there.1)

    some_bits : 1 ≤ length (word true port_there.0.width)
    some_bits =
        let wide = value_width flat sound (history_of (λ k. true) flat.ports) v (word true port_there.0.width) (event_fits (λ k. true) flat.ports hold)
        (input_value (λ k. true)) in
        (all_at IsWireWidth flat.widths v (length (word true port_there.0.width)) sound.widths wide).0

  known_word : (v : ℕ) (l : v < length flat.ports.inputs) (bits : List Bool) → IsKnown flat v bits → (b : Bool)
      → bits ≡ word b (port_there v l).0.width
  known_word v l bits k b =
      one_value flat sound (history_of (λ k. b) flat.ports) v bits (word b (port_there v l).0.width)
      (known_value flat sound no_loop v bits k (history_of (λ k. b) flat.ports) (event_fits (λ k. b) flat.ports hold))
      (input_value v l (λ k. b))

  -- no bits of an input are known
  pub input_open : (v : ℕ) → v < length flat.ports.inputs → IsOpen flat v
  input_open v l bits k =
      words_differ (port_there v l).0.width (port_there v l).0.width (some_bits v l)
      (sym (known_word v l bits k true) ∙ known_word v l bits k false)

  -- an input and one after it may have other bits
  less_apart : (v w : ℕ) → v < w → v < length flat.ports.inputs → w < length flat.ports.inputs → Same flat v w → ⊥
  less_apart v w less l m s =
      let same =
      one_of_same flat sound no_loop (history_of (λ k. nat_lt k w) flat.ports) v w (word (nat_lt v w) (port_there v l).0.width)
      (word (nat_lt w w) (port_there w m).0.width) (event_fits (λ k. nat_lt k w) flat.ports hold) s (input_value v l (λ k. nat_lt k w))
      (input_value w m (λ k. nat_lt k w)) in
      words_differ (port_there v l).0.width (port_there w m).0.width (some_bits v l)
      (ap (λ b. word b (port_there v l).0.width) (sym (lt-ltb v w less)) ∙ same
      ∙ ap (λ b. word b (port_there w m).0.width) (le-ltb w w (omega arith)))

  -- so no two inputs are equal
  pub inputs_apart : (v w : ℕ) → v < length flat.ports.inputs → w < length flat.ports.inputs → Same flat v w → v ≡ w
  inputs_apart v w l m s = from (cases_lt v w) (cases_lt w v)
    where
      from : (v < w) ⊎ (w ≤ v) → (w < v) ⊎ (v ≤ w) → v ≡ w
      from (inl less) o = absurd (less_apart v w less l m s)
      from (inr le) (inl less) = absurd (less_apart w v less m l (turned v w s))
      from (inr le) (inr ge) = omega (arith, le, ge)
