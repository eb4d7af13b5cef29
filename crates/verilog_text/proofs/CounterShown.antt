-- The counter is well formed, and its printed text is as it stands in the example.
use Rattle.std.proofs.Common.{◌≡◌, ℕ, zero, suc, ◌+◌, ◌<◌, ◌≤◌, Bool, true, false, eqb, List, [], ◌∷◌, Some, sym, refl, ap, ◌∙◌, subst, arith}
use Rattle.std.specs.Prelude.{codes, slice_get}
use Rattle.std.specs.Fmt.{digits}
use Rattle.std.proofs.lemmas.Bool.{eqb-false, eqb-true}
use Rattle.std.proofs.lemmas.Option.{same_Some}
use Rattle.chw_base.specs.declared.index.WireId.{WireId}
use Rattle.chw_bits.specs.Bits.{bits_of}
use Rattle.chw_clock.specs.declared.event.Port.{Port}
use Rattle.net_rules.specs.PortsHold.{PortsHold}
use Rattle.net_rules.specs.WellFormed.{EachRuleHolds, Holds, NamesHold, WellFormed, WidthsHold, wire_driven_at}
use Rattle.net_rules.specs.declared.well_formed.NetCode.{NetCode}
use Rattle.net_rules.specs.declared.well_formed.NetCode.TheVariants.{Driver, Limit, Name, Width}
use Rattle.netlist.specs.Sound.{EachOnce}
use Rattle.netlist.specs.declared.net.Cell.TheVariants.{Bin, Const, Reg, Use}
use Rattle.netlist.specs.declared.net.Module.{Module}
use Rattle.netlist.specs.declared.net.Net.{Net}
use Rattle.netlist.specs.declared.net.Op2.TheVariants.{Add}
use Rattle.verilog_text.specs.Examples.{CounterText, counter, counter_text, dom, port, wire}
use Rattle.verilog_text.specs.Text.{net_text}
use Rattle.verilog_text.specs.VText.{AreCounted, VText}

abbrev adder : Module
adder = record {
  inputs = 1;
  widths = 8 ∷ 8 ∷ 8 ∷ [];
  outputs = wire 2 ∷ [];
  cells = Const (wire 1) (bits_of 8 1) ∷ Bin (wire 2) Add (wire 0) (wire 1) ∷ [];
}

abbrev top : Module
top = record {
  inputs = 0;
  widths = 8 ∷ 8 ∷ [];
  outputs = wire 1 ∷ [];
  cells = Use (record { number = 0 }) (wire 1 ∷ []) (wire 0 ∷ []) ∷ Reg (wire 1) (dom 0) (bits_of 8 0) (wire 0) ∷ [];
}

-- two wires behind the inputs, in order
rising_two : (n : ℕ) → EachOnce n (n + 2) (wire_driven_at (wire n ∷ wire (n + 1) ∷ []))
rising_two n = record { free = free; driven = driven; once = once }
  where
    free : (place w : ℕ) → wire_driven_at (wire n ∷ wire (n + 1) ∷ []) place ≡ Some w → n ≤ w
    free zero w is = omega (arith, same_Some n w is)
    free (suc zero) w is = omega (arith, same_Some (n + 1) w is)
    free (suc (suc place)) w is = absurd (cc)

    driven : (w : ℕ) → n ≤ w → w < n + 2 → (place : ℕ) × (wire_driven_at (wire n ∷ wire (n + 1) ∷ []) place ≡ Some w)
    driven w from to = by_case (eqb n w) refl
      where
        by_case : (b : Bool) → eqb n w ≡ b → (place : ℕ) × (wire_driven_at (wire n ∷ wire (n + 1) ∷ []) place ≡ Some w)
        by_case true is = (0, ap Some (eqb-true n w is))
        by_case false is = let other = eqb-false n w is in let next : n + 1 ≡ w = omega arith in (1, ap Some next)

    once : (p q w : ℕ) → wire_driven_at (wire n ∷ wire (n + 1) ∷ []) p ≡ Some w → wire_driven_at (wire n ∷ wire (n + 1) ∷ []) q ≡ Some w → p ≡ q
    once zero zero w first second = refl
    once zero (suc zero) w first second = absurd (omega (arith, same_Some n w first, same_Some (n + 1) w second))
    once zero (suc (suc q)) w first second = absurd (cc)
    once (suc zero) zero w first second = absurd (omega (arith, same_Some (n + 1) w first, same_Some n w second))
    once (suc zero) (suc zero) w first second = refl
    once (suc zero) (suc (suc q)) w first second = absurd (cc)
    once (suc (suc p)) q w first second = absurd (cc)

adder_names : NamesHold counter 0 adder
adder_names = record {
  cells = (record { driven = (omega arith, tt); read = tt; part = tt }, (record { driven = (omega arith, tt); read = (omega arith, (omega arith, tt)); part = tt }, tt));
  outputs = (omega arith, tt);
  top = λ last. absurd (omega (arith, last));
}

adder_widths : WidthsHold counter 0 adder
adder_widths = record {
  cells = (refl, ((8, omega arith, refl, refl, refl), tt));
  top = λ last. absurd (omega (arith, last));
}

adder_rules : (code : NetCode) → Holds counter 0 adder code
adder_rules Name = adder_names
adder_rules Width = adder_widths
adder_rules Driver = record { inputs = omega arith; drivers = rising_two 1; outputs = λ later. omega arith }
adder_rules Limit = record {
  widths = ((omega arith, omega arith), ((omega arith, omega arith), ((omega arith, omega arith), tt)));
  words = (tt, (tt, tt));
  modules = λ first. omega arith;
}

rules_on_ports : PortsHold counter.ports
rules_on_ports = record {
  domains = record { some = omega arith; names = ((refl, (refl, (refl, tt))), tt); differ = (refl, tt); rise = tt };
  inputs = (tt, tt);
  outputs = (((omega arith, (refl, tt)), tt), (refl, tt));
}

top_names : NamesHold counter 1 top
top_names = record {
  cells = (
    record { driven = (omega arith, tt); read = (omega arith, tt); part = record { used = adder; found = refl; inputs = refl; outputs = refl } },
    (record { driven = (omega arith, tt); read = (omega arith, tt); part = omega arith }, tt),
  );
  outputs = (omega arith, tt);
  top = λ last. record { rules = rules_on_ports; inputs = refl; outputs = refl };
}

top_widths : WidthsHold counter 1 top
top_widths = record {
  cells = (record { inputs = reads; outputs = drives }, ((refl, refl), tt));
  top = λ last. record { inputs = λ k p width first second. absurd (cc); outputs = outputs };
}
  where
    reads : (k : ℕ) (w : WireId) (width : ℕ) → slice_get (wire 1 ∷ []) k ≡ Some w → slice_get adder.widths k ≡ Some width → slice_get top.widths w.number ≡ Some width
    reads zero w width first second = ap (λ (v : WireId). slice_get top.widths v.number) (sym (same_Some (wire 1) w first)) ∙ second
    reads (suc k) w width first second = absurd (cc)

    drives : (k : ℕ) (w output : WireId) → slice_get (wire 0 ∷ []) k ≡ Some w → slice_get (wire 2 ∷ []) k ≡ Some output → slice_get top.widths w.number ≡ slice_get adder.widths output.number
    drives zero w output first second =
        ap (λ (v : WireId). slice_get top.widths v.number) (sym (same_Some (wire 0) w first)) ∙ ap (λ (v : WireId). slice_get adder.widths v.number) (same_Some (wire 2) output second)
    drives (suc k) w output first second = absurd (cc)

    outputs : (k : ℕ) (p : Port) (w : WireId) → slice_get (port (codes "o") ∷ []) k ≡ Some p → slice_get (wire 1 ∷ []) k ≡ Some w → slice_get top.widths w.number ≡ Some p.width
    outputs zero p w first second =
        ap (λ (v : WireId). slice_get top.widths v.number) (sym (same_Some (wire 1) w second)) ∙ ap (λ (q : Port). Some q.width) (same_Some (port (codes "o")) p first)
    outputs (suc k) p w first second = absurd (cc)

top_rules : (code : NetCode) → Holds counter 1 top code
top_rules Name = top_names
top_rules Width = top_widths
top_rules Driver = record { inputs = omega arith; drivers = rising_two 0; outputs = λ later. absurd (omega (arith, later)) }
top_rules Limit = record {
  widths = ((omega arith, omega arith), ((omega arith, omega arith), tt));
  words = (tt, (tt, tt));
  modules = λ first. absurd (omega (arith, first));
}

counter_well_formed : WellFormed counter
counter_well_formed = record { some = omega arith; rules = at }
  where
    at : (i : ℕ) (m : Module) → slice_get (adder ∷ top ∷ []) i ≡ Some m → EachRuleHolds counter i m
    at zero m found = subst (EachRuleHolds counter 0) (same_Some adder m found) adder_rules
    at (suc zero) m found = subst (EachRuleHolds counter 1) (same_Some top m found) top_rules
    at (suc (suc i)) m found = absurd (cc)

counter_counted : AreCounted counter
counter_counted = (
  record { wires = omega arith; cells = omega arith; outputs = omega arith },
  (record { wires = omega arith; cells = omega arith; outputs = omega arith }, tt),
)

counter_printed : net_text counter ≡ counter_text
unfolding digits
counter_printed = refl

pub counter_denoted : ((net : Net) → WellFormed net → AreCounted net → VText (net_text net) net) → CounterText
counter_denoted law = subst (λ (t : List ℕ). VText t counter) counter_printed (law counter counter_well_formed counter_counted)
