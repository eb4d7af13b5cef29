-- A text has one flat net, and a flat net one run.
use Rattle.std.proofs.Common.{◌≡◌, ℕ, ◌<◌, ◌≤◌, Bool, List, ◌∷◌, length, refl, ap, ap₂, sym, subst, ◌∙◌, arith}
use Rattle.chw_base.specs.declared.limits.TheConstants.{FLAT_WIRES}
use Rattle.chw_base.specs.declared.index.WireId.{WireId}
use Rattle.chw_clock.specs.declared.event.Event.{Event}
use Rattle.chw_clock.specs.declared.event.Ports.{Ports}
use Rattle.net_flat.specs.Flattened.{IsFlatOf, widths_in}
use Rattle.net_run.specs.Runs.{IsRun, OutputsAt}
use Rattle.net_run.specs.Runs.OutputsAt.{none, more}
use Rattle.netlist.specs.NetValue.{NetValue, ReadValues}
use Rattle.netlist.specs.NetValue.ReadValues.{read_none, read_and}
use Rattle.netlist.specs.Orders.{IsLoop}
use Rattle.netlist.specs.Sound.{Sound}
use Rattle.netlist.specs.declared.net.Flat.{Flat}
use Rattle.netlist.specs.declared.net.Net.{Net}
use Rattle.run_answer.specs.Circuits.{CanRun, HasFlat, HasManyWires, IsCircuitFault, IsRunBy}
use Rattle.run_answer.specs.Circuits.IsCircuitFault.{broken, loops, too_large}
use Rattle.run_answer.specs.declared.fault.CircuitFault.{CircuitFault}
use Rattle.stimulus.specs.Output.{Lines}
use Rattle.stimulus.specs.Stimulus.{IsStimFault, Stim}
use Rattle.stimulus.specs.declared.fault.StimFault.{StimFault}
use Rattle.verilog_rules.specs.Faults.{IsVFault}
use Rattle.verilog_rules.specs.declared.fault.VFault.{VFault}
use Rattle.verilog_text.specs.VText.{VText}

-- a text denotes at most one net, which has at most one flat net; a text that denotes one has no fault
abbrev pub OneNet : Type 0
OneNet = (text : List ℕ) (a b : Net) → VText text a → VText text b → a ≡ b

abbrev pub OneFlat : Type 0
OneFlat = (net : Net) (a b : Flat) → IsFlatOf net a → IsFlatOf net b → a ≡ b

abbrev pub NoFault : Type 0
NoFault = (text : List ℕ) (net : Net) (fault : VFault) → VText text net → IsVFault text fault → ⊥

pub same_flat : OneNet → OneFlat → (text : List ℕ) (a b : Flat) → HasFlat text a → HasFlat text b → a ≡ b
same_flat once one text a b h k =
    one k.net a b (subst (λ n. IsFlatOf n a) (once text h.net k.net h.denotes k.denotes) h.is) k.is

-- a flat net with few wires is that of no net with many
few_or_many : (net : Net) (flat : Flat) → IsFlatOf net flat → length flat.widths ≤ FLAT_WIRES → HasManyWires net → ⊥
few_or_many net flat is few (top, last, many) =
    let its_last = is.top.last in
    let same : top ≡ is.place = omega (arith, last, its_last) in
    let over : FLAT_WIRES < length (widths_in net is.place) = subst (λ i. FLAT_WIRES < length (widths_in net i)) same many in
    let wires = ap length is.widths in
    absurd (omega (arith, over, wires, few))

pub no_circuit_fault : OneNet → OneFlat → NoFault → (text : List ℕ) (flat : Flat) (fault : CircuitFault) → CanRun text flat → IsCircuitFault text fault → ⊥
no_circuit_fault once one never text flat _ r (broken fault f) = never text r.has.net fault r.has.denotes f
no_circuit_fault once one never text flat _ r (too_large net d many) =
    few_or_many r.has.net flat r.has.is r.few (subst HasManyWires (once text net r.has.net d r.has.denotes) many)
no_circuit_fault once one never text flat _ r (loops other cycle h few l) =
    r.no_loop cycle (subst (λ f. IsLoop f cycle) (same_flat once one text other flat h r.has) l)

abbrev pub NoStimFault : Type 0
NoStimFault = (text : List ℕ) (ports : Ports) (events : List Event) (fault : StimFault) → Stim text ports events → IsStimFault text ports fault → ⊥

pub no_stimulus_fault : OneNet → OneFlat → NoStimFault → (text stimulus : List ℕ) (flat other : Flat) (events : List Event) (fault : StimFault)
    → CanRun text flat → Stim stimulus flat.ports events → HasFlat text other → IsStimFault stimulus other.ports fault → ⊥
no_stimulus_fault once one never text stimulus flat other events fault r s h f =
    never stimulus flat.ports events fault s
    (subst (λ (g : Flat). IsStimFault stimulus g.ports fault) (same_flat once one text other flat h r.has) f)

-- ---- one run

abbrev pub OneValue : Type 0
OneValue = (flat : Flat) (h : List Event) (w : ℕ) (a b : List Bool) → Sound flat → NetValue flat h w a → NetValue flat h w b → a ≡ b

abbrev pub OneStimulus : Type 0
OneStimulus = (text : List ℕ) (ports : Ports) (a b : List Event) → Stim text ports a → Stim text ports b → a ≡ b

module _ (one : OneValue) (flat : Flat) (sound : Sound flat) where
  same_values : (h : List Event) (wires : List WireId) (a b : List (List Bool)) → ReadValues flat h wires a → ReadValues flat h wires b → a ≡ b
  same_values h _ _ _ (read_none _) (read_none _) = refl
  same_values h _ _ _ (read_and _ w wires bits values v vs) (read_and _ _ _ others more_values v' vs') =
      ap₂ (λ x xs. x ∷ xs) (one flat h w.number bits others sound v v') (same_values h wires values more_values vs vs')

  same_outputs : (past events : List Event) (a b : List (List (List Bool))) → OutputsAt flat past events a → OutputsAt flat past events b → a ≡ b
  same_outputs past _ _ _ (none _) (none _) = refl
  same_outputs past _ _ _ (more _ events event outputs others r rest) (more _ _ _ outputs' others' r' rest') =
      ap₂ (λ x xs. x ∷ xs) (same_values (event ∷ past) flat.outputs outputs outputs' r r')
      (same_outputs (event ∷ past) events others others' rest rest')

  same_lines : (events : List Event) (a b : List ℕ) → IsRun flat events a → IsRun flat events b → a ≡ b
  same_lines events a b r s =
      r.text_is ∙ ap (λ os. Lines flat.ports events os) (same_outputs _ events r.outputs s.outputs r.shown s.shown) ∙ sym s.text_is

  pub same_run : OneStimulus → (text a b : List ℕ) → IsRunBy flat text a → IsRunBy flat text b → a ≡ b
  same_run once text a b r s =
      let same = once text flat.ports r.events s.events r.read s.read in
      same_lines s.events a b (subst (λ es. IsRun flat es a) same r.run) s.run
