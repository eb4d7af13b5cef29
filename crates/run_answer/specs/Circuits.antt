-- Which Verilog texts can be run, why a text can't, and what a run prints.
use Rattle.std.specs.Prelude.{◌≡◌, ℕ, ◌+◌, ◌<◌, ◌≤◌, List, length}
use Rattle.chw_base.specs.declared.index.WireId.{WireId}
use Rattle.chw_base.specs.declared.limits.TheConstants.{FLAT_WIRES}
use Rattle.chw_clock.specs.declared.event.Event.{Event}
use Rattle.net_flat.specs.Flattened.{IsFlatOf, widths_in}
use Rattle.net_run.specs.Runs.{IsRun}
use Rattle.netlist.specs.Orders.{HasNoLoop, IsLoop, IsOrder}
use Rattle.netlist.specs.Sound.{Sound}
use Rattle.netlist.specs.declared.net.Flat.{Flat}
use Rattle.netlist.specs.declared.net.Net.{Net}
use Rattle.run_answer.specs.declared.circuit.Circuit.{Circuit}
use Rattle.run_answer.specs.declared.fault.CircuitFault.{CircuitFault}
use Rattle.run_answer.specs.declared.fault.CircuitFault.TheVariants.{Text, TooLarge, Loop}
use Rattle.stimulus.specs.Stimulus.{Stim}
use Rattle.verilog_rules.specs.Faults.{IsVFault}
use Rattle.verilog_rules.specs.declared.fault.VFault.{VFault}
use Rattle.verilog_text.specs.VText.{VText}

-- the text denotes a net, and this is the flat net of it
pub record HasFlat (text : List ℕ) (flat : Flat) : Type 0 where
  pub net : Net
  pub denotes : VText text net
  pub «is» : IsFlatOf net flat

-- the flat net has no more wires than the limit
abbrev pub HasFewWires : Flat → Type 0
HasFewWires flat = length flat.widths ≤ FLAT_WIRES

-- the flat net of the net would have more
abbrev pub HasManyWires : Net → Type 0
HasManyWires net =
    (top : ℕ) × (top + 1 ≡ length net.modules) × (FLAT_WIRES < length (widths_in net top))

-- the text can be run: this is its flat net, with no more wires than the limit, and without a loop
pub record CanRun (text : List ℕ) (flat : Flat) : Type 0 where
  pub has : HasFlat text flat
  pub few : HasFewWires flat
  pub no_loop : HasNoLoop flat

-- why a text can't be run: the rule that it breaks, else its size, else a loop
pub data IsCircuitFault (text : List ℕ) : CircuitFault → Type 0 where
  broken : (fault : VFault) → IsVFault text fault → IsCircuitFault text (Text fault)
  too_large : (net : Net) → VText text net → HasManyWires net → IsCircuitFault text TooLarge
  loops : (flat : Flat) (cycle : List WireId) → HasFlat text flat → HasFewWires flat
      → IsLoop flat cycle → IsCircuitFault text (Loop cycle)

-- the circuit can be stepped: its flat net is sound, and the order is one of its cells
pub record CanStep (circuit : Circuit) : Type 0 where
  pub sound : Sound circuit.flat
  pub order : IsOrder circuit.flat circuit.order.cells

-- the circuit is that of a text which can be run
pub record IsCircuitOf (text : List ℕ) (circuit : Circuit) : Type 0 where
  pub runs : CanRun text circuit.flat
  pub steps : CanStep circuit

-- the flat net, run by the stimulus that the text is for its ports, gives these lines
pub record IsRunBy (flat : Flat) (text lines : List ℕ) : Type 0 where
  pub events : List Event
  pub read : Stim text flat.ports events
  pub run : IsRun flat events lines
