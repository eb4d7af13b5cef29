-- What a program is compiled to, and why it can't be.
use Rattle.std.specs.Prelude.{◌≡◌, ℕ, ◌+◌, ◌<◌, ◌≤◌, List, length, Ok, Err}
use Rattle.chw_base.specs.declared.index.WireId.{WireId}
use Rattle.chw_base.specs.declared.limits.TheConstants.{FLAT_WIRES}
use Rattle.chw_base.specs.declared.outcome.Or.TheVariants as outcome
use Rattle.chw_terms.specs.declared.program.Program.{Program}
use Rattle.chw_terms.specs.declared.scene.Made.{Made}
use Rattle.rewriting.specs.Runs.{Step}
use Rattle.chw_norm.specs.Rules.{built}
use Rattle.chw_norm.specs.Running.{Ends}
use Rattle.chw_norm.specs.declared.running.RunFault.{RunFault}
use Rattle.judge.specs.States.{IsBlockedNowhere, IsFinished, RefusesState}
use Rattle.judge.specs.declared.states.StateFault.{StateFault}
use Rattle.net_built.specs.Built.{Built}
use Rattle.net_rules.specs.WellFormed.{WellFormed}
use Rattle.net_means.specs.Outputs.{NetMeans}
use Rattle.net_flat.specs.Flattened.{IsFlatOf, widths_in}
use Rattle.netlist.specs.Orders.{HasNoLoop, IsLoop, IsOrder}
use Rattle.netlist.specs.Sound.{Sound}
use Rattle.netlist.specs.declared.net.Flat.{Flat}
use Rattle.netlist.specs.declared.net.Net.{Net}
use Rattle.normal_forms.specs.Uses.{IsAcyclic}
use Rattle.answers.specs.declared.compiled.compiling.Compiled.{Compiled}
use Rattle.answers.specs.declared.compiled.fault.CompileFault.{CompileFault}
use Rattle.answers.specs.declared.compiled.fault.CompileFault.TheVariants.{Run, State}
use Rattle.answers.specs.declared.compiled.fault.CompileFault.TheVariants.{TooLarge, Loop}

-- a run of so many steps at most ends in this state, in which no step is left
pub record EndsIn (p : Program) (budget : ℕ) (state : List Made) : Type 0 where
  pub steps : List Step
  pub within : length steps ≤ budget
  pub ends : Ends built p budget steps (Ok state)

-- a run of so many steps, within the budget, ends in this state
pub record HasSteps (p : Program) (budget steps : ℕ) (state : List Made) : Type 0 where
  pub run : EndsIn p budget state
  pub as_many : length run.steps ≡ steps

-- a run of so many steps, within the budget, ends in a state of so many made definitions
pub record HasCounts (p : Program) (budget steps definitions : ℕ) : Type 0 where
  pub state : List Made
  pub has_steps : HasSteps p budget steps state
  pub as_many : length state ≡ definitions

-- it ends in a state that is normal and acyclic, of which this net is built
pub record HasNet (p : Program) (budget : ℕ) (net : Net) : Type 0 where
  pub state : List Made
  pub run : EndsIn p budget state
  pub finished : IsFinished p state
  pub «is» : Built p state net

-- the flat net has no more wires than the limit
abbrev pub HasFewWires : Flat → Type 0
HasFewWires flat = length flat.widths ≤ FLAT_WIRES

-- the flat net of the net would have more
abbrev pub HasManyWires : Net → Type 0
HasManyWires net =
    (top : ℕ) × (top + 1 ≡ length net.modules) × (FLAT_WIRES < length (widths_in net top))

-- the net has this flat net, which has no more wires than the limit and no loop
pub record HasCircuit (net : Net) (flat : Flat) : Type 0 where
  pub «is» : IsFlatOf net flat
  pub few : HasFewWires flat
  pub no_loop : HasNoLoop flat

-- the program is compiled to this net and this flat net of it
pub record CompilesTo (p : Program) (budget : ℕ) (net : Net) (flat : Flat) : Type 0 where
  pub net_is : HasNet p budget net
  pub circuit : HasCircuit net flat

-- no net that is built of the state has a flat net with more wires than the limit, or with a loop
pub record IsSmall (p : Program) (state : List Made) : Type 0 where
  pub few : (net : Net) → Built p state net → HasManyWires net → ⊥
  pub no_loop : (net : Net) (flat : Flat) → Built p state net → IsFlatOf net flat → HasNoLoop flat

-- a run of so many steps at most ends in a state that is blocked nowhere, acyclic and small; that
-- there is a net of it follows
pub record EndsSmall (p : Program) (budget : ℕ) : Type 0 where
  pub state : List Made
  pub run : EndsIn p budget state
  pub free : IsBlockedNowhere p state
  pub acyclic : IsAcyclic state
  pub small : IsSmall p state

-- why a net has none: its size, or a loop
pub data IsNetFault (net : Net) : CompileFault → Type 0 where
  too_large : HasManyWires net → IsNetFault net TooLarge
  loops : (flat : Flat) (cycle : List WireId) → IsFlatOf net flat → HasFewWires flat
      → IsLoop flat cycle → IsNetFault net (Loop cycle)

-- why a program can't be compiled: why the run is refused; or the state in which it ends; or the
-- net that is built of that state
pub data IsCompileFault (p : Program) (budget : ℕ) : CompileFault → Type 0 where
  not_normalised : (steps : List Step) (fault : RunFault) → length steps ≤ budget
      → Ends built p budget steps (Err (outcome.Fault fault)) → IsCompileFault p budget (Run fault)
  not_finished : (state : List Made) (fault : StateFault) → EndsIn p budget state
      → RefusesState p state fault → IsCompileFault p budget (State fault)
  no_circuit : (net : Net) (fault : CompileFault) → HasNet p budget net → IsNetFault net fault
      → IsCompileFault p budget fault

-- the circuit of the net: its flat net, which is sound, and an order of the cells
pub record IsCircuitOf (net : Net) (made : Compiled) : Type 0 where
  pub same : made.net ≡ net
  pub circuit : HasCircuit net made.flat
  pub sound : Sound made.flat
  pub order : IsOrder made.flat made.order.cells

-- what the program is compiled to: a well formed net, and a flat net of it whose outputs have at
-- each history the bits of what the program means; and the counts of the run that leads there
pub record IsCompiled (p : Program) (budget : ℕ) (made : Compiled) : Type 0 where
  pub counts : HasCounts p budget made.steps made.definitions
  pub compiles : CompilesTo p budget made.net made.flat
  pub well_formed : WellFormed made.net
  pub means : NetMeans p made.flat
  pub sound : Sound made.flat
  pub order : IsOrder made.flat made.order.cells
