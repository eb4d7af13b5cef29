-- The refusals of programs and of texts, by their faults.
use Rattle.chw_cli.specs.declared.refusal.Refusal.{Refusal}
use Rattle.chw_cli.specs.declared.refusal.Refusal.TheVariants.{DeepBody, FullTable, Spent, State}
use Rattle.chw_cli.specs.declared.refusal.Refusal.TheVariants.{Loop, TooLarge}
use Rattle.chw_cli.specs.declared.refusal.Refusal.TheVariants.{Stimulus, Value, Verilog}
use Rattle.chw_norm.specs.declared.running.RunFault.{RunFault}
use Rattle.chw_norm.specs.declared.running.RunFault.TheVariants as run
use Rattle.chw_terms.specs.declared.program.Program.{Program}
use Rattle.answers.specs.declared.compiled.fault.CompileFault.{CompileFault}
use Rattle.answers.specs.declared.compiled.fault.CompileFault.TheVariants as compile
use Rattle.judge.specs.Lines.{state_line}
use Rattle.run_answer.specs.declared.fault.CircuitFault.{CircuitFault}
use Rattle.run_answer.specs.declared.fault.CircuitFault.TheVariants as circuit
use Rattle.answers.specs.declared.sim_answer.fault.SimFault.{SimFault}
use Rattle.answers.specs.declared.sim_answer.fault.SimFault.TheVariants as sim

-- the refusal of a run of rewriting
abbrev pub refusal_of_run : RunFault → Refusal
refusal_of_run run.Depth = DeepBody
refusal_of_run run.Full = FullTable
refusal_of_run (run.Spent steps) = Spent steps

-- the refusal of a program that can't be compiled
abbrev pub refusal_of_compile : Program → CompileFault → Refusal
refusal_of_compile p (compile.Run fault) = refusal_of_run fault
refusal_of_compile p (compile.State fault) = State (state_line p fault)
refusal_of_compile p compile.TooLarge = TooLarge
refusal_of_compile p (compile.Loop cycle) = Loop cycle

-- the refusal of a stimulus for a program
abbrev pub refusal_of_sim : SimFault → Refusal
refusal_of_sim (sim.Stimulus fault) = Stimulus fault
refusal_of_sim (sim.Value line) = Value line

-- the refusal of a Verilog text that can't be run
abbrev pub refusal_of : CircuitFault → Refusal
refusal_of (circuit.Text fault) = Verilog fault
refusal_of circuit.TooLarge = TooLarge
refusal_of (circuit.Loop cycle) = Loop cycle
