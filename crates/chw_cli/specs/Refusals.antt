-- How the refusals of other crates become refusals of the program, and why a description is
-- refused.
use Rattle.std.specs.Prelude.{◌≡◌, ℕ, List, [], Err, ◌⊎◌}
use Rattle.bit_blast.specs.declared.limit.TooMany.{TooMany}
use Rattle.chw_base.specs.declared.outcome.Or.{Or}
use Rattle.chw_base.specs.declared.outcome.Or.TheVariants.{Memory, Fault}
use Rattle.chw_cli.specs.Answer.{CompileAnswer, EmitAnswer, NormaliseAnswer}
use Rattle.chw_cli.specs.Descriptions.{IsWrongText, NoDescription}
use Rattle.chw_cli.specs.Faults.{refusal_of, refusal_of_compile, refusal_of_run, refusal_of_sim}
use Rattle.chw_cli.specs.Making.{MadeAnswer, TallyAnswer}
use Rattle.chw_cli.specs.declared.refusal.Refusal.{Refusal}
use Rattle.chw_cli.specs.declared.refusal.Refusal.TheVariants as refusal
use Rattle.chw_check.specs.declared.fault.TypeFault.{TypeFault}
use Rattle.chw_lexer.specs.declared.token.LexFault.{LexFault}
use Rattle.chw_parser.specs.declared.parsing.ParseFault.{ParseFault}
use Rattle.chw_parser.specs.declared.parsing.ParseFault.TheVariants.{Syntax, Depth}
use Rattle.chw_grammar.specs.declared.program.Tree.{Tree}
use Rattle.chw_norm.specs.declared.running.RunFault.{RunFault}
use Rattle.chw_resolve.specs.declared.fault.NameFault.{NameFault}
use Rattle.chw_words.specs.declared.command.EmitForm.{EmitForm}
use Rattle.chw_words.specs.declared.command.WordsFault.{WordsFault}
use Rattle.answers.specs.Compilation.Compiling.{IsCompileFault}
use Rattle.answers.specs.declared.compiled.fault.CompileFault.{CompileFault}
use Rattle.chw_terms.specs.declared.program.Program.{Program}
use Rattle.chw_terms.specs.declared.scene.Made.{Made}
use Rattle.judge.specs.Lines.{state_line}
use Rattle.judge.specs.States.{RefusesState}
use Rattle.judge.specs.declared.states.StateFault.{StateFault}
use Rattle.netlist.specs.declared.net.Flat.{Flat}
use Rattle.run_answer.specs.Circuits.{IsCircuitFault}
use Rattle.run_answer.specs.declared.fault.CircuitFault.{CircuitFault}
use Rattle.answers.specs.SimAnswer.Simulation.{IsSimFault}
use Rattle.answers.specs.declared.sim_answer.fault.SimFault.{SimFault}
use Rattle.stimulus.specs.Stimulus.{IsStimFault}
use Rattle.stimulus.specs.declared.fault.StimFault.{StimFault}

abbrev pub of_words_fault : Or WordsFault → Refusal
of_words_fault Memory = refusal.Memory
of_words_fault (Fault f) = refusal.Words

abbrev pub of_lex_fault : Or LexFault → Refusal
of_lex_fault Memory = refusal.Memory
of_lex_fault (Fault f) = refusal.Lex f.at

abbrev pub of_parse_fault : Or ParseFault → Refusal
of_parse_fault Memory = refusal.Memory
of_parse_fault (Fault (Syntax at)) = refusal.Syntax at
of_parse_fault (Fault (Depth at)) = refusal.Depth

abbrev pub of_name_fault : Or NameFault → Refusal
of_name_fault Memory = refusal.Memory
of_name_fault (Fault f) = refusal.Names f

abbrev pub of_type_fault : Or TypeFault → Refusal
of_type_fault Memory = refusal.Memory
of_type_fault (Fault f) = refusal.Types f

abbrev pub of_run_fault : Or RunFault → Refusal
of_run_fault Memory = refusal.Memory
of_run_fault (Fault f) = refusal_of_run f

abbrev pub of_circuit_fault : Or CircuitFault → Refusal
of_circuit_fault Memory = refusal.Memory
of_circuit_fault (Fault f) = refusal_of f

abbrev pub of_stim_fault : Or StimFault → Refusal
of_stim_fault Memory = refusal.Memory
of_stim_fault (Fault f) = refusal.Stimulus f

abbrev pub of_sim_fault : Or SimFault → Refusal
of_sim_fault Memory = refusal.Memory
of_sim_fault (Fault f) = refusal_of_sim f

abbrev pub of_bits_fault : Or TooMany → Refusal
of_bits_fault Memory = refusal.Memory
of_bits_fault (Fault f) = refusal.Bits

-- the refusal of a program that can't be compiled: its own, or want of memory
abbrev pub IsCompileRefusal : Program → CompileFault → Refusal → Type 0
IsCompileRefusal p fault r = (r ≡ refusal.Memory) ⊎ (r ≡ refusal_of_compile p fault)

-- why a program isn't compiled: want of memory, or what is wrong with it
abbrev pub RefusesCompile : Program → ℕ → Refusal → Type 0
RefusesCompile p budget r =
    (r ≡ refusal.Memory)
    ⊎ ((fault : CompileFault) × IsCompileFault p budget fault × (r ≡ refusal_of_compile p fault))

-- why a program has no text of a net: want of memory, or the refusal is the answer
abbrev pub RefusesNet : Program → ℕ → EmitForm → Refusal → Type 0
RefusesNet p budget form r = (r ≡ refusal.Memory) ⊎ CompileAnswer p budget form (Err r)

-- why a description isn't emitted: want of memory, or the refusal is the answer
abbrev pub RefusesEmit : Tree → ℕ → EmitForm → Refusal → Type 0
RefusesEmit tree budget form r = (r ≡ refusal.Memory) ⊎ EmitAnswer tree budget form (Err r)

-- the refusal of a state that is at fault: its line, or want of memory
abbrev pub IsRefusalOf : Program → StateFault → Refusal → Type 0
IsRefusalOf p fault r = (r ≡ refusal.Memory) ⊎ (r ≡ refusal.State (state_line p fault))

-- why the last state of a run is refused: want of memory, or what is wrong with it
abbrev pub RefusesLast : Program → List Made → Refusal → Type 0
RefusesLast p made r =
    (r ≡ refusal.Memory)
    ⊎ ((fault : StateFault) × RefusesState p made fault × (r ≡ refusal.State (state_line p fault)))

-- why a description isn't normalised: want of memory, or the refusal is the answer
abbrev pub RefusesNormalise : Tree → ℕ → Refusal → Type 0
RefusesNormalise tree budget r = (r ≡ refusal.Memory) ⊎ NormaliseAnswer tree budget (Err r)

-- why a text is no description: want of memory, or its fault
abbrev pub RefusesReading : List ℕ → Refusal → Type 0
RefusesReading text r = (r ≡ refusal.Memory) ⊎ NoDescription text r

-- why a text is no description that is typed: want of memory, or what is wrong
abbrev pub RefusesText : List ℕ → Refusal → Type 0
RefusesText text r = (r ≡ refusal.Memory) ⊎ IsWrongText text r

-- why a Verilog text isn't gone on with: want of memory, or why it can't be run
pub data RefusesVerilog (text : List ℕ) : Refusal → Type 0 where
  memory : RefusesVerilog text refusal.Memory
  no_circuit : (fault : CircuitFault) → IsCircuitFault text fault
      → RefusesVerilog text (refusal_of fault)

-- why a stimulus isn't taken for the ports of a flat net: want of memory, or its fault
pub data RefusesStimulus (flat : Flat) (text : List ℕ) : Refusal → Type 0 where
  memory : RefusesStimulus flat text refusal.Memory
  no_stimulus : (fault : StimFault) → IsStimFault text flat.ports fault
      → RefusesStimulus flat text (refusal.Stimulus fault)

-- why a stimulus isn't taken for a program: want of memory, or its fault
pub data RefusesSimulation (p : Program) (text : List ℕ) : Refusal → Type 0 where
  memory : RefusesSimulation p text refusal.Memory
  no_stimulus : (fault : SimFault) → IsSimFault p text fault
      → RefusesSimulation p text (refusal_of_sim fault)

-- why a program isn't tallied: want of memory, or the refusal is the answer
abbrev pub RefusesTally : Program → List ℕ → Refusal → Type 0
RefusesTally p stimulus r = (r ≡ refusal.Memory) ⊎ TallyAnswer p stimulus (Err r)

-- why a text and a stimulus that are made have no lines: want of memory, or the refusal is the
-- answer
abbrev pub RefusesMade : List ℕ → List ℕ → Refusal → Type 0
RefusesMade text stimulus r = (r ≡ refusal.Memory) ⊎ MadeAnswer text stimulus [] (Err r)
