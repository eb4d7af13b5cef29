-- What `make` answers. A text and a stimulus that it makes are taken as those of files are.
use Rattle.std.specs.Prelude.{ℕ, List, [], Result, Ok, Err}
use Rattle.chw_cli.specs.Descriptions.{HasProgram, IsTypedText, IsWrongText}
use Rattle.chw_cli.specs.Faults.{refusal_of_compile, refusal_of_sim}
use Rattle.chw_cli.specs.Reads.{Read}
use Rattle.chw_cli.specs.declared.refusal.Refusal.{Refusal}
use Rattle.chw_grammar.specs.declared.program.Tree.{Tree}
use Rattle.chw_terms.specs.declared.program.Program.{Program}
use Rattle.chw_words.specs.declared.budget.TheConstants.{MOST_BUDGET}
use Rattle.answers.specs.Compilation.Compiling.{CompilesTo, IsCompileFault}
use Rattle.answers.specs.declared.compiled.fault.CompileFault.{CompileFault}
use Rattle.answers.specs.MakeAnswer.Events.{make_stimulus}
use Rattle.answers.specs.MakeAnswer.Lines.{tally_lines}
use Rattle.answers.specs.MakeAnswer.Tally.{IsTally}
use Rattle.answers.specs.declared.make_answer.tally.Tally.{Tally}
use Rattle.make_text.specs.MakeText.{make_text}
use Rattle.netlist.specs.declared.net.Flat.{Flat}
use Rattle.netlist.specs.declared.net.Net.{Net}
use Rattle.answers.specs.SimAnswer.Simulation.{IsSimFault}
use Rattle.answers.specs.declared.sim_answer.fault.SimFault.{SimFault}

-- the answer to a program and a stimulus: why the program can't be compiled by so many steps as a
-- budget has at most; or, where it can, why the text is no stimulus of values for it; or, where it
-- is one, the lines of what is counted and summed up
pub data TallyAnswer (p : Program) (stimulus : List ℕ) : Result (List ℕ) Refusal → Type 0 where
  not_compiled : (fault : CompileFault) → IsCompileFault p MOST_BUDGET fault
      → TallyAnswer p stimulus (Err (refusal_of_compile p fault))
  no_stimulus : (net : Net) (flat : Flat) (fault : SimFault) → CompilesTo p MOST_BUDGET net flat
      → IsSimFault p stimulus fault → TallyAnswer p stimulus (Err (refusal_of_sim fault))
  tallied : (tally : Tally) → IsTally p MOST_BUDGET stimulus tally
      → TallyAnswer p stimulus (Ok (tally_lines tally))

-- the answer to a text and a stimulus: why the text is no description that is typed; or, where it
-- is one, the answer to its program
pub data MadeAnswer (text stimulus : List ℕ) : List Read → Result (List ℕ) Refusal → Type 0 where
  wrong_text : (r : Refusal) → IsWrongText text r → MadeAnswer text stimulus [] (Err r)
  typed : (tree : Tree) (p : Program) (answer : Result (List ℕ) Refusal) → IsTypedText text tree
      → HasProgram tree p → TallyAnswer p stimulus answer → MadeAnswer text stimulus [] answer

-- the answer of `make`: that to the text of the filter with so many taps and to its stimulus. No
-- file is read.
abbrev pub MakeAnswer : ℕ → List Read → Result (List ℕ) Refusal → Type 0
MakeAnswer taps = MadeAnswer (make_text taps) (make_stimulus taps)
