-- The waves that are answered are read back.
use Rattle.std.proofs.Common.{◌≡◌, ℕ, List, Result, Ok, refl, subst}
use Rattle.chw_cli.specs.Answer.{Answer, CommandAnswer, SimulateAnswer}
use Rattle.chw_cli.specs.Answer.Answer.{no_command, no_text, texts}
use Rattle.chw_cli.specs.Answer.SimulateAnswer.{no_stimulus, not_compiled, simulated, wrong_text}
use Rattle.chw_cli.specs.Descriptions.{Compiles}
use Rattle.chw_cli.specs.Reads.{Read}
use Rattle.chw_cli.specs.Waves.{AreWavesOf, WrittenWavesAreRead}
use Rattle.chw_cli.specs.declared.refusal.Refusal.{Refusal}
use Rattle.chw_cli.proofs.Exactly.{OneCommand}
use Rattle.chw_cli.proofs.OneText.{one_program_of}
use Rattle.chw_terms.specs.declared.program.Program.{Program}
use Rattle.chw_typing.specs.Programs.{IsTyped}
use Rattle.chw_words.specs.Commands.{IsCommand}
use Rattle.chw_words.specs.declared.command.Command.TheVariants.{Simulate}
use Rattle.chw_words.specs.declared.command.SimForm.TheVariants.{Waves}
use Rattle.data_kinds.specs.Laws.{OneProgram}
use Rattle.answers.specs.SimAnswer.Laws.{WavesAreRead}
use Rattle.answers.specs.SimAnswer.ReadBack.{IsWaveOf}
use Rattle.answers.specs.SimAnswer.Simulation.{IsSimulation}

waves_of : OneProgram → WavesAreRead → (text stimulus lines : List ℕ) (budget : ℕ) (p : Program) → Compiles text budget p → IsSimulation p Waves stimulus lines
    → IsWaveOf p stimulus lines
waves_of alone law text stimulus lines budget p can is =
    let typed = subst IsTyped (one_program_of alone can.tree can.typed.program p can.typed.is can.has) can.typed.typed in
    law p budget can.compiles.net_is.state stimulus lines can.has.tidy typed can.compiles.net_is.run is

of_simulation : OneProgram → WavesAreRead → (budget : ℕ) (bytes : List ℕ) (reads : List Read) (answer : Result (List ℕ) Refusal)
    → SimulateAnswer budget Waves reads answer → answer ≡ Ok bytes → AreWavesOf reads budget bytes
of_simulation alone law budget bytes _ _ (wrong_text text r w) e = absurd (cc)
of_simulation alone law budget bytes _ _ (not_compiled text tree p fault d has w) e = absurd (cc)
of_simulation alone law budget bytes _ _ (no_stimulus text stimulus p fault can w) e = absurd (cc)
of_simulation alone law budget bytes _ _ (simulated text stimulus lines p can is) e =
    let same : lines ≡ bytes = cc in record {
      text = text;
      stimulus = stimulus;
      reads_are = refl;
      program = p;
      compiles = can;
      waves = subst (IsWaveOf p stimulus) same (waves_of alone law text stimulus lines budget p can is);
    }

of_answer : OneCommand → OneProgram → WavesAreRead → (words : List (List ℕ)) (file stimulus : List ℕ) (budget : ℕ) (bytes : List ℕ) (reads : List Read)
    (answer : Result (List ℕ) Refusal) → IsCommand words (Simulate file stimulus budget Waves) → Answer words reads answer → answer ≡ Ok bytes
    → AreWavesOf reads budget bytes
of_answer once alone law words file stimulus budget bytes _ _ is (no_command never) e = absurd (cc)
of_answer once alone law words file stimulus budget bytes _ _ is (no_text command reads r is' lacks) e = absurd (cc)
of_answer once alone law words file stimulus budget bytes _ _ is (texts command reads answer is' a) e =
    let same = once words command (Simulate file stimulus budget Waves) is' is in
    of_simulation alone law budget bytes reads answer (subst (λ it. CommandAnswer it reads answer) same a) e

pub written_waves_are_read : OneCommand → OneProgram → WavesAreRead → WrittenWavesAreRead
written_waves_are_read once alone law words file stimulus budget reads bytes is a =
    of_answer once alone law words file stimulus budget bytes reads (Ok bytes) is a refl
