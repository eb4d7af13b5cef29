-- What is promised of the waves that `simulate` writes.
use Rattle.std.specs.Prelude.{◌≡◌, ℕ, List, [], ◌∷◌, Ok}
use Rattle.chw_cli.specs.Answer.{Answer}
use Rattle.chw_cli.specs.Descriptions.{Compiles}
use Rattle.chw_cli.specs.Reads.{Read, whole}
use Rattle.chw_terms.specs.declared.program.Program.{Program}
use Rattle.chw_words.specs.Commands.{IsCommand}
use Rattle.chw_words.specs.declared.command.Command.TheVariants.{Simulate}
use Rattle.chw_words.specs.declared.command.SimForm.TheVariants.{Waves}
use Rattle.answers.specs.SimAnswer.ReadBack.{IsWaveOf}

-- a description and a stimulus were read, and the bytes are the text of a wave, which has at each
-- event of the stimulus the inputs there and the bits of what the description means at the outputs
pub record AreWavesOf (reads : List Read) (budget : ℕ) (bytes : List ℕ) : Type 0 where
  pub text : List ℕ
  pub stimulus : List ℕ
  pub reads_are : reads ≡ whole text ∷ whole stimulus ∷ []
  pub program : Program
  pub compiles : Compiles text budget program
  pub waves : IsWaveOf program stimulus bytes

-- so are the bytes that are answered to `simulate` with the flag of waves
abbrev pub WrittenWavesAreRead : Type 0
WrittenWavesAreRead =
    (words : List (List ℕ)) (file stimulus : List ℕ) (budget : ℕ) (reads : List Read)
    (bytes : List ℕ)
    → IsCommand words (Simulate file stimulus budget Waves) → Answer words reads (Ok bytes)
    → AreWavesOf reads budget bytes
