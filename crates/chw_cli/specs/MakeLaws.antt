-- What is promised of the refusals of `make`.
use Rattle.std.specs.Prelude.{◌≡◌, ◌≤◌, ℕ, List, Err, ◌⊎◌}
use Rattle.chw_cli.specs.Answer.{Answer}
use Rattle.chw_cli.specs.Descriptions.{IsTypedText}
use Rattle.chw_cli.specs.Lines.{status_of}
use Rattle.chw_cli.specs.Making.{MakeAnswer}
use Rattle.chw_cli.specs.Reads.{Read}
use Rattle.chw_cli.specs.declared.refusal.Refusal.{Refusal}
use Rattle.chw_cli.specs.declared.refusal.Refusal.TheVariants.{DeepBody, FullTable, Loop}
use Rattle.chw_cli.specs.declared.refusal.Refusal.TheVariants.{Spent, State, TooLarge}
use Rattle.chw_cli.specs.declared.status.Status.{Status}
use Rattle.chw_cli.specs.declared.status.Status.TheVariants as status
use Rattle.chw_grammar.specs.declared.program.Tree.{Tree}
use Rattle.chw_words.specs.Commands.{IsCommand}
use Rattle.chw_words.specs.declared.command.Command.TheVariants.{Make}
use Rattle.chw_words.specs.declared.taps.TheConstants.{MOST_TAPS}
use Rattle.make_text.specs.MakeText.{make_text}

-- the refusal is for the run of a program, the state or the net: not for words, a file, the form of
-- a text, its names, its types or a stimulus
abbrev pub IsOfProgram : Refusal → Type 0
IsOfProgram DeepBody = Unit {0}
IsOfProgram FullTable = Unit {0}
IsOfProgram (Spent steps) = Unit {0}
IsOfProgram (State line) = Unit {0}
IsOfProgram TooLarge = Unit {0}
IsOfProgram (Loop cycle) = Unit {0}
IsOfProgram _ = ⊥

-- the text of so many taps as `make` has is a description that is typed
abbrev pub MadeTextsAreTyped : Type 0
MadeTextsAreTyped =
    (taps : ℕ) → 1 ≤ taps → taps ≤ MOST_TAPS → (tree : Tree) × IsTypedText (make_text taps) tree

-- of so many taps as `make` has, an answer that is a refusal is one for the program
abbrev pub MakeIsRefusedForItsProgram : Type 0
MakeIsRefusedForItsProgram =
    (taps : ℕ) (reads : List Read) (r : Refusal)
    → 1 ≤ taps → taps ≤ MOST_TAPS → MakeAnswer taps reads (Err r) → IsOfProgram r

-- so is the answer to words that are `make N`
abbrev pub WordsAreRefusedForTheProgram : Type 0
WordsAreRefusedForTheProgram =
    (words : List (List ℕ)) (taps : ℕ) (reads : List Read) (r : Refusal)
    → IsCommand words (Make taps) → Answer words reads (Err r) → IsOfProgram r

-- such a refusal has one of two statuses
abbrev pub HaveOneOfTwoStatuses : Type 0
HaveOneOfTwoStatuses =
    (r : Refusal) → IsOfProgram r
    → (status_of r ≡ status.Refused) ⊎ (status_of r ≡ status.Spent)

-- a status with which `make` may end: not that of words, of a file, of a stimulus or of Verilog
abbrev pub IsOfMake : Status → Type 0
IsOfMake status.Words = ⊥
IsOfMake status.Read = ⊥
IsOfMake status.Stimulus = ⊥
IsOfMake status.Verilog = ⊥
IsOfMake _ = Unit {0}
