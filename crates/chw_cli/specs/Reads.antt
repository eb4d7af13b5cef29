-- The files that a command wants, and what was read of them.
use Rattle.std.specs.Prelude.{◌≡◌, ℕ, List, [], ◌∷◌, Option, Result, Ok}
use Rattle.chw_base.specs.Files.{Files}
use Rattle.chw_base.specs.Reading.{Fetches}
use Rattle.chw_base.specs.declared.limits.TheConstants.{DESCRIPTION_BYTES, STIMULUS_BYTES, VERILOG_BYTES}
use Rattle.chw_base.specs.declared.outcome.Or.{Or}
use Rattle.chw_base.specs.declared.shelf.Fetched.{Fetched}
use Rattle.chw_base.specs.declared.shelf.Fetched.TheVariants.{Whole}
use Rattle.chw_base.specs.declared.shelf.ShelfFault.{ShelfFault}
use Rattle.chw_cli.specs.Descriptions.{IsCompiled}
use Rattle.chw_cli.specs.declared.refusal.Refusal.{Refusal}
use Rattle.chw_cli.specs.declared.refusal.Refusal.TheVariants.{LongText, Stimulus, Verilog}
use Rattle.chw_words.specs.Commands.{IsCommand}
use Rattle.chw_words.specs.declared.command.Command.{Command}
use Rattle.chw_words.specs.declared.command.Command.TheVariants.{Emit, Simulate, Check, Normalise, Run, Make}
use Rattle.netlist.specs.declared.net.Flat.{Flat}
use Rattle.run_answer.specs.Circuits.{CanRun}
use Rattle.stimulus.specs.declared.fault.StimCode.TheVariants.{S05}
use Rattle.verilog_rules.specs.Faults.{fault_at}
use Rattle.verilog_rules.specs.declared.fault.VCode.TheVariants.{V06}

-- a file that is wanted: its name, the most bytes that it may have, and how a longer one is refused
pub record Wanted : Type 0 where
  pub name : List ℕ
  pub limit : ℕ
  pub longer : Refusal

-- a file that is wanted as a description
abbrev pub description_in : List ℕ → Wanted
description_in file = record { name = file; limit = DESCRIPTION_BYTES; longer = LongText }

-- a file that is wanted as a Verilog text, and one that is wanted as a stimulus
abbrev pub verilog_in : List ℕ → Wanted
verilog_in file =
    record { name = file; limit = VERILOG_BYTES; longer = Verilog (fault_at V06 0) }

abbrev pub stimulus_in : List ℕ → Wanted
stimulus_in file = record {
  name = file;
  limit = STIMULUS_BYTES;
  longer = Stimulus (record { code = S05; line = 0 });
}

-- the files that a command wants, in the order in which it reads them
abbrev pub wants : Command → List Wanted
wants (Emit file budget form) = description_in file ∷ []
wants (Simulate file stimulus budget form) = description_in file ∷ stimulus_in stimulus ∷ []
wants (Check file) = description_in file ∷ []
wants (Normalise file budget) = description_in file ∷ []
wants (Run verilog stimulus) = verilog_in verilog ∷ stimulus_in stimulus ∷ []
wants (Make taps) = []

-- after a file with this text the command goes on to the next one: never, if it wants one file at
-- most; if it wants a stimulus too, with a text of which the program is compiled to some net, or a
-- Verilog text that can be run. A text is one of the former exactly where its program can be
-- compiled, by the law `compilable_is_compiled`.
abbrev pub GoesOn : Command → List ℕ → Type 0
GoesOn (Emit file budget form) text = ⊥
GoesOn (Simulate file stimulus budget form) text = IsCompiled budget text
GoesOn (Check file) text = ⊥
GoesOn (Normalise file budget) text = ⊥
GoesOn (Run verilog stimulus) text = (flat : Flat) × CanRun text flat
GoesOn (Make taps) text = ⊥

-- one read: what a call of `fetch` answered, with the bytes
pub data Read : Type 0 where
  fetched : Result Fetched (Or ShelfFault) → List ℕ → Read

-- a read of a whole file
abbrev pub whole : List ℕ → Read
whole text = fetched (Ok Whole) text

-- what a call of `fetch` may do to a shelf of this type, by the name and the limit
abbrev pub FetchGives : Type 0 → Type 1
FetchGives S = S → List ℕ → ℕ → Result Fetched (Or ShelfFault) → List ℕ → S → Type 0

-- `told` are the files, where the shelf tells them, and `faults` is the count of faults
module _ {S : Type 0} (gives : FetchGives S) (told : S → Option Files) (faults : S → ℕ) where
  -- one call of `fetch` for the file of this name had this answer and gave these bytes
  pub record Gets (name : List ℕ) (limit : ℕ) (answer : Result Fetched (Or ShelfFault))
      (bytes : List ℕ) (s t : S) : Type 0 where
    pub call : gives s name limit answer bytes t
    pub files : told t ≡ told s
    pub fetches : Fetches (told s) name limit (faults s) (faults t) answer bytes

  -- the files that the command still wants were read in order, all or the first of them: the next
  -- one is read only where the one before was whole and the command goes on
  pub data ReadsFor (command : Command) : List Wanted → S → S → List Read → Type 0 where
    none : (wanted : List Wanted) (s : S) → ReadsFor command wanted s s []
    last : (file : Wanted) (wanted : List Wanted) (answer : Result Fetched (Or ShelfFault))
        (bytes : List ℕ) (s t : S) → Gets file.name file.limit answer bytes s t
        → ReadsFor command (file ∷ wanted) s t (fetched answer bytes ∷ [])
    next : (file : Wanted) (wanted : List Wanted) (text : List ℕ) (reads : List Read) (s t u : S)
        → Gets file.name file.limit (Ok Whole) text s t → GoesOn command text
        → ReadsFor command wanted t u reads
        → ReadsFor command (file ∷ wanted) s u (whole text ∷ reads)

  -- what the shelf was asked: nothing, or to read files that the command wants
  pub data Asks (words : List (List ℕ)) (s t : S) : List Read → Type 0 where
    uncalled : t ≡ s → Asks words s t []
    called : (command : Command) (reads : List Read) → IsCommand words command
        → ReadsFor command (wants command) s t reads → Asks words s t reads
