-- How words are taken apart: the flags, what is left without them, and which command that is.
use Rattle.std.specs.Prelude.{◌≡◌, ℕ, Bool, true, false, if◌then◌else◌, List, [], ◌∷◌, codes}
use Rattle.std.specs.Prelude.{Option, Some, None}
use Rattle.std.specs.Str.{bytes_eq}
use Rattle.chw_words.specs.Commands.{AreWithBudget, IsFile, IsTaps}
use Rattle.chw_words.specs.Flags.{emit_flags, is_flag, simulate_flags}
use Rattle.chw_words.specs.declared.command.Command.{Command}
use Rattle.chw_words.specs.declared.command.Command.TheVariants.{Emit, Simulate, Check}
use Rattle.chw_words.specs.declared.command.Command.TheVariants.{Normalise, Run, Make}
use Rattle.chw_words.specs.declared.command.EmitForm.{EmitForm}
use Rattle.chw_words.specs.declared.command.EmitForm.TheVariants.{Verilog, Shared, Blif}
use Rattle.chw_words.specs.declared.command.SimForm.{SimForm}
use Rattle.chw_words.specs.declared.command.SimForm.TheVariants.{Lines, Waves}
use Rattle.chw_words.specs.declared.flags.Asked.{Asked}
use Rattle.chw_words.specs.declared.flags.Asked.TheVariants as asked

-- the flags of the command that this word names
abbrev pub flags_of : List ℕ → List (List ℕ)
flags_of command =
    if bytes_eq command (codes "simulate") then simulate_flags
    else (if bytes_eq command (codes "emit") then emit_flags else [])

-- the words that are no flags, by whether the word before them is a `--budget` that wants a value
abbrev pub rest_from : (flags : List (List ℕ)) (behind : Bool) → List (List ℕ) → List (List ℕ)
rest_from flags behind [] = []
rest_from flags true (word ∷ words) = word ∷ rest_from flags false words
rest_from flags false (word ∷ words) =
    if is_flag flags word then rest_from flags false words
    else word ∷ rest_from flags (bytes_eq word (codes "--budget")) words

-- the flags among the words, by the same
abbrev pub found_from : (flags : List (List ℕ)) (behind : Bool) → List (List ℕ) → List (List ℕ)
found_from flags behind [] = []
found_from flags true (word ∷ words) = found_from flags false words
found_from flags false (word ∷ words) =
    if is_flag flags word then word ∷ found_from flags false words
    else found_from flags (bytes_eq word (codes "--budget")) words

-- the words, none of which is a flag, are the command, in the form that no flag asks for
pub data IsUnflagged : List (List ℕ) → Command → Type 0 where
  emit : (words : List (List ℕ)) (file : List ℕ) (budget : ℕ) → IsFile file
      → AreWithBudget words (file ∷ []) budget
      → IsUnflagged (codes "emit" ∷ words) (Emit file budget Verilog)
  simulate : (words : List (List ℕ)) (file stimulus : List ℕ) (budget : ℕ) → IsFile file
      → IsFile stimulus → AreWithBudget words (file ∷ stimulus ∷ []) budget
      → IsUnflagged (codes "simulate" ∷ words) (Simulate file stimulus budget Lines)
  check : (file : List ℕ) → IsFile file → IsUnflagged (codes "check" ∷ file ∷ []) (Check file)
  normalise : (words : List (List ℕ)) (file : List ℕ) (budget : ℕ) → IsFile file
      → AreWithBudget words (file ∷ []) budget
      → IsUnflagged (codes "normalise" ∷ words) (Normalise file budget)
  run : (verilog stimulus : List ℕ) → IsFile verilog → IsFile stimulus
      → IsUnflagged (codes "run" ∷ verilog ∷ stimulus ∷ []) (Run verilog stimulus)
  make : (word : List ℕ) (taps : ℕ) → IsTaps word taps
      → IsUnflagged (codes "make" ∷ word ∷ []) (Make taps)

-- the words, none of which is a flag, are no command
abbrev pub AreNoneUnflagged : List (List ℕ) → Type 0
AreNoneUnflagged words = (command : Command) → IsUnflagged words command → ⊥

-- for what the flags ask, where they ask for something
abbrev pub asked_of : (found : List (List ℕ)) → Option Asked
asked_of [] = Some asked.Nothing
asked_of (word ∷ []) =
    if bytes_eq word (codes "--vcd") then Some asked.Waves
    else (if bytes_eq word (codes "--share") then Some asked.Sharing
    else (if bytes_eq word (codes "--blif") then Some asked.Bits else None))
asked_of (word ∷ other ∷ words) = None

-- the form of a simulation, by what is asked for
abbrev pub sim_form : Asked → SimForm
sim_form asked.Waves = Waves
sim_form it = Lines

-- the form of a net, by what is asked for
abbrev pub emit_form : Asked → EmitForm
emit_form asked.Sharing = Shared
emit_form asked.Bits = Blif
emit_form it = Verilog

-- the command in the form that is asked for, where it has forms
abbrev pub in_form : Asked → Command → Command
in_form it (Emit file budget _) = Emit file budget (emit_form it)
in_form it (Simulate file stimulus budget _) = Simulate file stimulus budget (sim_form it)
in_form it command = command

-- the rest and the flags of words are the command: the rest says which, and the flags its form
pub record IsFormed (rest found : List (List ℕ)) (command : Command) : Type 0 where
  pub it : Asked
  pub is_asked : asked_of found ≡ Some it
  pub plain : Command
  pub is_plain : IsUnflagged rest plain
  pub command_is : command ≡ in_form it plain

-- they are none
abbrev pub IsUnformed : (rest found : List (List ℕ)) → Type 0
IsUnformed rest found = (command : Command) → IsFormed rest found command → ⊥
