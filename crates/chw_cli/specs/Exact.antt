-- What each status comes from, and when it comes.
use Rattle.std.specs.Prelude.{◌≡◌, ◌≤◌, ℕ, List, [], ◌∷◌, length, Option, Some, None, ◌⊎◌, IsSomeAnd}
use Rattle.chw_base.specs.Files.{Files, file_of}
use Rattle.chw_clock.specs.declared.event.Event.{Event}
use Rattle.chw_clock.specs.declared.event.Ports.{Ports}
use Rattle.chw_cli.specs.Answer.{IsNetIn, IsTextIn}
use Rattle.chw_cli.specs.Bits.{HasFewBits}
use Rattle.chw_cli.specs.Descriptions.{CanCompile, HasProgram, IsDescription, IsTypedText}
use Rattle.chw_cli.specs.Reads.{GoesOn, Wanted, wants}
use Rattle.chw_cli.specs.declared.status.Status.{Status}
use Rattle.chw_cli.specs.declared.status.Status.TheVariants as status
use Rattle.chw_grammar.specs.declared.program.Tree.{Tree}
use Rattle.chw_norm.specs.Running.{ShallowRun}
use Rattle.chw_terms.specs.declared.program.Program.{Program}
use Rattle.chw_terms.specs.declared.scene.Made.{Made}
use Rattle.chw_words.specs.Commands.{IsCommand, AreNoCommand}
use Rattle.chw_words.specs.declared.budget.TheConstants.{MOST_BUDGET}
use Rattle.chw_words.specs.declared.command.Command.{Command}
use Rattle.chw_words.specs.declared.command.Command.TheVariants.{Emit, Simulate, Check, Normalise, Run, Make}
use Rattle.chw_words.specs.declared.command.EmitForm.{EmitForm}
use Rattle.chw_words.specs.declared.command.EmitForm.TheVariants.{Blif}
use Rattle.judge.specs.States.{IsBlockedNowhere}
use Rattle.answers.specs.Compilation.Compiling.{CompilesTo}
use Rattle.answers.specs.MakeAnswer.Events.{make_stimulus}
use Rattle.make_text.specs.MakeText.{make_text}
use Rattle.normal_forms.specs.Uses.{IsAcyclic}
use Rattle.netlist.specs.declared.net.Flat.{Flat}
use Rattle.netlist.specs.declared.net.Net.{Net}
use Rattle.rewriting.specs.Runs.{Step}
use Rattle.rewriting.specs.Steps.{HasNoStep}
use Rattle.chw_norm.specs.Rules.{built}
use Rattle.run_answer.specs.Circuits.{CanRun}
use Rattle.answers.specs.SimAnswer.Simulation.{IsStimulus}
use Rattle.stimulus.specs.Stimulus.{Stim}

-- the status is this one, or memory was wanting
abbrev pub Ends : Status → Status → Type 0
Ends wanted s = (s ≡ wanted) ⊎ (s ≡ status.Memory)

-- the text of one file breaks no restriction: it is a description that is typed, and this suits
pub data BreaksNone (Suits : List ℕ → Type 0) : List (List ℕ) → Type 0 where
  typed : (text : List ℕ) (tree : Tree) → IsTypedText text tree → Suits text
      → BreaksNone Suits (text ∷ [])

-- where single bits are asked for, each flat net to which the program is compiled has few of them
abbrev pub FitsForm : EmitForm → Program → ℕ → Type 0
FitsForm Blif p budget =
    (net : Net) (flat : Flat) → CompilesTo p budget net flat → HasFewBits flat
FitsForm _ p budget = Unit {0}

-- the program of the text can be compiled by so many steps at most, and there are few enough bits
abbrev pub IsEmittable : ℕ → EmitForm → List ℕ → Type 0
IsEmittable budget form text = (p : Program) × CanCompile text budget p × FitsForm form p budget

-- the program of the text has a run of so many steps at most to a state in which no step is left,
-- and which is blocked nowhere and acyclic; no step leads to a body over the limit of depth, or to
-- more made definitions than may be held
pub record HasNormalRun (budget : ℕ) (text : List ℕ) : Type 0 where
  pub tree : Tree
  pub description : IsDescription text tree
  pub program : Program
  pub is : HasProgram tree program
  pub steps : List Step
  pub within : length steps ≤ budget
  pub made : List Made
  pub run : ShallowRun built program steps made
  pub ended : HasNoStep built program made
  pub free : IsBlockedNowhere program made
  pub acyclic : IsAcyclic made

-- the first text can be run, and the second is a stimulus for the ports of its flat net
pub data RunsWith : List (List ℕ) → Type 0 where
  runs : (text stimulus : List ℕ) (flat : Flat) (events : List Event) → CanRun text flat
      → Stim stimulus flat.ports events → RunsWith (text ∷ stimulus ∷ [])

-- the program of the first text can be compiled by so many steps at most, and the second is a
-- stimulus of values for it
pub data SimulatesWith (budget : ℕ) : List (List ℕ) → Type 0 where
  simulates : (text stimulus : List ℕ) (p : Program) (ports : Ports) (events : List Event)
      → CanCompile text budget p → IsStimulus p stimulus ports events
      → SimulatesWith budget (text ∷ stimulus ∷ [])

-- no file is wanted, the text is one of which the program can be compiled, and the other a stimulus
-- of values for it
pub data MakesWith (text stimulus : List ℕ) : List (List ℕ) → Type 0 where
  makes : (p : Program) (ports : Ports) (events : List Event) → CanCompile text MOST_BUDGET p
      → IsStimulus p stimulus ports events → MakesWith text stimulus []

-- the texts of the files of a command break no restriction
abbrev pub BreakNothing : Command → List (List ℕ) → Type 0
BreakNothing (Emit file budget form) = BreaksNone (IsEmittable budget form)
BreakNothing (Simulate file stimulus budget form) = SimulatesWith budget
BreakNothing (Check file) = BreaksNone (λ text. Unit {0})
BreakNothing (Normalise file budget) = BreaksNone (HasNormalRun budget)
BreakNothing (Run verilog stimulus) = RunsWith
BreakNothing (Make taps) = MakesWith (make_text taps) (make_stimulus taps)

-- the file is held with this text, which is within its limit
abbrev pub IsHeld : Files → Wanted → List ℕ → Type 0
IsHeld files file text = (file_of files file.name ≡ Some text) × (length text ≤ file.limit)

-- all wanted files are held, with these texts
pub data AreHeld (files : Files) : List Wanted → List (List ℕ) → Type 0 where
  none : AreHeld files [] []
  more : (file : Wanted) (wanted : List Wanted) (text : List ℕ) (texts : List (List ℕ))
      → IsHeld files file text → AreHeld files wanted texts
      → AreHeld files (file ∷ wanted) (text ∷ texts)

-- a command that goes on after such texts comes to a file that isn't held: those before it are,
-- with such texts
pub data Misses (files : Files) (On : List ℕ → Type 0) : List Wanted → Type 0 where
  here : (file : Wanted) (wanted : List Wanted) → file_of files file.name ≡ None
      → Misses files On (file ∷ wanted)
  later : (file : Wanted) (wanted : List Wanted) (text : List ℕ) → IsHeld files file text
      → On text → Misses files On wanted → Misses files On (file ∷ wanted)

-- by the files where they are told, the words, and whether the faults of the shelf and of `out`
-- rose
pub record IsExact (told : Option Files) (words : List (List ℕ)) (ShelfRose OutRose : Type 0)
    (s : Status) : Type 0 where
  -- the words are refused exactly where they are no command
  pub words_wrong : s ≡ status.Words → AreNoCommand words
  pub wrong_words : AreNoCommand words → Ends status.Words s
  -- a read is refused only where the command comes to a file that isn't held or the shelf's faults
  -- rose, and always where it comes to such a file
  pub unread : s ≡ status.Read → (command : Command) × IsCommand words command
      × (IsSomeAnd told (λ files. Misses files (GoesOn command) (wants command)) ⊎ ShelfRose)
  pub absent : (files : Files) (command : Command) → told ≡ Some files → IsCommand words command
      → Misses files (GoesOn command) (wants command) → Ends status.Read s
  -- the write is refused only where the faults of `out` rose
  pub unwritten : s ≡ status.Write → OutRose
  -- files that break no restriction are answered where no fault rose
  pub complete : (files : Files) (command : Command) (texts : List (List ℕ)) → told ≡ Some files
      → IsCommand words command → AreHeld files (wants command) texts → BreakNothing command texts
      → (ShelfRose → ⊥) → (OutRose → ⊥) → Ends status.Ok s

-- in each form `emit` has one net at most for a program, whatever the budgets are
abbrev pub OneNetIn : Type 0
OneNetIn =
    (form : EmitForm) (p : Program) (budget other : ℕ) (a b : Net)
    → IsNetIn form p budget a → IsNetIn form p other b → a ≡ b

-- and so one text
abbrev pub OneTextIn : Type 0
OneTextIn =
    (form : EmitForm) (p : Program) (budget other : ℕ) (a b : List ℕ)
    → IsTextIn form p budget a → IsTextIn form p other b → a ≡ b
