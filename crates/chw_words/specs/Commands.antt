-- The commands, by their words. The program's own name is none of these.
use Rattle.std.specs.Prelude.{◌≡◌, ◌≤◌, ℕ, Bool, false, ◌==◌, List, [], ◌∷◌, ◌++◌, length, codes}
use Rattle.std.specs.Str.{IsUtf8}
use Rattle.std.specs.Str.Parse.{IsNumeral, digits_value}
use Rattle.chw_words.specs.Flags.{HasFlags, IsEmitForm, IsSimForm, emit_flags, simulate_flags}
use Rattle.chw_words.specs.declared.command.Command.{Command}
use Rattle.chw_words.specs.declared.command.Command.TheVariants.{Emit, Simulate, Check}
use Rattle.chw_words.specs.declared.command.Command.TheVariants.{Normalise, Run, Make}
use Rattle.chw_words.specs.declared.command.EmitForm.{EmitForm}
use Rattle.chw_words.specs.declared.command.SimForm.{SimForm}
use Rattle.chw_words.specs.declared.budget.TheConstants.{BUDGET_DIGITS, DEFAULT_BUDGET, MOST_BUDGET}
use Rattle.chw_words.specs.declared.taps.TheConstants.{MOST_TAPS, TAP_DIGITS}

-- the word begins with `-`
abbrev pub is_option : List ℕ → Bool
is_option [] = false
is_option (b ∷ bs) = b == 45

-- the word may be a file's name: it is UTF-8 text and no option
pub record IsFile (word : List ℕ) : Type 0 where
  pub text : IsUtf8 word
  pub no_option : is_option word ≡ false

-- the word is this number, in at most so many decimal digits, and the number is at most `most`
pub record IsNumber (word : List ℕ) (most_digits most number : ℕ) : Type 0 where
  pub digits : IsNumeral 10 word
  pub few_digits : length word ≤ most_digits
  pub value : digits_value 10 word ≡ number
  pub within : number ≤ most

-- the word is a budget
abbrev pub IsBudget : List ℕ → ℕ → Type 0
IsBudget word budget = IsNumber word BUDGET_DIGITS MOST_BUDGET budget

-- the word is a number of taps, of which there is one at least
pub record IsTaps (word : List ℕ) (taps : ℕ) : Type 0 where
  pub number : IsNumber word TAP_DIGITS MOST_TAPS taps
  pub least : 1 ≤ taps

-- the words that say what the budget is, if any
pub data SayBudget : List (List ℕ) → ℕ → Type 0 where
  unsaid : SayBudget [] DEFAULT_BUDGET
  apart : (word : List ℕ) (budget : ℕ) → IsBudget word budget
      → SayBudget (codes "--budget" ∷ word ∷ []) budget
  joined : (word : List ℕ) (budget : ℕ) → IsBudget word budget
      → SayBudget ((codes "--budget=" ++ word) ∷ []) budget

-- the words are these arguments, and those of the budget stand together anywhere among them
pub record AreWithBudget (words arguments : List (List ℕ)) (budget : ℕ) : Type 0 where
  pub before : List (List ℕ)
  pub said : List (List ℕ)
  pub after : List (List ℕ)
  pub words_are : words ≡ before ++ said ++ after
  pub arguments_are : arguments ≡ before ++ after
  pub budget_is : SayBudget said budget

-- the words are the command
pub data IsCommand : List (List ℕ) → Command → Type 0 where
  -- `emit FILE`, with a budget, and with the flags of a form
  emit : (words rest found : List (List ℕ)) (file : List ℕ) (budget : ℕ) (form : EmitForm)
      → HasFlags emit_flags words rest found → IsEmitForm found form → IsFile file
      → AreWithBudget rest (file ∷ []) budget
      → IsCommand (codes "emit" ∷ words) (Emit file budget form)
  -- `simulate FILE STIM`, with a budget, and with the flags of a form
  simulate : (words rest found : List (List ℕ)) (file stimulus : List ℕ) (budget : ℕ)
      (form : SimForm) → HasFlags simulate_flags words rest found → IsSimForm found form
      → IsFile file → IsFile stimulus → AreWithBudget rest (file ∷ stimulus ∷ []) budget
      → IsCommand (codes "simulate" ∷ words) (Simulate file stimulus budget form)
  -- `check FILE`
  check : (file : List ℕ) → IsFile file → IsCommand (codes "check" ∷ file ∷ []) (Check file)
  -- `normalise FILE`, with a budget
  normalise : (words : List (List ℕ)) (file : List ℕ) (budget : ℕ) → IsFile file
      → AreWithBudget words (file ∷ []) budget
      → IsCommand (codes "normalise" ∷ words) (Normalise file budget)
  -- `run VERILOG STIM`
  run : (verilog stimulus : List ℕ) → IsFile verilog → IsFile stimulus
      → IsCommand (codes "run" ∷ verilog ∷ stimulus ∷ []) (Run verilog stimulus)
  -- `make N`
  make : (word : List ℕ) (taps : ℕ) → IsTaps word taps
      → IsCommand (codes "make" ∷ word ∷ []) (Make taps)

-- the words are no command
abbrev pub AreNoCommand : List (List ℕ) → Type 0
AreNoCommand words = (command : Command) → IsCommand words command → ⊥
