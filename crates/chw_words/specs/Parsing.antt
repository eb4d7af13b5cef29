-- The commands as `clap` reads them, and what its matches say.
use Rattle.std.specs.Prelude.{◌≡◌, ℕ, true, List, Option, Some, None, codes}
use Rattle.clap.specs.Matches.{found_of}
use Rattle.clap.specs.Walk.{Row, Rule, Text, first_of, rows_of}
use Rattle.clap.specs.Simple.{App, new_app, new_rule, on_top, with_rule, with_subcommand}
use Rattle.clap.specs.declared.parser.matches.ArgMatches.{ArgMatches}
use Rattle.clap.specs.declared.builder.action.ArgAction.TheVariants.{Set}
use Rattle.chw_words.specs.Commands.{IsBudget, IsTaps}
use Rattle.chw_words.specs.declared.command.Command.{Command}
use Rattle.chw_words.specs.declared.command.Command.TheVariants.{Emit, Simulate, Check}
use Rattle.chw_words.specs.declared.command.Command.TheVariants.{Normalise, Run, Make}
use Rattle.chw_words.specs.declared.command.EmitForm.TheVariants.{Verilog}
use Rattle.chw_words.specs.declared.command.SimForm.TheVariants.{Lines}
use Rattle.chw_words.specs.declared.budget.TheConstants.{DEFAULT_BUDGET}

-- a word that stands for this, at its place among the words
abbrev pub word_rule : Text → Rule
word_rule name = record (new_rule name) { required = true; action = Some Set }

-- the option `--budget N`
abbrev pub budget_rule : Rule
budget_rule = record (new_rule (codes "budget")) { long = Some (codes "budget"); action = Some Set }

-- a command of this name on a file, with a budget
abbrev pub budgeted_app : Text → App
budgeted_app name = with_rule (with_rule (new_app name) (word_rule (codes "file"))) budget_rule

abbrev pub simulate_app : App
simulate_app =
    with_rule
    (with_rule (with_rule (new_app (codes "simulate")) (word_rule (codes "file")))
    (word_rule (codes "stimulus")))
    budget_rule

abbrev pub check_app : App
check_app = with_rule (new_app (codes "check")) (word_rule (codes "file"))

abbrev pub run_app : App
run_app =
    with_rule (with_rule (new_app (codes "run")) (word_rule (codes "verilog")))
    (word_rule (codes "stimulus"))

abbrev pub make_app : App
make_app = with_rule (new_app (codes "make")) (word_rule (codes "taps"))

-- the commands on what descriptions are compiled to, one of which has to stand first
abbrev pub compiling_app : App
compiling_app =
    with_subcommand
    (with_subcommand
    (on_top
    (λ s. record s {
      no_binary_name = true;
      disable_help_flag = true;
      disable_help_subcommand = true;
      subcommand_required = true;
    })
    (new_app (codes "chw")))
    (budgeted_app (codes "emit")).top)
    simulate_app.top

-- these, and the other commands on descriptions
abbrev pub descriptions_app : App
descriptions_app =
    with_subcommand (with_subcommand compiling_app check_app.top)
    (budgeted_app (codes "normalise")).top

-- these, the command on nets, and the one on no file
abbrev pub chw_app : App
chw_app = with_subcommand (with_subcommand descriptions_app run_app.top) make_app.top

-- the budget that was matched, or the default
abbrev pub BudgetIs : Option Text → ℕ → Type 0
BudgetIs (Some word) budget = IsBudget word budget
BudgetIs None budget = budget ≡ DEFAULT_BUDGET

-- the rows have a file, and this budget
pub record AreBudgeted (rows : List Row) (file : Text) (budget : ℕ) : Type 0 where
  pub is_file : first_of (codes "file") rows ≡ Some file
  pub is_budget : BudgetIs (first_of (codes "budget") rows) budget

-- the rows have a word for the taps, which is this number
pub record HaveTaps (rows : List Row) (taps : ℕ) : Type 0 where
  pub word : Text
  pub is_word : first_of (codes "taps") rows ≡ Some word
  pub are_taps : IsTaps word taps

-- the subcommand that was matched, with its rows, is this command, in the form that no flag asks
-- for
pub data IsMatched : Option (Text × List Row) → Command → Type 0 where
  emit : (rows : List Row) (file : Text) (budget : ℕ) → AreBudgeted rows file budget
      → IsMatched (Some (codes "emit", rows)) (Emit file budget Verilog)
  simulate : (rows : List Row) (file stimulus : Text) (budget : ℕ) → AreBudgeted rows file budget
      → first_of (codes "stimulus") rows ≡ Some stimulus
      → IsMatched (Some (codes "simulate", rows)) (Simulate file stimulus budget Lines)
  normalise : (rows : List Row) (file : Text) (budget : ℕ) → AreBudgeted rows file budget
      → IsMatched (Some (codes "normalise", rows)) (Normalise file budget)
  check : (rows : List Row) (file : Text) → first_of (codes "file") rows ≡ Some file
      → IsMatched (Some (codes "check", rows)) (Check file)
  run : (rows : List Row) (verilog stimulus : Text) → first_of (codes "verilog") rows ≡ Some verilog
      → first_of (codes "stimulus") rows ≡ Some stimulus
      → IsMatched (Some (codes "run", rows)) (Run verilog stimulus)
  make : (rows : List Row) (taps : ℕ) → HaveTaps rows taps
      → IsMatched (Some (codes "make", rows)) (Make taps)

-- no command was matched
abbrev pub IsNoneMatched : Option (Text × List Row) → Type 0
IsNoneMatched matched = (command : Command) → IsMatched matched command → ⊥

-- a subcommand of this name, with these matches
abbrev pub matched_under : Text → ArgMatches → Option (Text × List Row)
matched_under name matches = Some (name, rows_of (found_of matches))
