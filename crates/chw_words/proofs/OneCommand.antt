-- What is matched is one command, and what that is.
use Rattle.std.proofs.Common.{◌≡◌, ◌∙◌, sym, ap, ap₂, ℕ, List, [], Option, Some, None, codes, subst}
use Rattle.std.specs.Prelude.{IfSome, if◌then◌else◌, unwrap_or}
use Rattle.std.specs.Str.{bytes_eq}
use Rattle.std.specs.Str.Parse.{digits_value}
use Rattle.clap.specs.Walk.{Row, Text, first_of}
use Rattle.chw_words.specs.Parsing.{AreBudgeted, BudgetIs, HaveTaps, IsMatched, check, emit, make, normalise, run, simulate}
use Rattle.chw_words.specs.declared.budget.TheConstants.{DEFAULT_BUDGET}
use Rattle.chw_words.specs.declared.command.Command.{Command}
use Rattle.chw_words.specs.declared.command.EmitForm.TheVariants.{Verilog}
use Rattle.chw_words.specs.declared.command.SimForm.TheVariants.{Lines}
use Rattle.chw_words.specs.declared.command.Command.TheVariants.{Emit, Simulate, Check, Normalise, Run, Make}

-- ---- the command, as a function of what is matched

abbrev text_in : Text → List Row → Text
text_in id rows = unwrap_or (first_of id rows) []

abbrev budget_value : Option Text → ℕ
budget_value (Some word) = digits_value 10 word
budget_value None = DEFAULT_BUDGET

abbrev budget_in : List Row → ℕ
budget_in rows = budget_value (first_of (codes "budget") rows)

abbrev command_in : Option (Text × List Row) → Command
command_in None = Make 0
command_in (Some p) =
    if bytes_eq p.0 (codes "emit") then Emit (text_in (codes "file") p.1) (budget_in p.1) Verilog
    else (if bytes_eq p.0 (codes "simulate") then Simulate (text_in (codes "file") p.1) (text_in (codes "stimulus") p.1) (budget_in p.1) Lines
    else (if bytes_eq p.0 (codes "check") then Check (text_in (codes "file") p.1)
    else (if bytes_eq p.0 (codes "normalise") then Normalise (text_in (codes "file") p.1) (budget_in p.1)
    else (if bytes_eq p.0 (codes "run") then Run (text_in (codes "verilog") p.1) (text_in (codes "stimulus") p.1)
    else Make (digits_value 10 (text_in (codes "taps") p.1))))))

text_is : (id : Text) (rows : List Row) (x : Text) → first_of id rows ≡ Some x → text_in id rows ≡ x
text_is id rows x e = ap (λ o. unwrap_or o []) e

budget_value_is : (said : Option Text) (n : ℕ) → BudgetIs said n → budget_value said ≡ n
budget_value_is (Some word) n b = b.value
budget_value_is None n b = sym b

budget_in_is : (rows : List Row) (file : Text) (n : ℕ) → AreBudgeted rows file n → budget_in rows ≡ n
budget_in_is rows file n b = budget_value_is (first_of (codes "budget") rows) n b.is_budget

command_in_is : (m : Option (Text × List Row)) (c : Command) → IsMatched m c → command_in m ≡ c
command_in_is _ _ (emit rows file n b) = ap₂ (λ x y. Emit x y Verilog) (text_is (codes "file") rows file b.is_file) (budget_in_is rows file n b)
command_in_is _ _ (simulate rows file stimulus n b s) =
    ap₂ (λ x y. Simulate x (text_in (codes "stimulus") rows) y Lines) (text_is (codes "file") rows file b.is_file) (budget_in_is rows file n b)
    ∙ ap (λ x. Simulate file x n Lines) (text_is (codes "stimulus") rows stimulus s)
command_in_is _ _ (check rows file f) = ap (λ x. Check x) (text_is (codes "file") rows file f)
command_in_is _ _ (normalise rows file n b) = ap₂ (λ x y. Normalise x y) (text_is (codes "file") rows file b.is_file) (budget_in_is rows file n b)
command_in_is _ _ (run rows verilog stimulus v s) =
    ap₂ (λ x y. Run x y) (text_is (codes "verilog") rows verilog v) (text_is (codes "stimulus") rows stimulus s)
command_in_is _ _ (make rows taps t) =
    ap (λ n. Make n) (ap (digits_value 10) (text_is (codes "taps") rows t.word t.is_word) ∙ t.are_taps.number.value)

pub one_matched : (m : Option (Text × List Row)) (a b : Command) → IsMatched m a → IsMatched m b → a ≡ b
one_matched m a b x y = sym (command_in_is m a x) ∙ command_in_is m b y

-- ---- what the rows have of the command

abbrev Have : Command → List Row → Type 0
Have (Emit file budget form) rows = AreBudgeted rows file budget
Have (Simulate file stimulus budget form) rows = AreBudgeted rows file budget × (first_of (codes "stimulus") rows ≡ Some stimulus)
Have (Check file) rows = first_of (codes "file") rows ≡ Some file
Have (Normalise file budget) rows = AreBudgeted rows file budget
Have (Run verilog stimulus) rows = (first_of (codes "verilog") rows ≡ Some verilog) × (first_of (codes "stimulus") rows ≡ Some stimulus)
Have (Make taps) rows = HaveTaps rows taps

rows_have : (m : Option (Text × List Row)) (c : Command) → IsMatched m c → IfSome m (λ p. Have c p.1)
rows_have _ _ (emit rows file n b) = b
rows_have _ _ (simulate rows file stimulus n b s) = (b, s)
rows_have _ _ (check rows file f) = f
rows_have _ _ (normalise rows file n b) = b
rows_have _ _ (run rows verilog stimulus v s) = (v, s)
rows_have _ _ (make rows taps t) = t

-- the rows have what the function finds in them
have_found : (name : Text) (rows : List Row) (c : Command) → IsMatched (Some (name, rows)) c → Have (command_in (Some (name, rows))) rows
have_found name rows c m =
    subst (λ x. Have x rows) (sym (command_in_is (Some (name, rows)) c m)) (rows_have (Some (name, rows)) c m)

-- ---- the command that is matched under a name is the one of that name

pub emit_only : (rows : List Row) (c : Command) → IsMatched (Some (codes "emit", rows)) c
    → (file : Text) × (budget : ℕ) × AreBudgeted rows file budget × (c ≡ Emit file budget Verilog)
emit_only rows c m =
    (text_in (codes "file") rows, budget_in rows, have_found (codes "emit") rows c m, sym (command_in_is (Some (codes "emit", rows)) c m))

pub simulate_only : (rows : List Row) (c : Command) → IsMatched (Some (codes "simulate", rows)) c
    → (file : Text) × (stimulus : Text) × (budget : ℕ) × AreBudgeted rows file budget × (first_of (codes "stimulus") rows ≡ Some stimulus)
    × (c ≡ Simulate file stimulus budget Lines)
simulate_only rows c m =
    let have = have_found (codes "simulate") rows c m in (
      text_in (codes "file") rows,
      text_in (codes "stimulus") rows,
      budget_in rows,
      have.0,
      have.1,
      sym (command_in_is (Some (codes "simulate", rows)) c m),
    )

pub check_only : (rows : List Row) (c : Command) → IsMatched (Some (codes "check", rows)) c
    → (file : Text) × (first_of (codes "file") rows ≡ Some file) × (c ≡ Check file)
check_only rows c m =
    (text_in (codes "file") rows, have_found (codes "check") rows c m, sym (command_in_is (Some (codes "check", rows)) c m))

pub normalise_only : (rows : List Row) (c : Command) → IsMatched (Some (codes "normalise", rows)) c
    → (file : Text) × (budget : ℕ) × AreBudgeted rows file budget × (c ≡ Normalise file budget)
normalise_only rows c m = (
  text_in (codes "file") rows,
  budget_in rows,
  have_found (codes "normalise") rows c m,
  sym (command_in_is (Some (codes "normalise", rows)) c m),
)

pub run_only : (rows : List Row) (c : Command) → IsMatched (Some (codes "run", rows)) c
    → (f : Text) × (g : Text) × (first_of (codes "verilog") rows ≡ Some f) × (first_of (codes "stimulus") rows ≡ Some g) × (c ≡ Run f g)
run_only rows c m =
    let have = have_found (codes "run") rows c m in (
      text_in (codes "verilog") rows,
      text_in (codes "stimulus") rows,
      have.0,
      have.1,
      sym (command_in_is (Some (codes "run", rows)) c m),
    )

pub make_only : (rows : List Row) (c : Command) → IsMatched (Some (codes "make", rows)) c → (taps : ℕ) × HaveTaps rows taps × (c ≡ Make taps)
make_only rows c m = (
  digits_value 10 (text_in (codes "taps") rows),
  have_found (codes "make") rows c m,
  sym (command_in_is (Some (codes "make", rows)) c m),
)
