-- What `clap` makes of the words after each command.
use Rattle.std.proofs.Common.{◌≡◌, sym, false, List, [], ◌∷◌, ◌++◌, Option, Some, None, codes, inl, inr, ◌⊎◌, subst}
use Rattle.std.specs.List.{AllByRecursion, slice_index_or}
use Rattle.clap.specs.Walk.{Held, Row, Text, Walk, idle, option, nothing_held, reading_by}
use Rattle.clap.specs.Simple.{Shape, built, new_shape, new_rule}
use Rattle.clap.specs.declared.parser.matches.ValueSource.TheVariants.{CommandLine}
use Rattle.chw_words.specs.Commands.{is_option}
use Rattle.chw_words.specs.Parsing.{chw_app}
use Rattle.chw_words.proofs.Walks.{at}

-- the word doesn't begin with `-`
abbrev pub IsPlain : Text → Type 0
IsPlain word = is_option word ≡ false

-- the word is the option of a budget
abbrev pub IsBudgetWord : Text → Type 0
IsBudgetWord word = (word ≡ codes "--budget") ⊎ ((v : Text) × (word ≡ codes "--budget=" ++ v))

-- what holds of both of its forms holds of it
pub at_option : (P : Text → Type 0) (word : Text) → IsBudgetWord word → P (codes "--budget") → ((v : Text) → P (codes "--budget=" ++ v)) → P word
at_option P word (inl is) apart joined = subst P (sym is) apart
at_option P word (inr is) apart joined = subst P (sym (is.1)) (joined (is.0))

-- at most one word is an option, and it is a budget's
abbrev pub Form : List Text → Type 0
Form [] = Unit {0}
Form (word ∷ words) = (IsPlain word × Form words) ⊎ (IsBudgetWord word × AllByRecursion IsPlain words)

abbrev pub emit_shape : Shape
emit_shape = slice_index_or (built chw_app).subs 0 (new_shape [])

abbrev pub simulate_shape : Shape
simulate_shape = slice_index_or (built chw_app).subs 1 (new_shape [])

abbrev pub check_shape : Shape
check_shape = slice_index_or (built chw_app).subs 2 (new_shape [])

abbrev pub run_shape : Shape
run_shape = slice_index_or (built chw_app).subs 4 (new_shape [])

abbrev pub make_shape : Shape
make_shape = slice_index_or (built chw_app).subs 5 (new_shape [])

-- an argument with one value
abbrev pub row : Text → Text → Row
row id v = record { id = id; values = v ∷ []; count = None; source = Some CommandLine; reading = reading_by (slice_index_or emit_shape.rules 0 (new_rule [])) }

abbrev pub held : List Row → Option (Text × List Text) → Held
held rows pending = record { rows = rows; pending = pending; skip = 0 }

abbrev pub file_is : Text → Option (Text × List Text)
file_is f = Some (codes "file", f ∷ [])

abbrev pub budget_is : Text → Option (Text × List Text)
budget_is v = Some (codes "budget", v ∷ [])

abbrev pub waits : Option (Text × List Text)
waits = Some (codes "budget", [])

-- the place at which nothing was read
abbrev pub start : Walk
start = at nothing_held idle 1

-- where it stands after a file, a file and `--budget`, and its value ..
abbrev pub with_file : Text → Walk
with_file f = at (held [] (file_is f)) idle 2

abbrev pub file_then_option : Text → Walk
file_then_option f = at (held (row (codes "file") f ∷ []) waits) (option (codes "budget")) 2

abbrev pub file_then_value : Text → Text → Walk
file_then_value f v = at (held (row (codes "file") f ∷ []) (budget_is v)) idle 2

abbrev pub file_then_joined : Text → Text → Walk
file_then_joined f v = at (held (row (codes "file") f ∷ row (codes "budget") v ∷ []) None) idle 2

-- .. and after `--budget`, its value and a file
abbrev pub with_option : Walk
with_option = at (held [] waits) (option (codes "budget")) 1

abbrev pub with_value : Text → Walk
with_value v = at (held [] (budget_is v)) idle 1

abbrev pub with_joined : Text → Walk
with_joined v = at (held (row (codes "budget") v ∷ []) None) idle 1

abbrev pub budget_then_file : Text → Text → Walk
budget_then_file v f = at (held (row (codes "budget") v ∷ []) (file_is f)) idle 2
