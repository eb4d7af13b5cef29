-- The words, without flags, that are a command are those of the form that `clap` reads as it.
use Rattle.std.proofs.Common.{◌≡◌, ◌∙◌, sym, refl, ap₂, ℕ, List, [], ◌∷◌, Some, codes, inl, inr, subst}
use Rattle.std.specs.List.{All}
use Rattle.std.specs.Str.{IsUtf8}
use Rattle.std.proofs.lemmas.List.Elements.{All-head, All-tail}
use Rattle.std.proofs.lemmas.Option.{same_Some}
use Rattle.clap.specs.Walk.{Row, Text, first_of, rows_after}
use Rattle.clap.specs.Simple.{subcommand_of}
use Rattle.clap.specs.Faults.{fault_of}
use Rattle.chw_words.specs.Commands.{AreWithBudget, IsFile}
use Rattle.chw_words.specs.Parsing.{AreBudgeted, BudgetIs, IsMatched, chw_app}
use Rattle.chw_words.specs.Splitting.{IsUnflagged, check, emit, make, normalise, run, simulate}
use Rattle.chw_words.specs.declared.command.Command.{Command}
use Rattle.chw_words.specs.declared.command.Command.TheVariants.{Run}
use Rattle.chw_words.proofs.Shapes.{Form, check_shape, emit_shape, make_shape, run_shape, simulate_shape, start}
use Rattle.chw_words.proofs.BudgetWords.{argument_texts, from_read}
use Rattle.chw_words.proofs.EmitWords.{emit_read, emit_words}
use Rattle.chw_words.proofs.SimulateWords.{simulate_read, simulate_words}
use Rattle.chw_words.proofs.OneWord.{one_words}
use Rattle.chw_words.proofs.CheckWords.{check_takes}
use Rattle.chw_words.proofs.MakeWords.{make_takes}
use Rattle.chw_words.proofs.RunWords.{run_read, run_words}
use Rattle.chw_words.proofs.Walks.{rest_fault}
use Rattle.chw_words.proofs.Commands.{IsOneOf, begins, check_fault, check_matched, command_words, emit_fault, emit_matched, make_fault, make_matched, none_fails, normalise_fault, normalise_matched, run_fault, run_matched, simulate_fault, simulate_matched}
use Rattle.chw_words.proofs.OneCommand.{check_only, emit_only, make_only, normalise_only, one_matched, run_only, simulate_only}
use Rattle.chw_words.proofs.Passes.{passes}

-- words without flags are one command at most
pub one_unflagged : (words : List Text) (a b : Command) → IsUnflagged words a → IsUnflagged words b → a ≡ b
one_unflagged words a b x y = one_matched (subcommand_of chw_app words) a b (passes words a x).matched (passes words b y).matched

-- the words after this one make up the command, where they have the form, are texts, have no fault, and are read as it
abbrev Makes : List Text → Command → Text → Type 0
Makes words c name = Form words → All IsUtf8 words → fault_of chw_app (name ∷ words) ≡ [] → IsMatched (subcommand_of chw_app (name ∷ words)) c
    → IsUnflagged (name ∷ words) c

under : (name : Text) (words : List Text) (rows : List Row) (c : Command) → subcommand_of chw_app (name ∷ words) ≡ Some (name, rows)
    → IsMatched (subcommand_of chw_app (name ∷ words)) c → IsMatched (Some (name, rows)) c
under name words rows c is matched = subst (λ m. IsMatched m c) is matched

-- the file and the budget that were matched are those of the words
budgeted : (words : List Text) (file : Text) (budget : ℕ) → Form words → All IsUtf8 words → rest_fault emit_shape start words ≡ []
    → AreBudgeted (rows_after emit_shape.rules [] words) file budget → IsFile file × AreWithBudget words (file ∷ []) budget
budgeted words file budget form texts faultless b =
    let shape = emit_words words form faultless in
    let read = emit_read words (shape.0 ∷ []) (shape.0) (shape.1) (shape.2) refl (shape.3) in
    let same : shape.0 ≡ file = same_Some _ _ (sym (read.1) ∙ b.is_file) in
    subst (λ f. IsFile f × AreWithBudget words (f ∷ []) budget) same (
      record { text = All-head IsUtf8 (shape.0) [] (argument_texts words (shape.0 ∷ []) (shape.1) (shape.2) texts); no_option = shape.3 },
      from_read words (shape.0 ∷ []) (shape.1) budget (shape.2) (subst (λ o. BudgetIs o budget) (read.2) b.is_budget),
    )

emit_command : (words : List Text) (c : Command) → Makes words c (codes "emit")
emit_command words c form texts faultless matched =
    let rows = rows_after emit_shape.rules [] words in
    let found = emit_only rows c (under (codes "emit") words rows c (emit_matched words) matched) in
    let had = budgeted words (found.0) (found.1) form texts (sym (emit_fault words) ∙ faultless) (found.2) in
    subst (λ x. IsUnflagged (codes "emit" ∷ words) x) (sym (found.3)) (emit words (found.0) (found.1) (had.0) (had.1))

normalise_command : (words : List Text) (c : Command) → Makes words c (codes "normalise")
normalise_command words c form texts faultless matched =
    let rows = rows_after emit_shape.rules [] words in
    let found = normalise_only rows c (under (codes "normalise") words rows c (normalise_matched words) matched) in
    let had = budgeted words (found.0) (found.1) form texts (sym (normalise_fault words) ∙ faultless) (found.2) in
    subst (λ x. IsUnflagged (codes "normalise" ∷ words) x) (sym (found.3)) (normalise words (found.0) (found.1) (had.0) (had.1))

-- the same of two files
abbrev AreSimulated : List Text → ℕ → Text → Text → Type 0
AreSimulated words budget f g = IsFile f × IsFile g × AreWithBudget words (f ∷ g ∷ []) budget

simulated : (words : List Text) (file stimulus : Text) (budget : ℕ) → Form words → All IsUtf8 words → rest_fault simulate_shape start words ≡ []
    → AreBudgeted (rows_after simulate_shape.rules [] words) file budget
    → first_of (codes "stimulus") (rows_after simulate_shape.rules [] words) ≡ Some stimulus → AreSimulated words budget file stimulus
simulated words file stimulus budget form texts faultless b s =
    let shape = simulate_words words form faultless in
    let f = shape.0 in
    let g = shape.1 in
    let read = simulate_read words (f ∷ g ∷ []) f g (shape.2) (shape.3) refl (shape.4) (shape.5) in
    let same_file : f ≡ file = same_Some _ _ (sym read.file ∙ b.is_file) in
    let same_stimulus : g ≡ stimulus = same_Some _ _ (sym read.stimulus ∙ s) in
    let all = argument_texts words (f ∷ g ∷ []) (shape.2) (shape.3) texts in
    subst (λ x. AreSimulated words budget x stimulus) same_file
    (subst (AreSimulated words budget f) same_stimulus (
      record { text = All-head IsUtf8 f (g ∷ []) all; no_option = shape.4 },
      record { text = All-head IsUtf8 g [] (All-tail IsUtf8 f (g ∷ []) all); no_option = shape.5 },
      from_read words (f ∷ g ∷ []) (shape.2) budget (shape.3) (subst (λ o. BudgetIs o budget) read.budget b.is_budget),
    ))

simulate_command : (words : List Text) (c : Command) → Makes words c (codes "simulate")
simulate_command words c form texts faultless matched =
    let rows = rows_after simulate_shape.rules [] words in
    let found = simulate_only rows c (under (codes "simulate") words rows c (simulate_matched words) matched) in
    let had = simulated words (found.0) (found.1) (found.2) form texts (sym (simulate_fault words) ∙ faultless) (found.3) (found.4) in
    subst (λ x. IsUnflagged (codes "simulate" ∷ words) x) (sym (found.5))
    (simulate words (found.0) (found.1) (found.2) (had.0) (had.1) (had.2))

check_command : (words : List Text) (c : Command) → Makes words c (codes "check")
check_command words c form texts faultless matched =
    let rows = rows_after check_shape.rules [] words in
    let found = check_only rows c (under (codes "check") words rows c (check_matched words) matched) in
    let one = one_words check_shape (codes "file") check_takes words (found.0) form (sym (check_fault words) ∙ faultless) (found.1) in
    let text : IsUtf8 (found.0) = All-head IsUtf8 (found.0) [] (subst (All IsUtf8) (one.1) texts) in
    subst (λ ws. IsUnflagged (codes "check" ∷ ws) c) (sym (one.1))
    (subst (λ x. IsUnflagged (codes "check" ∷ found.0 ∷ []) x) (sym (found.2)) (check (found.0) (record { text = text; no_option = one.0 })))

run_command : (words : List Text) (c : Command) → Makes words c (codes "run")
run_command words c form texts faultless matched =
    let shape = run_words words form (sym (run_fault words) ∙ faultless) in
    let f = shape.0 in
    let g = shape.1 in
    let rows = rows_after run_shape.rules [] (f ∷ g ∷ []) in
    let there : IsMatched (subcommand_of chw_app (codes "run" ∷ f ∷ g ∷ [])) c =
    subst (λ ws. IsMatched (subcommand_of chw_app (codes "run" ∷ ws)) c) (shape.4) matched in
    let all : All IsUtf8 (f ∷ g ∷ []) = subst (All IsUtf8) (shape.4) texts in
    let found = run_only rows c (under (codes "run") (f ∷ g ∷ []) rows c (run_matched (f ∷ g ∷ [])) there) in
    let read = run_read f g (shape.2) (shape.3) in
    let first : found.0 ≡ f = same_Some _ _ (sym (found.2) ∙ read.1) in
    let second : found.1 ≡ g = same_Some _ _ (sym (found.3) ∙ read.2) in
    subst (λ ws. IsUnflagged (codes "run" ∷ ws) c) (sym (shape.4))
    (subst (λ x. IsUnflagged (codes "run" ∷ f ∷ g ∷ []) x) (sym (found.4 ∙ ap₂ (λ f g. Run f g) first second))
    (run f g (record { text = All-head IsUtf8 f (g ∷ []) all; no_option = shape.2 })
    (record { text = All-head IsUtf8 g [] (All-tail IsUtf8 f (g ∷ []) all); no_option = shape.3 })))

make_command : (words : List Text) (c : Command) → Makes words c (codes "make")
make_command words c form texts faultless matched =
    let rows = rows_after make_shape.rules [] words in
    let found = make_only rows c (under (codes "make") words rows c (make_matched words) matched) in
    let h = found.1 in
    let one = one_words make_shape (codes "taps") make_takes words h.word form (sym (make_fault words) ∙ faultless) h.is_word in
    subst (λ ws. IsUnflagged (codes "make" ∷ ws) c) (sym (one.1))
    (subst (λ x. IsUnflagged (codes "make" ∷ h.word ∷ []) x) (sym (found.2)) (make h.word (found.0) h.are_taps))

-- where the first word is a command's, the words are one
by_name : (word : Text) (words : List Text) (c : Command) → IsOneOf command_words word → Makes words c word
by_name word words c (inl is) = subst (Makes words c) (sym is) (emit_command words c)
by_name word words c (inr (inl is)) = subst (Makes words c) (sym is) (simulate_command words c)
by_name word words c (inr (inr (inl is))) = subst (Makes words c) (sym is) (check_command words c)
by_name word words c (inr (inr (inr (inl is)))) = subst (Makes words c) (sym is) (normalise_command words c)
by_name word words c (inr (inr (inr (inr (inl is))))) = subst (Makes words c) (sym is) (run_command words c)
by_name word words c (inr (inr (inr (inr (inr (inl is)))))) = subst (Makes words c) (sym is) (make_command words c)
by_name word words c (inr (inr (inr (inr (inr (inr is)))))) = absurd is

-- words of the form in which `clap` finds no fault are the command that it reads
pub is_command : (words : List Text) (c : Command) → Form words → All IsUtf8 words → fault_of chw_app words ≡ [] → IsMatched (subcommand_of chw_app words) c
    → IsUnflagged words c
is_command [] c form texts faultless matched = absurd (none_fails faultless)
is_command (word ∷ words) c form texts faultless matched =
    let b = begins word words form faultless in
    by_name word words c (b.0) (b.1) (All-tail IsUtf8 word words texts) faultless matched
