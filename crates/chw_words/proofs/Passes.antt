-- The words of a command, without flags, pass the test, and `clap` reads them as it.
use Rattle.std.proofs.Common.{◌≡◌, ◌∙◌, sym, refl, ℕ, List, [], ◌∷◌, Some, codes, inl, subst}
use Rattle.std.specs.Char.{encode_utf8}
use Rattle.std.specs.List.{All}
use Rattle.std.specs.Str.{IsUtf8}
use Rattle.std.proofs.lemmas.List.Elements.{All-cons, All-nil}
use Rattle.clap.specs.Walk.{Row, Text, rows_after}
use Rattle.clap.specs.Simple.{subcommand_of}
use Rattle.clap.specs.Faults.{fault_of}
use Rattle.chw_words.specs.Splitting.{IsUnflagged, check, emit, make, normalise, run, simulate}
use Rattle.chw_words.specs.Parsing.{AreBudgeted, BudgetIs, IsMatched, chw_app, check as check_matched, emit as emit_matched, make as make_matched, normalise as normalise_matched, run as run_matched, simulate as simulate_matched}
use Rattle.chw_words.specs.declared.command.Command.{Command}
use Rattle.chw_words.specs.declared.command.Command.TheVariants.{Emit, Simulate, Check, Normalise, Run, Make}
use Rattle.chw_words.specs.declared.command.EmitForm.TheVariants.{Verilog}
use Rattle.chw_words.specs.declared.command.SimForm.TheVariants.{Lines}
use Rattle.chw_words.proofs.Shapes.{Form, IsPlain, check_shape, emit_shape, make_shape, run_shape, simulate_shape, start}
use Rattle.chw_words.proofs.BudgetWords.{Read, plain_form, plain_number, read_form, text_number, with_budget, word_texts}
use Rattle.chw_words.proofs.EmitWords.{emit_read}
use Rattle.chw_words.proofs.SimulateWords.{simulate_read}
use Rattle.chw_words.proofs.OneWord.{one_read}
use Rattle.chw_words.proofs.CheckWords.{check_takes}
use Rattle.chw_words.proofs.MakeWords.{make_takes}
use Rattle.chw_words.proofs.RunWords.{run_read}
use Rattle.chw_words.proofs.Walks.{rest_fault}
use Rattle.chw_words.proofs.Commands.{check_fault, check_matched as check_subcommand, emit_fault, emit_matched as emit_subcommand, make_fault, make_matched as make_subcommand, normalise_fault, normalise_matched as normalise_subcommand, run_fault, run_matched as run_subcommand, simulate_fault, simulate_matched as simulate_subcommand}

-- the words pass the test, `clap` finds no fault in them, and reads them as the command
pub record Passes (words : List Text) (command : Command) : Type 0 where
  pub form : Form words
  pub faultless : fault_of chw_app words ≡ []
  pub matched : IsMatched (subcommand_of chw_app words) command

-- from the faults and the rows of the words after the command's
passes_by : (name : Text) (words : List Text) (c : Command) (rows : List Row) → Form (name ∷ words) → fault_of chw_app (name ∷ words) ≡ []
    → subcommand_of chw_app (name ∷ words) ≡ Some (name, rows) → IsMatched (Some (name, rows)) c → Passes (name ∷ words) c
passes_by name words c rows form faultless under matched =
    record { form = form; faultless = faultless; matched = subst (λ m. IsMatched m c) (sym under) matched }

-- a file and a budget have no fault, and are found
budgeted : (words : List Text) (file : Text) (budget : ℕ) → Read words (file ∷ []) budget → IsPlain file
    → (rest_fault emit_shape start words ≡ []) × AreBudgeted (rows_after emit_shape.rules [] words) file budget
budgeted words file budget r p =
    let read = emit_read words (file ∷ []) file (r.0) (r.1) refl p in
    (read.0, record { is_file = read.1; is_budget = subst (λ o. BudgetIs o budget) (sym (read.2)) (r.2) })

emit_passes : (words : List Text) (file : Text) (budget : ℕ) → Read words (file ∷ []) budget → IsPlain file → Passes (codes "emit" ∷ words) (Emit file budget Verilog)
emit_passes words file budget r p =
    let b = budgeted words file budget r p in
    passes_by (codes "emit") words (Emit file budget Verilog) (rows_after emit_shape.rules [] words)
    (inl (refl, read_form words (file ∷ []) (r.0) (r.1) (p, tt))) (emit_fault words ∙ b.0) (emit_subcommand words)
    (emit_matched (rows_after emit_shape.rules [] words) file budget (b.1))

normalise_passes : (words : List Text) (file : Text) (budget : ℕ) → Read words (file ∷ []) budget → IsPlain file
    → Passes (codes "normalise" ∷ words) (Normalise file budget)
normalise_passes words file budget r p =
    let b = budgeted words file budget r p in
    passes_by (codes "normalise") words (Normalise file budget) (rows_after emit_shape.rules [] words)
    (inl (refl, read_form words (file ∷ []) (r.0) (r.1) (p, tt))) (normalise_fault words ∙ b.0) (normalise_subcommand words)
    (normalise_matched (rows_after emit_shape.rules [] words) file budget (b.1))

simulate_passes : (words : List Text) (file stimulus : Text) (budget : ℕ) → Read words (file ∷ stimulus ∷ []) budget → IsPlain file → IsPlain stimulus
    → Passes (codes "simulate" ∷ words) (Simulate file stimulus budget Lines)
simulate_passes words file stimulus budget r p q =
    let read = simulate_read words (file ∷ stimulus ∷ []) file stimulus (r.0) (r.1) refl p q in
    let b : AreBudgeted (rows_after simulate_shape.rules [] words) file budget =
    record { is_file = read.file; is_budget = subst (λ o. BudgetIs o budget) (sym read.budget) (r.2) } in
    passes_by (codes "simulate") words (Simulate file stimulus budget Lines) (rows_after simulate_shape.rules [] words)
    (inl (refl, read_form words (file ∷ stimulus ∷ []) (r.0) (r.1) (p, (q, tt)))) (simulate_fault words ∙ read.faultless) (simulate_subcommand words)
    (simulate_matched (rows_after simulate_shape.rules [] words) file stimulus budget b read.stimulus)

pub passes : (words : List Text) (command : Command) → IsUnflagged words command → Passes words command
passes _ _ (emit words file budget f w) = emit_passes words file budget (with_budget words (file ∷ []) budget w) f.no_option
passes _ _ (normalise words file budget f w) = normalise_passes words file budget (with_budget words (file ∷ []) budget w) f.no_option
passes _ _ (simulate words file stimulus budget f g w) =
    simulate_passes words file stimulus budget (with_budget words (file ∷ stimulus ∷ []) budget w) f.no_option g.no_option
passes _ _ (check file f) =
    let read = one_read check_shape (codes "file") check_takes file f.no_option in
    passes_by (codes "check") (file ∷ []) (Check file) (rows_after check_shape.rules [] (file ∷ [])) (plain_form (codes "check" ∷ file ∷ []) (refl, (f.no_option, tt)))
    (check_fault (file ∷ []) ∙ read.0) (check_subcommand (file ∷ [])) (check_matched (rows_after check_shape.rules [] (file ∷ [])) file (read.1))
passes _ _ (run f g p q) =
    let read = run_read f g p.no_option q.no_option in
    let rows = rows_after run_shape.rules [] (f ∷ g ∷ []) in
    passes_by (codes "run") (f ∷ g ∷ []) (Run f g) rows (plain_form (codes "run" ∷ f ∷ g ∷ []) (refl, (p.no_option, (q.no_option, tt))))
    (run_fault (f ∷ g ∷ []) ∙ read.0) (run_subcommand (f ∷ g ∷ [])) (run_matched rows f g (read.1) (read.2))
passes _ _ (make word taps t) =
    let plain = plain_number word _ _ taps t.number in
    let read = one_read make_shape (codes "taps") make_takes word plain in
    let rows = rows_after make_shape.rules [] (word ∷ []) in
    passes_by (codes "make") (word ∷ []) (Make taps) rows (plain_form (codes "make" ∷ word ∷ []) (refl, (plain, tt)))
    (make_fault (word ∷ []) ∙ read.0) (make_subcommand (word ∷ [])) (make_matched rows taps (record { word = word; is_word = read.1; are_taps = t }))

-- ---- they are texts

emit_text : IsUtf8 (codes "emit")
unfolding encode_utf8
emit_text = (codes "emit", (refl, refl))

simulate_text : IsUtf8 (codes "simulate")
unfolding encode_utf8
simulate_text = (codes "simulate", (refl, refl))

check_text : IsUtf8 (codes "check")
unfolding encode_utf8
check_text = (codes "check", (refl, refl))

normalise_text : IsUtf8 (codes "normalise")
unfolding encode_utf8
normalise_text = (codes "normalise", (refl, refl))

run_text : IsUtf8 (codes "run")
unfolding encode_utf8
run_text = (codes "run", (refl, refl))

make_text : IsUtf8 (codes "make")
unfolding encode_utf8
make_text = (codes "make", (refl, refl))

one_text : (x : Text) → IsUtf8 x → All IsUtf8 (x ∷ [])
one_text x t = All-cons IsUtf8 x [] t (All-nil IsUtf8)

two_texts : (x y : Text) → IsUtf8 x → IsUtf8 y → All IsUtf8 (x ∷ y ∷ [])
two_texts x y t u = All-cons IsUtf8 x (y ∷ []) t (one_text y u)

pub are_texts : (words : List Text) (command : Command) → IsUnflagged words command → All IsUtf8 words
are_texts _ _ (emit words file budget f w) =
    let r = with_budget words (file ∷ []) budget w in
    All-cons IsUtf8 (codes "emit") words emit_text (word_texts words (file ∷ []) (r.0) budget (r.1) (r.2) (one_text file f.text))
are_texts _ _ (normalise words file budget f w) =
    let r = with_budget words (file ∷ []) budget w in
    All-cons IsUtf8 (codes "normalise") words normalise_text (word_texts words (file ∷ []) (r.0) budget (r.1) (r.2) (one_text file f.text))
are_texts _ _ (simulate words file stimulus budget f g w) =
    let r = with_budget words (file ∷ stimulus ∷ []) budget w in
    All-cons IsUtf8 (codes "simulate") words simulate_text
    (word_texts words (file ∷ stimulus ∷ []) (r.0) budget (r.1) (r.2) (two_texts file stimulus f.text g.text))
are_texts _ _ (check file f) = two_texts (codes "check") file check_text f.text
are_texts _ _ (run f g p q) = All-cons IsUtf8 (codes "run") (f ∷ g ∷ []) run_text (two_texts f g p.text q.text)
are_texts _ _ (make word taps t) = two_texts (codes "make") word make_text (text_number word _ _ taps t.number)
