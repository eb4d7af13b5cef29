use Rattle.std.proofs.Common.{◌≡◌, ◌∙◌, sym, refl, ap, map, true, false, true≢false, rules, subst, [], ⊎_elim}
use Rattle.std.proofs.lemmas.Result.{IfOk-weaker}
use Rattle.clap.specs.Simple.{app_of, subcommand_of}
use Rattle.clap.specs.Kinds.{HasKind}
use Rattle.clap.specs.Faults.{fault_of, is_simple_and_free}
use Rattle.clap.specs.Simple.{is_simple, subcommand_rows_of}
use Rattle.chw_words.specs.Form.{has_form}
use Rattle.chw_words.specs.Parsing.{IsMatched, chw_app}
use Rattle.chw_words.proofs.Exactly.{is_command}
use Rattle.chw_words.proofs.Passes.{passes}
use Rattle.chw_words.proofs.Outcomes.{IfFault-weaker, OfFault-weaker}
use Rattle.chw_words.proofs.Forms.{form_from, form_test}
use Rattle.chw_words.proofs.reading.read_unflagged.Goals as goal

-- the commands are of the kind whose matches and faults `clap` promises exactly
is_exact : is_simple_and_free chw_app ≡ true
is_exact = refl

pub returns-then-not-has_form-clause-fault : goal.returns-then-not-has_form-clause-fault
returns-then-not-has_form-clause-fault c = λ command is.
    let words = map (λ s. s.now) c.args.words.now in
    let passed : has_form words ≡ true = form_test words (passes words command is).form in
    let failed : has_form words ≡ false = search rules in
    absurd (true≢false (sym passed ∙ failed))

pub returns-in-Ok-clause-command : goal.returns-in-Ok-clause-command
returns-in-Ok-clause-command c =
    let words = map (λ s. s.now) c.args.words.now in
    let passed : has_form words ≡ true = search rules in
    let app : app_of c.in_ok-parser.field-0 ≡ chw_app = c.in_ok-parser.ensures in
    let faultless : fault_of chw_app words ≡ [] = sym (ap (λ it. fault_of it words) app) ∙ c.in-Ok.ensures.kinds (ap is_simple_and_free app ∙ is_exact) in
    let matched : subcommand_rows_of c.in-Ok.matches ≡ subcommand_of chw_app words = (c.in-Ok.ensures.matches (ap is_simple app)).1 ∙ ap (λ it. subcommand_of it words) app in
    IfOk-weaker c.reading.result _ _
    (λ command m. is_command words command (form_from words passed) c.requires faultless (subst (λ o. IsMatched o command) matched m))
    c.reading.ensures.command

pub returns-in-Ok-clause-fault : goal.returns-in-Ok-clause-fault
returns-in-Ok-clause-fault c =
    let words = map (λ s. s.now) c.args.words.now in
    let app : app_of c.in_ok-parser.field-0 ≡ chw_app = c.in_ok-parser.ensures in
    let matched : subcommand_rows_of c.in-Ok.matches ≡ subcommand_of chw_app words = (c.in-Ok.ensures.matches (ap is_simple app)).1 ∙ ap (λ it. subcommand_of it words) app in
    IfFault-weaker c.reading.result _ _
    (λ f none command is. none command (subst (λ o. IsMatched o command) (sym matched) (passes words command is).matched))
    c.reading.ensures.fault

pub returns-in-Err-clause-fault : goal.returns-in-Err-clause-fault
returns-in-Err-clause-fault c =
    let words = map (λ s. s.now) c.args.words.now in
    let app : app_of c.in_ok-parser.field-0 ≡ chw_app = c.in_ok-parser.ensures in
    let kinds = c.in-Err.ensures.kinds (ap is_simple_and_free app ∙ is_exact) in
    OfFault-weaker c.refusal.result _ _
    (λ f not_memory command is.
    ⊎_elim not_memory (λ none. none)
    (subst (λ ks. HasKind ks c.in-Err.error) (ap (λ it. fault_of it words) app ∙ (passes words command is).faultless) kinds))
    c.refusal.ensures
