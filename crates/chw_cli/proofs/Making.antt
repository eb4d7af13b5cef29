-- What `make` answers to the text and the stimulus that it makes.
use Rattle.std.proofs.Common.{◌≡◌, ℕ, List, Result, Err, refl, sym, subst, inl, inr}
use Rattle.chw_base.specs.Outcome.{OfFault}
use Rattle.chw_base.specs.declared.outcome.Or.{Or}
use Rattle.chw_base.specs.declared.outcome.Or.TheVariants.{Memory, Fault}
use Rattle.chw_clock.specs.declared.event.Event.{Event}
use Rattle.chw_clock.specs.declared.event.Ports.{Ports}
use Rattle.chw_cli.specs.Descriptions.{CanCompile, HasProgram, IsTypedText}
use Rattle.chw_cli.specs.Exact.{MakesWith}
use Rattle.chw_cli.specs.Exact.MakesWith.{makes}
use Rattle.chw_cli.specs.Faults.{refusal_of_compile, refusal_of_sim}
use Rattle.chw_cli.specs.Lines.{status_of}
use Rattle.chw_cli.specs.Making.{MadeAnswer, TallyAnswer}
use Rattle.chw_cli.specs.Making.MadeAnswer.{wrong_text, typed}
use Rattle.chw_cli.specs.Making.TallyAnswer.{not_compiled, no_stimulus, tallied}
use Rattle.chw_cli.specs.Reads.{Read}
use Rattle.chw_cli.specs.Refusals.{RefusesCompile, RefusesMade, RefusesTally, RefusesText, of_sim_fault}
use Rattle.chw_cli.specs.declared.refusal.Refusal.{Refusal}
use Rattle.chw_cli.specs.declared.status.Status.{Status}
use Rattle.chw_cli.specs.declared.status.Status.TheVariants as status
use Rattle.chw_cli.proofs.Asking.{AreWhole}
use Rattle.chw_cli.proofs.Compiling.{compiles_without_fault}
use Rattle.chw_cli.proofs.Emitting.{compile_status}
use Rattle.chw_cli.proofs.OneText.{HasNoFault, HasNoNameFault, HasNoTypeFault, OneDescription, one_program_for, typed_is_right, wrong_status}
use Rattle.chw_cli.proofs.Simulating.{sim_status}
use Rattle.chw_grammar.specs.declared.program.Tree.{Tree}
use Rattle.chw_terms.specs.declared.program.Program.{Program}
use Rattle.chw_words.specs.declared.budget.TheConstants.{MOST_BUDGET}
use Rattle.answers.specs.Compilation.Compiling.{CompilesTo}
use Rattle.answers.specs.Compilation.Laws.{NothingRefusesACompile}
use Rattle.data_kinds.specs.Laws.{OneProgram}
use Rattle.netlist.specs.declared.net.Flat.{Flat}
use Rattle.netlist.specs.declared.net.Net.{Net}
use Rattle.answers.specs.SimAnswer.Laws.{NothingRefusesAStimulus}
use Rattle.answers.specs.SimAnswer.Simulation.{IsSimFault, IsStimulus}
use Rattle.answers.specs.declared.sim_answer.fault.SimFault.{SimFault}

-- a text that can be compiled and a stimulus of values for its program aren't refused
tally_is_right : OneDescription → OneProgram → NothingRefusesACompile → NothingRefusesAStimulus → (text stimulus : List ℕ) (tree : Tree) (p q : Program)
    (ports : Ports) (events : List Event) → CanCompile text MOST_BUDGET p → IsStimulus p stimulus ports events → IsTypedText text tree → HasProgram tree q
    → (r : Refusal) → TallyAnswer q stimulus (Err r) → ⊥
tally_is_right same alone compiles taken text stimulus tree p q ports events can values d has r a = only refl a
  where
    only : {answer : Result (List ℕ) Refusal} → answer ≡ Err r → TallyAnswer q stimulus answer → ⊥
    only e (not_compiled fault w) = compiles_without_fault same alone compiles text MOST_BUDGET p q tree fault can d has w
    only e (no_stimulus net flat fault to w) =
        let one = one_program_for same alone text tree can.tree q p d has can.typed can.has in
        taken p stimulus ports events fault values (subst (λ x. IsSimFault x stimulus fault) one w)
    only e (tallied tally is) = absurd (cc)

pub make_is_answered : HasNoFault → OneDescription → HasNoNameFault → OneProgram → HasNoTypeFault → NothingRefusesACompile → NothingRefusesAStimulus
    → (text stimulus : List ℕ) (texts : List (List ℕ)) (reads : List Read) (r : Refusal) → MakesWith text stimulus texts
    → MadeAnswer text stimulus reads (Err r) → ⊥
make_is_answered sound same named alone typed_ compiles taken text stimulus texts reads r breaks a = by texts reads breaks refl a
  where
    by : {answer : Result (List ℕ) Refusal} (texts : List (List ℕ)) (reads : List Read) → MakesWith text stimulus texts → answer ≡ Err r
        → MadeAnswer text stimulus reads answer → ⊥
    by _ _ (makes p ports events can values) e (wrong_text q w) = typed_is_right sound same named alone typed_ text can.tree q can.typed w
    by _ _ (makes p ports events can values) e (typed tree q answer d has a) =
        tally_is_right same alone compiles taken text stimulus tree p q ports events can values d has r (subst (TallyAnswer q stimulus) e a)

-- the refusals of `make` have these statuses
tally_status : (P : Status → Type 0) → P status.Refused → P status.Spent → P status.Stimulus → (p : Program) (stimulus : List ℕ) (r : Refusal)
    → TallyAnswer p stimulus (Err r) → P (status_of r)
tally_status P refused over stim p stimulus r a = only refl a
  where
    only : {answer : Result (List ℕ) Refusal} → answer ≡ Err r → TallyAnswer p stimulus answer → P (status_of r)
    only e (not_compiled fault w) = let is : refusal_of_compile p fault ≡ r = cc in subst (λ q. P (status_of q)) is (compile_status P refused over p fault)
    only e (no_stimulus net flat fault to w) = let is : refusal_of_sim fault ≡ r = cc in subst (λ q. P (status_of q)) is (sim_status P stim fault)
    only e (tallied tally is) = absurd (cc)

pub make_status : (P : Status → Type 0) → P status.Refused → P status.Spent → P status.Stimulus → (text stimulus : List ℕ) (reads : List Read) (r : Refusal)
    → MadeAnswer text stimulus reads (Err r) → P (status_of r)
make_status P refused over stim text stimulus reads r a = only reads refl a
  where
    only : {answer : Result (List ℕ) Refusal} (reads : List Read) → answer ≡ Err r → MadeAnswer text stimulus reads answer → P (status_of r)
    only _ e (wrong_text q w) = let is : q ≡ r = cc in subst (λ q. P (status_of q)) is (subst P (sym (wrong_status text q w)) refused)
    only _ e (typed tree p answer d has a) = tally_status P refused over stim p stimulus r (subst (TallyAnswer p stimulus) e a)

-- nothing is read
pub whole_made : (text stimulus : List ℕ) (reads : List Read) (answer : Result (List ℕ) Refusal) → MadeAnswer text stimulus reads answer → AreWhole reads
whole_made text stimulus _ _ (wrong_text r w) = tt
whole_made text stimulus _ _ (typed tree p answer d has a) = tt

-- what is wrong with the text is the answer
pub text_refuses_made : (text stimulus : List ℕ) (r : Refusal) → RefusesText text r → RefusesMade text stimulus r
text_refuses_made text stimulus r (inl e) = inl e
text_refuses_made text stimulus r (inr w) = inr (wrong_text r w)

-- so is what refuses the program
pub tally_refuses_made : (text stimulus : List ℕ) (tree : Tree) (p : Program) (r : Refusal) → IsTypedText text tree → HasProgram tree p
    → RefusesTally p stimulus r → RefusesMade text stimulus r
tally_refuses_made text stimulus tree p r d has (inl e) = inl e
tally_refuses_made text stimulus tree p r d has (inr a) = inr (typed tree p (Err r) d has a)

-- what refuses a program that isn't compiled refuses its tally
pub compile_refuses_tally : (p : Program) (stimulus : List ℕ) (r : Refusal) → RefusesCompile p MOST_BUDGET r → RefusesTally p stimulus r
compile_refuses_tally p stimulus r (inl e) = inl e
compile_refuses_tally p stimulus r (inr it) = inr (subst (λ x. TallyAnswer p stimulus (Err x)) (sym it.2) (not_compiled it.0 it.1))

-- and so does what refuses the stimulus
pub sim_refuses_tally : (p : Program) (stimulus : List ℕ) (net : Net) (flat : Flat) (e : Or SimFault) → CompilesTo p MOST_BUDGET net flat
    → OfFault e (IsSimFault p stimulus) → RefusesTally p stimulus (of_sim_fault e)
sim_refuses_tally p stimulus net flat Memory to h = inl refl
sim_refuses_tally p stimulus net flat (Fault fault) to h = inr (no_stimulus net flat fault to h)
