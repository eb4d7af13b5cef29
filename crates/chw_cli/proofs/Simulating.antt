-- What `simulate` answers to the texts of its two files.
use Rattle.std.proofs.Common.{◌≡◌, ℕ, List, [], ◌∷◌, Result, Ok, Err, refl, sym, subst}
use Rattle.chw_base.specs.Files.{Files}
use Rattle.chw_clock.specs.declared.event.Event.{Event}
use Rattle.chw_clock.specs.declared.event.Ports.{Ports}
use Rattle.chw_cli.specs.Answer.{SimulateAnswer}
use Rattle.chw_cli.specs.Answer.SimulateAnswer.{wrong_text, not_compiled, no_stimulus, simulated}
use Rattle.chw_cli.specs.Descriptions.{CanCompile}
use Rattle.chw_cli.specs.Exact.{AreHeld, SimulatesWith}
use Rattle.chw_cli.specs.Exact.AreHeld.{more}
use Rattle.chw_cli.specs.Exact.SimulatesWith.{simulates}
use Rattle.chw_cli.specs.Faults.{refusal_of_compile, refusal_of_sim}
use Rattle.chw_cli.specs.Lines.{status_of}
use Rattle.chw_cli.specs.Reads.{Read, Wanted, whole}
use Rattle.chw_cli.specs.declared.refusal.Refusal.{Refusal}
use Rattle.chw_cli.specs.declared.status.Status.{Status}
use Rattle.chw_cli.specs.declared.status.Status.TheVariants as status
use Rattle.chw_cli.proofs.Asking.{Held}
use Rattle.chw_cli.proofs.Compiling.{compiles_without_fault, values_without_fault}
use Rattle.chw_cli.proofs.Emitting.{compile_status}
use Rattle.chw_cli.proofs.OneText.{HasNoFault, HasNoNameFault, HasNoTypeFault, OneDescription, typed_is_right, wrong_status}
use Rattle.chw_cli.proofs.TwoTexts.{AreOfTwo, two_are_answered}
use Rattle.chw_cli.proofs.TwoTexts.IsOfTwo.{of_first, of_both}
use Rattle.chw_terms.specs.declared.program.Program.{Program}
use Rattle.chw_words.specs.declared.command.Command.{Command}
use Rattle.chw_words.specs.declared.command.SimForm.{SimForm}
use Rattle.answers.specs.Compilation.Laws.{NothingRefusesACompile}
use Rattle.data_kinds.specs.Laws.{OneProgram}
use Rattle.answers.specs.SimAnswer.Laws.{NothingRefusesAStimulus}
use Rattle.answers.specs.SimAnswer.Simulation.{IsStimulus}
use Rattle.answers.specs.declared.sim_answer.fault.SimFault.{SimFault}
use Rattle.answers.specs.declared.sim_answer.fault.SimFault.TheVariants as sim

pub simulations_are_of_two : (budget : ℕ) (form : SimForm) → AreOfTwo (SimulateAnswer budget form)
simulations_are_of_two budget form _ _ (wrong_text text r w) = of_first text r (wrong_text text r w)
simulations_are_of_two budget form _ _ (not_compiled text tree p fault d has w) =
    of_first text (refusal_of_compile p fault) (not_compiled text tree p fault d has w)
simulations_are_of_two budget form _ _ (no_stimulus text stimulus p fault can w) =
    of_both text stimulus (Err (refusal_of_sim fault)) (no_stimulus text stimulus p fault can w)
simulations_are_of_two budget form _ _ (simulated text stimulus lines p can w) =
    of_both text stimulus (Ok lines) (simulated text stimulus lines p can w)

-- a text whose program can be compiled isn't refused
pub compilable_is_right : HasNoFault → OneDescription → HasNoNameFault → OneProgram → HasNoTypeFault → NothingRefusesACompile → (budget : ℕ) (form : SimForm) (text : List ℕ)
    (p : Program) → CanCompile text budget p → (r : Refusal) → SimulateAnswer budget form (whole text ∷ []) (Err r) → ⊥
compilable_is_right sound same named alone typed_ compiles budget form text p can r a = only refl a
  where
    only : {answer : Result (List ℕ) Refusal} → answer ≡ Err r → SimulateAnswer budget form (whole text ∷ []) answer → ⊥
    only e (wrong_text _ q w) = typed_is_right sound same named alone typed_ text can.tree q can.typed w
    only e (not_compiled _ tree q fault d has w) = compiles_without_fault same alone compiles text budget p q tree fault can d has w

-- nor is a stimulus of values for it
values_are_right : OneDescription → OneProgram → NothingRefusesAStimulus → (budget : ℕ) (form : SimForm) (text stimulus : List ℕ) (p : Program) (ports : Ports)
    (events : List Event) → CanCompile text budget p → IsStimulus p stimulus ports events → (r : Refusal)
    → SimulateAnswer budget form (whole text ∷ whole stimulus ∷ []) (Err r) → ⊥
values_are_right same alone taken budget form text stimulus p ports events can values r a = only refl a
  where
    only : {answer : Result (List ℕ) Refusal} → answer ≡ Err r → SimulateAnswer budget form (whole text ∷ whole stimulus ∷ []) answer → ⊥
    only e (no_stimulus _ _ q fault can' w) = values_without_fault same alone taken text stimulus budget p q ports events fault can can' values w
    only e (simulated _ _ lines q can' w) = absurd (cc)

pub simulate_is_answered : HasNoFault → OneDescription → HasNoNameFault → OneProgram → HasNoTypeFault → NothingRefusesACompile → NothingRefusesAStimulus
    → (budget : ℕ) (form : SimForm) (files : Files) (command : Command) (first second : Wanted) (texts : List (List ℕ)) (reads : List Read) (r : Refusal)
    → AreHeld files (first ∷ second ∷ []) texts → SimulatesWith budget texts → Held files command (first ∷ second ∷ []) reads
    → SimulateAnswer budget form reads (Err r) → ⊥
simulate_is_answered sound same named alone typed_ compiles taken budget form files command first second texts reads r held_texts breaks held_reads a =
    by texts held_texts breaks
  where
    by : (texts : List (List ℕ)) → AreHeld files (first ∷ second ∷ []) texts → SimulatesWith budget texts → ⊥
    by _ (more _ _ _ _ has (more _ _ _ _ has' rest)) (simulates text stimulus p ports events can values) =
        two_are_answered (SimulateAnswer budget form) (simulations_are_of_two budget form) files command first second text stimulus reads r has has'
        (λ q w. compilable_is_right sound same named alone typed_ compiles budget form text p can q w)
        (λ q w. values_are_right same alone taken budget form text stimulus p ports events can values q w) held_reads a

-- the refusals of `simulate` have these statuses
pub sim_status : (P : Status → Type 0) → P status.Stimulus → (fault : SimFault) → P (status_of (refusal_of_sim fault))
sim_status P stim (sim.Stimulus fault) = stim
sim_status P stim (sim.Value line) = stim

pub simulate_status : (P : Status → Type 0) → P status.Refused → P status.Spent → P status.Stimulus → (budget : ℕ) (form : SimForm) (reads : List Read) (r : Refusal)
    → SimulateAnswer budget form reads (Err r) → P (status_of r)
simulate_status P refused over stim budget form reads r a = only reads refl a
  where
    only : {answer : Result (List ℕ) Refusal} (reads : List Read) → answer ≡ Err r → SimulateAnswer budget form reads answer → P (status_of r)
    only _ e (wrong_text text q w) = let is : q ≡ r = cc in subst (λ q. P (status_of q)) is (subst P (sym (wrong_status text q w)) refused)
    only _ e (not_compiled text tree p fault d has w) =
        let is : refusal_of_compile p fault ≡ r = cc in subst (λ q. P (status_of q)) is (compile_status P refused over p fault)
    only _ e (no_stimulus text stimulus p fault can w) = let is : refusal_of_sim fault ≡ r = cc in subst (λ q. P (status_of q)) is (sim_status P stim fault)
    only _ e (simulated text stimulus lines p can w) = absurd (cc)
