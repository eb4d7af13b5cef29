-- What `run` answers to the texts of its two files.
use Rattle.std.proofs.Common.{◌≡◌, ℕ, List, [], ◌∷◌, Result, Ok, Err, refl, subst}
use Rattle.chw_base.specs.Files.{Files}
use Rattle.chw_clock.specs.declared.event.Event.{Event}
use Rattle.chw_cli.specs.Answer.{RunAnswer}
use Rattle.chw_cli.specs.Answer.RunAnswer.{no_circuit, no_stimulus, ran}
use Rattle.chw_cli.specs.Exact.{AreHeld, RunsWith}
use Rattle.chw_cli.specs.Exact.AreHeld.{more}
use Rattle.chw_cli.specs.Exact.RunsWith.{runs}
use Rattle.chw_cli.specs.Faults.{refusal_of}
use Rattle.chw_cli.specs.Lines.{status_of}
use Rattle.chw_cli.specs.Reads.{Read, Wanted, whole}
use Rattle.chw_cli.specs.declared.refusal.Refusal.{Refusal}
use Rattle.chw_cli.specs.declared.refusal.Refusal.TheVariants as refusal
use Rattle.chw_cli.specs.declared.status.Status.{Status}
use Rattle.chw_cli.specs.declared.status.Status.TheVariants as status
use Rattle.chw_cli.proofs.Asking.{Held}
use Rattle.chw_cli.proofs.TwoTexts.{AreOfTwo, two_are_answered}
use Rattle.chw_cli.proofs.TwoTexts.IsOfTwo.{of_first, of_both}
use Rattle.chw_words.specs.declared.command.Command.{Command}
use Rattle.netlist.specs.declared.net.Flat.{Flat}
use Rattle.run_answer.specs.Circuits.{CanRun, HasFlat, IsCircuitFault}
use Rattle.run_answer.specs.declared.fault.CircuitFault.{CircuitFault}
use Rattle.run_answer.specs.declared.fault.CircuitFault.TheVariants as circuit
use Rattle.stimulus.specs.Stimulus.{IsStimFault, Stim}
use Rattle.stimulus.specs.declared.fault.StimFault.{StimFault}

-- nothing is wrong with a text that can be run, and nothing refuses a stimulus for its ports
abbrev pub NothingWrong : Type 0
NothingWrong = (text : List ℕ) (flat : Flat) (fault : CircuitFault) → CanRun text flat → IsCircuitFault text fault → ⊥

abbrev pub NothingRefused : Type 0
NothingRefused = (text stimulus : List ℕ) (flat other : Flat) (events : List Event) (fault : StimFault)
    → CanRun text flat → Stim stimulus flat.ports events → HasFlat text other → IsStimFault stimulus other.ports fault → ⊥

pub runs_are_of_two : AreOfTwo RunAnswer
runs_are_of_two _ _ (no_circuit text fault w) = of_first text (refusal_of fault) (no_circuit text fault w)
runs_are_of_two _ _ (no_stimulus text stimulus flat fault can w) =
    of_both text stimulus (Err (refusal.Stimulus fault)) (no_stimulus text stimulus flat fault can w)
runs_are_of_two _ _ (ran text stimulus lines flat can w) = of_both text stimulus (Ok lines) (ran text stimulus lines flat can w)

-- a text that can be run isn't refused
pub runnable_is_right : NothingWrong → (text : List ℕ) (flat : Flat) → CanRun text flat → (r : Refusal) → RunAnswer (whole text ∷ []) (Err r) → ⊥
runnable_is_right right text flat can r a = only refl a
  where
    only : {answer : Result (List ℕ) Refusal} → answer ≡ Err r → RunAnswer (whole text ∷ []) answer → ⊥
    only e (no_circuit _ fault w) = right text flat fault can w

-- nor is a stimulus for its ports
stimulus_is_right : NothingRefused → (text stimulus : List ℕ) (flat : Flat) (events : List Event) → CanRun text flat → Stim stimulus flat.ports events
    → (r : Refusal) → RunAnswer (whole text ∷ whole stimulus ∷ []) (Err r) → ⊥
stimulus_is_right taken text stimulus flat events can stim r a = only refl a
  where
    only : {answer : Result (List ℕ) Refusal} → answer ≡ Err r → RunAnswer (whole text ∷ whole stimulus ∷ []) answer → ⊥
    only e (no_stimulus _ _ other fault can' w) = taken text stimulus flat other events fault can stim can'.has w
    only e (ran _ _ lines other can' w) = absurd (cc)

pub run_is_answered : NothingWrong → NothingRefused → (files : Files) (command : Command) (first second : Wanted) (texts : List (List ℕ)) (reads : List Read)
    (r : Refusal) → AreHeld files (first ∷ second ∷ []) texts → RunsWith texts → Held files command (first ∷ second ∷ []) reads → RunAnswer reads (Err r) → ⊥
run_is_answered right taken files command first second texts reads r held_texts breaks held_reads a = by texts held_texts breaks
  where
    by : (texts : List (List ℕ)) → AreHeld files (first ∷ second ∷ []) texts → RunsWith texts → ⊥
    by _ (more _ _ _ _ has (more _ _ _ _ has' rest)) (runs text stimulus flat events can stim) =
        two_are_answered RunAnswer runs_are_of_two files command first second text stimulus reads r has has'
        (λ q w. runnable_is_right right text flat can q w) (λ q w. stimulus_is_right taken text stimulus flat events can stim q w) held_reads a

-- the refusals of `run` have these statuses
circuit_status : (P : Status → Type 0) → P status.Refused → P status.Verilog → (fault : CircuitFault) → P (status_of (refusal_of fault))
circuit_status P refused verilog (circuit.Text fault) = verilog
circuit_status P refused verilog circuit.TooLarge = refused
circuit_status P refused verilog (circuit.Loop cycle) = refused

pub run_status : (P : Status → Type 0) → P status.Refused → P status.Verilog → P status.Stimulus → (reads : List Read) (r : Refusal)
    → RunAnswer reads (Err r) → P (status_of r)
run_status P refused verilog stim reads r a = only reads refl a
  where
    only : {answer : Result (List ℕ) Refusal} (reads : List Read) → answer ≡ Err r → RunAnswer reads answer → P (status_of r)
    only _ e (no_circuit text fault w) = let is : refusal_of fault ≡ r = cc in subst (λ q. P (status_of q)) is (circuit_status P refused verilog fault)
    only _ e (no_stimulus text stimulus flat fault can w) = let is : refusal.Stimulus fault ≡ r = cc in subst (λ q. P (status_of q)) is stim
    only _ e (ran text stimulus lines flat can w) = absurd (cc)
