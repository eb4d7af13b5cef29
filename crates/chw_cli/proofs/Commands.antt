-- What each command answers, and with which status it refuses.
use Rattle.std.proofs.Common.{◌≡◌, ℕ, List, Result, Ok, Err}
use Rattle.chw_base.specs.Files.{Files}
use Rattle.chw_cli.specs.Answer.{CommandAnswer, EmitAnswer, NormaliseAnswer, RunAnswer, SimulateAnswer}
use Rattle.chw_cli.specs.Exact.{AreHeld, BreakNothing, HasNormalRun, IsEmittable, Misses}
use Rattle.chw_cli.specs.Lines.{status_of}
use Rattle.chw_cli.specs.Reads.{GoesOn, Read, description_in, stimulus_in, verilog_in, wants}
use Rattle.chw_cli.specs.declared.refusal.Refusal.{Refusal}
use Rattle.chw_cli.specs.declared.status.Status.{Status}
use Rattle.chw_cli.specs.declared.status.Status.TheVariants as status
use Rattle.chw_cli.proofs.Asking.{AreWhole, Held, IsLonger}
use Rattle.chw_cli.proofs.Asking.IsLonger.{its, of_later}
use Rattle.chw_cli.proofs.Compiling.{can_compile}
use Rattle.chw_cli.proofs.Descriptions.{NoLexFault, OneSplitting, OneTree, has_no_fault, same_description}
use Rattle.chw_cli.proofs.Emitting.{emit_status, good_is_emitted}
use Rattle.chw_cli.proofs.Making.{make_is_answered, make_status, whole_made}
use Rattle.chw_cli.proofs.Normal.{normal_is_answered, normal_status}
use Rattle.chw_cli.proofs.OneText.{HasNoFault, HasNoNameFault, HasNoTypeFault, OneDescription, misses_one, one_text_is_answered, text_status, whole_text}
use Rattle.chw_cli.proofs.Runs.{NothingRefused, NothingWrong, run_is_answered, run_status, runnable_is_right, runs_are_of_two}
use Rattle.chw_cli.proofs.Simulating.{compilable_is_right, simulate_is_answered, simulate_status, simulations_are_of_two}
use Rattle.chw_cli.proofs.TwoTexts.{misses_two, whole_two}
use Rattle.chw_grammar.specs.Text.{Text}
use Rattle.chw_norm.specs.Laws.{NothingRefusesANormalRun, OneLastState}
use Rattle.chw_words.specs.declared.command.Command.{Command}
use Rattle.chw_words.specs.declared.command.Command.TheVariants.{Emit, Simulate, Check, Normalise, Run, Make}
use Rattle.answers.specs.Compilation.Laws.{CompiledEndsSmall, NothingRefusesACompile}
use Rattle.data_kinds.specs.Laws.{OneProgram}
use Rattle.answers.specs.MakeAnswer.Events.{make_stimulus}
use Rattle.make_text.specs.MakeText.{make_text}
use Rattle.answers.specs.SimAnswer.Laws.{NothingRefusesAStimulus}

-- the laws by which nothing refuses what breaks no restriction
pub record Laws : Type 0 where
  pub sound : HasNoFault
  pub same : OneDescription
  pub named : HasNoNameFault
  pub alone : OneProgram
  pub typed : HasNoTypeFault
  pub normal : NothingRefusesANormalRun
  pub last : OneLastState
  pub compiles : NothingRefusesACompile
  pub small : CompiledEndsSmall
  pub right : NothingWrong
  pub taken : NothingRefused
  pub values : NothingRefusesAStimulus

pub laws_of : OneSplitting → NoLexFault → OneTree → HasNoNameFault → OneProgram → HasNoTypeFault → NothingRefusesANormalRun → OneLastState
    → NothingRefusesACompile → CompiledEndsSmall → NothingWrong → NothingRefused → NothingRefusesAStimulus → Laws
laws_of once never one named alone typed_ normal last compiles small right taken values = record {
  sound = has_no_fault once never one;
  same = same_description once one;
  named = named;
  alone = alone;
  typed = typed_;
  normal = normal;
  last = last;
  compiles = compiles;
  small = small;
  right = right;
  taken = taken;
  values = values;
}

-- a command whose files break no restriction isn't refused
abbrev pub NotRefused : Type 0
NotRefused = (files : Files) (command : Command) (texts : List (List ℕ)) (reads : List Read) (r : Refusal) → AreHeld files (wants command) texts
    → BreakNothing command texts → Held files command (wants command) reads → CommandAnswer command reads (Err r) → ⊥

pub not_refused : Laws → NotRefused
not_refused l files (Emit file budget form) texts reads r held_texts breaks held_reads a =
    one_text_is_answered l.sound l.same l.named l.alone l.typed (IsEmittable budget form) (λ text tree answer. EmitAnswer tree budget form answer)
    (λ text tree r d suits e. good_is_emitted l.same l.alone l.compiles budget form text tree r d suits e) files (Emit file budget form) (description_in file) texts reads r
    held_texts breaks held_reads a
not_refused l files (Simulate file stimulus budget form) texts reads r held_texts breaks held_reads a =
    simulate_is_answered l.sound l.same l.named l.alone l.typed l.compiles l.values budget form files (Simulate file stimulus budget form) (description_in file)
    (stimulus_in stimulus) texts reads r held_texts breaks held_reads a
not_refused l files (Check file) texts reads r held_texts breaks held_reads a =
    one_text_is_answered l.sound l.same l.named l.alone l.typed (λ text. Unit {0}) (λ text tree answer. answer ≡ Ok (Text tree))
    (λ text tree r d suits e. cc) files (Check file) (description_in file) texts reads r held_texts breaks held_reads a
not_refused l files (Normalise file budget) texts reads r held_texts breaks held_reads a =
    one_text_is_answered l.sound l.same l.named l.alone l.typed (HasNormalRun budget) (λ text tree answer. NormaliseAnswer tree budget answer)
    (λ text tree r d suits e. normal_is_answered l.same l.alone l.normal l.last budget text tree r d suits e) files (Normalise file budget) (description_in file)
    texts reads r held_texts breaks held_reads a
not_refused l files (Run verilog stimulus) texts reads r held_texts breaks held_reads a =
    run_is_answered l.right l.taken files (Run verilog stimulus) (verilog_in verilog) (stimulus_in stimulus) texts reads r held_texts breaks held_reads a
not_refused l files (Make taps) texts reads r held_texts breaks held_reads a =
    make_is_answered l.sound l.same l.named l.alone l.typed l.compiles l.values (make_text taps) (make_stimulus taps) texts reads r breaks a

-- no command answers where one of its files is missing
abbrev pub NoAnswer : Type 0
NoAnswer = (files : Files) (command : Command) (reads : List Read) (answer : Result (List ℕ) Refusal) → Misses files (GoesOn command) (wants command)
    → Held files command (wants command) reads → CommandAnswer command reads answer → ⊥

pub no_answer : Laws → NoAnswer
no_answer l files (Emit file budget form) reads answer m h a =
    misses_one files (Emit file budget form) (description_in file) (λ text tree answer. EmitAnswer tree budget form answer) reads answer (λ text no. no) m h a
no_answer l files (Simulate file stimulus budget form) reads answer m h a =
    misses_two (SimulateAnswer budget form) (simulations_are_of_two budget form) files (Simulate file stimulus budget form) (description_in file) (stimulus_in stimulus) reads answer
    (λ text on r w. compilable_is_right l.sound l.same l.named l.alone l.typed l.compiles budget form text on.0 (can_compile l.small on.1) r w) m h a
no_answer l files (Check file) reads answer m h a =
    misses_one files (Check file) (description_in file) (λ text tree answer. answer ≡ Ok (Text tree)) reads answer (λ text no. no) m h a
no_answer l files (Normalise file budget) reads answer m h a =
    misses_one files (Normalise file budget) (description_in file) (λ text tree answer. NormaliseAnswer tree budget answer) reads answer (λ text no. no) m h a
no_answer l files (Run verilog stimulus) reads answer m h a =
    misses_two RunAnswer runs_are_of_two files (Run verilog stimulus) (verilog_in verilog) (stimulus_in stimulus) reads answer
    (λ text on r w. runnable_is_right l.right text on.0 on.1 r w) m h a
no_answer l files (Make taps) reads answer m h a = elim m [ ]

-- a refusal that is a command's answer has a status of its own
abbrev pub IsOwn : Status → Type 0
IsOwn status.Ok = ⊥
IsOwn status.Words = ⊥
IsOwn status.Read = ⊥
IsOwn status.Write = ⊥
IsOwn status.Memory = ⊥
IsOwn _ = Unit {0}

pub command_status : (command : Command) (reads : List Read) (r : Refusal) → CommandAnswer command reads (Err r) → IsOwn (status_of r)
command_status (Emit file budget form) reads r a =
    text_status IsOwn tt (λ text tree answer. EmitAnswer tree budget form answer)
    (λ text tree r e. emit_status IsOwn tt tt tree budget form r e) reads r a
command_status (Simulate file stimulus budget form) reads r a = simulate_status IsOwn tt tt tt budget form reads r a
command_status (Check file) reads r a = text_status IsOwn tt (λ text tree answer. answer ≡ Ok (Text tree)) (λ text tree r e. absurd (cc)) reads r a
command_status (Normalise file budget) reads r a =
    text_status IsOwn tt (λ text tree answer. NormaliseAnswer tree budget answer) (λ text tree r e. normal_status IsOwn tt tt tree budget r e) reads r a
command_status (Run verilog stimulus) reads r a = run_status IsOwn tt tt tt reads r a
command_status (Make taps) reads r a = make_status IsOwn tt tt tt (make_text taps) (make_stimulus taps) reads r a

pub longer_status : (command : Command) (r : Refusal) → IsLonger (wants command) r → IsOwn (status_of r)
longer_status (Emit file budget form) _ (its _ _) = tt
longer_status (Simulate file stimulus budget form) _ (its _ _) = tt
longer_status (Simulate file stimulus budget form) _ (of_later _ _ _ (its _ _)) = tt
longer_status (Simulate file stimulus budget form) _ (of_later _ _ _ (of_later _ _ r is)) = elim is [ ]
longer_status (Check file) _ (its _ _) = tt
longer_status (Normalise file budget) _ (its _ _) = tt
longer_status (Run verilog stimulus) _ (its _ _) = tt
longer_status (Run verilog stimulus) _ (of_later _ _ _ (its _ _)) = tt
longer_status (Run verilog stimulus) _ (of_later _ _ _ (of_later _ _ r is)) = elim is [ ]
longer_status (Emit file budget form) _ (of_later _ _ r is) = elim is [ ]
longer_status (Check file) _ (of_later _ _ r is) = elim is [ ]
longer_status (Normalise file budget) _ (of_later _ _ r is) = elim is [ ]
longer_status (Make taps) r is = elim is [ ]

pub answers_whole : (command : Command) (reads : List Read) (answer : Result (List ℕ) Refusal) → CommandAnswer command reads answer → AreWhole reads
answers_whole (Emit file budget form) reads answer a = whole_text (λ text tree answer. EmitAnswer tree budget form answer) reads answer a
answers_whole (Simulate file stimulus budget form) reads answer a = whole_two (SimulateAnswer budget form) (simulations_are_of_two budget form) reads answer a
answers_whole (Check file) reads answer a = whole_text (λ text tree answer. answer ≡ Ok (Text tree)) reads answer a
answers_whole (Normalise file budget) reads answer a = whole_text (λ text tree answer. NormaliseAnswer tree budget answer) reads answer a
answers_whole (Run verilog stimulus) reads answer a = whole_two RunAnswer runs_are_of_two reads answer a
answers_whole (Make taps) reads answer a = whole_made (make_text taps) (make_stimulus taps) reads answer a
