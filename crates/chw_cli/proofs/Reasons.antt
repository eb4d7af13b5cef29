-- Why there is no answer: from the refusals of the parts to that of the whole.
use Rattle.std.proofs.Common.{◌≡◌, ◌≤◌, ℕ, List, [], ◌∷◌, ◌++◌, Option, Some, None, Result, Ok, Err, ◌⊎◌, refl, sym, subst, inl, inr}
use Rattle.std.specs.Prelude.{length, MatchOption}
use Rattle.std.specs.Str.{IsUtf8}
use Rattle.chw_base.specs.Files.{Files}
use Rattle.chw_base.specs.Outcome.{OfFault}
use Rattle.chw_base.specs.declared.outcome.Or.{Or}
use Rattle.chw_base.specs.declared.outcome.Or.TheVariants.{Memory, Fault}
use Rattle.chw_base.specs.declared.shelf.Fetched.{Fetched}
use Rattle.chw_base.specs.declared.shelf.Fetched.TheVariants.{Whole, TooLong}
use Rattle.chw_base.specs.declared.shelf.ShelfFault.{ShelfFault}
use Rattle.chw_cli.specs.Answer.{CommandAnswer, IsUnread, LacksText, SimulateAnswer}
use Rattle.chw_cli.specs.Answer.Answer.{no_command, no_text, texts}
use Rattle.chw_cli.specs.Answer.LacksText.{unread, too_long, later}
use Rattle.chw_cli.specs.Answer.RunAnswer.{no_circuit as no_circuit_answer, no_stimulus as no_stimulus_answer}
use Rattle.chw_cli.specs.Answer.SimulateAnswer.{no_stimulus as no_values_answer, not_compiled as not_compiled_answer, wrong_text as wrong_text_answer}
use Rattle.chw_cli.specs.Answer.TextAnswer.{wrong, typed}
use Rattle.chw_cli.specs.Descriptions.{Compiles, HasProgram, IsDescription, IsTypedText}
use Rattle.chw_cli.specs.Descriptions.IsWrongText.{no_description, wrong_names, wrong_types}
use Rattle.chw_cli.specs.Descriptions.NoDescription.{lex, syntax, depth}
use Rattle.chw_cli.specs.Fetching.{IsTold, LacksFile, ReadsNothing, RefusesFile}
use Rattle.chw_cli.specs.Fetching.ReadsNothing.{memory, unread as not_read}
use Rattle.chw_cli.specs.Fetching.RefusesFile.{nothing, too_long as too_long_file, wrong as wrong_text}
use Rattle.chw_cli.specs.Outcome.{AnswersBy, Refuses}
use Rattle.chw_cli.specs.Outcome.Refuses.{for_memory, by_answer}
use Rattle.chw_cli.specs.Reads.{Asks, Gets, GoesOn, Read, ReadsFor, Wanted, wants, whole}
use Rattle.chw_cli.specs.Reads.Asks.{uncalled, called}
use Rattle.chw_cli.specs.Reads.Read.{fetched}
use Rattle.chw_cli.specs.Reads.ReadsFor.{last, next}
use Rattle.chw_cli.specs.Refusals.RefusesSimulation.{memory as wanting_still, no_stimulus as no_values}
use Rattle.chw_cli.specs.Refusals.RefusesStimulus.{memory as wanting_too, no_stimulus}
use Rattle.chw_cli.specs.Refusals.RefusesVerilog.{memory as wanting, no_circuit}
use Rattle.chw_cli.specs.Refusals.{RefusesCompile, RefusesEmit, RefusesNormalise, RefusesReading, RefusesSimulation, RefusesStimulus, RefusesText, RefusesVerilog, of_circuit_fault, of_lex_fault, of_name_fault, of_parse_fault, of_sim_fault, of_stim_fault, of_type_fault, of_words_fault}
use Rattle.chw_cli.specs.declared.refusal.Refusal.{Refusal}
use Rattle.chw_cli.specs.declared.refusal.Refusal.TheVariants as refusal
use Rattle.chw_check.specs.Faults.{IsTypeFault}
use Rattle.chw_check.specs.declared.fault.TypeFault.{TypeFault}
use Rattle.chw_grammar.specs.Lexemes.{lexemes_of}
use Rattle.chw_grammar.specs.declared.program.Tree.{Tree}
use Rattle.chw_lexer.specs.Tokens.{Tokens, NoToken}
use Rattle.chw_lexer.specs.declared.token.LexFault.{LexFault}
use Rattle.chw_lexer.specs.declared.token.Token.{Token}
use Rattle.chw_parser.specs.Faults.{IsFault}
use Rattle.chw_parser.specs.declared.parsing.ParseFault.{ParseFault}
use Rattle.chw_parser.specs.declared.parsing.ParseFault.TheVariants.{Syntax, Depth}
use Rattle.chw_resolve.specs.Faults.{IsNameFault}
use Rattle.chw_resolve.specs.Written.{WasRead}
use Rattle.chw_resolve.specs.declared.fault.NameFault.{NameFault}
use Rattle.chw_terms.specs.declared.program.Program.{Program}
use Rattle.chw_words.specs.Commands.{IsCommand, AreNoCommand}
use Rattle.chw_words.specs.Commands.IsCommand.{emit, simulate, check, normalise, run, make}
use Rattle.chw_words.specs.declared.command.Command.{Command}
use Rattle.chw_words.specs.declared.command.EmitForm.{EmitForm}
use Rattle.chw_words.specs.declared.command.SimForm.{SimForm}
use Rattle.chw_words.specs.declared.command.Command.TheVariants.{Emit, Simulate, Check, Normalise, Run, Make}
use Rattle.chw_words.specs.declared.command.WordsFault.{WordsFault}
use Rattle.chw_words.specs.declared.taps.TheConstants.{MOST_TAPS}
use Rattle.netlist.specs.declared.net.Flat.{Flat}
use Rattle.run_answer.specs.Circuits.{CanRun, IsCircuitFault}
use Rattle.run_answer.specs.declared.fault.CircuitFault.{CircuitFault}
use Rattle.answers.specs.SimAnswer.Simulation.{IsSimFault}
use Rattle.answers.specs.declared.sim_answer.fault.SimFault.{SimFault}
use Rattle.stimulus.specs.Stimulus.{IsStimFault}
use Rattle.stimulus.specs.declared.fault.StimFault.{StimFault}

pub lex_refuses : (text : List ℕ) (e : Or LexFault) → OfFault e (λ f. NoToken text f.at) → RefusesReading text (of_lex_fault e)
lex_refuses text Memory h = inl refl
lex_refuses text (Fault f) h = inr (lex f.at h)

pub parse_refuses : (text : List ℕ) (tokens : List Token) (e : Or ParseFault) → Tokens text tokens
    → OfFault e (IsFault (length text) (lexemes_of text tokens)) → RefusesReading text (of_parse_fault e)
parse_refuses text tokens Memory split h = inl refl
parse_refuses text tokens (Fault (Syntax at)) split h = inr (syntax tokens at split h)
parse_refuses text tokens (Fault (Depth at)) split h = inr (depth tokens at split h)

-- a description was read from its text
pub was_read : (text : List ℕ) (tree : Tree) → IsDescription text tree → WasRead text tree
was_read text tree d = record { tokens = d.tokens; split = d.split; reads = d.reads }

pub names_refuse : (text : List ℕ) (tree : Tree) (e : Or NameFault) → IsDescription text tree → OfFault e (IsNameFault tree)
    → RefusesText text (of_name_fault e)
names_refuse text tree Memory d h = inl refl
names_refuse text tree (Fault f) d h = inr (wrong_names tree f d h)

pub types_refuse : (text : List ℕ) (tree : Tree) (p : Program) (e : Or TypeFault) → IsDescription text tree → HasProgram tree p
    → OfFault e (IsTypeFault p) → RefusesText text (of_type_fault e)
types_refuse text tree p Memory d w h = inl refl
types_refuse text tree p (Fault f) d w h = inr (wrong_types tree p f d w h)

pub reading_refuses : (text : List ℕ) (r : Refusal) → RefusesReading text r → RefusesText text r
reading_refuses text r (inl is) = inl is
reading_refuses text r (inr n) = inr (no_description r n)

-- nothing was read: memory was wanting, or the file isn't held or couldn't be read
module _ {S : Type 0} (gives : S → List ℕ → ℕ → Result Fetched (Or ShelfFault) → List ℕ → S → Type 0) (told : S → Option Files) (faults : S → ℕ)
    (name : List ℕ) (limit : ℕ) (s t : S) (answer : Result Fetched (Or ShelfFault)) (bytes : List ℕ) where
  pub nothing_wanting : Gets gives told faults name limit answer bytes s t → ReadsNothing gives told faults name limit s t refusal.Memory
  nothing_wanting g = memory answer bytes g

  pub nothing_told : (r : Refusal) → IsUnread answer → Gets gives told faults name limit answer bytes s t → IsTold name r
      → ReadsNothing gives told faults name limit s t r
  nothing_told r u g (inl e) = subst (ReadsNothing gives told faults name limit s t) (sym e) (not_read answer bytes g u)
  nothing_told r u g (inr e) = subst (ReadsNothing gives told faults name limit s t) (sym e) (memory answer bytes g)

-- what is so where there is no value
pub without_value : {A : Type 0} (P : Type 0) (Q : A → Type 0) (o : Option A) → ((x : A) → o ≡ Some x → ⊥) → MatchOption o P Q → P
without_value P Q None h p = p
without_value P Q (Some x) h p = absurd (h x refl)

-- the file of a command is text
pub emit_is_text : (words : List (List ℕ)) (file : List ℕ) (budget : ℕ) (form : EmitForm) → IsCommand words (Emit file budget form) → IsUtf8 file
emit_is_text _ _ _ _ (emit words rest found file budget form flags asked is said) = is.text

pub normalise_is_text : (words : List (List ℕ)) (file : List ℕ) (budget : ℕ) → IsCommand words (Normalise file budget) → IsUtf8 file
normalise_is_text _ _ _ (normalise words file budget is said) = is.text

pub check_is_text : (words : List (List ℕ)) (file : List ℕ) → IsCommand words (Check file) → IsUtf8 file
check_is_text _ _ (check file is) = is.text

pub simulate_is_text : (words : List (List ℕ)) (file stimulus : List ℕ) (budget : ℕ) (form : SimForm) → IsCommand words (Simulate file stimulus budget form)
    → IsUtf8 file × IsUtf8 stimulus
simulate_is_text _ _ _ _ _ (simulate words rest found file stimulus budget form flags asked is is' said) = (is.text, is'.text)

pub run_is_text : (words : List (List ℕ)) (verilog stimulus : List ℕ) → IsCommand words (Run verilog stimulus) → IsUtf8 verilog × IsUtf8 stimulus
run_is_text _ _ _ (run verilog stimulus is is') = (is.text, is'.text)

-- what a file lacks alone it lacks before others
lacks_among : (file : Wanted) (wanted : List Wanted) (read : Read) (r : Refusal) → LacksText (file ∷ []) (read ∷ []) r → LacksText (file ∷ wanted) (read ∷ []) r
lacks_among file wanted _ _ (unread _ _ answer bytes u) = unread file wanted answer bytes u
lacks_among file wanted _ _ (too_long _ _ bytes) = too_long file wanted bytes
lacks_among file wanted _ r (later _ _ text reads _ l) = elim l [ ]

module _ {S : Type 0} (gives : S → List ℕ → ℕ → Result Fetched (Or ShelfFault) → List ℕ → S → Type 0) (told : S → Option Files) (faults : S → ℕ)
    (words : List (List ℕ)) (s t : S) where
  abbrev pub Asked : List Read → Type 0
  Asked = Asks gives told faults words s t

  pub words_refuse : (e : Or WordsFault) → t ≡ s → OfFault e (λ _. AreNoCommand words) → Refuses Asked words (of_words_fault e)
  words_refuse Memory same h = for_memory [] (uncalled same)
  words_refuse (Fault f) same h = by_answer refusal.Words (record { reads = []; asked = uncalled same; answers = no_command h })

  -- a command that wants this file, behind what it read before
  module _ (command : Command) (file : Wanted) (is : IsCommand words command) (before : List Read) (m : S)
      (asks : (answer : Result Fetched (Or ShelfFault)) (bytes : List ℕ) → Gets gives told faults file.name file.limit answer bytes m t
      → Asked (before ++ fetched answer bytes ∷ []))
      (lacks : (read : Read) (r : Refusal) → LacksText (file ∷ []) (read ∷ []) r → LacksText (wants command) (before ++ read ∷ []) r) where
    lacking : (answer : Result Fetched (Or ShelfFault)) (bytes : List ℕ) (r : Refusal) → Gets gives told faults file.name file.limit answer bytes m t
        → LacksText (file ∷ []) (fetched answer bytes ∷ []) r → Refuses Asked words r
    lacking answer bytes r g l =
        by_answer r (record {
          reads = before ++ fetched answer bytes ∷ [];
          asked = asks answer bytes g;
          answers = no_text command (before ++ fetched answer bytes ∷ []) r is (lacks (fetched answer bytes) r l);
        })

    -- memory was wanting after the file was read, or its text has this refusal
    next_text_refuses : (text : List ℕ) (r : Refusal) → Gets gives told faults file.name file.limit (Ok Whole) text m t
        → (r ≡ refusal.Memory) ⊎ CommandAnswer command (before ++ whole text ∷ []) (Err r) → Refuses Asked words r
    next_text_refuses text r g (inl e) = subst (Refuses Asked words) (sym e) (for_memory (before ++ whole text ∷ []) (asks (Ok Whole) text g))
    next_text_refuses text r g (inr a) =
        by_answer r (record { reads = before ++ whole text ∷ []; asked = asks (Ok Whole) text g; answers = texts command (before ++ whole text ∷ []) (Err r) is a })

    next_text_answers : (text bytes : List ℕ) → Gets gives told faults file.name file.limit (Ok Whole) text m t
        → CommandAnswer command (before ++ whole text ∷ []) (Ok bytes) → AnswersBy Asked words (Ok bytes)
    next_text_answers text bytes g a =
        record { reads = before ++ whole text ∷ []; asked = asks (Ok Whole) text g; answers = texts command (before ++ whole text ∷ []) (Ok bytes) is a }

    -- the file has this refusal, if what is wrong with its text is the answer of the command
    next_file_refuses : (IsWrong : List ℕ → Refusal → Type 0)
        → ((text : List ℕ) (r : Refusal) → IsWrong text r → (r ≡ refusal.Memory) ⊎ CommandAnswer command (before ++ whole text ∷ []) (Err r))
        → (r : Refusal) → RefusesFile gives told faults file IsWrong m t r → Refuses Asked words r
    next_file_refuses IsWrong answers _ (nothing _ (memory answer bytes g)) = for_memory (before ++ fetched answer bytes ∷ []) (asks answer bytes g)
    next_file_refuses IsWrong answers _ (nothing _ (not_read answer bytes g u)) = lacking answer bytes (refusal.Read file.name) g (unread file [] answer bytes u)
    next_file_refuses IsWrong answers _ (too_long_file bytes g) = lacking (Ok TooLong) bytes file.longer g (too_long file [] bytes)
    next_file_refuses IsWrong answers r (wrong_text text _ g w) = next_text_refuses text r g (answers text r w)

  -- a command that wants this file first
  module _ (command : Command) (file : Wanted) (wanted : List Wanted) (is : IsCommand words command) (first : wants command ≡ file ∷ wanted) where
    asked_first : (answer : Result Fetched (Or ShelfFault)) (bytes : List ℕ) → Gets gives told faults file.name file.limit answer bytes s t
        → Asked (fetched answer bytes ∷ [])
    asked_first answer bytes g =
        called command (fetched answer bytes ∷ []) is
        (subst (λ ws. ReadsFor gives told faults command ws s t (fetched answer bytes ∷ [])) (sym first) (last file wanted answer bytes s t g))

    lacks_first : (read : Read) (r : Refusal) → LacksText (file ∷ []) (read ∷ []) r → LacksText (wants command) (read ∷ []) r
    lacks_first read r l = subst (λ ws. LacksText ws (read ∷ []) r) (sym first) (lacks_among file wanted read r l)

    pub text_refuses : (text : List ℕ) (r : Refusal) → Gets gives told faults file.name file.limit (Ok Whole) text s t
        → (r ≡ refusal.Memory) ⊎ CommandAnswer command (whole text ∷ []) (Err r) → Refuses Asked words r
    text_refuses = next_text_refuses command file is [] s asked_first lacks_first

    pub text_answers : (text bytes : List ℕ) → Gets gives told faults file.name file.limit (Ok Whole) text s t → CommandAnswer command (whole text ∷ []) (Ok bytes)
        → AnswersBy Asked words (Ok bytes)
    text_answers = next_text_answers command file is [] s asked_first lacks_first

    pub file_refuses : (IsWrong : List ℕ → Refusal → Type 0)
        → ((text : List ℕ) (r : Refusal) → IsWrong text r → (r ≡ refusal.Memory) ⊎ CommandAnswer command (whole text ∷ []) (Err r))
        → (r : Refusal) → RefusesFile gives told faults file IsWrong s t r → Refuses Asked words r
    file_refuses = next_file_refuses command file is [] s asked_first lacks_first

  -- a command that wants two files, went on after the first one, and then comes to the second
  module _ (command : Command) (file second : Wanted) (is : IsCommand words command) (two : wants command ≡ file ∷ second ∷ []) (text : List ℕ) (m : S)
      (got : Gets gives told faults file.name file.limit (Ok Whole) text s m) (on : GoesOn command text) where
    asked_second : (answer : Result Fetched (Or ShelfFault)) (bytes : List ℕ) → Gets gives told faults second.name second.limit answer bytes m t
        → Asked (whole text ∷ fetched answer bytes ∷ [])
    asked_second answer bytes g =
        called command (whole text ∷ fetched answer bytes ∷ []) is
        (subst (λ ws. ReadsFor gives told faults command ws s t (whole text ∷ fetched answer bytes ∷ [])) (sym two)
        (next file (second ∷ []) text (fetched answer bytes ∷ []) s m t got on (last second [] answer bytes m t g)))

    lacks_second : (read : Read) (r : Refusal) → LacksText (second ∷ []) (read ∷ []) r → LacksText (wants command) (whole text ∷ read ∷ []) r
    lacks_second read r l = subst (λ ws. LacksText ws (whole text ∷ read ∷ []) r) (sym two) (later file (second ∷ []) text (read ∷ []) r l)

    pub second_answers : (bytes answer : List ℕ) → Gets gives told faults second.name second.limit (Ok Whole) bytes m t
        → CommandAnswer command (whole text ∷ whole bytes ∷ []) (Ok answer) → AnswersBy Asked words (Ok answer)
    second_answers = next_text_answers command second is (whole text ∷ []) m asked_second lacks_second

    pub second_refuses : (IsWrong : List ℕ → Refusal → Type 0)
        → ((bytes : List ℕ) (r : Refusal) → IsWrong bytes r → (r ≡ refusal.Memory) ⊎ CommandAnswer command (whole text ∷ whole bytes ∷ []) (Err r))
        → (r : Refusal) → RefusesFile gives told faults second IsWrong m t r → Refuses Asked words r
    second_refuses = next_file_refuses command second is (whole text ∷ []) m asked_second lacks_second

-- what is wrong with the text of a description is the answer of its command
pub emit_answers : (file text : List ℕ) (budget : ℕ) (form : EmitForm) (r : Refusal) → RefusesText text r
    → (r ≡ refusal.Memory) ⊎ CommandAnswer (Emit file budget form) (whole text ∷ []) (Err r)
emit_answers file text budget form r (inl e) = inl e
emit_answers file text budget form r (inr w) = inr (wrong text r w)

pub check_answers : (file text : List ℕ) (r : Refusal) → RefusesText text r → (r ≡ refusal.Memory) ⊎ CommandAnswer (Check file) (whole text ∷ []) (Err r)
check_answers file text r (inl e) = inl e
check_answers file text r (inr w) = inr (wrong text r w)

-- so is what `emit` refuses of a description that is typed
pub emit_refuses : (file text : List ℕ) (budget : ℕ) (form : EmitForm) (tree : Tree) (r : Refusal) → IsTypedText text tree
    → RefusesEmit tree budget form r → (r ≡ refusal.Memory) ⊎ CommandAnswer (Emit file budget form) (whole text ∷ []) (Err r)
emit_refuses file text budget form tree r w (inl e) = inl e
emit_refuses file text budget form tree r w (inr a) = inr (typed text tree (Err r) w a)

-- and so is what `normalise` refuses
pub normalise_answers : (file text : List ℕ) (budget : ℕ) (r : Refusal) → RefusesText text r
    → (r ≡ refusal.Memory) ⊎ CommandAnswer (Normalise file budget) (whole text ∷ []) (Err r)
normalise_answers file text budget r (inl e) = inl e
normalise_answers file text budget r (inr w) = inr (wrong text r w)

pub normalise_refuses : (file text : List ℕ) (budget : ℕ) (tree : Tree) (r : Refusal) → IsTypedText text tree → RefusesNormalise tree budget r
    → (r ≡ refusal.Memory) ⊎ CommandAnswer (Normalise file budget) (whole text ∷ []) (Err r)
normalise_refuses file text budget tree r w (inl e) = inl e
normalise_refuses file text budget tree r w (inr a) = inr (typed text tree (Err r) w a)

-- what refuses a Verilog text is the answer of `run`, and so is what refuses the stimulus
pub verilog_answers : (verilog stimulus text : List ℕ) (r : Refusal) → RefusesVerilog text r
    → (r ≡ refusal.Memory) ⊎ CommandAnswer (Run verilog stimulus) (whole text ∷ []) (Err r)
verilog_answers verilog stimulus text _ wanting = inl refl
verilog_answers verilog stimulus text _ (no_circuit fault w) = inr (no_circuit_answer text fault w)

pub stimulus_answers : (verilog stimulus text : List ℕ) (flat : Flat) → CanRun text flat → (bytes : List ℕ) (r : Refusal) → RefusesStimulus flat bytes r
    → (r ≡ refusal.Memory) ⊎ CommandAnswer (Run verilog stimulus) (whole text ∷ whole bytes ∷ []) (Err r)
stimulus_answers verilog stimulus text flat can bytes _ wanting_too = inl refl
stimulus_answers verilog stimulus text flat can bytes _ (no_stimulus fault w) = inr (no_stimulus_answer text bytes flat fault can w)

pub circuit_refuses : (text : List ℕ) (e : Or CircuitFault) → OfFault e (IsCircuitFault text) → RefusesVerilog text (of_circuit_fault e)
circuit_refuses text Memory h = wanting
circuit_refuses text (Fault f) h = no_circuit f h

pub stim_refuses : (flat : Flat) (text : List ℕ) (e : Or StimFault) → OfFault e (IsStimFault text flat.ports) → RefusesStimulus flat text (of_stim_fault e)
stim_refuses flat text Memory h = wanting_too
stim_refuses flat text (Fault f) h = no_stimulus f h

-- a file that gave no text isn't gone on with, whatever a wrong text is
pub lacking_refuses : {S : Type 0} (gives : S → List ℕ → ℕ → Result Fetched (Or ShelfFault) → List ℕ → S → Type 0) (told : S → Option Files) (faults : S → ℕ)
    (file : Wanted) (IsWrong : List ℕ → Refusal → Type 0) (s t : S) (r : Refusal) → LacksFile gives told faults file s t r
    → RefusesFile gives told faults file IsWrong s t r
lacking_refuses gives told faults file IsWrong s t _ (nothing r n) = nothing r n
lacking_refuses gives told faults file IsWrong s t _ (too_long_file bytes g) = too_long_file bytes g
lacking_refuses gives told faults file IsWrong s t _ (wrong_text text r g never) = absurd never

-- what is wrong with the text is the answer of `simulate`; so is why its program can't be compiled, and what refuses the stimulus
pub simulate_answers : (file stimulus text : List ℕ) (budget : ℕ) (form : SimForm) (r : Refusal) → RefusesText text r
    → (r ≡ refusal.Memory) ⊎ CommandAnswer (Simulate file stimulus budget form) (whole text ∷ []) (Err r)
simulate_answers file stimulus text budget form r (inl e) = inl e
simulate_answers file stimulus text budget form r (inr w) = inr (wrong_text_answer text r w)

pub compile_answers : (file stimulus text : List ℕ) (budget : ℕ) (form : SimForm) (tree : Tree) (p : Program) (r : Refusal) → IsTypedText text tree → HasProgram tree p
    → RefusesCompile p budget r → (r ≡ refusal.Memory) ⊎ CommandAnswer (Simulate file stimulus budget form) (whole text ∷ []) (Err r)
compile_answers file stimulus text budget form tree p r d has (inl e) = inl e
compile_answers file stimulus text budget form tree p r d has (inr it) =
    inr (subst (λ x. SimulateAnswer budget form (whole text ∷ []) (Err x)) (sym it.2) (not_compiled_answer text tree p it.0 d has it.1))

pub simulation_answers : (file stimulus text : List ℕ) (budget : ℕ) (form : SimForm) (p : Program) → Compiles text budget p → (bytes : List ℕ) (r : Refusal)
    → RefusesSimulation p bytes r → (r ≡ refusal.Memory) ⊎ CommandAnswer (Simulate file stimulus budget form) (whole text ∷ whole bytes ∷ []) (Err r)
simulation_answers file stimulus text budget form p can bytes _ wanting_still = inl refl
simulation_answers file stimulus text budget form p can bytes _ (no_values fault w) = inr (no_values_answer text bytes p fault can w)

pub sim_refuses : (p : Program) (text : List ℕ) (e : Or SimFault) → OfFault e (IsSimFault p text) → RefusesSimulation p text (of_sim_fault e)
sim_refuses p text Memory h = wanting_still
sim_refuses p text (Fault f) h = no_values f h

-- so many taps as `make` has are as many as may be
pub make_is_short : (words : List (List ℕ)) (taps : ℕ) → IsCommand words (Make taps) → taps ≤ MOST_TAPS
make_is_short _ _ (make word taps is) = is.number.within

module _ {S : Type 0} (gives : S → List ℕ → ℕ → Result Fetched (Or ShelfFault) → List ℕ → S → Type 0) (told : S → Option Files) (faults : S → ℕ)
    (words : List (List ℕ)) (s : S) (taps : ℕ) (is : IsCommand words (Make taps)) where
  -- what `make` answers is the answer to its words, and nothing is read for it
  pub make_answers : (bytes : List ℕ) → CommandAnswer (Make taps) [] (Ok bytes) → AnswersBy (Asks gives told faults words s s) words (Ok bytes)
  make_answers bytes a = record { reads = []; asked = uncalled refl; answers = texts (Make taps) [] (Ok bytes) is a }

  pub make_refuses : (r : Refusal) → (r ≡ refusal.Memory) ⊎ CommandAnswer (Make taps) [] (Err r) → Refuses (Asks gives told faults words s s) words r
  make_refuses r (inl e) = subst (Refuses (Asks gives told faults words s s) words) (sym e) (for_memory [] (uncalled refl))
  make_refuses r (inr a) = by_answer r (record { reads = []; asked = uncalled refl; answers = texts (Make taps) [] (Err r) is a })
