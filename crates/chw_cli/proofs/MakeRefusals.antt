-- What `make` is refused for.
use Rattle.std.proofs.Common.{◌≡◌, ℕ, ◌<◌, ◌≤◌, ◌^◌, List, [], Result, Err, inl, inr, refl, subst, arith}
use Rattle.chw_base.specs.declared.limits.TheConstants.{NESTING}
use Rattle.chw_cli.specs.Answer.{Answer, CommandAnswer, LacksText}
use Rattle.chw_cli.specs.Answer.Answer.{no_command, no_text, texts}
use Rattle.chw_cli.specs.Descriptions.{HasProgram, IsDescription, IsTypedText, IsWrongText}
use Rattle.chw_cli.specs.Descriptions.IsWrongText.{no_description, wrong_names, wrong_types}
use Rattle.chw_cli.specs.Faults.{refusal_of_compile, refusal_of_run}
use Rattle.chw_cli.specs.Making.{MakeAnswer, TallyAnswer}
use Rattle.chw_cli.specs.Making.MadeAnswer.{wrong_text, typed}
use Rattle.chw_cli.specs.Making.TallyAnswer.{not_compiled, no_stimulus, tallied}
use Rattle.chw_cli.specs.Reads.{Read, wants}
use Rattle.chw_cli.specs.declared.refusal.Refusal.{Refusal}
use Rattle.chw_cli.specs.declared.refusal.Refusal.TheVariants.{DeepBody, FullTable, Loop, Spent, State, TooLarge}
use Rattle.chw_cli.proofs.Descriptions.{NoLexFault, OneSplitting, OneTree, has_no_fault}
use Rattle.chw_grammar.specs.Grammar.{Reads}
use Rattle.chw_grammar.specs.Height.{tree_height}
use Rattle.chw_grammar.specs.Lexemes.{lexemes_of}
use Rattle.chw_grammar.specs.Places.{Same}
use Rattle.chw_grammar.specs.declared.program.Tree.{Tree}
use Rattle.chw_lexer.specs.Tokens.{Tokens}
use Rattle.chw_lexer.specs.declared.token.Token.{Token}
use Rattle.chw_norm.specs.declared.running.RunFault.{RunFault}
use Rattle.chw_norm.specs.declared.running.RunFault.TheVariants as run
use Rattle.chw_check.specs.Faults.{IsTypeFault}
use Rattle.chw_check.specs.declared.fault.TypeFault.{TypeFault}
use Rattle.chw_parser.specs.Faults.{Shallow}
use Rattle.chw_resolve.specs.Faults.{IsNameFault, IsWellNamed}
use Rattle.chw_resolve.specs.Programs.{IsProgramOf}
use Rattle.chw_resolve.specs.declared.fault.NameFault.{NameFault}
use Rattle.chw_terms.specs.Tidy.{IsTidy}
use Rattle.chw_terms.specs.declared.program.Program.{Program}
use Rattle.chw_types.specs.TypeTree.{nat_lit}
use Rattle.chw_typing.specs.Programs.{IsTyped}
use Rattle.chw_types.specs.declared.kind.Scalar.TheVariants.{U}
use Rattle.chw_words.specs.Commands.{IsCommand}
use Rattle.chw_words.specs.Commands.IsCommand.{make}
use Rattle.chw_words.specs.declared.command.Command.{Command}
use Rattle.chw_words.specs.declared.command.Command.TheVariants.{Make}
use Rattle.chw_words.specs.declared.taps.TheConstants.{MOST_TAPS}
use Rattle.chw_cli.specs.MakeLaws.{HaveOneOfTwoStatuses, IsOfProgram, MadeTextsAreTyped, MakeIsRefusedForItsProgram, WordsAreRefusedForTheProgram}
use Rattle.answers.specs.declared.compiled.fault.CompileFault.{CompileFault}
use Rattle.answers.specs.declared.compiled.fault.CompileFault.TheVariants as compile
use Rattle.answers.specs.MakeAnswer.Events.{make_events, make_stimulus}
use Rattle.answers.specs.MakeAnswer.Laws.{MadeStimuliAreValues}
use Rattle.make_laws.specs.MakePorts.{TakesWords, make_ports}
use Rattle.make_typed.specs.MakeTyped.{AreTyped, AreWellNamed, HavePrograms, IsMade}
use Rattle.make_text.specs.MakeText.{make_text}
use Rattle.make_text.specs.MakeTree.{make_tree}
use Rattle.answers.specs.SimAnswer.Laws.{NothingRefusesAStimulus}
use Rattle.answers.specs.SimAnswer.Simulation.{IsStimulus}

-- a text that is made is a description, with the tree of the filter, whose program takes words
abbrev pub MadeTextsAreDescriptions : Type 0
MadeTextsAreDescriptions = (taps : ℕ) → taps < 2 ^ 64 → (tokens : List Token) × (tree : Tree) × Tokens (make_text taps) tokens
    × Reads (lexemes_of (make_text taps) tokens) tree × Shallow (lexemes_of (make_text taps) tokens) × (tree_height tree ≤ NESTING)

abbrev pub MadeTextsHaveTheTree : Type 0
MadeTextsHaveTheTree = (taps : ℕ) (tokens : List Token) (tree : Tree) → taps < 2 ^ 64 → Tokens (make_text taps) tokens
    → Reads (lexemes_of (make_text taps) tokens) tree → Same tree (make_tree taps)

abbrev pub MadeProgramsTakeWords : Type 0
MadeProgramsTakeWords = (taps : ℕ) (tree : Tree) (p : Program) → Same tree (make_tree taps) → IsProgramOf tree p → TakesWords p

-- a description that breaks nothing on names has no fault of names, and a typed program none of types
abbrev pub NoNameFault : Type 0
NoNameFault = (tree : Tree) (fault : NameFault) → IsWellNamed tree → IsNameFault tree fault → ⊥

abbrev pub NoTypeFault : Type 0
NoTypeFault = (p : Program) (fault : TypeFault) → IsTidy p → IsTyped p → IsTypeFault p fault → ⊥

-- a description with the text of a filter breaks nothing on names and types
pub record BreaksNothing : Type 0 where
  pub known : AreWellNamed
  pub typed : AreTyped
  pub no_name_fault : NoNameFault
  pub no_type_fault : NoTypeFault

-- words are one command
abbrev pub OneCommand : Type 0
OneCommand = (words : List (List ℕ)) (a b : Command) → IsCommand words a → IsCommand words b → a ≡ b

-- the refusal of a run, and that of a program that can't be compiled, are for the program
run_is_of_program : (fault : RunFault) → IsOfProgram (refusal_of_run fault)
run_is_of_program run.Depth = tt
run_is_of_program run.Full = tt
run_is_of_program (run.Spent steps) = tt

compile_is_of_program : (p : Program) (fault : CompileFault) → IsOfProgram (refusal_of_compile p fault)
compile_is_of_program p (compile.Run fault) = run_is_of_program fault
compile_is_of_program p (compile.State fault) = tt
compile_is_of_program p compile.TooLarge = tt
compile_is_of_program p (compile.Loop cycle) = tt

-- such a refusal has one of two statuses
pub one_of_two_statuses : HaveOneOfTwoStatuses
one_of_two_statuses DeepBody is = inl refl
one_of_two_statuses FullTable is = inl refl
one_of_two_statuses (Spent steps) is = inr refl
one_of_two_statuses (State line) is = inl refl
one_of_two_statuses TooLarge is = inl refl
one_of_two_statuses (Loop cycle) is = inl refl
one_of_two_statuses _ is = absurd is

-- so few taps are a number of 64 bits
fits : (taps : ℕ) → taps ≤ MOST_TAPS → taps < 2 ^ 64
fits taps few = omega (arith, few)

pub made_texts_typed : MadeTextsAreDescriptions → MadeTextsHaveTheTree → AreWellNamed → HavePrograms → AreTyped → MadeTextsAreTyped
made_texts_typed are same known there all taps some few =
    let d = are taps (fits taps few) in
    let made : IsMade taps d.1 = record { some = some; few = omega (arith, few); same = same taps d.0 d.1 (fits taps few) d.2 d.3 } in
    let program = there taps d.1 made in (
      d.1,
      record {
        description = record { tokens = d.0; split = d.2; reads = d.3; shallow = d.4; low = d.5 };
        program = program.0;
        is = record { named = known taps d.1 made; is = program.1; tidy = program.2 };
        typed = all taps d.1 program.0 made program.1 program.2;
      },
    )

-- a text that is made isn't wrong
made_is_right : OneSplitting → NoLexFault → OneTree → MadeTextsAreDescriptions → MadeTextsHaveTheTree → BreaksNothing → (taps : ℕ) (r : Refusal) → 1 ≤ taps
    → taps ≤ MOST_TAPS → IsWrongText (make_text taps) r → ⊥
made_is_right once never one are same right taps _ some few (no_description r n) =
    let d = are taps (fits taps few) in
    let is : IsDescription (make_text taps) d.1 = record { tokens = d.0; split = d.2; reads = d.3; shallow = d.4; low = d.5 } in
    has_no_fault once never one (make_text taps) d.1 r is n
made_is_right once never one are same right taps _ some few (wrong_names tree fault d is) =
    let made : IsMade taps tree = record { some = some; few = omega (arith, few); same = same taps d.tokens tree (fits taps few) d.split d.reads } in
    right.no_name_fault tree fault (right.known taps tree made) is
made_is_right once never one are same right taps _ some few (wrong_types tree p fault d has is) =
    let made : IsMade taps tree = record { some = some; few = omega (arith, few); same = same taps d.tokens tree (fits taps few) d.split d.reads } in
    right.no_type_fault p fault has.tidy (right.typed taps tree p made has.is has.tidy) is

-- the stimulus that is made is one of values for the program of the text
made_stimulus_is_taken : MadeTextsHaveTheTree → MadeProgramsTakeWords → MadeStimuliAreValues → (taps : ℕ) (tree : Tree) (p : Program) → taps ≤ MOST_TAPS
    → IsTypedText (make_text taps) tree → HasProgram tree p → IsStimulus p (make_stimulus taps) make_ports (make_events taps)
made_stimulus_is_taken same take values taps tree p few d has =
    let description = d.description in
    let t = take taps tree p (same taps description.tokens tree (fits taps few) description.split description.reads) has.is in
    values p make_ports taps (record { number = 0 }) U (nat_lit 16) few (record { domains = refl; domain_of_x = record { number = 0 }; inputs = refl })
    t.has t.input

-- so a refusal of a program and a stimulus that takes them is one of the program
tally_is_of_program : NothingRefusesAStimulus → (p : Program) (taps : ℕ) → IsStimulus p (make_stimulus taps) make_ports (make_events taps) → (r : Refusal)
    → TallyAnswer p (make_stimulus taps) (Err r) → IsOfProgram r
tally_is_of_program never p taps is r a = by refl a
  where
    by : {answer : Result (List ℕ) Refusal} → answer ≡ Err r → TallyAnswer p (make_stimulus taps) answer → IsOfProgram r
    by e (not_compiled fault f) = let same : refusal_of_compile p fault ≡ r = cc in subst IsOfProgram same (compile_is_of_program p fault)
    by e (no_stimulus net flat fault compiles f) = absurd (never p (make_stimulus taps) make_ports (make_events taps) fault is f)
    by e (tallied tally is) = absurd (cc)

-- where no file is wanted, none lacks its text
lacks_nothing : (reads : List Read) (r : Refusal) → LacksText [] reads r → ⊥
lacks_nothing reads r lacks = elim lacks [ ]

-- `make N` has one tap or more, and so few as may be
some_taps : (words : List (List ℕ)) (taps : ℕ) → IsCommand words (Make taps) → (1 ≤ taps) × (taps ≤ MOST_TAPS)
some_taps _ _ (make word taps is) = (is.least, is.number.within)

module _ (once : OneSplitting) (never : NoLexFault) (one : OneTree) (are : MadeTextsAreDescriptions) (same : MadeTextsHaveTheTree)
    (right : BreaksNothing) (take : MadeProgramsTakeWords) (values : MadeStimuliAreValues) (nothing : NothingRefusesAStimulus) where
  pub make_is_refused : MakeIsRefusedForItsProgram
  make_is_refused taps reads r some few a = by reads refl a
    where
      by : {answer : Result (List ℕ) Refusal} (reads : List Read) → answer ≡ Err r → MakeAnswer taps reads answer → IsOfProgram r
      by _ e (wrong_text q w) = absurd (made_is_right once never one are same right taps q some few w)
      by _ e (typed tree p answer d has t) =
          tally_is_of_program nothing p taps (made_stimulus_is_taken same take values taps tree p few d has) r
          (subst (TallyAnswer p (make_stimulus taps)) e t)

  pub words_are_refused : OneCommand → WordsAreRefusedForTheProgram
  words_are_refused single words taps reads r is a = by reads refl a
    where
      by : {answer : Result (List ℕ) Refusal} (reads : List Read) → answer ≡ Err r → Answer words reads answer → IsOfProgram r
      by _ e (no_command never_one) = absurd (never_one (Make taps) is)
      by reads e (no_text command _ q is' lacks) =
          absurd (lacks_nothing reads q (subst (λ c. LacksText (wants c) reads q) (single words command (Make taps) is' is) lacks))
      by reads e (texts command _ answer is' c) =
          let taps_are = some_taps words taps is in
          make_is_refused taps reads r taps_are.0 taps_are.1
          (subst (MakeAnswer taps reads) e (subst (λ c. CommandAnswer c reads answer) (single words command (Make taps) is' is) c))
