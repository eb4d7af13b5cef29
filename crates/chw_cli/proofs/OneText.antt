-- What a command answers to the text of one description.
use Rattle.std.proofs.Common.{◌≡◌, ℕ, List, [], ◌∷◌, Result, Err, refl, sym, subst, ◌∙◌}
use Rattle.chw_base.specs.Files.{Files}
use Rattle.chw_cli.specs.Answer.{TextAnswer}
use Rattle.chw_cli.specs.Answer.TextAnswer.{wrong, typed}
use Rattle.chw_cli.specs.Descriptions.{HasProgram, IsDescription, IsTypedText, IsWrongText, NoDescription}
use Rattle.chw_cli.specs.Descriptions.IsWrongText.{no_description, wrong_names, wrong_types}
use Rattle.chw_cli.specs.Descriptions.NoDescription.{lex, syntax, depth}
use Rattle.chw_cli.specs.Exact.{AreHeld, BreaksNone, Misses}
use Rattle.chw_cli.specs.Exact.AreHeld.{more}
use Rattle.chw_cli.specs.Exact.BreaksNone.{typed as typed_text}
use Rattle.chw_cli.specs.Exact.Misses.{here, later}
use Rattle.chw_cli.specs.Lines.{status_of}
use Rattle.chw_cli.specs.Reads.{GoesOn, Read, Wanted}
use Rattle.chw_cli.specs.declared.refusal.Refusal.{Refusal}
use Rattle.chw_cli.specs.declared.status.Status.{Status}
use Rattle.chw_cli.specs.declared.status.Status.TheVariants as status
use Rattle.chw_cli.proofs.Asking.{AreWhole, Held}
use Rattle.chw_cli.proofs.Asking.Held.{of_none, of_last, of_next}
use Rattle.chw_check.specs.Faults.{IsTypeFault}
use Rattle.chw_check.specs.declared.fault.TypeFault.{TypeFault}
use Rattle.chw_grammar.specs.declared.program.Tree.{Tree}
use Rattle.chw_resolve.specs.Faults.{IsNameFault, IsWellNamed}
use Rattle.chw_resolve.specs.declared.fault.NameFault.{NameFault}
use Rattle.chw_terms.specs.Tidy.{IsTidy}
use Rattle.chw_terms.specs.declared.program.Program.{Program}
use Rattle.chw_typing.specs.Programs.{IsTyped}
use Rattle.chw_words.specs.declared.command.Command.{Command}
use Rattle.data_kinds.specs.Laws.{OneProgram}

-- a description has no fault
abbrev pub HasNoFault : Type 0
HasNoFault = (text : List ℕ) (tree : Tree) (r : Refusal) → IsDescription text tree → NoDescription text r → ⊥

-- a text has at most one description; one whose names are as they should be has no fault of names, and a program that is typed has none of types
abbrev pub OneDescription : Type 0
OneDescription = (text : List ℕ) (a b : Tree) → IsDescription text a → IsDescription text b → a ≡ b

abbrev pub HasNoNameFault : Type 0
HasNoNameFault = (tree : Tree) (fault : NameFault) → IsWellNamed tree → IsNameFault tree fault → ⊥

abbrev pub HasNoTypeFault : Type 0
HasNoTypeFault = (p : Program) (fault : TypeFault) → IsTidy p → IsTyped p → IsTypeFault p fault → ⊥

-- a description has one program
pub one_program_of : OneProgram → (tree : Tree) (p q : Program) → HasProgram tree p → HasProgram tree q → p ≡ q
one_program_of one tree p q w v =
    one p q (w.is.domains ∙ sym v.is.domains) (w.is.resets ∙ sym v.is.resets) (v.is.datas ∙ sym w.is.datas) (w.is.defs ∙ sym v.is.defs) (w.is.top ∙ sym v.is.top) w.tidy v.tidy

-- so has a text
pub one_program_for : OneDescription → OneProgram → (text : List ℕ) (tree other : Tree) (p q : Program) → IsTypedText text tree → HasProgram tree p
    → IsTypedText text other → HasProgram other q → p ≡ q
one_program_for same alone text tree other p q d has d' has' =
    one_program_of alone other p q (subst (λ (t : Tree). HasProgram t p) (same text tree other d.description d'.description) has) has'

-- a text that is typed isn't wrong
pub typed_is_right : HasNoFault → OneDescription → HasNoNameFault → OneProgram → HasNoTypeFault → (text : List ℕ) (tree : Tree) (r : Refusal)
    → IsTypedText text tree → IsWrongText text r → ⊥
typed_is_right sound same named alone typed_ text tree r d (no_description q n) = sound text tree q d.description n
typed_is_right sound same named alone typed_ text tree _ d (wrong_names t fault d' is) =
    named tree fault d.is.named (subst (λ (x : Tree). IsNameFault x fault) (same text t tree d' d.description) is)
typed_is_right sound same named alone typed_ text tree _ d (wrong_types t p fault d' w is) =
    let w' = subst (λ (x : Tree). HasProgram x p) (same text t tree d' d.description) w in
    typed_ p fault w.tidy (subst IsTyped (one_program_of alone tree d.program p d.is w') d.typed) is

-- the text of one file that breaks no restriction isn't refused
pub one_text_is_answered : HasNoFault → OneDescription → HasNoNameFault → OneProgram → HasNoTypeFault → (Suits : List ℕ → Type 0)
    (TreeAnswer : List ℕ → Tree → Result (List ℕ) Refusal → Type 0)
    → ((text : List ℕ) (tree : Tree) (r : Refusal) → IsTypedText text tree → Suits text → TreeAnswer text tree (Err r) → ⊥)
    → (files : Files) (command : Command) (file : Wanted) (texts : List (List ℕ)) (reads : List Read) (r : Refusal)
    → AreHeld files (file ∷ []) texts → BreaksNone Suits texts → Held files command (file ∷ []) reads → TextAnswer TreeAnswer reads (Err r) → ⊥
one_text_is_answered sound same named alone typed_ Suits TreeAnswer answers files command file texts reads r held_texts breaks held_reads a =
    by texts reads held_texts breaks held_reads refl a
  where
    by : {answer : Result (List ℕ) Refusal} (texts : List (List ℕ)) (reads : List Read) → AreHeld files (file ∷ []) texts → BreaksNone Suits texts
        → Held files command (file ∷ []) reads → answer ≡ Err r → TextAnswer TreeAnswer reads answer → ⊥
    by _ _ (more _ _ _ _ has rest) (typed_text text tree d suits) (of_none _) e a = elim a [ ]
    by _ _ (more _ _ _ _ has rest) (typed_text text tree d suits) (of_last _ _ other has') e (wrong _ q w) =
        let some = has'.0 in let some' = has.0 in let same_texts : other ≡ text = cc in
        typed_is_right sound same named alone typed_ text tree q d (subst (λ x. IsWrongText x q) same_texts w)
    by _ _ (more _ _ _ _ has rest) (typed_text text tree d suits) (of_last _ _ other has') e (typed _ t answer d' c) =
        let some = has'.0 in let some' = has.0 in let same_texts : other ≡ text = cc in
        answers text t r (subst (λ x. IsTypedText x t) same_texts d') suits (subst (λ x. TreeAnswer x t (Err r)) same_texts (subst (TreeAnswer other t) e c))
    by _ _ (more _ _ _ _ has rest) (typed_text text tree d suits) (of_next _ _ other _ has' on (of_none _)) e (wrong _ q w) =
        let some = has'.0 in let some' = has.0 in let same_texts : other ≡ text = cc in
        typed_is_right sound same named alone typed_ text tree q d (subst (λ x. IsWrongText x q) same_texts w)
    by _ _ (more _ _ _ _ has rest) (typed_text text tree d suits) (of_next _ _ other _ has' on (of_none _)) e (typed _ t answer d' c) =
        let some = has'.0 in let some' = has.0 in let same_texts : other ≡ text = cc in
        answers text t r (subst (λ x. IsTypedText x t) same_texts d') suits (subst (λ x. TreeAnswer x t (Err r)) same_texts (subst (TreeAnswer other t) e c))

-- no command answers where one of its files is missing
pub misses_one : (files : Files) (command : Command) (file : Wanted) (TreeAnswer : List ℕ → Tree → Result (List ℕ) Refusal → Type 0) (reads : List Read)
    (answer : Result (List ℕ) Refusal) → ((text : List ℕ) → GoesOn command text → ⊥)
    → Misses files (GoesOn command) (file ∷ []) → Held files command (file ∷ []) reads
    → TextAnswer TreeAnswer reads answer → ⊥
misses_one files command file TreeAnswer _ answer never (later _ _ text has on m) h a = never text on
misses_one files command file TreeAnswer _ answer never (here _ _ none_) (of_last _ _ text has) a = let some = has.0 in absurd (cc)
misses_one files command file TreeAnswer _ answer never (here _ _ none_) (of_next _ _ text _ has on rest) a = never text on
misses_one files command file TreeAnswer _ answer never (here _ _ none_) (of_none _) a = elim a [ ]

-- the refusal of a text has one status
fault_status : (text : List ℕ) (r : Refusal) → NoDescription text r → status_of r ≡ status.Refused
fault_status text _ (lex at h) = refl
fault_status text _ (syntax tokens at split h) = refl
fault_status text _ (depth tokens at split h) = refl

pub wrong_status : (text : List ℕ) (r : Refusal) → IsWrongText text r → status_of r ≡ status.Refused
wrong_status text r (no_description _ n) = fault_status text r n
wrong_status text _ (wrong_names t fault d n) = refl
wrong_status text _ (wrong_types t p fault d w n) = refl

-- the status of a refusal of a text has this, where that of a wrong text has and those of its tree's answer have
pub text_status : (P : Status → Type 0) → P status.Refused → (TreeAnswer : List ℕ → Tree → Result (List ℕ) Refusal → Type 0)
    → ((text : List ℕ) (tree : Tree) (r : Refusal) → TreeAnswer text tree (Err r) → P (status_of r))
    → (reads : List Read) (r : Refusal) → TextAnswer TreeAnswer reads (Err r) → P (status_of r)
text_status P refused TreeAnswer tree_status reads r a = only reads refl a
  where
    only : {answer : Result (List ℕ) Refusal} (reads : List Read) → answer ≡ Err r → TextAnswer TreeAnswer reads answer → P (status_of r)
    only _ e (wrong text q w) = let is : q ≡ r = cc in subst (λ q. P (status_of q)) is (subst P (sym (wrong_status text q w)) refused)
    only _ e (typed text tree answer d c) = tree_status text tree r (subst (TreeAnswer text tree) e c)

-- what is answered was read whole
pub whole_text : (TreeAnswer : List ℕ → Tree → Result (List ℕ) Refusal → Type 0) (reads : List Read) (answer : Result (List ℕ) Refusal)
    → TextAnswer TreeAnswer reads answer → AreWhole reads
whole_text TreeAnswer _ _ (wrong text r w) = tt
whole_text TreeAnswer _ _ (typed text tree answer d c) = tt
