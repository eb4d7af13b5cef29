-- The first operand that needs a name, among arguments and among elements.
use Rattle.std.specs.Prelude.{◌≡◌, ◌⊎◌, ◌<◌, ℕ, List, [], ◌++◌, length}
use Rattle.std.specs.Prelude.{Option, Some, MatchOption}
use Rattle.std.specs.List.{slice_get}
use Rattle.chw_types.specs.TypeTree.{TypeTree}
use Rattle.chw_terms.specs.declared.rule.Rule.{Rule}
use Rattle.chw_terms.specs.declared.rule.Rule.TheVariants.{Anf}
use Rattle.chw_terms.specs.declared.term.Arg.{Arg}
use Rattle.chw_terms.specs.declared.term.Arg.TheVariants.{OfTerm}
use Rattle.chw_terms.specs.TermTree.{TermTree, global, made}
use Rattle.chw_terms.specs.TermView.{applied}
use Rattle.chw_typing.specs.Finding.{Finds}
use Rattle.rewriting.specs.Origins.{Origins, setting_at}
use Rattle.rewriting.specs.Spots.{Spot, IsOnWords, TakesElement}
use Rattle.rewriting.specs.Calls.{OfWhole}
use Rattle.rewriting.specs.Operands.{IsSignal, NeedsName, NoneNeedsName}
use Rattle.rewriting.specs.Operands.{IsOperand, OfOperands}
use Rattle.rule_parts.specs.Cores.{MakesOf, HasTypeAt}
use Rattle.work_operands.specs.declared.finding.Named.{Named}
use Rattle.work_operands.specs.declared.operands.Operands.{Operands}
use Rattle.work_operands.specs.declared.operands.Operands.TheVariants.{Each, OfPrim}
use Rattle.work_operands.specs.Named.{with_arg_named}

-- the argument of this number is an operand
abbrev pub IsAmong : Operands → ℕ → Type 0
IsAmong Each i = Unit {0}
IsAmong (OfPrim p) i = IsOnWords p ⊎ (TakesElement p ⊎ IsSignal p i)

-- the term needs a name, of the type that is found for it
abbrev pub NeedsNameOf : Origins → Spot → TermTree → TypeTree → Type 0
NeedsNameOf o at x t = NeedsName o at x × Finds (setting_at o) [] at.vars x t

-- each of the elements of a vector has a type at the place
abbrev pub AllElementsTyped : Origins → Spot → List TermTree → Type 0
AllElementsTyped o at es = (i : ℕ) (x : TermTree) → slice_get es i ≡ Some x → HasTypeAt o at x

-- the answer is the type of the name that the term needs, or nothing where it needs none
abbrev pub AnswersName : Origins → Spot → TermTree → Option TypeTree → Type 0
AnswersName o at x answer =
    MatchOption answer (NeedsName o at x → ⊥) (λ t. NeedsNameOf o at x t)

-- the argument of this number is an operand that needs this name
pub record IsNamedPart
    (o : Origins) (at : Spot) (among : Operands) (i : ℕ) (arg : Arg) (n : Named) : Type 0
  where
    pub number : n.number ≡ i
    pub operand : IsAmong among i
    pub is : arg ≡ OfTerm n.part.now
    pub needs : NeedsNameOf o at n.part.now n.ty

-- no operand before this number needs a name
abbrev pub NoneBefore : Origins → Spot → Operands → List Arg → ℕ → Type 0
NoneBefore o at among args n =
    (j : ℕ) (x : TermTree) → j < n → IsAmong among j → slice_get args j ≡ Some (OfTerm x)
    → NeedsName o at x → ⊥

-- the operand of this number is the first that needs a name
pub record IsFirstArg
    (o : Origins) (at : Spot) (among : Operands) (args : List Arg) (i : ℕ) (t : TypeTree)
    (x : TermTree) : Type 0
  where
    pub operand : IsAmong among i
    pub is : slice_get args i ≡ Some (OfTerm x)
    pub needs : NeedsNameOf o at x t
    pub first : NoneBefore o at among args i

-- the same of the elements of a vector
abbrev pub NoElementBefore : Origins → Spot → List TermTree → ℕ → Type 0
NoElementBefore o at es n =
    (j : ℕ) (x : TermTree) → j < n → slice_get es j ≡ Some x → NeedsName o at x → ⊥

pub record IsFirstElement
    (o : Origins) (at : Spot) (es : List TermTree) (i : ℕ) (t : TypeTree) (x : TermTree) : Type 0
  where
    pub is : slice_get es i ≡ Some x
    pub needs : NeedsNameOf o at x t
    pub first : NoElementBefore o at es i

-- the answer is the name that the argument of this number needs, or nothing where it is no operand
-- or needs none
abbrev pub AnswersArg : Origins → Spot → Operands → ℕ → Arg → Option Named → Type 0
AnswersArg o at among i arg answer =
    MatchOption answer
    ((x : TermTree) → IsAmong among i → arg ≡ OfTerm x → NeedsName o at x → ⊥)
    (λ n. IsNamedPart o at among i arg n)

-- the answer is the first operand that needs a name, or nothing where none does
abbrev pub AnswersFirstArg : Origins → Spot → Operands → List Arg → Option Named → Type 0
AnswersFirstArg o at among args answer =
    MatchOption answer
    (NoneBefore o at among args (length args))
    (λ n. IsFirstArg o at among args n.number n.ty n.part.now)

abbrev pub AnswersFirstElement : Origins → Spot → List TermTree → Option Named → Type 0
AnswersFirstElement o at es answer =
    MatchOption answer
    (NoElementBefore o at es (length es))
    (λ n. IsFirstElement o at es n.number n.ty n.part.now)

-- the first so many arguments, and the others
pub record AreParted (args : List Arg) (n : ℕ) (core rest : List Arg) : Type 0 where
  pub are : args ≡ core ++ rest
  pub count : length core ≡ n

-- there are fewer arguments, or no operand among the first so many needs a name
abbrev pub NoneNamed : Origins → Spot → Operands → List Arg → ℕ → Type 0
NoneNamed o at among args n =
    (core rest : List Arg) → AreParted args n core rest → NoneBefore o at among core n

-- the first operand among so many arguments that needs a name has got it
pub record IsFirstNamed
    (o : Origins) (at : Spot) (among : Operands) (h : TermTree) (args : List Arg) (n : ℕ)
    (e : TermTree) : Type 0
  where
    pub core : List Arg
    pub rest : List Arg
    pub parted : AreParted args n core rest
    pub number : ℕ
    pub type : TypeTree
    pub operand : TermTree
    pub first : IsFirstArg o at among core number type operand
    pub is : e ≡ applied (with_arg_named h core number type operand) rest

-- the answer is what a head on arguments becomes, or nothing where no operand among so many of them
-- needs a name
abbrev pub AnswersArguments : Origins → Spot → Operands → TermTree → List Arg → ℕ
    → Option TermTree → Type 0
AnswersArguments o at among h args n answer =
    MatchOption answer
    (NoneNamed o at among args n)
    (λ e. IsFirstNamed o at among h args n e)

-- the answer is the term where the first operand has got its name, or nothing where none needs one
abbrev pub AnswersOperand : Origins → Spot → TermTree → Option TermTree → Type 0
AnswersOperand o at e answer =
    MatchOption answer
    (NoneNeedsName o at e)
    (λ e'. MakesOf o at Anf e e' ⊎ OfWhole o at Anf e e')

-- the answer is a term that the rule makes of a core or of the whole term, or nothing where it
-- makes none
abbrev pub AnswersWhole : Origins → Spot → Rule → TermTree → Option TermTree → Type 0
AnswersWhole o at r e answer =
    MatchOption answer
    ((e' : TermTree) → (MakesOf o at r e e' ⊎ OfWhole o at r e e') → ⊥)
    (λ e'. MakesOf o at r e e' ⊎ OfWhole o at r e e')

-- the answer is what a case or a vector becomes, or nothing where no operand needs a name
abbrev pub AnswersPart : Origins → Spot → TermTree → Option TermTree → Type 0
AnswersPart o at e answer =
    MatchOption answer
    ((path : List ℕ) (x : TermTree) → IsOperand o at e path x → ⊥)
    (λ e'. OfOperands o at Anf e e')

-- the name of a definition, or of a made one
abbrev pub IsName : TermTree → Type 0
IsName (global d) = Unit {0}
IsName (made m) = Unit {0}
IsName e = ⊥
