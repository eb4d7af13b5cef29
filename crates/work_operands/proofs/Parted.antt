-- The operands among the first so many arguments.
use Rattle.std.proofs.Common.{◌≡◌, ◌∙◌, ◌<◌, sym, ap, subst, refl, ℕ, List, ◌++◌, length, length-append}
use Rattle.std.proofs.Common.{arith, take-append-drop, length-take-le, ◌≤◌, take, drop, Option, Some, None}
use Rattle.std.specs.Prelude.{MatchOption}
use Rattle.chw_types.specs.TypeTree.{TypeTree}
use Rattle.chw_terms.specs.declared.term.Arg.{Arg}
use Rattle.chw_terms.specs.TermTree.{TermTree}
use Rattle.chw_terms.specs.TermView.{applied}
use Rattle.rewriting.specs.Origins.{Origins}
use Rattle.rewriting.specs.Spots.{Spot}
use Rattle.rewriting.proofs.Spines.{fronts_same}
use Rattle.work_operands.specs.declared.operands.Operands.{Operands}
use Rattle.work_operands.specs.Firsts.{NoneBefore, NoneNamed, IsFirstArg, IsFirstNamed}
use Rattle.work_operands.specs.Firsts.{AnswersFirstArg, AnswersArguments}
use Rattle.work_operands.specs.declared.finding.Named.{Named}
use Rattle.work_operands.specs.Named.{with_arg_named}
use Rattle.work_operands.proofs.Named.{within}

-- there are fewer
pub too_few : (o : Origins) (at : Spot) (among : Operands) (args : List Arg) (n : ℕ)
    → length args < n → NoneNamed o at among args n
too_few o at among args n few core rest p =
    absurd (omega (arith, few, ap length p.are, length-append core rest, p.count))

-- none of these needs a name
pub none_named : (o : Origins) (at : Spot) (among : Operands) (args given rest : List Arg) (n : ℕ)
    → args ≡ given ++ rest → length given ≡ n → NoneBefore o at among given (length given)
    → NoneNamed o at among args n
none_named o at among args given rest n q count none core others p =
    let same : given ≡ core = fronts_same given core rest others (count ∙ sym p.count)
    (sym q ∙ p.are) in
    subst (NoneBefore o at among core) p.count
    (subst (λ core. NoneBefore o at among core (length core)) same none)

-- the first of these that needs one gets it
pub one_named : (o : Origins) (at : Spot) (among : Operands) (h : TermTree)
    (args given rest : List Arg) (n i : ℕ) (t : TypeTree) (x e : TermTree)
    → args ≡ given ++ rest → length given ≡ n → IsFirstArg o at among given i t x
    → e ≡ applied (with_arg_named h given i t x) rest → IsFirstNamed o at among h args n e
one_named o at among h args given rest n i t x e q count first is =
    record {
      core = given;
      rest = rest;
      parted = record { are = q; count = count };
      number = i;
      type = t;
      operand = x;
      first = first;
      is = is;
    }

-- the first operand among so many arguments that needs a name
abbrev pub IsFirstAmong : Origins → Spot → Operands → List Arg → ℕ → Named → Type 0
IsFirstAmong o at among args n it =
    (n ≤ length args) × IsFirstArg o at among (take n args) it.number it.ty it.part.now

-- the answer is that operand, or nothing where none needs a name
abbrev pub AnswersAmong : Origins → Spot → Operands → List Arg → ℕ → Option Named → Type 0
AnswersAmong o at among args n answer =
    MatchOption answer (NoneNamed o at among args n) (λ it. IsFirstAmong o at among args n it)

pub among_front : (o : Origins) (at : Spot) (among : Operands) (args given rest : List Arg)
    (n : ℕ) (r : Option Named) → n ≤ length args → args ≡ given ++ rest → length given ≡ n
    → given ≡ take n args → AnswersFirstArg o at among given r → AnswersAmong o at among args n r
among_front o at among args given rest n (Some it) fits q count is first =
    (fits, subst (λ g. IsFirstArg o at among g it.number it.ty it.part.now) is first)
among_front o at among args given rest n None fits q count is none =
    none_named o at among args given rest n q count none

-- it is among these
pub among_these : (o : Origins) (at : Spot) (among : Operands) (args : List Arg) (n : ℕ)
    (it : Named) → IsFirstAmong o at among args n it → it.number < n
among_these o at among args n it first =
    subst (λ n. it.number < n) (length-take-le n args first.0)
    (within (take n args) it.number it.part.now first.1.is)

-- what has got its name is the first among so many arguments
pub named_front : (o : Origins) (at : Spot) (among : Operands) (h : TermTree) (args : List Arg)
    (n : ℕ) (it : Named) (r : Option TermTree) → IsFirstAmong o at among args n it
    → r ≡ Some (applied (with_arg_named h (take n args) it.number it.ty it.part.now) (drop n args))
    → AnswersArguments o at among h args n r
named_front o at among h args n it r first is =
    subst (AnswersArguments o at among h args n) (sym is)
    (one_named o at among h args (take n args) (drop n args) n it.number it.ty it.part.now _
    (sym (take-append-drop n args)) (length-take-le n args first.0) first.1 refl)
