-- What was found of the cases of a term.
use Rattle.std.specs.Prelude.{List, Option, MatchOption}
use Rattle.chw_types.specs.declared.declarations.Data.{Data}
use Rattle.chw_terms.specs.declared.term.Arg.{Arg}
use Rattle.chw_terms.specs.declared.term.Arg.TheVariants.{OfTerm, OfType}
use Rattle.chw_terms.specs.TermTree.{TermTree}
use Rattle.chw_check.specs.declared.cases.lacks.Lacks.{Lacks}
use Rattle.chw_check.specs.declared.cases.lacks.Sought.{Sought}
use Rattle.chw_check.specs.FirstCase.{KeepsAll, FirstIn}

-- no case leaves out what is sought, or this is what the first one that does leaves out
abbrev pub IsFound : List Data → Sought → TermTree → Option Lacks → Type 0
IsFound datas sought e r = MatchOption r (KeepsAll datas sought e) (λ l. FirstIn datas sought e l)

-- no case in the argument leaves out what is sought; there is none in a type
abbrev pub ArgKeepsAll : List Data → Sought → Arg → Type 0
ArgKeepsAll datas sought (OfTerm e) = KeepsAll datas sought e
ArgKeepsAll datas sought (OfType t) = Unit {0}

-- the first case in the argument that leaves out what is sought leaves this out
abbrev pub FirstInArg : List Data → Sought → Arg → Lacks → Type 0
FirstInArg datas sought (OfTerm e) l = FirstIn datas sought e l
FirstInArg datas sought (OfType t) l = ⊥

abbrev pub IsFoundInArg : List Data → Sought → Arg → Option Lacks → Type 0
IsFoundInArg datas sought a r =
    MatchOption r (ArgKeepsAll datas sought a) (λ l. FirstInArg datas sought a l)
