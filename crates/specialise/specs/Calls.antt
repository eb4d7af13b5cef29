-- What a call has to be.
use Rattle.std.specs.Prelude.{◌≡◌, ℕ, List, map, Some, Option, MatchOption, Contains}
use Rattle.std.specs.List.{slice_get, AllByRecursion}
use Rattle.chw_types.specs.TypeTree.{TypeTree}
use Rattle.chw_terms.specs.declared.term.Arg.{Arg}
use Rattle.chw_terms.specs.declared.term.Arg.TheVariants.{OfTerm}
use Rattle.chw_terms.specs.TermTree.{TermTree, global}
use Rattle.chw_terms.specs.TermView.{applied}
use Rattle.rewriting.specs.Named.{IsNamed}
use Rattle.rewriting.specs.Origins.{Origins}
use Rattle.rewriting.specs.Spots.{Spot}
use Rattle.rewriting.specs.Operands.{NeedsName}

-- the name of a definition on arguments
abbrev pub IsOnGlobal : TermTree → Type 0
IsOnGlobal e = (d : ℕ) × (args : List Arg) × (e ≡ applied (global d) args)

-- the variable has this type there, which is named
abbrev pub HasNamedType : Origins → Spot → ℕ → TypeTree → Type 0
HasNamedType o at x t =
    (slice_get at.vars x ≡ Some t) × IsNamed o.program.datas at.mode t

-- these variables have these types there, all of which are named
pub record HaveTypes (o : Origins) (at : Spot) (xs : List ℕ) (ts : List TypeTree) : Type 0 where
  pub are : map (slice_get at.vars) xs ≡ map (λ u. Some u) ts
  pub named : AllByRecursion (IsNamed o.program.datas at.mode) ts

-- the answer is their types, or nothing where one has no such type
abbrev pub AnswersTypes : Origins → Spot → List ℕ → Option (List TypeTree) → Type 0
AnswersTypes o at xs answer =
    MatchOption answer
    ((ts : List TypeTree) → HaveTypes o at xs ts → ⊥)
    (λ ts. HaveTypes o at xs ts)

-- no argument needs a name
abbrev pub NoneNeedsName : Origins → Spot → List Arg → Type 0
NoneNeedsName o at args = (a : TermTree) → Contains args (OfTerm a) → NeedsName o at a → ⊥

-- a call on arguments none of which needs a name
abbrev pub IsPlain : Origins → Spot → TermTree → Type 0
IsPlain o at e =
    (d : ℕ) × (args : List Arg) × (e ≡ applied (global d) args) × NoneNeedsName o at args
