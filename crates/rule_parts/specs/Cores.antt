-- What a rule makes of a term at a place: of a core of it, where further arguments stay behind.
use Rattle.std.specs.Prelude.{List, [], Option, MatchOption}
use Rattle.chw_types.specs.TypeTree.{TypeTree}
use Rattle.chw_terms.specs.declared.rule.Rule.{Rule}
use Rattle.chw_terms.specs.declared.term.Arg.{Arg}
use Rattle.chw_terms.specs.TermTree.{TermTree}
use Rattle.chw_terms.specs.TermView.{applied}
use Rattle.chw_typing.specs.Typing.{HasType}
use Rattle.rewriting.specs.Origins.{Origins, setting_at}
use Rattle.rewriting.specs.Spots.{Spot}
use Rattle.rewriting.specs.Instances.{Makes, HasInstance}

-- the rule makes this of the term: of a core of it, and the arguments that are left stay behind
pub data MakesOf (o : Origins) (at : Spot) (r : Rule) : TermTree → TermTree → Type 0 where
  of_core : (core core' : TermTree) (rest : List Arg)
      → Makes o at r core core' → MakesOf o at r (applied core rest) (applied core' rest)

-- the answer is a term that the rule makes, or nothing where it makes none
abbrev pub Answers : Origins → Spot → Rule → TermTree → Option TermTree → Type 0
Answers o at r e answer =
    MatchOption answer ((e' : TermTree) → MakesOf o at r e e' → ⊥) (λ e'. MakesOf o at r e e')

-- the same of a core alone
abbrev pub AnswersCore : Origins → Spot → Rule → TermTree → Option TermTree → Type 0
AnswersCore o at r e answer =
    MatchOption answer ((e' : TermTree) → Makes o at r e e' → ⊥) (λ e'. Makes o at r e e')

-- the answer is the rule's instance on the term, or nothing where it has none
abbrev pub IsInstanceAnswer : Origins → Spot → Rule → TermTree → Option TermTree → Type 0
IsInstanceAnswer o at r e answer =
    MatchOption answer
    ((e' : TermTree) → HasInstance o at r e e' → ⊥) (λ e'. HasInstance o at r e e')

-- the term has a type at the place
abbrev pub HasTypeAt : Origins → Spot → TermTree → Type 0
HasTypeAt o at e = (t : TypeTree) × HasType (setting_at o) [] at.vars e t
