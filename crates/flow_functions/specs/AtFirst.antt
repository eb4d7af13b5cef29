-- What a rule makes of a head at its first argument.
use Rattle.std.specs.Prelude.{Option, MatchOption}
use Rattle.chw_terms.specs.declared.rule.Rule.{Rule}
use Rattle.chw_terms.specs.declared.term.Arg.{Arg}
use Rattle.chw_terms.specs.declared.term.Head.{Head}
use Rattle.chw_terms.specs.TermTree.{TermTree}
use Rattle.chw_terms.specs.TermView.{tree_of, applied_to}
use Rattle.rewriting.specs.Origins.{Origins}
use Rattle.rewriting.specs.Spots.{Spot}
use Rattle.rewriting.specs.Functions.{OfFunctions}

-- the answer is what the rule makes of the head at this argument alone, or nothing where it makes
-- nothing of it
abbrev pub AnswersAt : Origins → Spot → Rule → Head → Arg → Option TermTree → Type 0
AnswersAt o at r head arg answer =
    MatchOption answer
    ((e' : TermTree) → OfFunctions o at r (applied_to (tree_of head) arg) e' → ⊥)
    (λ e'. OfFunctions o at r (applied_to (tree_of head) arg) e')

-- the same at whatever place
abbrev pub AnswersAnywhere : Rule → Head → Arg → Option TermTree → Type 0
AnswersAnywhere r head arg answer = (o : Origins) (at : Spot) → AnswersAt o at r head arg answer
