-- What is answered of a letrec, whatever the made definitions are.
use Rattle.std.specs.Prelude.{Option}
use Rattle.chw_terms.specs.declared.rule.Rule.TheVariants.{Flat}
use Rattle.chw_terms.specs.TermTree.{TermTree}
use Rattle.rewriting.specs.Origins.{Origins}
use Rattle.rewriting.specs.Spots.{Spot}
use Rattle.rewriting.specs.Shapes.{IsOfHead}
use Rattle.rewriting.specs.Instances.{Makes}
use Rattle.rule_parts.specs.Cores.{Answers, AnswersCore, MakesOf}

-- the answer is what the rule makes of the term at this place, or nothing where it makes nothing
abbrev pub AnswersFlat : Spot → TermTree → Option TermTree → Type 0
AnswersFlat at e answer = (o : Origins) → Answers o at Flat e answer

-- so of a letrec alone, at each place that isn't a head
abbrev pub AnswersLetrec : TermTree → Option TermTree → Type 0
AnswersLetrec e answer =
    (o : Origins) (at : Spot) → (IsOfHead at.mode → ⊥) → AnswersCore o at Flat e answer

-- the rule makes something of the term at this place
abbrev pub JoinsAt : Origins → Spot → TermTree → Type 0
JoinsAt o at e = (new : TermTree) × MakesOf o at Flat e new

-- the same of a core alone
abbrev pub JoinsCore : Origins → Spot → TermTree → Type 0
JoinsCore o at e = (new : TermTree) × Makes o at Flat e new
