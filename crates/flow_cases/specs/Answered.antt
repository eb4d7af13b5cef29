-- What a rule makes of a case.
use Rattle.std.specs.Prelude.{◌≡◌, List, Option}
use Rattle.chw_types.specs.declared.declarations.Data.{Data}
use Rattle.chw_terms.specs.declared.rule.Rule.{Rule}
use Rattle.chw_terms.specs.declared.term.Alt.{Alt}
use Rattle.chw_terms.specs.TermTree.{TermTree, case_of}
use Rattle.chw_terms.specs.TermView.{alts_of}
use Rattle.rewriting.specs.Origins.{Origins}
use Rattle.rewriting.specs.Spots.{Spot}
use Rattle.rule_parts.specs.Cores.{AnswersCore}

-- the answer is what the rule makes of the case on this term with these alternatives, or nothing
-- where it makes nothing of it
abbrev pub AnswersCase : Origins → Spot → Rule → TermTree → List Alt → Option TermTree → Type 0
AnswersCase o at r on alts answer = AnswersCore o at r (case_of on (alts_of alts)) answer

-- the same at whatever place
abbrev pub AnswersAnywhere : Rule → TermTree → List Alt → Option TermTree → Type 0
AnswersAnywhere r on alts answer = (o : Origins) (at : Spot) → AnswersCase o at r on alts answer

-- the same over these data types
abbrev pub AnswersOver : List Data → Rule → TermTree → List Alt → Option TermTree → Type 0
AnswersOver datas r on alts answer =
    (o : Origins) (at : Spot) → o.program.datas ≡ datas → AnswersCase o at r on alts answer
