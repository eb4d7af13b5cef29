-- Where the rule that joins letrecs has an instance.
use Rattle.std.proofs.Common.{refl, None, Some, IsTrue, true, false}
use Rattle.std.specs.Prelude.{Bool, ◌↔◌}
use Rattle.std.proofs.lemmas.Bool.{false≢true}
use Rattle.chw_terms.specs.declared.rule.Rule.TheVariants.{Flat}
use Rattle.chw_terms.specs.TermTree.{TermTree}
use Rattle.rewriting.specs.Origins.{Origins}
use Rattle.rewriting.specs.Spots.{Spot}
use Rattle.rule_parts.specs.Cores.{HasTypeAt}
use Rattle.rules.specs.Laws.{AnswersAreInstances}
use Rattle.flow_lets.specs.Flat.{JoinsAt}
use Rattle.rules.specs.Joined.{Joins}

-- it has one on a typed term where it makes something of a core of the term
pub joins_if_made : AnswersAreInstances → (o : Origins) (at : Spot) (e : TermTree) (b : Bool)
    → HasTypeAt o at e → IsTrue b ↔ JoinsAt o at e → IsTrue b ↔ Joins o at e
joins_if_made law o at e true typed h =
    let made = h.0 refl in
    ((λ i. (made.0, law o at Flat e (Some made.0) tt typed made.1)), λ j. refl)
joins_if_made law o at e false typed h = (
  (λ i. absurd (false≢true i)),
  λ j. absurd (law o at Flat e None tt typed (λ new m. false≢true (h.1 (new, m))) j.0 j.1),
)
