-- Which rules make something of cores alone.
use Rattle.std.proofs.Common.{◌≡◌, refl}
use Rattle.chw_terms.specs.declared.rule.Rule.{Rule}
use Rattle.chw_terms.specs.declared.rule.Rule.TheVariants.{TyBeta, Beta, AppLet, AppCase}
use Rattle.chw_terms.specs.declared.rule.Rule.TheVariants.{CaseCon, CaseLet, CaseCase, Proj}
use Rattle.chw_terms.specs.declared.rule.Rule.TheVariants.{PrimLet, PrimCase, Flat, Dead, Inline}
use Rattle.chw_terms.specs.declared.rule.Rule.TheVariants.{Unfold, Unroll, Elem, Delta, ApPure}
use Rattle.chw_terms.specs.declared.rule.Rule.TheVariants.{Eta, Spec, Anf}
use Rattle.rule_parts.specs.Laws.{IsOfCores}

-- all but the one that makes definitions and the one on operands
pub of_cores : (r : Rule) → (r ≡ Spec → ⊥) → (r ≡ Anf → ⊥) → IsOfCores r
of_cores TyBeta other more = tt
of_cores Beta other more = tt
of_cores AppLet other more = tt
of_cores AppCase other more = tt
of_cores CaseCon other more = tt
of_cores CaseLet other more = tt
of_cores CaseCase other more = tt
of_cores Proj other more = tt
of_cores PrimLet other more = tt
of_cores PrimCase other more = tt
of_cores Flat other more = tt
of_cores Dead other more = tt
of_cores Inline other more = tt
of_cores Unfold other more = tt
of_cores Unroll other more = tt
of_cores Elem other more = tt
of_cores Delta other more = tt
of_cores ApPure other more = tt
of_cores Eta other more = tt
of_cores Spec other more = absurd (other refl)
of_cores Anf other more = absurd (more refl)
