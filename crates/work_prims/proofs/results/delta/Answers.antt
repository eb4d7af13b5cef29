use Rattle.std.proofs.Common.{◌≡◌, ◌∙◌, sym, subst, MatchOption}
use Rattle.std.proofs.lemmas.Result.{IfOk-weaker}
use Rattle.chw_terms.specs.declared.rule.Rule.TheVariants.{Delta}
use Rattle.chw_terms.specs.TermTree.{TermTree, prim}
use Rattle.chw_terms.specs.TermView.{applied}
use Rattle.rewriting.specs.Origins.{Origins}
use Rattle.rewriting.specs.Spots.{spot_of}
use Rattle.rule_parts.specs.Cores.{AnswersCore}
use Rattle.work_prims.specs.Given.{types_in}
use Rattle.work_prims.specs.Results.{IsResultOn}
use Rattle.work_prims.proofs.Computed.{delta_answer}
use Rattle.work_prims.proofs.results.delta.Goals as goal

pub returns : goal.returns
returns c =
    let p = c.args.p in
    let at = spot_of c.args.place.now in
    let args = c.args.args.now in
    let rest = c.in_ok-types.rest.now in
    let types : c.deref.result.now ≡ types_in args = c.deref.ensures.value ∙ c.in_ok-types.ensures.0 in
    IfOk-weaker c.value_on-value.result _
    (λ r. (o : Origins) → AnswersCore o at Delta (applied (prim p) args) r)
    (λ r h o. delta_answer o at p args rest r c.in-K.is (sym c.in_ok-types.ensures.1)
    (subst (λ ts. MatchOption r ((e : TermTree) → IsResultOn p ts rest e → ⊥) (λ e. IsResultOn p ts rest e)) types h))
    c.value_on-value.ensures
