use Rattle.std.proofs.Common.{◌∙◌, inr, ap, sym, subst}
use Rattle.chw_terms.specs.declared.rule.Rule.TheVariants.{Anf}
use Rattle.rewriting.specs.Origins.{origins_of}
use Rattle.rewriting.specs.Spots.{spot_of}
use Rattle.rewriting.specs.Calls.{OfWhole, anf_result}
use Rattle.seen_types.proofs.Matched.{not_true}
use Rattle.work_operands.specs.Named.{let_of}
use Rattle.work_operands.proofs.AtResults.{only_results}
use Rattle.work_operands.proofs.results.name_result.Goals as goal

pub returns-then-not-is_result : goal.returns-then-not-is_result
returns-then-not-is_result c e' m =
    only_results c.requires.none
    (λ r.
    not_true c.is_result.result c.if-not-is_result.true
    (c.is_result.ensures.1 (r.lets, r.result))) m

pub returns-then-is_variable : goal.returns-then-is_variable
returns-then-is_variable c e' m =
    only_results c.requires.none
    (λ r. r.no_variable (c.is_variable.ensures.0 c.if-is_variable.true)) m

pub returns-then-is_let : goal.returns-then-is_let
returns-then-is_let c e' m =
    only_results c.requires.none (λ r. r.no_let (c.is_let.ensures.0 c.if-is_let.true)) m

pub returns : goal.returns
returns c =
    let o = origins_of c.args.scene.now in
    let at = spot_of c.args.place.now in
    let e = c.args.at.now in
    let t = c.in_ok-ty.ty in
    let result = c.is_result.ensures.0 c.if-not-is_result.false in
    let made = c.in_ok-let_one.ensures ∙ ap (let_of t e) c.new_name.ensures in
    inr (subst (OfWhole o at Anf e) (sym made)
    (anf_result result.0 result.1
    (λ v. not_true c.is_variable.result c.if-is_variable.false (c.is_variable.ensures.1 v))
    (λ v. not_true c.is_let.result c.if-is_let.false (c.is_let.ensures.1 v))
    c.requires.none c.in_ok-ty.ensures))
