use Rattle.std.proofs.Common.{◌∙◌, IfSome, Some, sym, subst}
use Rattle.chw_terms.specs.declared.rule.Rule.TheVariants.{PrimCase}
use Rattle.chw_terms.specs.TermTree.{prim}
use Rattle.chw_terms.specs.TermView.{applied, alts_of}
use Rattle.rewriting.specs.Origins.{origins_of}
use Rattle.rewriting.specs.Spots.{spot_of}
use Rattle.rule_parts.specs.Cores.{AnswersCore}
use Rattle.flow_demanded.specs.Demanding.{IsFirstOfForm, NoneOfForm}
use Rattle.flow_demanded.specs.declared.forms.Form.TheVariants.{Letrec, Case}
use Rattle.flow_demanded.proofs.Demanded.{of_case, of_no_case, beside_some}
use Rattle.flow_demanded.proofs.Parts.{none_of, none_when}
use Rattle.flow_demanded.proofs.trial.prim_case.Goals as goal

pub returns-then-is_some : goal.returns-then-is_some
returns-then-is_some c =
    beside_some c.args.which c.args.args.now c.in_ok-first_demanded.field-0 (λ it. it.number) (λ it. it.term.now) (sym c.is_some.ensures ∙ c.if-is_some.true) c.in_ok-first_demanded.ensures.first

pub returns-in_default : goal.returns-in_default
returns-in_default c = of_no_case (none_of c.in_ok-it.field-0 c.in_default.not-Some c.in_ok-it.ensures.none)

pub returns : goal.returns
returns c =
    let o = origins_of c.args.scene.now in
    let at = spot_of c.args.place.now in
    let p = c.args.which in
    let args = c.args.args.now in
    let it = c.in-Some.it in
    let of = c.in-Some-as_case.of in
    let none : NoneOfForm o at p args Letrec = none_when c.in_ok-first_demanded.field-0 (sym c.is_some.ensures ∙ c.if-is_some.false) c.in_ok-first_demanded.ensures.none in
    let first : IsFirstOfForm o at p args Case it.number it.term.now = subst (λ r. IfSome r (λ it. IsFirstOfForm o at p args Case it.number it.term.now)) c.in-Some.is c.in_ok-it.ensures.first in
    subst (λ e. AnswersCore o at PrimCase (applied (prim p) args) (Some e)) (sym c.in_ok-into_case.ensures)
    (of_case of.on.now (alts_of of.alts.now) c.requires.whole none first c.in-Some-as_case.ensures.some)
