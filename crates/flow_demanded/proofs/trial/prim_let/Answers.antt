use Rattle.std.proofs.Common.{IfSome, Some, sym, subst}
use Rattle.chw_terms.specs.declared.rule.Rule.TheVariants.{PrimLet}
use Rattle.chw_terms.specs.TermTree.{prim}
use Rattle.chw_terms.specs.TermView.{applied, group_of}
use Rattle.rewriting.specs.Origins.{origins_of}
use Rattle.rewriting.specs.Spots.{spot_of}
use Rattle.rule_parts.specs.Cores.{AnswersCore}
use Rattle.flow_demanded.specs.Demanding.{IsFirstOfForm}
use Rattle.flow_demanded.specs.declared.forms.Form.TheVariants.{Letrec}
use Rattle.flow_demanded.proofs.Demanded.{of_let, of_no_let}
use Rattle.flow_demanded.proofs.Parts.{none_of}
use Rattle.flow_demanded.proofs.trial.prim_let.Goals as goal

pub returns-in_default : goal.returns-in_default
returns-in_default c = of_no_let (none_of c.in_ok-it.field-0 c.in_default.not-Some c.in_ok-it.ensures.none)

pub returns : goal.returns
returns c =
    let o = origins_of c.args.scene.now in
    let at = spot_of c.args.place.now in
    let p = c.args.which in
    let args = c.args.args.now in
    let it = c.in-Some.it in
    let of = c.in-Some-as_letrec.of in
    let first : IsFirstOfForm o at p args Letrec it.number it.term.now = subst (λ r. IfSome r (λ it. IsFirstOfForm o at p args Letrec it.number it.term.now)) c.in-Some.is c.in_ok-it.ensures.first in
    subst (λ e. AnswersCore o at PrimLet (applied (prim p) args) (Some e)) (sym c.in_ok-into_letrec.ensures)
    (of_let (group_of of.group.now) of.body.now c.requires.whole first c.in-Some-as_letrec.ensures.some)
