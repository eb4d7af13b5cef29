use Rattle.std.proofs.Common.{◌∙◌, IfSome, sym, subst}
use Rattle.std.specs.Prelude.{[]}
use Rattle.chw_terms.specs.declared.term.Arg.TheVariants.{OfTerm, OfType}
use Rattle.chw_terms.specs.declared.term.Head.TheVariants.{Case}
use Rattle.chw_terms.specs.TermMoves.{shift}
use Rattle.chw_terms.specs.TermTree.{var, app, ty_app, letrec, bind, no_bindings, case_of}
use Rattle.chw_terms.specs.TermView.{alts_of}
use Rattle.chw_typing.specs.Scopes.{setting_in}
use Rattle.chw_typing.specs.Finding.{Finds}
use Rattle.chw_typing.specs.Groups.{each_body}
use Rattle.rewriting.specs.Origins.{origins_of, setting_at}
use Rattle.rewriting.specs.Spots.{spot_of}
use Rattle.rewriting.specs.Functions.{app_case, app_case_type}
use Rattle.rewriting.specs.Shapes.{shift_alts}
use Rattle.flow_functions.proofs.Firsts.{at_first_same}
use Rattle.flow_functions.proofs.cases.app_case.Goals as goal

pub returns-in-OfType : goal.returns-in-OfType
returns-in-OfType c =
    at_first_same {k = Case c.in-Case.on c.in-Case.alts} {b = OfType c.in-OfType.ty} app_case_type c.in-Case.is c.in-OfType.is
    (c.in_ok-case_at_type-in-OfType.ensures ∙ (λ i. case_of (c.deref.ensures i) (each_body (λ n f. ty_app f c.in-OfType.ty) (alts_of (c.deref-in-OfType.ensures.value i)))))

pub returns : goal.returns
returns c =
    let s = setting_in c.args.scene.now in
    let o = origins_of c.args.scene.now in
    let at = spot_of c.args.place.now in
    let a = c.in-OfTerm.of in
    let t = c.in-Some.ty in
    let found : Finds s [] at.vars a t = subst (λ r. IfSome r (λ t. Finds s [] at.vars a t)) c.in-Some.is c.in_ok-ty.ensures.some in
    let here : Finds (setting_at o) [] at.vars a t = subst (λ s. Finds s [] at.vars a t) (sym (c.settings_of_scenes.ensures.setting c.args.scene.now)) found in
    let body = c.in_ok-body.ensures ∙ (λ i. case_of (shift (c.deref-2.ensures i) 0 1) (each_body (λ n f. app f (var n)) (shift_alts (alts_of (c.deref-3.ensures.value i)) 0 1))) in
    at_first_same {k = Case c.in-Case.on c.in-Case.alts} {b = OfTerm a} (app_case here) c.in-Case.is c.in-OfTerm.is
    (c.in_ok-let_one.ensures ∙ (λ i. letrec (bind t (shift a 0 1) no_bindings) (body i)))
