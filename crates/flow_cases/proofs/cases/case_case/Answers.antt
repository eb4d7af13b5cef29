use Rattle.std.proofs.Common.{◌∙◌, [], ap, sym, subst, refl, IfSome}
use Rattle.chw_terms.specs.TermTree.{case_of}
use Rattle.chw_terms.specs.TermView.{tree_of, alts_of}
use Rattle.chw_typing.specs.Scopes.{setting_in}
use Rattle.chw_typing.specs.Typing.{HasType}
use Rattle.chw_typing.specs.Finding.{Finds}
use Rattle.chw_typing.specs.Groups.{each_body}
use Rattle.rewriting.specs.Named.{IsNamed}
use Rattle.rewriting.specs.Origins.{origins_of, setting_at}
use Rattle.rewriting.specs.Spots.{spot_of}
use Rattle.rewriting.specs.Shapes.{shift_alts}
use Rattle.term_types.specs.Answers.{IsReady}
use Rattle.flow_cases.specs.Heads.{IsApplied}
use Rattle.flow_cases.proofs.Forms.{no_case}
use Rattle.flow_cases.proofs.Inversions.{of_case}
use Rattle.flow_cases.proofs.Makings.{case_moved}
use Rattle.flow_cases.proofs.Unnamed.{named_again}
use Rattle.flow_cases.proofs.cases.case_case.Goals as goal

pub returns-in_default : goal.returns-in_default
returns-in_default c e' m =
    let h = of_case m refl c.args.on.now (alts_of c.args.alts.now) refl in
    subst IsApplied h.is c.in_default.ensures

pub returns-in_default-head : goal.returns-in_default-head
returns-in_default-head c e' m =
    let h = of_case m refl c.args.on.now (alts_of c.args.alts.now) refl in
    no_case c.in-Some.head.now c.in_default-head.not-Case h.first h.inner (c.in-Some.ensures ∙ h.is)

pub returns-then-branch : goal.returns-then-branch
returns-then-branch c e' m =
    let s = setting_in c.args.scene.now in
    let o = origins_of c.args.scene.now in
    let at = spot_of c.args.place.now in
    let on = c.args.on.now in
    let t = c.in-Some-2.ty in
    let setting = sym (c.settings_of_scenes.ensures.setting c.args.scene.now) in
    let h = of_case m refl on (alts_of c.args.alts.now) refl in
    let here : Finds s [] at.vars on t = subst (λ r. IfSome r (λ t. Finds s [] at.vars on t)) c.in-Some-2.is c.in_ok-ty.ensures.some in
    let typed : HasType (setting_at o) [] at.vars on t = c.found_is_type.ensures (setting_at o) [] at.vars on t (subst (λ s. Finds s [] at.vars on t) setting here) in
    let ready : IsReady (setting_at o) [] at.vars = subst (λ s. IsReady s [] at.vars) setting c.requires.ready in
    let named : IsNamed o.program.datas at.mode t = subst (λ ds. IsNamed ds at.mode t) c.as_slice.ensures (c.in_ok-is_type_named.ensures.0 c.if-branch.true) in
    h.unnamed (named_again c.one_type.ensures c.types_are_term_types.ensures c.names_of_modes.ensures.kept (setting_at o) at.vars at.mode on t h.type ready.0 ready.1 typed h.has named)

pub returns : goal.returns
returns c =
    let s = setting_in c.args.scene.now in
    let o = origins_of c.args.scene.now in
    let at = spot_of c.args.place.now in
    let on = c.args.on.now in
    let t = c.in-Some-2.ty in
    let setting = sym (c.settings_of_scenes.ensures.setting c.args.scene.now) in
    let here : Finds s [] at.vars on t = subst (λ r. IfSome r (λ t. Finds s [] at.vars on t)) c.in-Some-2.is c.in_ok-ty.ensures.some in
    let typed : HasType (setting_at o) [] at.vars on t = c.found_is_type.ensures (setting_at o) [] at.vars on t (subst (λ s. Finds s [] at.vars on t) setting here) in
    let outer = alts_of c.args.alts.now in
    case_moved o at on c.in-Case.first.value (alts_of c.in-Case.inner.items) outer t c.in_ok-each_looked_at.field-0
    (sym c.in-Some.ensures ∙ ap tree_of c.in-Case.is) typed
    (λ n.
    let yes = c.in_ok-is_type_named.ensures.1 (subst (λ ds. IsNamed ds at.mode t) (sym c.as_slice.ensures) n) in
    let no = c.if-branch.false in
    absurd cc)
    (c.in_ok-each_looked_at.ensures
    ∙ (λ i. case_of (c.deref.ensures i) (each_body (λ n f. case_of f (shift_alts outer 0 n)) (alts_of (c.deref-2.ensures.value i)))))
