use Rattle.std.proofs.Common.{◌≡◌, ◌∙◌, IfOk, ap, sym, subst}
use Rattle.chw_terms.specs.TermTree.{prim}
use Rattle.chw_terms.specs.TermView.{tree_of, applied}
use Rattle.rewriting.specs.Origins.{origins_of}
use Rattle.rewriting.specs.Spots.{spot_of}
use Rattle.rule_parts.specs.Cores.{HasTypeAt}
use Rattle.specialise.specs.Special.{AnswersSpecial}
use Rattle.specialise.proofs.Numbering.{none_special, no_instance}
use Rattle.specialise.proofs.trial.try_special.Goals as goal

pub special_call-requires-clause-call : goal.special_call-requires-clause-call
special_call-requires-clause-call g c =
    let items = c.at.inside.args.items in (
      c.in-Global.field-0.number,
      items,
      sym c.at.view_is ∙ ap (λ h. applied (tree_of h) items) c.in-Global.is,
    )

pub special_prim-requires-clause-typed : goal.special_prim-requires-clause-typed
special_prim-requires-clause-typed g c =
    let o = origins_of c.args.scene.now in
    let at = spot_of c.args.place.now in
    let whole : applied (prim c.in-PrimOf.which) c.deref.result.now ≡ c.args.at.now =
    (λ i. applied (tree_of (sym c.in-PrimOf.is i)) (c.deref.ensures.value i)) ∙ c.at.view_is in
    subst (HasTypeAt o at) (sym whole) c.requires.typed

pub returns-in-PrimOf-clause-special : goal.returns-in-PrimOf-clause-special
returns-in-PrimOf-clause-special g c =
    let p = c.args.scene.now.program.now in
    let at = spot_of c.args.place.now in
    let whole : applied (prim c.in-PrimOf.which) c.deref.result.now ≡ c.args.at.now =
    (λ i. applied (tree_of (sym c.in-PrimOf.is i)) (c.deref.ensures.value i)) ∙ c.at.view_is in
    subst (λ e. IfOk c.special_prim.result (AnswersSpecial p c.args.table.now at e)) whole
    c.special_prim.ensures

pub returns-in_default-clause-special : goal.returns-in_default-clause-special
returns-in_default-clause-special g c =
    none_special c.args.scene.now.program.now c.args.scene.now.made.now c.args.table.now
    (spot_of c.args.place.now) c.args.at.now c.requires.same
    (λ e' i. no_instance c.at.inside.head c.at.inside.args.items c.in_default.not-Global
    c.in_default.not-PrimOf c.at.view_is i)
