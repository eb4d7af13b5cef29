use Rattle.std.proofs.Common.{◌≡◌, Option, Some, None, Bor, length, reverse, option_map, MatchOption, refl, sym, ap, ◌∙◌, subst}
use Rattle.std.specs.List.{slice_get}
use Rattle.std.proofs.lemmas.Bool.{ltb-true, ltb-false}
use Rattle.std.proofs.lemmas.Option.{slice_get_past, slice_get_read, slice_get-map}
use Rattle.chw_types.specs.declared.ty.Ty.{Ty}
use Rattle.chw_types.specs.TypeTree.{TypeTree}
use Rattle.chw_terms.specs.declared.program.Def.{Def}
use Rattle.chw_terms.specs.declared.scene.Made.{Made}
use Rattle.chw_terms.specs.TermView.{tree_of}
use Rattle.chw_typing.specs.Scopes.{setting_in}
use Rattle.call_types.specs.CallTypes.{call_type}
use Rattle.call_types.proofs.Heads.{no_call}
use Rattle.call_types.proofs.calls.type_of_head.Goals as goal

-- what is read is what is there
read_off : (found : Option (Bor Ty)) (at : Option TypeTree) → MatchOption found (at ≡ None) (λ t. at ≡ Some t.now) → option_map (λ t. t.now) found ≡ at
read_off None at h = sym h
read_off (Some t) at h = sym h

pub returns-in-Var : goal.returns-in-Var
returns-in-Var c =
    let vars = c.args.vars.now in
    let n = c.in-Var.at.number in
    subst (λ h. option_map (λ t. t.now) c.from_end.result ≡ call_type (setting_in c.args.scene.now) (reverse vars) (tree_of h)) (sym c.in-Var.is)
    (read_off c.from_end.result (slice_get (reverse vars) n) c.from_end.ensures)

pub returns-in-Some : goal.returns-in-Some
returns-in-Some c =
    let n = c.in-Global.at.number in
    let items = c.args.scene.now.program.now.defs in
    let read : slice_get items n ≡ Some c.in-Some.it.now = subst (λ ds. slice_get ds n ≡ Some c.in-Some.it.now) c.as_slice.ensures (slice_get_read c.as_slice.result.now (length c.as_slice.result.now) n c.in-Some.it.now refl (ltb-true _ _ (sym c.in-Some.ensures.lookup.0)) c.in-Some.ensures.lookup.1) in
    subst (λ h. Some c.in-Some.it.now.ty ≡ call_type (setting_in c.args.scene.now) (reverse c.args.vars.now) (tree_of h)) (sym c.in-Global.is) (sym (slice_get-map (λ (d : Def). d.ty) items n ∙ ap (λ o. option_map (λ (d : Def). d.ty) o) read))

pub returns-in-None : goal.returns-in-None
returns-in-None c =
    let n = c.in-Global.at.number in
    let items = c.args.scene.now.program.now.defs in
    let read : slice_get items n ≡ None = subst (λ ds. slice_get ds n ≡ None) c.as_slice.ensures (slice_get_past c.as_slice.result.now n (ltb-false _ _ (sym c.in-None.ensures.lookup.0))) in
    subst (λ h. None ≡ call_type (setting_in c.args.scene.now) (reverse c.args.vars.now) (tree_of h)) (sym c.in-Global.is) (sym (slice_get-map (λ (d : Def). d.ty) items n ∙ ap (λ o. option_map (λ (d : Def). d.ty) o) read))

pub returns-in-Some-get : goal.returns-in-Some-get
returns-in-Some-get c =
    let n = c.in-Made.at.number in
    let items = c.args.scene.now.made.now in
    let read : slice_get items n ≡ Some c.in-Some-get.it.now = slice_get_read items (length items) n c.in-Some-get.it.now refl (ltb-true _ _ (sym c.in-Some-get.ensures.lookup.0)) c.in-Some-get.ensures.lookup.1 in
    subst (λ h. Some c.in-Some-get.it.now.ty ≡ call_type (setting_in c.args.scene.now) (reverse c.args.vars.now) (tree_of h)) (sym c.in-Made.is) (sym (slice_get-map (λ (m : Made). m.ty) items n ∙ ap (λ o. option_map (λ (m : Made). m.ty) o) read))

pub returns-in-None-get : goal.returns-in-None-get
returns-in-None-get c =
    let n = c.in-Made.at.number in
    let items = c.args.scene.now.made.now in
    let read : slice_get items n ≡ None = slice_get_past items n (ltb-false _ _ (sym c.in-None-get.ensures.lookup.0)) in
    subst (λ h. None ≡ call_type (setting_in c.args.scene.now) (reverse c.args.vars.now) (tree_of h)) (sym c.in-Made.is) (sym (slice_get-map (λ (m : Made). m.ty) items n ∙ ap (λ o. option_map (λ (m : Made). m.ty) o) read))

pub returns-in_default : goal.returns-in_default
returns-in_default c = no_call (setting_in c.args.scene.now) (reverse c.args.vars.now) c.args.head.now c.in_default.not-Var c.in_default.not-Global c.in_default.not-Made
