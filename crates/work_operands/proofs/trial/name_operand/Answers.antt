use Rattle.std.proofs.Common.{◌≡◌, ◌∙◌, inl, inr, IfOk, Option, ap, sym, subst}
use Rattle.std.specs.Option.{option_map}
use Rattle.std.proofs.lemmas.Result.{IfOk-weaker}
use Rattle.chw_terms.specs.TermTree.{TermTree, con, prim, case_of, vec_lit}
use Rattle.chw_terms.specs.TermView.{tree_of, applied, alts_of, terms_of}
use Rattle.rewriting.specs.Origins.{origins_of}
use Rattle.rewriting.specs.Spots.{spot_of}
use Rattle.rewriting.specs.Operands.{NoneNeedsName}
use Rattle.rule_parts.proofs.Heads.{bare}
use Rattle.rule_parts.specs.Cores.{HasTypeAt}
use Rattle.work_operands.specs.Firsts.{AnswersOperand}
use Rattle.work_operands.proofs.CasesAndVectors.{case_behind, vector_behind}
use Rattle.work_operands.proofs.Spines.{HasNoOperands, other_needs_none}
use Rattle.call_types.proofs.Arguments.{core_typed}
use Rattle.work_operands.proofs.trial.name_operand.Goals as goal

pub name_of_prim-requires-clause-typed : goal.name_of_prim-requires-clause-typed
name_of_prim-requires-clause-typed c =
    let whole : applied (prim c.in-PrimOf.which) c.as_slice-args.result.now ≡ c.args.at.now =
    (λ i. applied (tree_of (sym c.in-PrimOf.is i)) (c.as_slice-args.ensures.value i))
    ∙ c.at.view_is in
    subst (HasTypeAt (origins_of c.args.scene.now) (spot_of c.args.place.now)) (sym whole)
    c.requires.typed

pub returns-in-PrimOf : goal.returns-in-PrimOf
returns-in-PrimOf c =
    let args = c.as_slice-args.result.now in
    let whole : applied (prim c.in-PrimOf.which) args ≡ c.args.at.now =
    (λ i. applied (tree_of (sym c.in-PrimOf.is i)) (c.as_slice-args.ensures.value i))
    ∙ c.at.view_is in
    let o = origins_of c.args.scene.now in
    let at = spot_of c.args.place.now in
    subst (λ e. IfOk c.name_of_prim.result (AnswersOperand o at e)) whole c.name_of_prim.ensures

pub name_of_con-requires-clause-typed : goal.name_of_con-requires-clause-typed
name_of_con-requires-clause-typed c =
    let whole : applied (con c.in-Con.which.number) c.as_slice-args.result.now ≡ c.args.at.now =
    (λ i. applied (tree_of (sym c.in-Con.is i)) (c.as_slice-args.ensures.value i))
    ∙ c.at.view_is in
    subst (HasTypeAt (origins_of c.args.scene.now) (spot_of c.args.place.now)) (sym whole)
    c.requires.typed

pub returns-in-Con : goal.returns-in-Con
returns-in-Con c =
    let args = c.as_slice-args.result.now in
    let whole : applied (con c.in-Con.which.number) args ≡ c.args.at.now =
    (λ i. applied (tree_of (sym c.in-Con.is i)) (c.as_slice-args.ensures.value i))
    ∙ c.at.view_is in
    let o = origins_of c.args.scene.now in
    let at = spot_of c.args.place.now in
    subst (λ e. IfOk c.name_of_con.result (AnswersOperand o at e)) whole c.name_of_con.ensures

pub name_in_call-requires-clause-typed : goal.name_in_call-requires-clause-typed
name_in_call-requires-clause-typed c =
    let head = c.global.ensures ∙ sym (ap tree_of c.in-Global.is) in
    let whole : applied c.global.result c.as_slice-args.result.now ≡ c.args.at.now =
    (λ i. applied (head i) (c.as_slice-args.ensures.value i)) ∙ c.at.view_is in
    subst (HasTypeAt (origins_of c.args.scene.now) (spot_of c.args.place.now)) (sym whole)
    c.requires.typed

pub returns-in-Global : goal.returns-in-Global
returns-in-Global c =
    let head = c.global.ensures ∙ sym (ap tree_of c.in-Global.is) in
    let whole : applied c.global.result c.as_slice-args.result.now ≡ c.args.at.now =
    (λ i. applied (head i) (c.as_slice-args.ensures.value i)) ∙ c.at.view_is in
    let o = origins_of c.args.scene.now in
    let at = spot_of c.args.place.now in
    subst (λ e. IfOk c.name_in_call.result (AnswersOperand o at e)) whole c.name_in_call.ensures

pub name_in_call-requires-in-Made-clause-typed : goal.name_in_call-requires-in-Made-clause-typed
name_in_call-requires-in-Made-clause-typed c =
    let head = c.made.ensures ∙ sym (ap tree_of c.in-Made.is) in
    let whole : applied c.made.result c.as_slice-args.result.now ≡ c.args.at.now =
    (λ i. applied (head i) (c.as_slice-args.ensures.value i)) ∙ c.at.view_is in
    subst (HasTypeAt (origins_of c.args.scene.now) (spot_of c.args.place.now)) (sym whole)
    c.requires.typed

pub returns-in-Made : goal.returns-in-Made
returns-in-Made c =
    let head = c.made.ensures ∙ sym (ap tree_of c.in-Made.is) in
    let whole : applied c.made.result c.as_slice-args.result.now ≡ c.args.at.now =
    (λ i. applied (head i) (c.as_slice-args.ensures.value i)) ∙ c.at.view_is in
    let o = origins_of c.args.scene.now in
    let at = spot_of c.args.place.now in
    subst (λ e. IfOk c.name_in_call-in-Made.result (AnswersOperand o at e)) whole
    c.name_in_call-in-Made.ensures

pub name_scrutinee-requires-clause-typed : goal.name_scrutinee-requires-clause-typed
name_scrutinee-requires-clause-typed c =
    let o = origins_of c.args.scene.now in
    let at = spot_of c.args.place.now in
    let args = c.as_slice-args.result.now in
    let e = c.deref.result.now in
    let alts = alts_of c.deref-in-Case.result.now in
    let head : case_of e alts ≡ tree_of c.at.inside.head =
    (λ i. case_of (c.deref.ensures i) (alts_of (c.deref-in-Case.ensures.value i)))
    ∙ sym (ap tree_of c.in-Case.is) in
    let whole : applied (case_of e alts) args ≡ c.args.at.now =
    (λ i. applied (head i) (c.as_slice-args.ensures.value i)) ∙ c.at.view_is in
    core_typed o at (case_of e alts) args (subst (HasTypeAt o at) (sym whole) c.requires.typed)

pub returns-in_ok-made-in-Case : goal.returns-in_ok-made-in-Case
returns-in_ok-made-in-Case c =
    let o = origins_of c.args.scene.now in
    let at = spot_of c.args.place.now in
    let args = c.as_slice-args.result.now in
    let e = c.deref.result.now in
    let alts = alts_of c.deref-in-Case.result.now in
    let made = c.in_ok-made-in-Case.made in
    let head : case_of e alts ≡ tree_of c.at.inside.head =
    (λ i. case_of (c.deref.ensures i) (alts_of (c.deref-in-Case.ensures.value i)))
    ∙ sym (ap tree_of c.in-Case.is) in
    let whole : applied (case_of e alts) args ≡ c.args.at.now =
    (λ i. applied (head i) (c.as_slice-args.ensures.value i)) ∙ c.at.view_is in
    let all : AnswersOperand o at c.args.at.now (option_map (λ e. applied e args) made) =
    subst (λ e. AnswersOperand o at e (option_map (λ e. applied e args) made)) whole
    (case_behind o at e alts args made c.in_ok-made-in-Case.ensures) in
    IfOk-weaker c.with_rest.result
    (λ (r : Option TermTree). r ≡ option_map (λ e. applied e args) made)
    (AnswersOperand o at c.args.at.now)
    (λ r is. subst (AnswersOperand o at c.args.at.now) (sym is) all) c.with_rest.ensures

pub name_element-requires-clause-typed : goal.name_element-requires-clause-typed
name_element-requires-clause-typed c =
    let o = origins_of c.args.scene.now in
    let at = spot_of c.args.place.now in
    let args = c.as_slice-args.result.now in
    let t = c.in-VecLit.ty in
    let es = terms_of c.deref-in-VecLit.result.now in
    let head : vec_lit t es ≡ tree_of c.at.inside.head =
    (λ i. vec_lit t (terms_of (c.deref-in-VecLit.ensures.value i)))
    ∙ sym (ap tree_of c.in-VecLit.is) in
    let whole : applied (vec_lit t es) args ≡ c.args.at.now =
    (λ i. applied (head i) (c.as_slice-args.ensures.value i)) ∙ c.at.view_is in
    core_typed o at (vec_lit t es) args (subst (HasTypeAt o at) (sym whole) c.requires.typed)

pub returns-in_ok-made-in-VecLit : goal.returns-in_ok-made-in-VecLit
returns-in_ok-made-in-VecLit c =
    let o = origins_of c.args.scene.now in
    let at = spot_of c.args.place.now in
    let args = c.as_slice-args.result.now in
    let t = c.in-VecLit.ty in
    let es = terms_of c.deref-in-VecLit.result.now in
    let made = c.in_ok-made-in-VecLit.made in
    let head : vec_lit t es ≡ tree_of c.at.inside.head =
    (λ i. vec_lit t (terms_of (c.deref-in-VecLit.ensures.value i)))
    ∙ sym (ap tree_of c.in-VecLit.is) in
    let whole : applied (vec_lit t es) args ≡ c.args.at.now =
    (λ i. applied (head i) (c.as_slice-args.ensures.value i)) ∙ c.at.view_is in
    let all : AnswersOperand o at c.args.at.now (option_map (λ e. applied e args) made) =
    subst (λ e. AnswersOperand o at e (option_map (λ e. applied e args) made)) whole
    (vector_behind o at t es args made c.in_ok-made-in-VecLit.ensures) in
    IfOk-weaker c.with_rest-in-VecLit.result
    (λ (r : Option TermTree). r ≡ option_map (λ e. applied e args) made)
    (AnswersOperand o at c.args.at.now)
    (λ r is. subst (AnswersOperand o at c.args.at.now) (sym is) all) c.with_rest-in-VecLit.ensures

pub returns-in-Var : goal.returns-in-Var
returns-in-Var c =
    let o = origins_of c.args.scene.now in
    let at = spot_of c.args.place.now in
    let h = c.at.inside.head in
    let none : HasNoOperands (tree_of h) = elim c.in-Var.is [
      | inl w ↦ subst (λ h. HasNoOperands (tree_of h)) (sym w.1) tt
      | inr r ↦ elim r [
        | inl w ↦ subst (λ h. HasNoOperands (tree_of h)) (sym w.2) tt
        | inr r ↦ elim r [
          | inl w ↦ subst (λ h. HasNoOperands (tree_of h)) (sym w.2) tt
          | inr r ↦ elim r [
            | inl w ↦ subst (λ h. HasNoOperands (tree_of h)) (sym w.2) tt
            | inr w ↦ subst (λ h. HasNoOperands (tree_of h)) (sym w.2) tt
          ]
        ]
      ]
    ] in
    subst (NoneNeedsName o at) c.at.view_is
    (other_needs_none o at (tree_of h) c.at.inside.args.items (bare h) none)
