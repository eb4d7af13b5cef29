-- A definition for its name.
use Rattle.std.specs.Prelude.{slice_get, unwrap_or, option_map}
use Rattle.std.proofs.Common.{◌≡◌, ℕ, suc, List, [], Some, sym, ap, ◌∙◌, subst}
use Rattle.chw_types.specs.declared.kind.Kind.{Kind}
use Rattle.chw_types.specs.TypeTree.{TypeTree, ty_var, TypeTrees, no_types}
use Rattle.chw_types.proofs.SameLaws.{same_turned}
use Rattle.chw_terms.specs.declared.program.Def.{Def}
use Rattle.chw_terms.specs.declared.program.Program.{Program}
use Rattle.chw_terms.specs.TermMoves.{rename}
use Rattle.chw_terms.specs.TermTree.{TermTree, global, made}
use Rattle.chw_terms.proofs.Renamed.{rename_ids}
use Rattle.chw_typing.specs.Scopes.{AreTermTypes}
use Rattle.chw_typing.specs.Programs.{AreClosed, IsSound, IsTyped, setting_of}
use Rattle.chw_typing.specs.Typing.{HasType, h_global}
use Rattle.chw_typing.proofs.Kinded.{type_kinded}
use Rattle.chw_typing.proofs.Lists.{found_in_map}
use Rattle.chw_meaning.specs.Values.{Thunks, none, closed_type}
use Rattle.chw_meaning.specs.Eval.{e_global}
use Rattle.acts.specs.Levels.{term_runs, term_has}
use Rattle.acts.specs.Acts.{acts_from}
use Rattle.acts.specs.Terms.{ActsUnder, OriginsTyped, setting_with}
use Rattle.rewriting.specs.Origins.{with_origins, Origins, MadeOf, origin_at, HoldsNoMade}
use Rattle.acts.proofs.Closing.{closed_stays}
use Rattle.acts.proofs.Filled.{filled, filled_renamed, variables_by, itself_keeps, Carries}
use Rattle.acts.proofs.Forms.{TermsAct}
use Rattle.acts.proofs.Globals.{origins_itself, Any, none_made, no_names, variables_act, globals_from}
use Rattle.acts.proofs.Levels.{from_turns, runs_more}
use Rattle.acts.proofs.SameActs.{as_same, same_acts}
use Rattle.act_rules.proofs.RuleMoves.{same_term_acts}

no_kinds : (δ δ0 : TypeTrees) → Carries [] ty_var δ δ0
no_kinds δ δ0 x k e = cc

-- a definition's body, with terms for made definitions, acts as it is
bare_acts : (p : Program) → IsSound (setting_of p) → IsTyped p → (o : ℕ → TermTree) {e : TermTree} {t : TypeTree} → HasType (setting_of p) [] [] e t → (n : ℕ) (γ' γ : Thunks) (δ' δ : TypeTrees) → TermsAct p (acts_from p n) t (with_origins o e) γ' δ' e γ δ
bare_acts p sound typed o {e} {t} d n γ' γ δ' δ =
    let r = acts_from p n in
    let acts = variables_act p [] sound o made (λ t. t) (λ t. t) itself_keeps itself_keeps Any (λ c δ' δ h. tt) (none_made p o made) d tt r (from_turns p n) (λ x. x) (λ x. x) ty_var ty_var no_types δ' δ γ' γ tt (no_kinds δ' no_types) (no_kinds δ no_types) tt (no_names p r (λ x. x) (λ x. x) no_types γ' γ) (globals_from p sound typed n) in
    let first = filled_renamed o e (λ x. x) ∙ ap (with_origins o) (rename_ids e) in
    let second = filled_renamed made e (λ x. x) ∙ origins_itself (rename e (λ x. x)) ∙ rename_ids e in
    subst (λ t. TermsAct p r t (with_origins o e) γ' δ' e γ δ) (closed_stays p no_types (type_kinded d sound tt).has)
    (subst (λ a. TermsAct p r (closed_type t no_types) (with_origins o e) γ' δ' a γ δ) second
    (subst (λ a. TermsAct p r (closed_type t no_types) a γ' δ' (filled made (λ t. t) e (variables_by (λ x. x)) ty_var) γ δ) first acts))

module _ (p : Program) (sound : IsSound (setting_of p)) (typed : IsTyped p) (types : List TypeTree) where
  pub unfold_global : (o : ℕ → TermTree) → AreClosed (setting_of p) types → OriginsTyped p types o → {kinds : List Kind} {vars : List TypeTree} {t : TypeTree} (d : ℕ) (it : Def) → slice_get p.defs d ≡ Some it → HasType (setting_with p types) kinds vars (global d) t → ActsUnder p kinds vars (with_origins o it.body) (with_origins o (global d)) t
  unfolding with_origins
  unfold_global o are_closed have {t = t} d it held (h_global found) n δ γ' γ known names =
      let own = found_in_map (λ (d : Def). d.ty) p.defs d it held in
      let is : it.ty ≡ t = cc in
      let l = from_turns p n in
      let body = typed.bodies d it held in
      let kind = typed.types d it.ty own in
      let bare = bare_acts p sound typed o body.has n γ' none δ no_types in
      let at = same_acts sound l (as_same (type_kinded body.has sound tt).has kind.has (same_turned body.same)) (term_runs p (with_origins o it.body) γ' δ) (term_has p it.body none no_types) bare in
      let named = runs_more l it.ty (term_runs p (with_origins o it.body) γ' δ) (term_has p it.body none no_types) (term_has p (global d) γ δ) (λ h w q. (suc q.0, e_global held q.1)) at in
      subst (λ u. TermsAct p (acts_from p n) u (with_origins o it.body) γ' δ (global d) γ δ) (sym (closed_stays p δ kind.has) ∙ ap (λ u. closed_type u δ) is) named

  pub unfold_made : (os : Origins) → AreClosed (setting_of p) types → OriginsTyped p types (origin_at os) → {kinds : List Kind} {vars : List TypeTree} {t : TypeTree} (m : ℕ) (it : MadeOf) → slice_get os.made m ≡ Some it → HoldsNoMade it.origin → AreTermTypes (setting_with p types) kinds vars → HasType (setting_with p types) kinds vars (made m) t → ActsUnder p kinds vars (with_origins (origin_at os) it.origin) (with_origins (origin_at os) (made m)) t
  unfolding with_origins
  unfold_made os are_closed have {t = t} m it held alone g d n δ γ' γ known names =
      let own : origin_at os m ≡ it.origin = ap (λ k. unwrap_or (option_map (λ (it : MadeOf). it.origin) k) (made m)) held in
      subst (λ e. TermsAct p (acts_from p n) (closed_type t δ) e γ' δ (with_origins (origin_at os) (made m)) γ δ) (own ∙ sym (alone (origin_at os)))
      (same_term_acts p sound typed types (origin_at os) are_closed have g d (acts_from p n) (from_turns p n) δ γ' γ known names)
