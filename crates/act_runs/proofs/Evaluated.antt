-- Closed terms act as they do with their closed naturals evaluated.
use Rattle.std.proofs.Common.{◌≡◌, [], ap, ◌∙◌, subst}
use Rattle.chw_types.specs.TypeTree.{TypeTree, ty_var, TypeTrees}
use Rattle.chw_types.proofs.SameLaws.{same_through, same_turned}
use Rattle.chw_terms.specs.declared.program.Program.{Program}
use Rattle.chw_terms.specs.Evaluated.{evaluated, evaluated_in}
use Rattle.chw_terms.specs.TermMoves.{rename}
use Rattle.chw_terms.specs.TermTree.{TermTree, made}
use Rattle.chw_terms.specs.TypesMoved.{sub_types}
use Rattle.chw_terms.proofs.Renamed.{rename_ids}
use Rattle.chw_terms.proofs.TypesPut.{types_sub_ids}
use Rattle.chw_typing.specs.Programs.{IsSound, IsTyped, setting_of}
use Rattle.chw_typing.specs.Scopes.{IsTermType}
use Rattle.chw_typing.specs.Typing.{HasType, HasTypeUpTo}
use Rattle.chw_typing.proofs.Kinded.{type_kinded}
use Rattle.chw_typing.proofs.OneType.{one_type}
use Rattle.chw_typing.proofs.TermsEvaluated.{type_evaluated}
use Rattle.chw_meaning.specs.Values.{closed_type}
use Rattle.acts.specs.Acts.{acts_from}
use Rattle.acts.specs.Terms.{ActsAs}
use Rattle.acts.proofs.Filled.{filled, filled_renamed, filled_evaluated, variables_by, Carries, itself_keeps, evaluated_keeps}
use Rattle.acts.proofs.Forms.{TermsAct}
use Rattle.acts.proofs.Globals.{Any, none_made, variables_act, globals_from, origins_itself}
use Rattle.acts.proofs.Levels.{from_turns}
use Rattle.act_runs.proofs.States.{acts_at}

no_kinds : (δ δ0 : TypeTrees) → Carries [] ty_var δ δ0
no_kinds δ δ0 x k e = cc

plain : (e : TermTree) → filled made (λ t. t) e (variables_by (λ x. x)) ty_var ≡ e
plain e = filled_renamed made e (λ x. x) ∙ origins_itself (rename e (λ x. x)) ∙ rename_ids e

worked_out : (e : TermTree) → filled made evaluated e (variables_by (λ x. x)) ty_var ≡ evaluated_in e
worked_out e =
    filled_evaluated made e (λ x. x) ty_var
    ∙ origins_itself (evaluated_in (sub_types (rename e (λ x. x)) ty_var))
    ∙ ap evaluated_in (types_sub_ids (rename e (λ x. x)) ∙ rename_ids e)

module _ (p : Program) (sound : IsSound (setting_of p)) (typed : IsTyped p) where
  from_evaluated : {e : TermTree} {t : TypeTree} → HasType (setting_of p) [] [] e t → ActsAs p t (evaluated_in e) e
  from_evaluated {e} {t} d n δ γ' γ known names =
      let r = acts_from p n in
      subst (λ a. TermsAct p r (closed_type t δ) a γ' δ e γ δ) (worked_out e)
      (subst (λ a. TermsAct p r (closed_type t δ) (filled made evaluated e (variables_by (λ x. x)) ty_var) γ' δ a γ δ) (plain e)
      (variables_act p [] sound made made evaluated (λ t. t) evaluated_keeps itself_keeps Any (λ c δ' δ h. tt) (none_made p made made) d tt r (from_turns p n) (λ x. x) (λ x. x) ty_var ty_var δ δ δ γ' γ tt (no_kinds δ δ) (no_kinds δ δ) tt names (globals_from p sound typed n)))

  to_evaluated : {e : TermTree} {t : TypeTree} → HasType (setting_of p) [] [] e t → ActsAs p t e (evaluated_in e)
  to_evaluated {e} {t} d n δ γ' γ known names =
      let r = acts_from p n in
      subst (λ a. TermsAct p r (closed_type t δ) a γ' δ (evaluated_in e) γ δ) (plain e)
      (subst (λ a. TermsAct p r (closed_type t δ) (filled made (λ t. t) e (variables_by (λ x. x)) ty_var) γ' δ a γ δ) (worked_out e)
      (variables_act p [] sound made made (λ t. t) evaluated itself_keeps evaluated_keeps Any (λ c δ' δ h. tt) (none_made p made made) d tt r (from_turns p n) (λ x. x) (λ x. x) ty_var ty_var δ δ δ γ' γ tt (no_kinds δ δ) (no_kinds δ δ) tt names (globals_from p sound typed n)))

  -- a closed term with its closed naturals evaluated is typed, and both act as each other
  pub record Evaluation (e : TermTree) (t : TypeTree) : Type 0 where
    pub has : HasTypeUpTo (setting_of p) [] [] (evaluated_in e) t
    pub from : ActsAs p t (evaluated_in e) e
    pub to : ActsAs p t e (evaluated_in e)

  pub evaluation : (e : TermTree) (t : TypeTree) → IsTermType (setting_of p) [] t → HasTypeUpTo (setting_of p) [] [] e t → Evaluation e t
  evaluation e t kind h =
      let own = type_kinded h.has sound tt in
      let new = type_evaluated h.has sound tt [] tt tt in
      record {
        has = record { type = new.type; has = new.has; same = same_through h.same new.same };
        from = acts_at p sound own kind (same_turned h.same) (evaluated_in e) e (from_evaluated h.has);
        to = acts_at p sound own kind (same_turned h.same) e (evaluated_in e) (to_evaluated h.has);
      }

  -- a closed term of the same evaluated form as another has the other's type
  pub evaluated_same : (q c : TermTree) (v u : TypeTree) → HasTypeUpTo (setting_of p) [] [] q v → HasTypeUpTo (setting_of p) [] [] c u → evaluated_in q ≡ evaluated_in c → HasTypeUpTo (setting_of p) [] [] q u
  evaluated_same q c v u hq hc same =
      let first = type_evaluated hq.has sound tt [] tt tt in
      let second = type_evaluated hc.has sound tt [] tt tt in
      let moved = subst (λ e. HasType (setting_of p) [] [] e first.type) same first.has in
      let one = one_type second.has moved sound tt tt tt in
      record { type = hq.type; has = hq.has; same = same_through hc.same (same_through second.same (same_through one (same_turned first.same))) }
