-- BETA, on types and on terms.
use Rattle.std.proofs.Common.{◌≡◌, ℕ, suc, List, sym, subst}
use Rattle.chw_types.specs.declared.kind.Kind.{Kind}
use Rattle.chw_types.specs.TypeTree.{TypeTree, TypeTrees}
use Rattle.chw_types.proofs.SameLaws.{same_turned}
use Rattle.chw_terms.specs.declared.program.Program.{Program}
use Rattle.chw_terms.specs.Evaluated.{evaluated, put_type_in}
use Rattle.chw_terms.specs.TermMoves.{shift}
use Rattle.chw_terms.specs.TermTree.{TermTree, lam, app, ty_lam, ty_app, letrec, no_bindings, bind}
use Rattle.chw_terms.proofs.Renamed.{rename_ids}
use Rattle.chw_typing.specs.Scopes.{AreTermTypes}
use Rattle.chw_typing.specs.Programs.{AreClosed, IsSound, IsTyped, setting_of}
use Rattle.chw_typing.specs.Typing.{HasType, h_lam, h_app, h_ty_lam, h_ty_app}
use Rattle.chw_typing.proofs.Kinded.{function_parts, function_takes, typed_under, type_kinded}
use Rattle.chw_meaning.specs.Values.{closed, member, Thunks, thunk_and, closed_type, in_group}
use Rattle.chw_meaning.specs.Eval.{Evals, e_lam, e_app, e_ty_lam, e_ty_app, e_letrec, f_closed, f_member, a_closure, t_closure}
use Rattle.acts.specs.Levels.{Levels, term_runs, term_has, thunk_has, ThunksAct}
use Rattle.acts.specs.Acts.{acts_from}
use Rattle.rewriting.specs.Origins.{with_origins}
use Rattle.acts.specs.Terms.{ActsUnder, OriginsTyped, with_argument, setting_with}
use Rattle.acts.proofs.Closing.{closed_same, opens_as, put_closes}
use Rattle.acts.proofs.Forms.{TermsAct}
use Rattle.acts.proofs.Globals.{put_type_acts, sound_with}
use Rattle.acts.proofs.Levels.{IsLevels, from_turns, cost, more, runs_more}
use Rattle.acts.proofs.SameActs.{same_acts}
use Rattle.act_rules.proofs.RuleMoves.{tied_more, tied_spare, tied_type, past_one, moved_acts, same_term_acts}

module _ (p : Program) (sound : IsSound (setting_of p)) (typed : IsTyped p) (types : List TypeTree) (o : ℕ → TermTree) (are_closed : AreClosed (setting_of p) types) (have : OriginsTyped p types o) where
  full : IsSound (setting_with p types)
  full = sound_with p types sound are_closed

  -- the binding of an argument, and the argument
  bound_acts : (r : Levels) → IsLevels p r → (u : TypeTree) (a : TermTree) (γ' γ : Thunks) (δ : TypeTrees) → TermsAct p r (closed_type u δ) (with_origins o (shift a 0 1)) (thunk_and (member (bind u (with_origins o (shift a 0 1)) no_bindings) 0 γ' δ) γ') δ (with_origins o a) γ δ → ThunksAct p r (closed_type u δ) (member (bind u (with_origins o (shift a 0 1)) no_bindings) 0 γ' δ) (closed (with_origins o a) γ δ)
  bound_acts r l u a γ' γ δ acts h' h m v al (f_member {n = j} {e = e} found d) =
      let g = bind u (with_origins o (shift a 0 1)) no_bindings in
      let same : e ≡ with_origins o (shift a 0 1) = cc in
      let at = acts h' h j v al (subst (λ e. Evals p j e (in_group g γ' δ) δ h' v) same d) in
      cost l j (closed_type u δ) v (thunk_has p (closed (with_origins o a) γ δ) h) (more l j (closed_type u δ) v (term_has p (with_origins o a) γ δ h) (thunk_has p (closed (with_origins o a) γ δ) h) (λ w q. (q.0, f_closed q.1)) at)

  pub beta : {kinds : List Kind} {vars : List TypeTree} {u t : TypeTree} {e a : TermTree} → AreTermTypes (setting_with p types) kinds vars → HasType (setting_with p types) kinds vars (app (lam u e) a) t → ActsUnder p kinds vars (with_origins o (letrec (bind u (shift a 0 1) no_bindings) e)) (with_origins o (app (lam u e) a)) t
  unfolding with_origins
  beta {kinds} {vars} {u} {t} {e} {a} g (h_app {c = c} (h_lam {k = k} de fk) da x) n δ γ' γ known names h' h m v al (e_letrec {n = j} d) =
      let l = from_turns p n in
      let r = acts_from p n in
      let x' = member (bind u (with_origins o (shift a 0 1)) no_bindings) 0 γ' δ in
      let inner = moved_acts p sound typed types o are_closed have suc g da r l δ (thunk_and x' γ') γ known (tied_spare vars (λ x. x) δ x' γ' γ names) in
      let shifted = subst (λ b. TermsAct p r (closed_type c δ) (with_origins o b) (thunk_and x' γ') δ (with_origins o a) γ δ) (sym (past_one a)) inner in
      let same = closed_same p sound δ known (type_kinded da full g).has (function_parts fk).1 (same_turned x) in
      let bound = bound_acts r l u a γ' γ δ (same_acts sound l same (term_runs p (with_origins o (shift a 0 1)) (thunk_and x' γ') δ) (term_has p (with_origins o a) γ δ) shifted) in
      let body = same_term_acts p sound typed types o are_closed have (function_takes (setting_with p types) kinds u t k fk, g) de r l δ (thunk_and x' γ') (thunk_and (closed (with_origins o a) γ δ) γ) known (tied_more u vars δ x' (closed (with_origins o a) γ δ) γ' γ bound names) in
      cost l j (closed_type t δ) v _ (more l j (closed_type t δ) v (term_has p (with_origins o e) (thunk_and (closed (with_origins o a) γ δ) γ) δ h) (term_has p (with_origins o (app (lam u e) a)) γ δ h) (λ w q. (_, e_app e_lam (a_closure q.1))) (body h' h j v al d))

  pub type_beta : {kinds : List Kind} {vars : List TypeTree} {k : Kind} {a t : TypeTree} {e : TermTree} → AreTermTypes (setting_with p types) kinds vars → HasType (setting_with p types) kinds vars (ty_app (ty_lam k e) a) t → ActsUnder p kinds vars (with_origins o (put_type_in e a)) (with_origins o (ty_app (ty_lam k e) a)) t
  unfolding with_origins
  type_beta {kinds} {vars} {k} {a} {t} {e} g (h_ty_app {t = b} (h_ty_lam de) ka x kt) n δ γ' γ known names =
      let l = from_turns p n in
      let r = acts_from p n in
      let ε = with_argument a δ in
      let c = evaluated (closed_type a δ) in
      let inner = put_type_acts p sound typed types o {e = e} {j = k} (λ x. x) (λ x. x) are_closed (typed_under (setting_with p types) kinds k vars g) de ka have n δ γ' γ known (tied_type c vars (λ x. x) (λ x. x) δ γ' γ names) in
      let unmoved = subst (λ b2. TermsAct p r (closed_type b ε) (with_origins o (put_type_in b2 a)) γ' δ (with_origins o b2) γ ε) (rename_ids e) inner in
      let opened = subst (λ u. TermsAct p r u (with_origins o (put_type_in e a)) γ' δ (with_origins o e) γ ε) (sym (opens_as b c δ)) unmoved in
      let same = put_closes p sound δ known (type_kinded (h_ty_lam de) full g).has ka kt x in
      let at = same_acts sound l same (term_runs p (with_origins o (put_type_in e a)) γ' δ) (term_has p (with_origins o e) γ ε) opened in
      runs_more l (closed_type t δ) (term_runs p (with_origins o (put_type_in e a)) γ' δ) (term_has p (with_origins o e) γ ε) (term_has p (with_origins o (ty_app (ty_lam k e) a)) γ δ) (λ h w q. (_, e_ty_app e_ty_lam (t_closure q.1))) at
