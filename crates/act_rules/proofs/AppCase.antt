-- A case on an argument or on a type.
use Rattle.std.proofs.Common.{◌≡◌, ◌+◌, ℕ, List, Some, refl, sym, ap, ◌∙◌, subst, arith}
use Rattle.chw_types.specs.declared.kind.Kind.{Kind}
use Rattle.chw_types.specs.TypeTree.{TypeTree}
use Rattle.chw_types.specs.TypeMoves.{raised, up as up_type, sub as sub_type}
use Rattle.chw_types.proofs.SameLaws.{same_turned}
use Rattle.chw_terms.specs.declared.program.Program.{Program}
use Rattle.chw_terms.specs.Evaluated.{evaluated}
use Rattle.chw_terms.specs.TermMoves.{shift, rename_alts}
use Rattle.chw_terms.specs.TermTree.{TermTree, var, app, ty_app, letrec, no_bindings, bind, case_of, Alts}
use Rattle.chw_terms.proofs.Renamed.{rename_ids_alts}
use Rattle.chw_terms.proofs.TypesEvaluated.{evaluated_twice}
use Rattle.chw_typing.specs.Scopes.{AreTermTypes}
use Rattle.chw_typing.specs.Programs.{AreClosed, IsSound, IsTyped, setting_of}
use Rattle.chw_typing.specs.Typing.{HasType, h_app, h_ty_app}
use Rattle.chw_typing.proofs.EvaluatedTypes.{kind_evaluated}
use Rattle.chw_typing.proofs.Kinded.{function_parts, type_kinded}
use Rattle.chw_typing.specs.Groups.{each_body}
use Rattle.rewriting.specs.Shapes.{shift_alts}
use Rattle.chw_meaning.specs.Values.{member, Thunks, none, thunk_and, count_of, thunk_at, type_at, closed_type, joined}
use Rattle.acts.specs.Levels.{later, term_runs, term_has}
use Rattle.acts.specs.Acts.{acts_from}
use Rattle.acts.specs.Terms.{TiedBy, ActsUnder, OriginsTyped, setting_with}
use Rattle.rewriting.specs.Origins.{with_origins, with_origins_alts}
use Rattle.acts.proofs.Closing.{closed_kind, closed_same, put_closes}
use Rattle.acts.proofs.Forms.{TermsAct, app_acts, ty_app_acts}
use Rattle.acts.proofs.Globals.{sound_with}
use Rattle.acts.proofs.Levels.{from_turns, at_later, runs_later}
use Rattle.acts.proofs.SameActs.{same_acts}
use Rattle.act_rules.proofs.Lets.{in_let_acts}
use Rattle.act_rules.proofs.RuleMoves.{moved_acts, same_term_acts}
use Rattle.act_rules.proofs.Frames.{ScrutineeActs, framed_acts}
use Rattle.act_rules.proofs.CaseMoves.{origins_each, thunk_beyond, tied_beyond, var_runs, bound_runs}

module _ (p : Program) (sound : IsSound (setting_of p)) (typed : IsTyped p) (types : List TypeTree) (o : ℕ → TermTree) (are_closed : AreClosed (setting_of p) types) (have : OriginsTyped p types o) where
  full : IsSound (setting_with p types)
  full = sound_with p types sound are_closed

  pub app_case_type : {kinds : List Kind} {vars : List TypeTree} {t a : TypeTree} {e : TermTree} {alts : Alts} → AreTermTypes (setting_with p types) kinds vars → HasType (setting_with p types) kinds vars (ty_app (case_of e alts) a) t → ActsUnder p kinds vars (with_origins o (case_of e (each_body (λ n f. ty_app f a) alts))) (with_origins o (ty_app (case_of e alts) a)) t
  unfolding with_origins sub_type
  app_case_type {kinds} {vars} {t} {a} {e} {alts} g (h_ty_app {j = j} {t = b} dc ka x ku) n δ γ' γ known names =
      let l = from_turns p n in
      let r = acts_from p n in
      let F : ℕ → TermTree → TermTree = λ n f. ty_app f a in
      let scrutinee = with_origins o (case_of e alts) in
      let second = with_origins o (ty_app (case_of e alts) a) in
      let c = evaluated (closed_type a δ) in
      let kt = (type_kinded dc full g).has in
      let frame : (k q : ℕ) (f : TermTree) (xs : Thunks) → count_of xs ≡ q → ScrutineeActs p sound typed types o are_closed have kinds vars (case_of e alts) (later k r) δ f (joined xs γ') scrutinee γ → TermsAct p (later k r) (closed_type t δ) (F q f) (joined xs γ') δ second γ δ = λ k q f xs counts acts.
      let at = ty_app_acts (at_later k l) j (sub_type b (up_type (type_at δ))) c a a f scrutinee (joined xs γ') γ δ δ refl refl (kind_evaluated (closed_kind p δ known ka)) (evaluated_twice (closed_type a δ)) (acts _ dc) in
      same_acts sound (at_later k l) (put_closes p sound δ known kt ka ku x) (term_runs p (ty_app f a) (joined xs γ') δ) (term_has p second γ δ) at in
      let bodies : each_body F (with_origins_alts o (rename_alts alts (λ x. x))) ≡ with_origins_alts o (each_body F alts) =
      ap (λ bs. each_body F (with_origins_alts o bs)) (rename_ids_alts alts) ∙ sym (origins_each o F F (λ n f. refl) alts) in
      subst (λ bs. TermsAct p r (closed_type t δ) (case_of (with_origins o e) bs) γ' δ second γ δ) bodies
      (framed_acts p sound typed types o are_closed have g dc (λ x. x) n δ γ' γ known names (with_origins o e) (with_origins o e)
      (λ u du. same_term_acts p sound typed types o are_closed have g du r l δ γ' γ known names)
      F (closed_type t δ) (term_has p second γ δ) frame)

  pub app_case : {kinds : List Kind} {vars : List TypeTree} {t : TypeTree} (u : TypeTree) {e a : TermTree} {alts : Alts} → AreTermTypes (setting_with p types) kinds vars → HasType (setting_with p types) kinds vars (app (case_of e alts) a) t → ActsUnder p kinds vars (with_origins o (letrec (bind u (shift a 0 1) no_bindings) (case_of (shift e 0 1) (each_body (λ n f. app f (var n)) (shift_alts alts 0 1))))) (with_origins o (app (case_of e alts) a)) t
  unfolding with_origins sub_type
  app_case {kinds} {vars} {t} u {e} {a} {alts} g (h_app {a = w} {c = c} dc da x) n δ γ' γ known names =
      let l = from_turns p n in
      let r = acts_from p n in
      let F : ℕ → TermTree → TermTree = λ n f. app f (var n) in
      let b' = with_origins o (shift a 0 1) in
      let x' = member (bind u b' no_bindings) 0 γ' δ in
      let Γ = thunk_and x' γ' in
      let scrutinee = with_origins o (case_of e alts) in
      let second = with_origins o (app (case_of e alts) a) in
      let arg = with_origins o a in
      let outer : TiedBy p r vars (raised 0 1) (λ x. x) δ Γ γ = tied_beyond vars (thunk_and x' none) 1 δ γ' γ refl names in
      let moved = moved_acts p sound typed types o are_closed have (raised 0 1) g da r l δ Γ γ known outer in
      let same = closed_same p sound δ known (type_kinded da full g).has (function_parts (type_kinded dc full g).has).1 (same_turned x) in
      let side = same_acts sound l same (term_runs p b' Γ δ) (term_has p arg γ δ) moved in
      let bound = bound_runs l u (closed_type w δ) b' γ' δ (term_has p arg γ δ) side in
      let frame : (k q : ℕ) (f : TermTree) (xs : Thunks) → count_of xs ≡ q → ScrutineeActs p sound typed types o are_closed have kinds vars (case_of e alts) (later k r) δ f (joined xs Γ) scrutinee γ → TermsAct p (later k r) (closed_type t δ) (F q f) (joined xs Γ) δ second γ δ = λ k q f xs counts acts.
      let is : thunk_at (joined xs Γ) q ≡ Some x' = ap (thunk_at (joined xs Γ)) (let e : q ≡ 0 + count_of xs = sym counts ∙ omega arith in e) ∙ thunk_beyond xs Γ 0 in
      let named = var_runs (at_later k l) (closed_type w δ) q x' (joined xs Γ) δ (term_has p arg γ δ) is (runs_later l k (closed_type w δ) _ (term_has p arg γ δ) bound) in
      app_acts (at_later k l) (closed_type w δ) (closed_type t δ) f scrutinee (var q) arg (joined xs Γ) γ δ δ (acts _ dc) named in
      let bodies : each_body F (with_origins_alts o (rename_alts alts (raised 0 1))) ≡ with_origins_alts o (each_body F (shift_alts alts 0 1)) =
      sym (origins_each o F F (λ n f. refl) (rename_alts alts (raised 0 1))) in
      in_let_acts p sound typed types o are_closed have t (bind u (shift a 0 1) no_bindings) (case_of (shift e 0 1) (each_body F (shift_alts alts 0 1))) (app (case_of e alts) a) n δ γ' γ
      (subst (λ bs. TermsAct p r (closed_type t δ) (case_of (with_origins o (shift e 0 1)) bs) Γ δ second γ δ) bodies
      (framed_acts p sound typed types o are_closed have g dc (raised 0 1) n δ Γ γ known outer (with_origins o (shift e 0 1)) (with_origins o e)
      (λ v dv. moved_acts p sound typed types o are_closed have (raised 0 1) g dv r l δ Γ γ known outer)
      F (closed_type t δ) (term_has p second γ δ) frame))
