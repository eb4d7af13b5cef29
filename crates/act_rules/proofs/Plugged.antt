-- A term with a part that acts as the one in its place acts as the term.
use Rattle.std.specs.Prelude.{option_map}
use Rattle.std.proofs.Common.{ℕ, suc, List, ◌∷◌, refl, sym, ap, subst}
use Rattle.chw_types.specs.declared.kind.Kind.{Kind}
use Rattle.chw_types.specs.TypeTree.{TypeTree, type_and}
use Rattle.chw_types.specs.TypeMoves.{up as up_type, sub}
use Rattle.chw_types.proofs.SameLaws.{same_turned}
use Rattle.chw_terms.specs.declared.program.Program.{Program}
use Rattle.chw_terms.specs.Evaluated.{evaluated}
use Rattle.chw_terms.specs.TermTree.{TermTree, lam, app, ty_lam, ty_app, letrec, vec_lit, case_of}
use Rattle.chw_terms.proofs.TypesEvaluated.{evaluated_twice}
use Rattle.chw_typing.specs.Scopes.{AreTermTypes, AreSame, under_binder, with_more, declared}
use Rattle.chw_typing.specs.Programs.{AreClosed, IsSound, IsTyped, setting_of}
use Rattle.chw_typing.specs.Typing.{HasType, h_lam, h_app, h_ty_lam, h_ty_app, h_letrec}
use Rattle.chw_typing.proofs.EvaluatedTypes.{kind_evaluated}
use Rattle.chw_typing.proofs.Kinded.{function_parts, function_takes, typed_under, typed_more, bound_typed, type_kinded}
use Rattle.chw_typing.proofs.OneType.{one_type}
use Rattle.chw_typing.proofs.Patterns.{one_binding}
use Rattle.chw_typing.proofs.SameScopes.{are_same_self, are_same_turned, same_more}
use Rattle.chw_meaning.specs.Values.{thunk_and, type_at, closed_type}
use Rattle.acts.specs.Levels.{later, term_runs, term_has}
use Rattle.acts.specs.Acts.{acts_from}
use Rattle.rewriting.specs.Origins.{with_origins}
use Rattle.acts.specs.Terms.{ActsUnder, OriginsTyped, setting_with}
use Rattle.acts.proofs.Closing.{closed_kind, closed_same, opens_as, put_closes}
use Rattle.acts.proofs.Forms.{TermsAct, app_acts, lam_acts, ty_lam_acts, ty_app_acts}
use Rattle.acts.proofs.Globals.{sound_with}
use Rattle.acts.proofs.Levels.{from_turns, at_later}
use Rattle.acts.proofs.SameActs.{same_acts}
use Rattle.acts.proofs.Tied.{tied_later}
use Rattle.act_rules.proofs.RuleMoves.{tied_more, tied_type}
use Rattle.chw_typing.specs.Paths.{with_part, with_body, with_element}
use Rattle.chw_typing.proofs.PathParts.{with_part_below}
use Rattle.chw_typing.specs.Around.{Around, here, in_lam, in_ty_lam, in_function, in_argument, in_ty_app, in_letrec, in_vector, in_scrutinee, in_branch}
use Rattle.chw_typing.proofs.Plugged.{same_variables}
use Rattle.act_rules.specs.ContextLaws.{ActsAtTypes}
use Rattle.act_rules.proofs.Parts.{itself_acts, one_side, one_body, one_element, alts_itself, one_alt}
use Rattle.act_rules.proofs.Variables.{same_variables_act}
use Rattle.act_rules.proofs.Wholes.{acts_at, acts_at_same, let_both, vector_both, case_both}

module _ (p : Program) (sound : IsSound (setting_of p)) (typed : IsTyped p) (types : List TypeTree) (o : ℕ → TermTree) (are_closed : AreClosed (setting_of p) types) (have : OriginsTyped p types o) where
  whole : IsSound (setting_with p types)
  whole = sound_with p types sound are_closed

  itself : {kinds : List Kind} {vars : List TypeTree} (e : TermTree) → AreTermTypes (setting_with p types) kinds vars → ActsAtTypes p types o kinds vars e e
  itself = itself_acts p sound typed types o are_closed have

  -- in a scope of types that are the same
  acts_in_same : {kinds : List Kind} (vars vars' : List TypeTree) (y x : TermTree) → AreTermTypes (setting_with p types) kinds vars → AreTermTypes (setting_with p types) kinds vars' → AreSame vars vars' → ActsAtTypes p types o kinds vars y x → ActsAtTypes p types o kinds vars' y x
  acts_in_same {kinds} vars vars' y x g g' same f u d n δ γ' γ known names =
      let there = same_variables (setting_with p types) kinds vars' vars x u whole g' g (are_same_turned vars vars' same) d in
      let acts = f there.type there.has n δ γ' γ known (same_variables_act p types sound kinds δ known vars vars' same g g' (from_turns p n) γ' γ names) in
      same_acts sound (from_turns p n) (closed_same p sound δ known (type_kinded there.has whole g).has (type_kinded d whole g').has (same_turned there.same)) (term_runs p (with_origins o y) γ' δ) (term_has p (with_origins o x) γ δ) acts

  -- a function on an argument
  app_both : {kinds : List Kind} {vars : List TypeTree} {t : TypeTree} (f' f e' e : TermTree) → AreTermTypes (setting_with p types) kinds vars → HasType (setting_with p types) kinds vars (app f e) t → ActsAtTypes p types o kinds vars f' f → ActsAtTypes p types o kinds vars e' e → ActsUnder p kinds vars (with_origins o (app f' e')) (with_origins o (app f e)) t
  unfolding with_origins sub
  app_both {t = t} f' f e' e g (h_app {a = a} d c x) fs es n δ γ' γ known names =
      let l = from_turns p n in
      app_acts l (closed_type a δ) (closed_type t δ) (with_origins o f') (with_origins o f) (with_origins o e') (with_origins o e) γ' γ δ δ
      (acts_at p sound types o are_closed f' f fs d (acts_from p n) l δ γ' γ known names)
      (acts_at_same p sound types o are_closed e' e es g c (function_parts (type_kinded d whole g).has).1 x (acts_from p n) l δ γ' γ known names)

  -- a function on a type
  ty_app_both : {kinds : List Kind} {vars : List TypeTree} {a t : TypeTree} (f' f : TermTree) → AreTermTypes (setting_with p types) kinds vars → HasType (setting_with p types) kinds vars (ty_app f a) t → ActsAtTypes p types o kinds vars f' f → ActsUnder p kinds vars (with_origins o (ty_app f' a)) (with_origins o (ty_app f a)) t
  unfolding with_origins sub
  ty_app_both {kinds} {vars} {a} {t} f' f g (h_ty_app {j = j} {t = b} d ka x kt) fs n δ γ' γ known names =
      let l = from_turns p n in
      let c = evaluated (closed_type a δ) in
      let at = ty_app_acts l j (sub b (up_type (type_at δ))) c a a (with_origins o f') (with_origins o f) γ' γ δ δ refl refl (kind_evaluated (closed_kind p δ known ka)) (evaluated_twice (closed_type a δ)) (acts_at p sound types o are_closed f' f fs d (acts_from p n) l δ γ' γ known names) in
      same_acts sound l (put_closes p sound δ known (type_kinded d whole g).has ka kt x) (term_runs p (with_origins o (ty_app f' a)) γ' δ) (term_has p (with_origins o (ty_app f a)) γ δ) at

  -- a lambda
  lam_both : {kinds : List Kind} {vars : List TypeTree} {a t : TypeTree} (e' e : TermTree) → HasType (setting_with p types) kinds vars (lam a e) t → ActsAtTypes p types o kinds (a ∷ vars) e' e → ActsUnder p kinds vars (with_origins o (lam a e')) (with_origins o (lam a e)) t
  unfolding with_origins sub
  lam_both {kinds} {vars} {a} e' e (h_lam {b = b} d fk) es n δ γ' γ known names =
      let l = from_turns p n in
      lam_acts l a a (closed_type a δ) (closed_type b δ) (with_origins o e') (with_origins o e) γ' γ δ δ
      (λ i x' x xs. acts_at p sound types o are_closed e' e es d (later i (acts_from p n)) (at_later i l) δ (thunk_and x' γ') (thunk_and x γ) known
      (tied_more a vars δ x' x γ' γ xs (tied_later l i vars (λ x. x) (λ x. x) δ γ' γ names)))

  -- a type lambda
  ty_lam_both : {kinds : List Kind} {vars : List TypeTree} {j : Kind} {t : TypeTree} (e' e : TermTree) → HasType (setting_with p types) kinds vars (ty_lam j e) t → ActsAtTypes p types o (j ∷ kinds) (under_binder vars) e' e → ActsUnder p kinds vars (with_origins o (ty_lam j e')) (with_origins o (ty_lam j e)) t
  unfolding with_origins sub
  ty_lam_both {kinds} {vars} {j} e' e (h_ty_lam {t = t} d) es n δ γ' γ known names =
      let l = from_turns p n in
      ty_lam_acts l j j j (sub t (up_type (type_at δ))) (with_origins o e') (with_origins o e) γ' γ δ δ
      (λ i c kd ev. subst (λ t. TermsAct p (later i (acts_from p n)) t (with_origins o e') γ' (type_and c δ) (with_origins o e) γ (type_and c δ)) (sym (opens_as t c δ))
      (acts_at p sound types o are_closed e' e es d (later i (acts_from p n)) (at_later i l) (type_and c δ) γ' γ (kd, ev, known)
      (tied_type c vars (λ x. x) (λ x. x) δ γ' γ (tied_later l i vars (λ x. x) (λ x. x) δ γ' γ names))))

  -- the part at a place, and the term
  pub plugged_acts : {kinds ks : List Kind} {vars vs : List TypeTree} {e x : TermTree} {path : List ℕ} → Around (setting_with p types) kinds vars e path ks vs x → (y : TermTree) → ActsAtTypes p types o ks vs y x → AreTermTypes (setting_with p types) kinds vars → ActsAtTypes p types o kinds vars (with_part e path y) e
  plugged_acts here y f g t d = f t d
  plugged_acts {kinds} (in_lam {a = a} {e = e} {p = q} r) y f g t (h_lam {b = b} {k = k} d fk) =
      lam_both (with_part e q y) e (h_lam d fk) (plugged_acts r y f (function_takes (setting_with p types) kinds a b k fk, g))
  plugged_acts {kinds} {vars = vars} (in_ty_lam {j = j} {e = e} {p = q} r) y f g t d =
      ty_lam_both (with_part e q y) e d (plugged_acts r y f (typed_under (setting_with p types) kinds j vars g))
  plugged_acts (in_function {f = e} {a = a} {p = q} r) y f g t d = app_both (with_part e q y) e a a g d (plugged_acts r y f g) (itself a g)
  plugged_acts (in_argument {f = e} {a = a} {p = q} r) y f g t d = app_both e e (with_part a q y) a g d (itself e g) (plugged_acts r y f g)
  plugged_acts (in_ty_app {f = e} {p = q} r) y f g t d = ty_app_both (with_part e q y) e g d (plugged_acts r y f g)
  plugged_acts {kinds} {vars = vars} (in_letrec {g = b} {e = e} {b = part} {i = i} {p = q} at r) y f g t (h_letrec d kt bs) =
      let inner = typed_more (setting_with p types) kinds (declared b) vars (bound_typed bs) g in
      let z = with_part part q y in
      let acts = plugged_acts r y f inner in
      subst (λ e'. ActsUnder p kinds vars (with_origins o e') (with_origins o (letrec b e)) t) (sym (with_part_below (letrec b e) part y i q at))
      (let_both p sound types o are_closed vars (with_body b e i z) e g d bs (one_side p sound typed types o are_closed have b e part z i inner at acts) (one_body p sound typed types o are_closed have b e part z i inner at acts))
  plugged_acts {kinds} {vars = vars} (in_vector {t = u} {es = es} {e = part} {i = i} {p = q} at r) y f g t d =
      let z = with_part part q y in
      subst (λ e'. ActsUnder p kinds vars (with_origins o e') (with_origins o (vec_lit u es)) t) (sym (with_part_below (vec_lit u es) part y i q at))
      (vector_both p sound types o are_closed u (with_element es i z) es g d (one_element p sound typed types o are_closed have es part z i g at (plugged_acts r y f g)))
  plugged_acts (in_scrutinee {e = e} {alts = alts} {p = q} r) y f g t d =
      case_both p sound types o are_closed (with_part e q y) e g d (plugged_acts r y f g) (λ u c. alts_itself p sound typed types o are_closed have u alts g)
  plugged_acts {kinds} {vars = vars} (in_branch {bound = bound} {u = u} {e = e} {alts = alts} {a = a} {i = i} {p = q} at c b r) y f g t d =
      let z = with_part a.body q y in
      let inner = typed_more (setting_with p types) kinds bound vars b.typed g in
      let acts = plugged_acts r y f inner in
      let of = type_kinded c whole g in
      subst (λ e'. ActsUnder p kinds vars (with_origins o e') (with_origins o (case_of e alts)) t) (sym (with_part_below (case_of e alts) a.body y (suc i) q (ap (option_map (λ a. a.body)) at)))
      (case_both p sound types o are_closed e e g d (itself e g)
      (λ v dv. one_alt p sound typed types o are_closed have v alts a z i g at
      (λ bnd bs. acts_in_same (with_more bound vars) (with_more bnd vars) z a.body inner (typed_more (setting_with p types) kinds bnd vars bs.typed g)
      (same_more bound bnd vars vars (one_binding b bs whole of.kind of.has (one_type c dv whole g g (are_same_self vars))) (are_same_self vars)) acts)))
