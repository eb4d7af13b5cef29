-- A letrec on an argument.
use Rattle.std.proofs.Common.{◌≡◌, ◌+◌, ℕ, suc, zero, List, refl, sym, ap, ◌∙◌, arith}
use Rattle.chw_types.specs.declared.kind.Kind.{Kind}
use Rattle.chw_types.specs.TypeTree.{TypeTree, TypeTrees}
use Rattle.chw_types.specs.TypeMoves.{raised, up as up_type, sub as sub_type}
use Rattle.chw_types.proofs.SameLaws.{same_turned}
use Rattle.chw_terms.specs.declared.program.Program.{Program}
use Rattle.chw_terms.specs.Evaluated.{evaluated}
use Rattle.chw_terms.specs.TermMoves.{shift}
use Rattle.chw_terms.specs.TermTree.{TermTree, app, ty_app, letrec, Group, no_bindings, bind, size_of}
use Rattle.chw_terms.proofs.TypesEvaluated.{evaluated_twice}
use Rattle.chw_typing.specs.Scopes.{AreTermTypes, with_more, declared}
use Rattle.chw_typing.specs.Programs.{AreClosed, IsSound, IsTyped, setting_of}
use Rattle.chw_typing.specs.Typing.{HasType, h_app, h_ty_app, h_letrec, AreBound}
use Rattle.chw_typing.proofs.EvaluatedTypes.{kind_evaluated}
use Rattle.chw_typing.proofs.Kinded.{function_parts, typed_more, bound_typed, type_kinded}
use Rattle.chw_meaning.specs.Values.{member, Thunks, thunk_and, thunk_at, type_at, closed_type, members, in_group}
use Rattle.chw_meaning.specs.Eval.{e_letrec}
use Rattle.acts.specs.Levels.{Levels, term_runs, term_has}
use Rattle.acts.specs.Acts.{acts_from}
use Rattle.rewriting.specs.Origins.{with_origins, with_origins_group}
use Rattle.acts.specs.Terms.{TiedBy, Kinded, ActsUnder, OriginsTyped, setting_with}
use Rattle.acts.proofs.Closing.{closed_kind, closed_same, put_closes}
use Rattle.acts.proofs.Forms.{TermsAct, app_acts, ty_app_acts}
use Rattle.acts.proofs.Globals.{group_tied, sound_with}
use Rattle.acts.proofs.Levels.{from_turns, cost, runs_more}
use Rattle.acts.proofs.SameActs.{same_acts}
use Rattle.act_rules.proofs.RuleMoves.{moved_acts, same_term_acts}

pub size_with_origins : (o : ℕ → TermTree) (g : Group) → size_of (with_origins_group o g) ≡ size_of g
unfolding with_origins
size_with_origins o no_bindings = refl
size_with_origins o (bind t e g) = ap suc (size_with_origins o g)

-- a variable past the members of a group
past_members : (all g : Group) (i : ℕ) (γ : Thunks) (δ : TypeTrees) (before : Thunks) (x : ℕ) → thunk_at (members all g i γ δ before) (x + size_of g) ≡ thunk_at before x
past_members all no_bindings i γ δ before x = ap (thunk_at before) (let e : x + 0 ≡ x = omega arith in e)
past_members all (bind t e g) i γ δ before x =
    ap (thunk_at (members all g (suc i) γ δ (thunk_and (member all i γ δ) before))) (let e : x + suc (size_of g) ≡ suc x + size_of g = omega arith in e)
    ∙ past_members all g (suc i) γ δ (thunk_and (member all i γ δ) before) (suc x)

-- variables outside of a group on the first side
pub tied_past : {p : Program} {r : Levels} (vars : List TypeTree) (g : Group) (n : ℕ) (δ ε : TypeTrees) (γ' γ : Thunks) → size_of g ≡ n → TiedBy p r vars (λ x. x) (λ x. x) δ γ' γ → TiedBy p r vars (raised 0 n) (λ x. x) δ (in_group g γ' ε) γ
tied_past vars g n δ ε γ' γ size h x t e =
    let k = h x t e in
    record { first = k.first; second = k.second; has_first = ap (λ n. thunk_at (in_group g γ' ε) (x + n)) (sym size) ∙ past_members g g zero γ' ε γ' x ∙ k.has_first; has_second = k.has_second; acts = k.acts }

module _ (p : Program) (sound : IsSound (setting_of p)) (typed : IsTyped p) (types : List TypeTree) (o : ℕ → TermTree) (are_closed : AreClosed (setting_of p) types) (have : OriginsTyped p types o) where
  -- the body of a letrec inside its group, and the letrec
  pub body_acts : {kinds : List Kind} (vars : List TypeTree) {k : Kind} {t : TypeTree} {g : Group} {e : TermTree} → AreTermTypes (setting_with p types) kinds vars → HasType (setting_with p types) kinds (with_more (declared g) vars) e t → AreBound (setting_with p types) kinds (with_more (declared g) vars) k g → (n : ℕ) (δ : TypeTrees) (γ' γ : Thunks) → Kinded p kinds δ → TiedBy p (acts_from p n) vars (λ x. x) (λ x. x) δ γ' γ → TermsAct p (acts_from p n) (closed_type t δ) (with_origins o e) (in_group (with_origins_group o g) γ' δ) δ (with_origins o (letrec g e)) γ δ
  unfolding with_origins
  body_acts {kinds} vars {t = t} {g = g} {e = e} vs d bs n δ γ' γ known names =
      let G = with_origins_group o g in
      let tied = group_tied p sound typed types o are_closed have vars vs bs n δ γ' γ known names in
      let acts = same_term_acts p sound typed types o are_closed have (typed_more (setting_with p types) kinds (declared g) vars (bound_typed bs) vs) d (acts_from p n) (from_turns p n) δ (in_group G γ' δ) (in_group G γ δ) known tied in
      runs_more (from_turns p n) (closed_type t δ) (term_runs p (with_origins o e) (in_group G γ' δ) δ) (term_has p (with_origins o e) (in_group G γ δ) δ) (term_has p (with_origins o (letrec g e)) γ δ) (λ h v q. (suc q.0, e_letrec q.1)) acts

  -- a letrec whose body acts so inside its group
  pub in_let_acts : (t : TypeTree) (g : Group) (e' e : TermTree) (n : ℕ) (δ : TypeTrees) (γ' γ : Thunks) → TermsAct p (acts_from p n) (closed_type t δ) (with_origins o e') (in_group (with_origins_group o g) γ' δ) δ (with_origins o e) γ δ → TermsAct p (acts_from p n) (closed_type t δ) (with_origins o (letrec g e')) γ' δ (with_origins o e) γ δ
  unfolding with_origins
  in_let_acts t g e' e n δ γ' γ acts h' h m v al (e_letrec {n = j} d) = cost (from_turns p n) j (closed_type t δ) v (term_has p (with_origins o e) γ δ h) (acts h' h j v al d)

  pub app_let : {kinds : List Kind} {vars : List TypeTree} {t : TypeTree} {g : Group} {e a : TermTree} → AreTermTypes (setting_with p types) kinds vars → HasType (setting_with p types) kinds vars (app (letrec g e) a) t → ActsUnder p kinds vars (with_origins o (letrec g (app e (shift a 0 (size_of g))))) (with_origins o (app (letrec g e) a)) t
  unfolding with_origins sub_type
  app_let {kinds} {vars} {t} {g} {e} {a} vs (h_app {a = u} {c = c} (h_letrec de kt bs) da x) n δ γ' γ known names =
      let l = from_turns p n in
      let full = sound_with p types sound are_closed in
      let Γ = in_group (with_origins_group o g) γ' δ in
      let function = body_acts vars vs de bs n δ γ' γ known names in
      let moved = moved_acts p sound typed types o are_closed have (raised 0 (size_of g)) vs da (acts_from p n) l δ Γ γ known (tied_past vars (with_origins_group o g) (size_of g) δ δ γ' γ (size_with_origins o g) names) in
      let same = closed_same p sound δ known (type_kinded da full vs).has (function_parts kt).1 (same_turned x) in
      let arg = same_acts sound l same (term_runs p (with_origins o (shift a 0 (size_of g))) Γ δ) (term_has p (with_origins o a) γ δ) moved in
      in_let_acts t g (app e (shift a 0 (size_of g))) (app (letrec g e) a) n δ γ' γ
      (app_acts l (closed_type u δ) (closed_type t δ) (with_origins o e) (with_origins o (letrec g e)) (with_origins o (shift a 0 (size_of g))) (with_origins o a) Γ γ δ δ function arg)

  pub app_let_type : {kinds : List Kind} {vars : List TypeTree} {t a : TypeTree} {g : Group} {e : TermTree} → AreTermTypes (setting_with p types) kinds vars → HasType (setting_with p types) kinds vars (ty_app (letrec g e) a) t → ActsUnder p kinds vars (with_origins o (letrec g (ty_app e a))) (with_origins o (ty_app (letrec g e) a)) t
  unfolding with_origins sub_type
  app_let_type {kinds} {vars} {t} {a} {g} {e} vs (h_ty_app {j = j} {t = b} (h_letrec de kt bs) ka x ku) n δ γ' γ known names =
      let l = from_turns p n in
      let Γ = in_group (with_origins_group o g) γ' δ in
      let c = evaluated (closed_type a δ) in
      let family = body_acts vars vs de bs n δ γ' γ known names in
      let at = ty_app_acts l j (sub_type b (up_type (type_at δ))) c a a (with_origins o e) (with_origins o (letrec g e)) Γ γ δ δ refl refl (kind_evaluated (closed_kind p δ known ka)) (evaluated_twice (closed_type a δ)) family in
      in_let_acts t g (ty_app e a) (ty_app (letrec g e) a) n δ γ' γ
      (same_acts sound l (put_closes p sound δ known kt ka ku x) (term_runs p (with_origins o (ty_app e a)) Γ δ) (term_has p (with_origins o (ty_app (letrec g e) a)) γ δ) at)
