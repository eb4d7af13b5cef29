-- Letrecs, vectors and cases act so where their parts do.
use Rattle.std.specs.Prelude.{slice_get}
use Rattle.std.proofs.Common.{◌≡◌, ℕ, suc, zero, List, length, map, reverse, Some, refl, ap, subst}
use Rattle.chw_types.specs.declared.kind.Kind.{Kind}
use Rattle.chw_types.specs.TypeTree.{TypeTree, nat_lit, TypeTrees}
use Rattle.chw_types.specs.TypeMoves.{sub}
use Rattle.chw_types.specs.SameTypes.{SameTypes}
use Rattle.chw_types.proofs.SameLaws.{same_turned}
use Rattle.chw_terms.specs.declared.program.Program.{Program}
use Rattle.chw_terms.specs.declared.term.Pattern.{Pattern}
use Rattle.chw_terms.specs.TermTree.{TermTree, letrec, vec_lit, case_of, Terms, Group, Alts, no_alts, alt, size_of}
use Rattle.chw_typing.specs.Scopes.{HasKind, AreTermTypes, with_more, declared}
use Rattle.chw_typing.specs.HeadTypes.{IsLookedAt}
use Rattle.chw_typing.specs.Programs.{AreClosed, IsSound, setting_of}
use Rattle.chw_typing.specs.Typing.{count, Binds, HasType, h_vec, h_case, AreBound, none_bound, bound_and, AllHave, none_have, have_and, AllGive, none_give, give_and}
use Rattle.chw_typing.proofs.Kinded.{typed_more, bound_typed, type_kinded}
use Rattle.chw_meaning.specs.Values.{Value, closed, Thunks, closed_type, joined, in_group, fields_from}
use Rattle.chw_meaning.specs.Eval.{Arm, bound, arm_of}
use Rattle.acts.specs.Levels.{Levels, later, term_runs, term_has}
use Rattle.acts.specs.Acts.{acts_from}
use Rattle.rewriting.specs.Origins.{with_origins, with_origins_all, with_origins_group, with_origins_alts}
use Rattle.acts.specs.Terms.{Kinded, ActsUnder, setting_with}
use Rattle.acts.proofs.Arms.{Seen, seen, matches_same, pattern_acts}
use Rattle.acts.proofs.Cases.{ArmOf, alt_acts}
use Rattle.acts.proofs.Closing.{closed_same}
use Rattle.acts.proofs.Forms.{TermsAct, thunk_acts, MembersAct, members_act, letrec_acts, EachTermActs, vec_acts}
use Rattle.acts.proofs.Globals.{sound_with}
use Rattle.acts.proofs.Levels.{IsLevels, from_turns, at_levels, at_later}
use Rattle.acts.proofs.SameActs.{same_acts}
use Rattle.acts.proofs.Tied.{tied_later}
use Rattle.acts.proofs.Typed.{typed_without, looked_closed, case_acts, only_fields, SideOf, sides_of}
use Rattle.act_rules.specs.ContextLaws.{ActsAtTypes}
use Rattle.act_rules.proofs.Parts.{SidesAt, no_sides, sides_and, ElementsAt, no_elements, elements_and, AltsAt, no_alts_at, alts_and}
use Rattle.act_rules.proofs.Variables.{VariablesAct, joined_act, fields_tied, unbound_act, members_tied}

module _ (p : Program) (sound : IsSound (setting_of p)) (types : List TypeTree) (o : ℕ → TermTree) (are_closed : AreClosed (setting_of p) types) where
  full : IsSound (setting_with p types)
  full = sound_with p types sound are_closed

  -- a part after any number of turns
  pub acts_at : {kinds : List Kind} {vars : List TypeTree} (e' e : TermTree) → ActsAtTypes p types o kinds vars e' e → {t : TypeTree} → HasType (setting_with p types) kinds vars e t → (r : Levels) → IsLevels p r → (δ : TypeTrees) (γ' γ : Thunks) → Kinded p kinds δ → VariablesAct p r vars δ γ' γ → TermsAct p r (closed_type t δ) (with_origins o e') γ' δ (with_origins o e) γ δ
  acts_at {kinds} {vars} e' e f {t} d r l δ γ' γ known =
      at_levels l (λ q. VariablesAct p q vars δ γ' γ → TermsAct p q (closed_type t δ) (with_origins o e') γ' δ (with_origins o e) γ δ) (λ n names. f t d n δ γ' γ known names)

  -- at a type that is the same
  pub acts_at_same : {kinds : List Kind} {vars : List TypeTree} (e' e : TermTree) → ActsAtTypes p types o kinds vars e' e → AreTermTypes (setting_with p types) kinds vars → {t u : TypeTree} {k : Kind} → HasType (setting_with p types) kinds vars e u → HasKind (setting_of p) kinds t k → SameTypes t u → (r : Levels) → IsLevels p r → (δ : TypeTrees) (γ' γ : Thunks) → Kinded p kinds δ → VariablesAct p r vars δ γ' γ → TermsAct p r (closed_type t δ) (with_origins o e') γ' δ (with_origins o e) γ δ
  acts_at_same e' e f g d kt x r l δ γ' γ known names =
      same_acts sound l (closed_same p sound δ known (type_kinded d full g).has kt (same_turned x)) (term_runs p (with_origins o e') γ' δ) (term_has p (with_origins o e) γ δ) (acts_at e' e f d r l δ γ' γ known names)

  -- right sides, inside their groups
  sides_act : {kinds : List Kind} {vars : List TypeTree} {k : Kind} {g' g : Group} → AreBound (setting_with p types) kinds vars k g → SidesAt p types o kinds vars g' g → AreTermTypes (setting_with p types) kinds vars → (r : Levels) → IsLevels p r → (δ : TypeTrees) (γ' γ : Thunks) → Kinded p kinds δ → VariablesAct p r vars δ γ' γ → (i : ℕ) (u : TypeTree) → slice_get (map (λ t. closed_type t δ) (declared g)) i ≡ Some u → SideOf p r i u (with_origins_group o g') γ' δ (with_origins_group o g) γ δ
  unfolding with_origins
  sides_act none_bound no_sides g r l δ γ' γ known names i v q = cc
  sides_act (bound_and {t = t} kt fs d x bs) (sides_and {e' = e'} {e = e} f more) g r l δ γ' γ known names zero v q =
      let is : closed_type t δ ≡ v = cc in
      let acts = acts_at_same e' e f g d kt x r l δ γ' γ known names in
      record { first = with_origins o e'; second = with_origins o e; has_first = refl; has_second = refl; acts = subst (λ t. TermsAct p r t (with_origins o e') γ' δ (with_origins o e) γ δ) is acts }
  sides_act (bound_and kt fs d x bs) (sides_and f more) g r l δ γ' γ known names (suc i) v q =
      let one = sides_act bs more g r l δ γ' γ known names i v q in
      record { first = one.first; second = one.second; has_first = one.has_first; has_second = one.has_second; acts = one.acts }

  sizes : {kinds : List Kind} {vars : List TypeTree} {g' g : Group} → SidesAt p types o kinds vars g' g → (size_of (with_origins_group o g') ≡ length (declared g)) × (size_of (with_origins_group o g) ≡ length (declared g))
  unfolding with_origins
  sizes no_sides = (refl, refl)
  sizes (sides_and f more) = let q = sizes more in (ap suc q.0, ap suc q.1)

  -- a letrec
  pub let_both : {kinds : List Kind} (vars : List TypeTree) {g' g : Group} (e' e : TermTree) {t : TypeTree} {k : Kind} → AreTermTypes (setting_with p types) kinds vars → HasType (setting_with p types) kinds (with_more (declared g) vars) e t → AreBound (setting_with p types) kinds (with_more (declared g) vars) k g → SidesAt p types o kinds (with_more (declared g) vars) g' g → ActsAtTypes p types o kinds (with_more (declared g) vars) e' e → ActsUnder p kinds vars (with_origins o (letrec g' e')) (with_origins o (letrec g e)) t
  unfolding with_origins
  let_both {kinds} vars {g'} {g} e' e {t} vs d bs sides f n δ γ' γ known names =
      let l = from_turns p n in
      let r = acts_from p n in
      let G' = with_origins_group o g' in
      let G = with_origins_group o g in
      let size = sizes sides in
      let inner = typed_more (setting_with p types) kinds (declared g) vars (bound_typed bs) vs in
      let within : (i : ℕ) → MembersAct p (later i r) (map (λ t. closed_type t δ) (declared g)) G' γ' δ G γ δ → VariablesAct p (later i r) (with_more (declared g) vars) δ (in_group G' γ' δ) (in_group G γ δ) =
      λ i ms. members_tied p (later i r) δ G' G γ' γ (declared g) vars size.0 size.1 ms (tied_later l i vars (λ x. x) (λ x. x) δ γ' γ names) in
      let members = members_act l (map (λ t. closed_type t δ) (declared g)) G' G γ' γ δ δ (λ i ms j u q. sides_of (sides_act bs sides inner (later i r) (at_later i l) δ (in_group G' γ' δ) (in_group G γ δ) known (within i ms) j u q)) in
      letrec_acts l (closed_type t δ) G' G (with_origins o e') (with_origins o e) γ' γ δ δ (acts_at e' e f d r l δ (in_group G' γ' δ) (in_group G γ δ) known (within zero members))

  elements_act : {kinds : List Kind} {vars : List TypeTree} {t : TypeTree} {k : Kind} {es' es : Terms} → AllHave (setting_with p types) kinds vars t es → ElementsAt p types o kinds vars es' es → HasKind (setting_of p) kinds t k → AreTermTypes (setting_with p types) kinds vars → (r : Levels) → IsLevels p r → (δ : TypeTrees) (γ' γ : Thunks) → Kinded p kinds δ → VariablesAct p r vars δ γ' γ → EachTermActs p r (closed_type t δ) (with_origins_all o es') γ' δ (with_origins_all o es) γ δ
  unfolding with_origins
  elements_act none_have no_elements kt g r l δ γ' γ known names = tt
  elements_act (have_and d x ds) (elements_and {e' = e'} {e = e} f more) kt g r l δ γ' γ known names =
      (acts_at_same e' e f g d kt x r l δ γ' γ known names, elements_act ds more kt g r l δ γ' γ known names)

  -- a vector
  pub vector_both : {kinds : List Kind} {vars : List TypeTree} (t : TypeTree) (es' es : Terms) {u : TypeTree} → AreTermTypes (setting_with p types) kinds vars → HasType (setting_with p types) kinds vars (vec_lit t es) u → ElementsAt p types o kinds vars es' es → ActsUnder p kinds vars (with_origins o (vec_lit t es')) (with_origins o (vec_lit t es)) u
  unfolding with_origins sub
  vector_both t es' es g (h_vec kt ds) all n δ γ' γ known names =
      vec_acts (from_turns p n) (nat_lit (count es)) (closed_type t δ) t t (with_origins_all o es') (with_origins_all o es) γ' γ δ δ (elements_act ds all kt.has g (acts_from p n) (from_turns p n) δ γ' γ known names)

  no_alts_both : {kinds : List Kind} {vars : List TypeTree} {u : TypeTree} {alts' alts : Alts} → AltsAt p types o kinds vars u alts' alts → (with_origins_alts o alts' ≡ no_alts → with_origins_alts o alts ≡ no_alts) × (with_origins_alts o alts ≡ no_alts → with_origins_alts o alts' ≡ no_alts)
  unfolding with_origins
  no_alts_both no_alts_at = (λ e. refl, λ e. refl)
  no_alts_both (alts_and f more) = (λ e. absurd (cc), λ e. absurd (cc))

  -- the alternatives on two values, of which one acts as the other
  alts_act : {kinds : List Kind} {vars : List TypeTree} {u t : TypeTree} {alts' alts : Alts} → AllGive (setting_with p types) kinds vars u t alts → AltsAt p types o kinds vars u alts' alts → (j : Kind) → HasKind (setting_of p) kinds u j → (k : Kind) → HasKind (setting_of p) kinds t k → AreTermTypes (setting_with p types) kinds vars → (r : Levels) → IsLevels p r → (δ : TypeTrees) (γ' γ : Thunks) → Kinded p kinds δ → VariablesAct p r vars δ γ' γ → (v w : Value) → Seen p r (closed_type u δ) v w → (a : Arm) → arm_of v (with_origins_alts o alts') ≡ Some a → ArmOf p r (closed_type t δ) (with_origins_alts o alts) w γ' δ γ δ a
  unfolding with_origins
  alts_act none_give no_alts_at j ku k kt g r l δ γ' γ known names v w s a found = cc
  alts_act {kinds} {vars} {u} {t} (give_and {bound = bnd} bs d x rest) (alts_and {q = q} {e' = e'} {e = e} {more' = more'} {more = more} f others) j ku k kt g r l δ γ' γ known names v w s a found =
      let inner = typed_more (setting_with p types) kinds bnd vars bs.typed g in
      let bnd_typed = typed_without p types kinds bnd bs.typed in
      alt_acts (closed_type t δ) q (with_origins o e') (with_origins o e) (with_origins_alts o more') (with_origins_alts o more) γ' γ δ δ v w (matches_same s q)
      (λ hit. acts_at_same e' e (f bnd bs) inner d kt x r l δ (joined (bound v q) γ') (joined (bound w q) γ) known
      (joined_act (reverse bnd) vars δ (bound v q) (bound w q) γ' γ (pattern_acts l sound kinds δ known bs.pattern j ku bnd bs.same bnd_typed s refl hit) names))
      (alts_act rest others j ku k kt g r l δ γ' γ known names v w s) a found

  -- a case, part by part
  case_given : {kinds : List Kind} {vars bnd : List TypeTree} {q : Pattern} {more alts' : Alts} {u t : TypeTree} {e a : TermTree} {j k : Kind} (e' : TermTree) → AreTermTypes (setting_with p types) kinds vars → HasType (setting_with p types) kinds vars e u → IsLookedAt u → HasKind (setting_of p) kinds u j → Binds (setting_with p types) kinds u q bnd → HasType (setting_with p types) kinds (with_more bnd vars) a t → HasKind (setting_of p) kinds t k → AllGive (setting_with p types) kinds vars u t more → ActsAtTypes p types o kinds vars e' e → AltsAt p types o kinds vars u alts' (alt q a more) → ActsUnder p kinds vars (with_origins o (case_of e' alts')) (with_origins o (case_of e (alt q a more))) t
  unfolding with_origins
  case_given {kinds} {vars} {bnd} {q} {more} {u = u} {t = t} {e = e} {a = a} {j = j} {k = k} e' g d looked ku bs da kt alts on (alts_and {e' = a'} {more' = more'} f others) n δ γ' γ known names =
      let l = from_turns p n in
      let r = acts_from p n in
      let bnd_typed = typed_without p types kinds bnd bs.typed in
      let s' = with_origins o e' in
      let s2 = with_origins o e in
      let scrutinee = acts_at e' e on d r l δ γ' γ known names in
      let thunk = thunk_acts l (closed_type u δ) s' s2 γ' γ δ δ scrutinee in
      let none = no_alts_both others in
      case_acts l (closed_type u δ) (closed_type t δ) q s' s2 (with_origins o a') (with_origins o a) (with_origins_alts o more') (with_origins_alts o more) γ' γ δ δ (looked_closed u δ looked) none.0 none.1 scrutinee
      (λ c i same only. acts_at a' a (f bnd bs) da r l δ (fields_from zero i (closed s' γ' δ) γ') (fields_from zero i (closed s2 γ δ) γ) known
      (fields_tied bnd vars δ i (closed s' γ' δ) (closed s2 γ δ) γ' γ (only_fields l sound kinds δ known bs.pattern j ku bnd bs.same bnd_typed (closed s' γ' δ) (closed s2 γ δ) thunk c i same only) names))
      (λ plain. acts_at a' a (f bnd bs) da r l δ γ' γ known (unbound_act p r bs.pattern plain bnd vars bs.same δ γ' γ names))
      (λ i v set arm asked found.
      let s = seen u δ v set looked asked in
      let down = tied_later l (suc i) vars (λ x. x) (λ x. x) δ γ' γ names in
      let one = alt_acts (closed_type t δ) q (with_origins o a') (with_origins o a) (with_origins_alts o more') (with_origins_alts o more) γ' γ δ δ v s.0 (matches_same s.2 q)
      (λ hit. acts_at a' a (f bnd bs) da (later (suc i) r) (at_later (suc i) l) δ (joined (bound v q) γ') (joined (bound s.0 q) γ) known
      (joined_act (reverse bnd) vars δ (bound v q) (bound s.0 q) γ' γ (pattern_acts (at_later (suc i) l) sound kinds δ known bs.pattern j ku bnd bs.same bnd_typed s.2 refl hit) down))
      (alts_act alts others j ku k kt g (later (suc i) r) (at_later (suc i) l) δ γ' γ known down v s.0 s.2) arm found in
      record { value = s.0; has_value = s.1; second = one.second; is_arm = one.is_arm; acts = one.acts })

  -- a case
  pub case_both : {kinds : List Kind} {vars : List TypeTree} {alts' alts : Alts} {t : TypeTree} (e' e : TermTree) → AreTermTypes (setting_with p types) kinds vars → HasType (setting_with p types) kinds vars (case_of e alts) t → ActsAtTypes p types o kinds vars e' e → ((u : TypeTree) → HasType (setting_with p types) kinds vars e u → AltsAt p types o kinds vars u alts' alts) → ActsUnder p kinds vars (with_origins o (case_of e' alts')) (with_origins o (case_of e alts)) t
  case_both e' e g (h_case {u = u} d looked ku bs da kt fs alts hidden) on parts = case_given e' g d looked ku bs da kt alts on (parts u d)
