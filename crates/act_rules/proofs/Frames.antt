-- A case of which the alternatives are changed, as a term around the case.
use Rattle.std.proofs.Common.{◌≡◌, ℕ, suc, zero, List, Some, refl, sym, ap, ◌∙◌, subst}
use Rattle.chw_types.specs.declared.kind.Kind.{Kind}
use Rattle.chw_types.specs.TypeTree.{TypeTree, ty_var, TypeTrees}
use Rattle.chw_types.specs.TypeMoves.{Renaming}
use Rattle.chw_types.proofs.SameLaws.{same_self}
use Rattle.chw_terms.specs.declared.program.Program.{Program}
use Rattle.chw_terms.specs.TermMoves.{rename_alts, Substitution}
use Rattle.chw_terms.specs.TermTree.{TermTree, case_of, Alts, alt}
use Rattle.chw_terms.proofs.Renamed.{rename_ids_alts}
use Rattle.chw_typing.specs.Scopes.{AreTermTypes}
use Rattle.chw_typing.specs.Programs.{AreClosed, IsSound, IsTyped, setting_of}
use Rattle.chw_typing.specs.Typing.{HasType, h_case, give_and}
use Rattle.chw_typing.specs.Groups.{each_body}
use Rattle.chw_meaning.specs.Values.{History, Value, closed, Thunks, none, count_of, closed_type, joined, fields_from}
use Rattle.chw_meaning.specs.Eval.{plus, choice, goes_on, takes, looks, Arm, arm_of, Evals, e_goes_on, e_takes, e_looks}
use Rattle.acts.specs.Levels.{Levels, later, Alike, Second, RunsAct, term_runs, term_has}
use Rattle.acts.specs.Acts.{act_step, acts_from}
use Rattle.acts.specs.Terms.{TiedBy, Kinded, OriginsTyped, setting_with}
use Rattle.rewriting.specs.Origins.{with_origins_alts}
use Rattle.acts.proofs.Arms.{seen}
use Rattle.acts.proofs.Cases.{looked_alike}
use Rattle.acts.proofs.Filled.{filled_alts, filled_renamed_alts, variables_by, itself_keeps}
use Rattle.acts.proofs.Forms.{TermsAct}
use Rattle.acts.proofs.Globals.{Any, Unrelated, unrelated_lasts, made_typed, globals_from, sound_with, evaluated_at}
use Rattle.acts.proofs.HeadsAct.{heads_act}
use Rattle.acts.proofs.Levels.{at_end, later_plus, IsLevels, from_turns, at_later, more, opens}
use Rattle.acts.proofs.Names.{named_by}
use Rattle.acts.proofs.Tied.{fields_joined}
use Rattle.acts.proofs.Typed.{Tied, looked_closed, alts_act, tied_falls}
use Rattle.act_rules.proofs.Scrutinees.{other_scrutinee}
use Rattle.act_rules.proofs.Choices.{Chose, chose_on, chose_fields, chose_looks, chose, looks_alike, count_fields, framed_arm}

module _ (p : Program) (sound : IsSound (setting_of p)) (typed : IsTyped p) (types : List TypeTree) (o : ℕ → TermTree) (are_closed : AreClosed (setting_of p) types) (have : OriginsTyped p types o) where
  -- a scrutinee acts as the typed one, at each of its types
  abbrev pub ScrutineeActs : List Kind → List TypeTree → TermTree → Levels → TypeTrees → TermTree → Thunks → TermTree → Thunks → Type 0
  ScrutineeActs kinds vars e r δ s' γ' s γ = (u : TypeTree) → HasType (setting_with p types) kinds vars e u → TermsAct p r (closed_type u δ) s' γ' δ s γ δ

  -- the arm that the first side took, at whatever history it stands, acts as the second side's case
  arm_acts : {kinds : List Kind} {vars : List TypeTree} {e : TermTree} {alts : Alts} {t : TypeTree} → AreTermTypes (setting_with p types) kinds vars → HasType (setting_with p types) kinds vars (case_of e alts) t → (ρ : Renaming) (n : ℕ) (δ : TypeTrees) (γ' γ : Thunks) → Kinded p kinds δ → TiedBy p (acts_from p n) vars ρ (λ x. x) δ γ' γ → (s' s : TermTree) → ScrutineeActs kinds vars e (acts_from p n) δ s' γ' s γ → choice p.datas (with_origins_alts o (rename_alts alts ρ)) ≡ looks → (k : ℕ) (h0 : History) (v : Value) (a : Arm) → Evals p k s' γ' δ h0 v → arm_of v (with_origins_alts o (rename_alts alts ρ)) ≡ Some a → TermsAct p (later (suc k) (acts_from p n)) (closed_type t δ) a.body (joined a.fields γ') δ (case_of s (with_origins_alts o alts)) γ δ
  arm_acts {kinds} {vars} {e} {t = t} g (h_case {q = q} {more = rest} {u = u} {f = f} {j = j} {k = kt} d looked ku bs da hk fs alts hidden) ρ n δ γ' γ known names s' s scrutinee chosen k h0 v a ev found h' h m w al b =
      let r = acts_from p n in
      let l = from_turns p n in
      let all = alt q f rest in
      let look0 = scrutinee u d h0 h k v (looked_alike (closed_type u δ) h0 h (looked_closed u δ looked)) ev in
      opens l k (closed_type u δ) v (term_has p s γ δ h) (λ q. later m q zero (closed_type t δ) w (term_has p (case_of s (with_origins_alts o all)) γ δ h)) (at_end p m (closed_type t δ) w (term_has p (case_of s (with_origins_alts o all)) γ δ h)) look0 step
    where
      σ' : Substitution
      σ' = variables_by ρ

      σ : Substitution
      σ = variables_by (λ x. x)

      itself : filled_alts o (λ t. t) (alt q f rest) σ ty_var ≡ with_origins_alts o (alt q f rest)
      itself = filled_renamed_alts o (alt q f rest) (λ x. x) ∙ ap (with_origins_alts o) (rename_ids_alts (alt q f rest))

      moved : filled_alts o (λ t. t) (alt q f rest) σ' ty_var ≡ with_origins_alts o (rename_alts (alt q f rest) ρ)
      moved = filled_renamed_alts o (alt q f rest) ρ

      tied : Tied p Any Unrelated kinds vars σ' σ ty_var ty_var (acts_from p n) δ δ δ γ' γ
      tied = record { known = known; first = evaluated_at p kinds δ known; second = evaluated_at p kinds δ known; types = tt; names = named_by p Unrelated (acts_from p n) vars ρ (λ x. x) δ δ δ γ' γ names; globals = globals_from p sound typed n }

      second : choice p.datas (with_origins_alts o (alt q f rest)) ≡ looks
      second = subst (λ bs. choice p.datas bs ≡ looks) itself (looks_alike p.datas o (alt q f rest) σ' σ ty_var (subst (λ bs. choice p.datas bs ≡ looks) (sym moved) chosen))

      step : act_step p (later (suc k) (acts_from p n)) (closed_type u δ) v (term_has p s γ δ h) → later m (later (suc k) (acts_from p n)) zero (closed_type t δ) w (term_has p (case_of s (with_origins_alts o (alt q f rest))) γ δ h)
      step asked =
          let l = from_turns p n in
          let full = sound_with p types sound are_closed in
          let mades = made_typed p sound typed types o are_closed have in
          let see = seen u δ v (term_has p s γ δ h) looked asked in
          let arm = alts_act p types full o o (λ t. t) (λ t. t) itself_keeps itself_keeps Any (λ c δ' δ h. tt) mades (heads_act p sound) Unrelated (unrelated_lasts p) (λ r l t e' e δ' δ γ' γ h. absurd h) (give_and bs da (same_self t) alts) j ku kt hk g (later (suc k) (acts_from p n)) (at_later (suc k) l) σ' σ ty_var ty_var δ δ δ γ' γ (tied_falls p types full o o (λ t. t) (λ t. t) itself_keeps itself_keeps Any (λ c δ' δ h. tt) mades (heads_act p sound) Unrelated (unrelated_lasts p) (λ r l t e' e δ' δ γ' γ h. absurd h) l (suc k) tied) v see.0 see.2 a (subst (λ bs. arm_of v bs ≡ Some a) (sym moved) found) in
          more (at_later (suc k) l) m (closed_type t δ) w (term_has p arm.second.body (joined arm.second.fields γ) δ h) (term_has p (case_of s (with_origins_alts o (alt q f rest))) γ δ h) (λ x q. (_, e_looks second see.1.1 (subst (λ bs. arm_of see.0 bs ≡ Some arm.second) itself arm.is_arm) q.1)) (arm.acts h' h m w al b)

  -- each arm of the first side, changed, acts as the second side, where the arm acts as the second side's case
  abbrev pub FrameActs : List Kind → List TypeTree → TermTree → Levels → TypeTrees → (ℕ → TermTree → TermTree) → Thunks → TermTree → Thunks → TypeTree → Second → Type 0
  FrameActs kinds vars e r δ F γ' case γ u second =
      (k q : ℕ) (f : TermTree) (xs : Thunks) → count_of xs ≡ q
      → ScrutineeActs kinds vars e (later k r) δ f (joined xs γ') case γ
      → RunsAct (later k r) u (term_runs p (F q f) (joined xs γ') δ) second

  arm_framed : {kinds : List Kind} {vars : List TypeTree} {e : TermTree} {alts : Alts} {t : TypeTree} → AreTermTypes (setting_with p types) kinds vars → HasType (setting_with p types) kinds vars (case_of e alts) t → (ρ : Renaming) (n : ℕ) (δ : TypeTrees) (γ' γ : Thunks) → Kinded p kinds δ → TiedBy p (acts_from p n) vars ρ (λ x. x) δ γ' γ → (s' s : TermTree) → ScrutineeActs kinds vars e (acts_from p n) δ s' γ' s γ → (F : ℕ → TermTree → TermTree) (u : TypeTree) (second : Second) → FrameActs kinds vars (case_of e alts) (acts_from p n) δ F γ' (case_of s (with_origins_alts o alts)) γ u second → choice p.datas (with_origins_alts o (rename_alts alts ρ)) ≡ looks → (h' h : History) → Alike u h' h → (k m : ℕ) (v w : Value) (a : Arm) → Evals p k s' γ' δ h' v → arm_of v (each_body F (with_origins_alts o (rename_alts alts ρ))) ≡ Some a → Evals p m a.body (joined a.fields γ') δ h' w → later m (later (suc k) (acts_from p n)) zero u w (second h)
  arm_framed {t = t} g (h_case {q = q} {more = rest} {u = su} {f = f} d looked ku bs da hk fs alts hidden) ρ n δ γ' γ known names s' s scrutinee F u second frame chosen h' h al k m v w a ev found b =
      opens (from_turns p n) k (closed_type su δ) v (term_has p s γ δ h') (λ q. later m q zero u w (second h)) (at_end p m u w (second h)) (scrutinee su d h' h' k v (looked_alike (closed_type su δ) h' h' (looked_closed su δ looked)) ev) step
    where
      moved : filled_alts o (λ t. t) (alt q f rest) (variables_by ρ) ty_var ≡ with_origins_alts o (rename_alts (alt q f rest) ρ)
      moved = filled_renamed_alts o (alt q f rest) ρ

      step : act_step p (later (suc k) (acts_from p n)) (closed_type su δ) v (term_has p s γ δ h') → later m (later (suc k) (acts_from p n)) zero u w (second h)
      step asked =
          let see = seen su δ v (term_has p s γ δ h') looked asked in
          let one = framed_arm (give_and bs da (same_self t) alts) see.2 F o (variables_by ρ) ty_var a (subst (λ bs. arm_of v (each_body F bs) ≡ Some a) (sym moved) found) in
          frame (suc k) one.binds one.body a.fields one.counts
          (λ t2 d2. arm_acts g d2 ρ n δ γ' γ known names s' s scrutinee chosen k h' v (record { fields = a.fields; body = one.body }) ev (subst (λ bs. arm_of v bs ≡ Some (record { fields = a.fields; body = one.body })) moved one.found))
          h' h m w al (subst (λ f. Evals p m f (joined a.fields γ') δ h' w) one.is_body b)

  pub framed_acts : {kinds : List Kind} {vars : List TypeTree} {e : TermTree} {alts : Alts} {t : TypeTree} → AreTermTypes (setting_with p types) kinds vars → HasType (setting_with p types) kinds vars (case_of e alts) t → (ρ : Renaming) (n : ℕ) (δ : TypeTrees) (γ' γ : Thunks) → Kinded p kinds δ → TiedBy p (acts_from p n) vars ρ (λ x. x) δ γ' γ → (s' s : TermTree) → ScrutineeActs kinds vars e (acts_from p n) δ s' γ' s γ → (F : ℕ → TermTree → TermTree) (u : TypeTree) (second : Second) → FrameActs kinds vars (case_of e alts) (acts_from p n) δ F γ' (case_of s (with_origins_alts o alts)) γ u second → RunsAct (acts_from p n) u (term_runs p (case_of s' (each_body F (with_origins_alts o (rename_alts alts ρ)))) γ' δ) second
  framed_acts {kinds} {vars} {e} {alts} {t} g d ρ n δ γ' γ known names s' s scrutinee F u second frame h' h m w al ev = by_choice m w al ev
    where
      r : Levels
      r = acts_from p n

      l : IsLevels p (acts_from p n)
      l = from_turns p n

      bs : Alts
      bs = with_origins_alts o (rename_alts alts ρ)

      both : (v : TypeTree) → HasType (setting_with p types) kinds vars (case_of e alts) v → TermsAct p (acts_from p n) (closed_type v δ) (case_of s' bs) γ' δ (case_of s (with_origins_alts o alts)) γ δ
      both v dv = other_scrutinee p sound typed types o are_closed have g dv ρ n δ γ' γ known names s' s scrutinee

      on : {j : ℕ} {w : Value} {f : TermTree} → Alike u h' h → Chose p.datas F bs (goes_on f) → Evals p j f γ' δ h' w → later (suc j) r zero u w (second h)
      on {j} {w} al (chose_on {e = f} c) ev =
          frame (suc zero) zero f none refl (λ v dv h2' h2 i w al b. both v dv h2' h2 (suc i) w al (e_goes_on c b)) h' h j w al ev

      fields : {j i : ℕ} {w : Value} {f : TermTree} → Alike u h' h → Chose p.datas F bs (takes i f) → Evals p j f (fields_from zero i (closed s' γ' δ) γ') δ h' w → later (suc j) r zero u w (second h)
      fields {j} {w = w} al (chose_fields {k = i} {e = f} c) ev =
          let xs = fields_from zero i (closed s' γ' δ) none in
          let is = fields_joined zero i (closed s' γ' δ) γ' in
          frame (suc zero) i f xs (count_fields zero i (closed s' γ' δ)) (λ v dv h2' h2 k w al b. both v dv h2' h2 (suc k) w al (e_takes c (subst (λ env. Evals p k f env δ h2' w) (sym is) b))) h' h j w al (subst (λ env. Evals p j (F i f) env δ h' w) is ev)

      arm : {j k : ℕ} {v w : Value} {a : Arm} → Alike u h' h → Chose p.datas F bs looks → Evals p k s' γ' δ h' v → arm_of v (each_body F bs) ≡ Some a → Evals p j a.body (joined a.fields γ') δ h' w → later (suc (plus k j)) r zero u w (second h)
      arm {j} {k} {v} {w} {a} al (chose_looks c) ev found b = subst (λ q. q zero u w (second h)) (sym (later_plus (suc k) j r)) (arm_framed g d ρ n δ γ' γ known names s' s scrutinee F u second frame c h' h al k j v w a ev found b)

      by_choice : (m : ℕ) (w : Value) → Alike u h' h → Evals p m (case_of s' (each_body F bs)) γ' δ h' w → later m r zero u w (second h)
      by_choice m w al (e_goes_on picked b) = on al (subst (λ c. Chose p.datas F bs c) picked (chose p.datas F bs)) b
      by_choice m w al (e_takes picked b) = fields al (subst (λ c. Chose p.datas F bs c) picked (chose p.datas F bs)) b
      by_choice m w al (e_looks picked ev found b) = arm al (subst (λ c. Chose p.datas F bs c) picked (chose p.datas F bs)) ev found b
