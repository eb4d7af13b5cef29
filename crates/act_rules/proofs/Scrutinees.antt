-- A case whose scrutinee is changed.
use Rattle.std.proofs.Common.{ℕ, List, ap, ◌∙◌, subst}
use Rattle.chw_types.specs.declared.kind.Kind.{Kind}
use Rattle.chw_types.specs.TypeTree.{TypeTree, ty_var, TypeTrees}
use Rattle.chw_types.specs.TypeMoves.{Renaming, raised}
use Rattle.chw_terms.specs.declared.program.Program.{Program}
use Rattle.chw_terms.specs.TermMoves.{rename_alts, up_by}
use Rattle.chw_terms.specs.TermTree.{TermTree, letrec, Group, size_of, case_of, Alts, alt, binders}
use Rattle.chw_terms.proofs.Renamed.{rename_ids_alts}
use Rattle.chw_typing.specs.Scopes.{AreTermTypes}
use Rattle.chw_typing.specs.Programs.{AreClosed, IsSound, IsTyped, setting_of}
use Rattle.chw_typing.specs.Typing.{HasType, h_letrec, h_case}
use Rattle.chw_typing.proofs.Kinded.{typed_more}
use Rattle.chw_meaning.specs.Values.{Thunks, closed_type, in_group}
use Rattle.acts.specs.Levels.{later}
use Rattle.acts.specs.Acts.{acts_from}
use Rattle.rewriting.specs.Origins.{with_origins, with_origins_group, with_origins_alts}
use Rattle.acts.specs.Terms.{TiedBy, Kinded, ActsUnder, OriginsTyped, setting_with}
use Rattle.acts.proofs.Filled.{filled, filled_alts, filled_renamed_alts, variables_by, itself_keeps}
use Rattle.acts.proofs.Forms.{TermsAct}
use Rattle.acts.proofs.Globals.{Any, Unrelated, unrelated_lasts, made_typed, globals_from, sound_with, evaluated_at}
use Rattle.acts.proofs.HeadsAct.{heads_act}
use Rattle.acts.proofs.Levels.{from_turns, at_later}
use Rattle.acts.proofs.Names.{named_by}
use Rattle.acts.proofs.Typed.{Tied, typed_acts, alts_act, chosen_acts, no_alts_filled, tied_falls}
use Rattle.act_rules.proofs.Lets.{body_acts, in_let_acts, tied_past, size_with_origins}

module _ (p : Program) (sound : IsSound (setting_of p)) (typed : IsTyped p) (types : List TypeTree) (o : ℕ → TermTree) (are_closed : AreClosed (setting_of p) types) (have : OriginsTyped p types o) where
  -- a scrutinee that acts as the typed one, and alternatives in an environment with other variables
  pub other_scrutinee : {kinds : List Kind} {vars : List TypeTree} {e : TermTree} {alts : Alts} {t : TypeTree} → AreTermTypes (setting_with p types) kinds vars → HasType (setting_with p types) kinds vars (case_of e alts) t → (ρ : Renaming) (n : ℕ) (δ : TypeTrees) (γ' γ : Thunks) → Kinded p kinds δ → TiedBy p (acts_from p n) vars ρ (λ x. x) δ γ' γ → (s' s : TermTree) → ((u : TypeTree) → HasType (setting_with p types) kinds vars e u → TermsAct p (acts_from p n) (closed_type u δ) s' γ' δ s γ δ) → TermsAct p (acts_from p n) (closed_type t δ) (case_of s' (with_origins_alts o (rename_alts alts ρ))) γ' δ (case_of s (with_origins_alts o alts)) γ δ
  unfolding filled
  other_scrutinee {kinds} {vars} {t = t} g (h_case {bound = bnd} {q = q} {more = more} {u = u} {f = a} {j = j} {k = k} d looked ku bs da kt fs alts hidden) ρ n δ γ' γ known names s' s scrutinee =
      let r = acts_from p n in
      let l = from_turns p n in
      let full = sound_with p types sound are_closed in
      let mades = made_typed p sound typed types o are_closed have in
      let inner = typed_more (setting_with p types) kinds bnd vars bs.typed g in
      let m = binders q in
      let σ' = variables_by ρ in
      let σ = variables_by (λ x. x) in
      let itself = filled_renamed_alts o (alt q a more) (λ x. x) ∙ ap (with_origins_alts o) (rename_ids_alts (alt q a more)) in
      let tied : Tied p Any Unrelated kinds vars σ' σ ty_var ty_var r δ δ δ γ' γ =
      record { known = known; first = evaluated_at p kinds δ known; second = evaluated_at p kinds δ known; types = tt; names = named_by p Unrelated r vars ρ (λ x. x) δ δ δ γ' γ names; globals = globals_from p sound typed n } in
      subst (λ bs. TermsAct p r (closed_type t δ) (case_of s' bs) γ' δ (case_of s (with_origins_alts o (alt q a more))) γ δ) (filled_renamed_alts o (alt q a more) ρ)
      (subst (λ bs. TermsAct p r (closed_type t δ) (case_of s' (filled_alts o (λ t. t) (alt q a more) σ' ty_var)) γ' δ (case_of s bs) γ δ) itself
      (chosen_acts p types full o o (λ t. t) (λ t. t) itself_keeps itself_keeps Any (λ c δ' δ h. tt) mades (heads_act p sound) Unrelated (unrelated_lasts p) (λ r l t e' e δ' δ γ' γ h. absurd h) looked ku bs r l σ' σ ty_var ty_var δ δ δ γ' γ tied (closed_type t δ) s' s (filled o (λ t. t) a (up_by m σ') ty_var) (filled o (λ t. t) a (up_by m σ) ty_var) (filled_alts o (λ t. t) more σ' ty_var) (filled_alts o (λ t. t) more σ ty_var)
      (λ e. ap (λ bs. filled_alts o (λ t. t) bs σ ty_var) (no_alts_filled o (λ t. t) more σ' ty_var e))
      (λ e. ap (λ bs. filled_alts o (λ t. t) bs σ' ty_var) (no_alts_filled o (λ t. t) more σ ty_var e))
      (scrutinee u d)
      (λ i ε' ε beside. typed_acts p types full o o (λ t. t) (λ t. t) itself_keeps itself_keeps Any (λ c δ' δ h. tt) mades (heads_act p sound) Unrelated (unrelated_lasts p) (λ r l t e' e δ' δ γ' γ h. absurd h) da inner (later i r) (at_later i l) (up_by m σ') (up_by m σ) ty_var ty_var δ δ δ ε' ε beside)
      (λ i v w see. alts_act p types full o o (λ t. t) (λ t. t) itself_keeps itself_keeps Any (λ c δ' δ h. tt) mades (heads_act p sound) Unrelated (unrelated_lasts p) (λ r l t e' e δ' δ γ' γ h. absurd h) alts j ku k kt g (later i r) (at_later i l) σ' σ ty_var ty_var δ δ δ γ' γ (tied_falls p types full o o (λ t. t) (λ t. t) itself_keeps itself_keeps Any (λ c δ' δ h. tt) mades (heads_act p sound) Unrelated (unrelated_lasts p) (λ r l t e' e δ' δ γ' γ h. absurd h) l i tied) v w see)))

  pub case_let : {kinds : List Kind} {vars : List TypeTree} {t : TypeTree} {g : Group} {e : TermTree} {alts : Alts} → AreTermTypes (setting_with p types) kinds vars → HasType (setting_with p types) kinds vars (case_of (letrec g e) alts) t → ActsUnder p kinds vars (with_origins o (letrec g (case_of e (rename_alts alts (raised 0 (size_of g)))))) (with_origins o (case_of (letrec g e) alts)) t
  unfolding with_origins
  case_let {kinds} {vars} {t} {g} {e} {alts} vs d n δ γ' γ known names =
      let Γ = in_group (with_origins_group o g) γ' δ in
      in_let_acts p sound typed types o are_closed have t g (case_of e (rename_alts alts (raised 0 (size_of g)))) (case_of (letrec g e) alts) n δ γ' γ
      (other_scrutinee vs d (raised 0 (size_of g)) n δ Γ γ known (tied_past vars (with_origins_group o g) (size_of g) δ δ γ' γ (size_with_origins o g) names) (with_origins o e) (with_origins o (letrec g e)) side)
    where
      side : (u : TypeTree) → HasType (setting_with p types) kinds vars (letrec g e) u → TermsAct p (acts_from p n) (closed_type u δ) (with_origins o e) (in_group (with_origins_group o g) γ' δ) δ (with_origins o (letrec g e)) γ δ
      side u (h_letrec de kt bs) = body_acts p sound typed types o are_closed have vars vs de bs n δ γ' γ known names
