-- A spine acts so where its head and its arguments do.
use Rattle.std.specs.Prelude.{slice_get}
use Rattle.std.proofs.Common.{◌≡◌, ℕ, suc, zero, List, [], ◌∷◌, map, set, Some, refl, sym, subst}
use Rattle.chw_types.specs.declared.kind.Kind.{Kind}
use Rattle.chw_types.specs.TypeTree.{TypeTree, TypeTrees}
use Rattle.chw_types.specs.TypeMoves.{Renaming, up as up_type, sub as sub_type}
use Rattle.chw_types.proofs.SameLaws.{same_turned}
use Rattle.chw_terms.specs.declared.program.Program.{Program}
use Rattle.chw_terms.specs.declared.term.Arg.{Arg}
use Rattle.chw_terms.specs.declared.term.Arg.TheVariants.{OfTerm, OfType}
use Rattle.chw_terms.specs.Evaluated.{evaluated}
use Rattle.chw_terms.specs.TermMoves.{rename}
use Rattle.chw_terms.specs.TermTree.{TermTree, app, ty_app}
use Rattle.chw_terms.specs.TermView.{applied}
use Rattle.chw_terms.proofs.TypesEvaluated.{evaluated_twice}
use Rattle.chw_typing.specs.Scopes.{AreTermTypes, Setting}
use Rattle.chw_typing.specs.Programs.{AreClosed, IsSound, IsTyped, setting_of}
use Rattle.chw_typing.specs.Typing.{HasType, h_app, h_ty_app}
use Rattle.chw_typing.proofs.EvaluatedTypes.{kind_evaluated}
use Rattle.chw_typing.proofs.Kinded.{function_parts, type_kinded}
use Rattle.chw_typing.specs.Groups.{rename_arg}
use Rattle.chw_typing.proofs.TypedSpines.{head_typed}
use Rattle.chw_meaning.specs.Values.{Thunks, type_at, closed_type}
use Rattle.acts.specs.Levels.{Levels, term_runs, term_has}
use Rattle.acts.specs.Terms.{Kinded, OriginsTyped, setting_with}
use Rattle.rewriting.specs.Origins.{with_origins}
use Rattle.acts.proofs.Closing.{closed_kind, closed_same, put_closes}
use Rattle.acts.proofs.Forms.{TermsAct, app_acts, ty_app_acts}
use Rattle.acts.proofs.Globals.{sound_with}
use Rattle.acts.proofs.Levels.{IsLevels}
use Rattle.acts.proofs.SameActs.{same_acts}

-- an argument after the made definitions
abbrev pub origins_arg : (ℕ → TermTree) → Arg → Arg
origins_arg o (OfTerm e) = OfTerm (with_origins o e)
origins_arg o (OfType t) = OfType t

pub origins_applied : (o : ℕ → TermTree) (e : TermTree) (args : List Arg) → with_origins o (applied e args) ≡ applied (with_origins o e) (map (origins_arg o) args)
unfolding with_origins
origins_applied o e [] = refl
origins_applied o e (OfTerm a ∷ args) = origins_applied o (app e a) args
origins_applied o e (OfType t ∷ args) = origins_applied o (ty_app e t) args

-- the argument of this number is typed
pub argument_typed : (s : Setting) (kinds : List Kind) (vars : List TypeTree) (e : TermTree) (args : List Arg) (t : TypeTree) (i : ℕ) (a : TermTree) → HasType s kinds vars (applied e args) t → slice_get args i ≡ Some (OfTerm a) → (u : TypeTree) × HasType s kinds vars a u
argument_typed s kinds vars e [] t i a d is = cc
argument_typed s kinds vars e (OfTerm b ∷ args) t zero a d is =
    let same : b ≡ a = cc in
    let one = argument (head_typed s kinds vars (app e b) args t d).1 in
    (one.0, subst (λ b. HasType s kinds vars b one.0) same one.1)
  where
    argument : {v : TypeTree} {e b : TermTree} → HasType s kinds vars (app e b) v → (u : TypeTree) × HasType s kinds vars b u
    argument (h_app {c = c} df da x) = (c, da)
argument_typed s kinds vars e (OfType b ∷ args) t zero a d is = cc
argument_typed s kinds vars e (OfTerm b ∷ args) t (suc i) a d is = argument_typed s kinds vars (app e b) args t i a d is
argument_typed s kinds vars e (OfType b ∷ args) t (suc i) a d is = argument_typed s kinds vars (ty_app e b) args t i a d is

module _ (p : Program) (sound : IsSound (setting_of p)) (typed : IsTyped p) (types : List TypeTree) (o : ℕ → TermTree) (are_closed : AreClosed (setting_of p) types) (have : OriginsTyped p types o) where
  -- a term in its environment acts as the typed one, at each of its types
  abbrev pub EachTypeActs : List Kind → List TypeTree → Levels → TypeTrees → TermTree → Thunks → TermTree → Thunks → Type 0
  EachTypeActs kinds vars r δ e' γ' e γ = (u : TypeTree) → HasType (setting_with p types) kinds vars e u → TermsAct p r (closed_type u δ) e' γ' δ (with_origins o e) γ δ

  abbrev pub ArgActs : List Kind → List TypeTree → Levels → TypeTrees → Arg → Thunks → Arg → Thunks → Type 0
  ArgActs kinds vars r δ (OfTerm a') γ' (OfTerm a) γ = EachTypeActs kinds vars r δ a' γ' a γ
  ArgActs kinds vars r δ (OfType t') γ' (OfType t) γ = t' ≡ t
  ArgActs kinds vars r δ _ γ' _ γ = ⊥

  -- as many arguments on both sides, and each pair acts so
  abbrev pub ArgsAct : List Kind → List TypeTree → Levels → TypeTrees → List Arg → Thunks → List Arg → Thunks → Type 0
  ArgsAct kinds vars r δ [] γ' [] γ = Unit {0}
  ArgsAct kinds vars r δ (a' ∷ args') γ' (a ∷ args) γ = ArgActs kinds vars r δ a' γ' a γ × ArgsAct kinds vars r δ args' γ' args γ
  ArgsAct kinds vars r δ _ γ' _ γ = ⊥

  app_each : {kinds : List Kind} {vars : List TypeTree} {r : Levels} → AreTermTypes (setting_with p types) kinds vars → IsLevels p r → (δ : TypeTrees) (γ' γ : Thunks) → Kinded p kinds δ → (e' e a' a : TermTree) → EachTypeActs kinds vars r δ e' γ' e γ → EachTypeActs kinds vars r δ a' γ' a γ → EachTypeActs kinds vars r δ (app e' a') γ' (app e a) γ
  unfolding with_origins sub_type
  app_each g l δ γ' γ known e' e a' a es xs u (h_app {a = b} {c = c} df da x) =
      let full = sound_with p types sound are_closed in
      let same = closed_same p sound δ known (type_kinded da full g).has (function_parts (type_kinded df full g).has).1 (same_turned x) in
      app_acts l (closed_type b δ) (closed_type u δ) e' (with_origins o e) a' (with_origins o a) γ' γ δ δ (es _ df)
      (same_acts sound l same (term_runs p a' γ' δ) (term_has p (with_origins o a) γ δ) (xs c da))

  ty_app_each : {kinds : List Kind} {vars : List TypeTree} {r : Levels} → AreTermTypes (setting_with p types) kinds vars → IsLevels p r → (δ : TypeTrees) (γ' γ : Thunks) → Kinded p kinds δ → (e' e : TermTree) (a : TypeTree) → EachTypeActs kinds vars r δ e' γ' e γ → EachTypeActs kinds vars r δ (ty_app e' a) γ' (ty_app e a) γ
  unfolding with_origins sub_type
  ty_app_each g l δ γ' γ known e' e a es u (h_ty_app {j = j} {t = b} df ka x ku) =
      let full = sound_with p types sound are_closed in
      let c = evaluated (closed_type a δ) in
      let at = ty_app_acts l j (sub_type b (up_type (type_at δ))) c a a e' (with_origins o e) γ' γ δ δ refl refl (kind_evaluated (closed_kind p δ known ka)) (evaluated_twice (closed_type a δ)) (es _ df) in
      same_acts sound l (put_closes p sound δ known (type_kinded df full g).has ka ku x) (term_runs p (ty_app e' a) γ' δ) (term_has p (with_origins o (ty_app e a)) γ δ) at

  pub spine_acts : {kinds : List Kind} {vars : List TypeTree} {r : Levels} → AreTermTypes (setting_with p types) kinds vars → IsLevels p r → (δ : TypeTrees) (γ' γ : Thunks) → Kinded p kinds δ → (args' args : List Arg) (e' e : TermTree) → EachTypeActs kinds vars r δ e' γ' e γ → ArgsAct kinds vars r δ args' γ' args γ → EachTypeActs kinds vars r δ (applied e' args') γ' (applied e args) γ
  spine_acts g l δ γ' γ known [] [] e' e es h = es
  spine_acts g l δ γ' γ known (OfTerm a' ∷ args') (OfTerm a ∷ args) e' e es h =
      spine_acts g l δ γ' γ known args' args (app e' a') (app e a) (app_each g l δ γ' γ known e' e a' a es h.0) h.1
  spine_acts {kinds} {vars} {r} g l δ γ' γ known (OfType t' ∷ args') (OfType t ∷ args) e' e es h =
      subst (λ t'. EachTypeActs kinds vars r δ (applied (ty_app e' t') args') γ' (applied (ty_app e t) args) γ) (sym h.0)
      (spine_acts g l δ γ' γ known args' args (ty_app e' t) (ty_app e t) (ty_app_each g l δ γ' γ known e' e t es) h.1)
  spine_acts g l δ γ' γ known [] (a ∷ args) e' e es h = absurd h
  spine_acts g l δ γ' γ known (a' ∷ args') [] e' e es h = absurd h
  spine_acts g l δ γ' γ known (OfTerm a' ∷ args') (OfType t ∷ args) e' e es h = absurd h.0
  spine_acts g l δ γ' γ known (OfType t' ∷ args') (OfTerm a ∷ args) e' e es h = absurd h.0

  -- arguments that are renamed, and one that is replaced
  pub args_act : {kinds : List Kind} {vars : List TypeTree} {r : Levels} (δ : TypeTrees) (γ' γ : Thunks) (ρ : Renaming) → ((a : TermTree) → EachTypeActs kinds vars r δ (with_origins o (rename a ρ)) γ' a γ) → (args : List Arg) → ArgsAct kinds vars r δ (map (origins_arg o) (map (rename_arg ρ) args)) γ' args γ
  args_act δ γ' γ ρ each [] = tt
  args_act δ γ' γ ρ each (OfTerm a ∷ args) = (each a, args_act δ γ' γ ρ each args)
  args_act δ γ' γ ρ each (OfType t ∷ args) = (refl, args_act δ γ' γ ρ each args)

  pub args_but_one : {kinds : List Kind} {vars : List TypeTree} {r : Levels} (δ : TypeTrees) (γ' γ : Thunks) (args' args : List Arg) (i : ℕ) (x' x : TermTree) → ArgsAct kinds vars r δ args' γ' args γ → slice_get args i ≡ Some (OfTerm x) → EachTypeActs kinds vars r δ x' γ' x γ → ArgsAct kinds vars r δ (set args' i (OfTerm x')) γ' args γ
  args_but_one δ γ' γ [] [] i x' x h is acts = cc
  args_but_one {kinds} {vars} {r} δ γ' γ (OfTerm a' ∷ args') (OfTerm a ∷ args) zero x' x h is acts =
      let same : x ≡ a = cc in
      (subst (λ x. EachTypeActs kinds vars r δ x' γ' x γ) same acts, h.1)
  args_but_one δ γ' γ (OfType t' ∷ args') (OfType t ∷ args) zero x' x h is acts = cc
  args_but_one δ γ' γ (OfTerm a' ∷ args') (OfTerm a ∷ args) (suc i) x' x h is acts = (h.0, args_but_one δ γ' γ args' args i x' x h.1 is acts)
  args_but_one δ γ' γ (OfType t' ∷ args') (OfType t ∷ args) (suc i) x' x h is acts = (h.0, args_but_one δ γ' γ args' args i x' x h.1 is acts)
  args_but_one δ γ' γ [] (a ∷ args) i x' x h is acts = absurd h
  args_but_one δ γ' γ (a' ∷ args') [] i x' x h is acts = absurd h
  args_but_one δ γ' γ (OfTerm a' ∷ args') (OfType t ∷ args) i x' x h is acts = absurd h.0
  args_but_one δ γ' γ (OfType t' ∷ args') (OfTerm a ∷ args) i x' x h is acts = absurd h.0
