-- A lifted function with its parameters written out.
use Rattle.std.proofs.Common.{ℕ, List, [], ◌∷◌, refl}
use Rattle.chw_types.specs.declared.kind.Kind.{Kind}
use Rattle.chw_types.specs.TypeTree.{TypeTree, TypeTrees}
use Rattle.chw_prims.specs.declared.prim.Primitive.TheVariants.{Fmap}
use Rattle.chw_terms.specs.declared.program.Program.{Program}
use Rattle.chw_terms.specs.declared.term.Arg.TheVariants.{OfTerm, OfType}
use Rattle.chw_terms.specs.TermTree.{TermTree, prim}
use Rattle.chw_typing.specs.HeadTypes.{from_each}
use Rattle.chw_typing.specs.Scopes.{AreTermTypes}
use Rattle.chw_typing.specs.Programs.{AreClosed, IsSound, IsTyped, setting_of}
use Rattle.chw_typing.specs.Typing.{HasType}
use Rattle.chw_typing.proofs.Kinded.{type_kinded}
use Rattle.chw_typing.proofs.OneType.{one_type}
use Rattle.chw_typing.proofs.SameScopes.{are_same_self}
use Rattle.chw_meaning.specs.Values.{Thunks}
use Rattle.rewriting.specs.Shapes.{fmap_of}
use Rattle.acts.specs.Levels.{term_runs, term_has}
use Rattle.acts.specs.Acts.{acts_from}
use Rattle.acts.specs.Terms.{TiedBy, Kinded, ActsUnder, OriginsTyped, setting_with}
use Rattle.rewriting.specs.Origins.{with_origins, eta_expanded}
use Rattle.acts.proofs.Closing.{closed_same}
use Rattle.acts.proofs.Eta.{eta_acts}
use Rattle.acts.proofs.Globals.{sound_with}
use Rattle.acts.proofs.Levels.{from_turns}
use Rattle.acts.proofs.SameActs.{same_acts}
use Rattle.act_rules.proofs.RuleMoves.{origins_act, same_term_acts}
use Rattle.act_rules.proofs.CaseSpines.{EachTypeActs, spine_acts}

module _ (p : Program) (sound : IsSound (setting_of p)) (typed : IsTyped p) (types : List TypeTree) (o : ℕ → TermTree) (are_closed : AreClosed (setting_of p) types) (have : OriginsTyped p types o) where
  full : IsSound (setting_with p types)
  full = sound_with p types sound are_closed

  -- the function with its parameters written out, at each of the function's types
  expanded_acts : {kinds : List Kind} {vars : List TypeTree} {f : TermTree} (args : List TypeTree) (r : TypeTree) → AreTermTypes (setting_with p types) kinds vars → HasType (setting_with p types) kinds vars f (from_each args r) → (n : ℕ) (δ : TypeTrees) (γ' γ : Thunks) → Kinded p kinds δ → TiedBy p (acts_from p n) vars (λ x. x) (λ x. x) δ γ' γ → EachTypeActs p sound typed types o are_closed have kinds vars (acts_from p n) δ (with_origins o (eta_expanded args f)) γ' f γ
  expanded_acts {kinds} {vars} {f} args r g df n δ γ' γ known names u du =
      let same = closed_same p sound δ known (type_kinded df full g).has (type_kinded du full g).has (one_type df du full g g (are_same_self vars)) in
      same_acts sound (from_turns p n) same (term_runs p (with_origins o (eta_expanded args f)) γ' δ) (term_has p (with_origins o f) γ δ)
      (eta_acts p sound typed types o o args r are_closed g df (origins_act p sound typed types o are_closed have) n δ γ' γ known names)

  pub eta_function : {kinds : List Kind} {vars : List TypeTree} {t : TypeTree} {f s : TermTree} (d a b r : TypeTree) (args : List TypeTree) → AreTermTypes (setting_with p types) kinds vars → HasType (setting_with p types) kinds vars f (from_each args r) → HasType (setting_with p types) kinds vars (fmap_of d a b f s) t → ActsUnder p kinds vars (with_origins o (fmap_of d a b (eta_expanded args f) s)) (with_origins o (fmap_of d a b f s)) t
  unfolding with_origins
  eta_function {kinds} {vars} {t} {f} {s} d a b r args g df whole n δ γ' γ known names =
      spine_acts p sound typed types o are_closed have g (from_turns p n) δ γ' γ known
      (OfType d ∷ OfType a ∷ OfType b ∷ OfTerm (with_origins o (eta_expanded args f)) ∷ OfTerm (with_origins o s) ∷ [])
      (OfType d ∷ OfType a ∷ OfType b ∷ OfTerm f ∷ OfTerm s ∷ []) (prim Fmap) (prim Fmap) itself
      (refl, (refl, (refl, (expanded_acts args r g df n δ γ' γ known names, (itself, tt)))))
      t whole
    where
      itself : {e : TermTree} → EachTypeActs p sound typed types o are_closed have kinds vars (acts_from p n) δ (with_origins o e) γ' e γ
      itself u du = same_term_acts p sound typed types o are_closed have g du (acts_from p n) (from_turns p n) δ γ' γ known names
