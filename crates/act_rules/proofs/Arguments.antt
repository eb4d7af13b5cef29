-- A primitive on arguments of which one is replaced.
use Rattle.std.specs.Prelude.{slice_get}
use Rattle.std.proofs.Common.{◌≡◌, ℕ, List, map, set, Some, ap, ◌∙◌}
use Rattle.std.proofs.lemmas.List.{map-set}
use Rattle.chw_types.specs.declared.kind.Kind.{Kind}
use Rattle.chw_types.specs.TypeTree.{TypeTree, TypeTrees}
use Rattle.chw_types.specs.TypeMoves.{Renaming}
use Rattle.chw_prims.specs.declared.prim.Primitive.{Primitive as Prim}
use Rattle.chw_terms.specs.declared.program.Program.{Program}
use Rattle.chw_terms.specs.declared.term.Arg.{Arg}
use Rattle.chw_terms.specs.declared.term.Arg.TheVariants.{OfTerm}
use Rattle.chw_terms.specs.TermMoves.{rename}
use Rattle.chw_terms.specs.TermTree.{TermTree, prim}
use Rattle.chw_terms.specs.TermView.{applied}
use Rattle.chw_typing.specs.Scopes.{AreTermTypes}
use Rattle.chw_typing.specs.Programs.{AreClosed, IsSound, IsTyped, setting_of}
use Rattle.chw_typing.specs.Typing.{HasType}
use Rattle.chw_typing.specs.Groups.{rename_arg}
use Rattle.chw_meaning.specs.Values.{Thunks, closed_type}
use Rattle.acts.specs.Levels.{Levels}
use Rattle.acts.specs.Terms.{TiedBy, Kinded, OriginsTyped, setting_with}
use Rattle.rewriting.specs.Origins.{with_origins}
use Rattle.acts.proofs.Forms.{TermsAct}
use Rattle.acts.proofs.Levels.{IsLevels}
use Rattle.act_rules.proofs.RuleMoves.{moved_acts}
use Rattle.act_rules.proofs.CaseSpines.{origins_arg, origins_applied, EachTypeActs, spine_acts, args_act, args_but_one}

module _ (p : Program) (sound : IsSound (setting_of p)) (typed : IsTyped p) (types : List TypeTree) (o : ℕ → TermTree) (are_closed : AreClosed (setting_of p) types) (have : OriginsTyped p types o) where
  -- the primitive on the arguments, renamed on the first side, where the one of this number acts as it
  pub prim_acts : {kinds : List Kind} {vars : List TypeTree} {t : TypeTree} (q : Prim) (args : List Arg) (i : ℕ) (x' x : TermTree) → slice_get args i ≡ Some (OfTerm x) → AreTermTypes (setting_with p types) kinds vars → HasType (setting_with p types) kinds vars (applied (prim q) args) t → (r : Levels) → IsLevels p r → (ρ : Renaming) (δ : TypeTrees) (γ' γ : Thunks) → Kinded p kinds δ → TiedBy p r vars ρ (λ x. x) δ γ' γ → EachTypeActs p sound typed types o are_closed have kinds vars r δ x' γ' x γ → TermsAct p r (closed_type t δ) (applied (prim q) (set (map (origins_arg o) (map (rename_arg ρ) args)) i (OfTerm x'))) γ' δ (with_origins o (applied (prim q) args)) γ δ
  unfolding with_origins rename
  prim_acts {kinds} {vars} {t} q args i x' x is g d r l ρ δ γ' γ known names acts =
      spine_acts p sound typed types o are_closed have g l δ γ' γ known (set (map (origins_arg o) (map (rename_arg ρ) args)) i (OfTerm x')) args (prim q) (prim q)
      (λ u du. moved_acts p sound typed types o are_closed have ρ g du r l δ γ' γ known names)
      (args_but_one p sound typed types o are_closed have δ γ' γ (map (origins_arg o) (map (rename_arg ρ) args)) args i x' x (args_act p sound typed types o are_closed have δ γ' γ ρ (λ a u da. moved_acts p sound typed types o are_closed have ρ g da r l δ γ' γ known names) args) is acts)
      t d

  -- the same arguments, before the made definitions are put
  pub before_origins : (q : Prim) (args : List Arg) (i : ℕ) (x : TermTree) (ρ : Renaming) → with_origins o (applied (prim q) (set (map (rename_arg ρ) args) i (OfTerm x))) ≡ applied (prim q) (set (map (origins_arg o) (map (rename_arg ρ) args)) i (OfTerm (with_origins o x)))
  unfolding with_origins
  before_origins q args i x ρ = origins_applied o (prim q) (set (map (rename_arg ρ) args) i (OfTerm x)) ∙ ap (applied (prim q)) (map-set (origins_arg o) (map (rename_arg ρ) args) i (OfTerm x))
