-- The origins of a typed state, and terms that act so at a type that is the same.
use Rattle.std.specs.Prelude.{slice_get, option_map, unwrap_or}
use Rattle.std.proofs.Common.{◌≡◌, ℕ, List, [], Some, subst, sym, ap}
use Rattle.chw_types.specs.SameTypes.{SameTypes}
use Rattle.chw_types.specs.TypeTree.{TypeTree}
use Rattle.chw_types.proofs.SameLaws.{same_through}
use Rattle.chw_terms.specs.declared.program.Program.{Program}
use Rattle.chw_terms.specs.declared.scene.Made.{Made}
use Rattle.chw_terms.specs.TermTree.{TermTree, made}
use Rattle.chw_terms.proofs.Renamed.{rename_ids}
use Rattle.chw_typing.specs.Laws.{TypedIsSound}
use Rattle.chw_typing.specs.Programs.{AreClosed, IsSound, IsTyped, setting_of}
use Rattle.chw_typing.specs.Scopes.{IsTermType}
use Rattle.chw_typing.specs.Typing.{HasType, HasTypeUpTo}
use Rattle.chw_typing.proofs.Lists.{found_before_map}
use Rattle.rewriting.specs.SceneLaws.{NoMadeKeepsType}
use Rattle.rewriting.specs.Origins.{MadeOf, Origins, origin_at, setting_at, with_origins}
use Rattle.rewriting.specs.Steps.{origins_in}
use Rattle.rule_types.specs.States.{IsTypedState}
use Rattle.rule_types.proofs.States.{state_origins}
use Rattle.rule_types.proofs.NewState.{origins_hold_no_made}
use Rattle.chw_meaning.specs.Values.{closed_type}
use Rattle.acts.specs.Levels.{term_runs, term_has}
use Rattle.acts.specs.Acts.{acts_from}
use Rattle.acts.specs.Terms.{ActsAs, OriginsAct, OriginsTyped, setting_with}
use Rattle.acts.proofs.Closing.{closed_same}
use Rattle.acts.proofs.Forms.{TermsAct}
use Rattle.acts.proofs.Globals.{renamed_acts}
use Rattle.acts.proofs.Levels.{from_turns}
use Rattle.acts.proofs.SameActs.{same_acts}
use Rattle.act_rules.specs.RuleLaws.{HasOrigins}

-- a type that terms have, over the program alone
pub over_program : (o : Origins) {t : TypeTree} → IsTermType (setting_at o) [] t → IsTermType (setting_of o.program) [] t
over_program o h = record { kind = h.kind; has = h.has; of_terms = h.of_terms }

-- the origin of a made definition of the type
pub record OriginOf (o : Origins) (m : ℕ) (t : TypeTree) : Type 0 where
  pub it : MadeOf
  pub held : slice_get o.made m ≡ Some it
  pub type : it.ty ≡ t
  pub is : origin_at o m ≡ it.origin

pub origin_there : (o : Origins) (m : ℕ) (it : MadeOf) → slice_get o.made m ≡ Some it → origin_at o m ≡ it.origin
origin_there o m it held = ap (λ x. unwrap_or (option_map (λ (it : MadeOf). it.origin) x) (made m)) held

pub origin_found : (o : Origins) (m : ℕ) (t : TypeTree) → slice_get (setting_at o).made m ≡ Some t → OriginOf o m t
origin_found o m t e =
    let at = found_before_map (λ (m : MadeOf). m.ty) o.made m t e in
    record { it = at.0; held = at.1; type = at.2; is = origin_there o m at.0 at.1 }

module _ (law : TypedIsSound) (alone : NoMadeKeepsType) (p : Program) (state : List Made) (h : IsTypedState p state) where
  have_types : OriginsTyped p (setting_at (origins_in p state)).made (origin_at (origins_in p state))
  have_types m u q =
      let w = state_origins law p state h in
      let at = origin_found (origins_in p state) m u q in
      let of = (w.origins m at.it at.held).0 in
      let own = alone (setting_at (origins_in p state)) [] [] at.it.origin of.type w.sound tt (origins_hold_no_made p state h m at.it at.held) of.has in
      let typed : HasTypeUpTo (setting_of p) [] [] at.it.origin at.it.ty = record { type = own.type; has = own.has; same = same_through of.same own.same } in
      subst (λ e. HasTypeUpTo (setting_of p) [] [] e u) (sym at.is) (subst (HasTypeUpTo (setting_of p) [] [] at.it.origin) at.type typed)

  pub state_has_origins : HasOrigins p (setting_at (origins_in p state)).made (origin_at (origins_in p state))
  state_has_origins =
      record {
        tidy = h.tidy;
        typed = h.typed;
        closed = λ x t e. over_program (origins_in p state) ((state_origins law p state h).sound.made x t e);
        have_types = have_types;
      }

  -- the declared type of a made definition
  pub declared_type : (m : ℕ) (it : Made) → slice_get state m ≡ Some it → IsTermType (setting_of p) [] it.ty
  declared_type m it is = over_program (origins_in p state) (h.each m it is).closed

-- at a closed type that is the same
pub acts_at : (p : Program) → IsSound (setting_of p) → {t u : TypeTree} → IsTermType (setting_of p) [] t → IsTermType (setting_of p) [] u → SameTypes t u → (e' e : TermTree) → ActsAs p t e' e → ActsAs p u e' e
acts_at p sound {t} {u} kt ku same e' e acts n δ γ' γ known names =
    same_acts sound (from_turns p n) (closed_same p sound δ known kt.has ku.has same) (term_runs p e' γ' δ) (term_has p e γ δ) (acts n δ γ' γ known names)

-- a closed term with other terms for its made definitions
pub made_acts : (p : Program) → IsSound (setting_of p) → IsTyped p → (types : List TypeTree) (o' o : ℕ → TermTree) → AreClosed (setting_of p) types → OriginsAct p types o' o → (e : TermTree) (t : TypeTree) → HasType (setting_with p types) [] [] e t → ActsAs p t (with_origins o' e) (with_origins o e)
made_acts p sound typed types o' o closed acts e t d n δ γ' γ known names =
    let at = renamed_acts p sound typed types o' o (λ x. x) (λ x. x) closed tt d acts n δ γ' γ known names in
    subst (λ a. TermsAct p (acts_from p n) (closed_type t δ) (with_origins o' a) γ' δ (with_origins o a) γ δ) (rename_ids e) at
