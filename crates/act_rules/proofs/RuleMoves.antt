-- A typed term moved into other environments.
use Rattle.std.proofs.Common.{◌≡◌, ℕ, suc, zero, List, ◌∷◌, refl, sym, ap, ◌∙◌, subst, arith}
use Rattle.chw_types.specs.declared.kind.Kind.{Kind}
use Rattle.chw_types.specs.TypeTree.{TypeTree, TypeTrees, type_and}
use Rattle.chw_types.specs.TypeMoves.{Renaming, raised, shift as shift_type}
use Rattle.chw_types.proofs.TypeLaws.{same as same_function}
use Rattle.chw_terms.specs.declared.program.Program.{Program}
use Rattle.chw_terms.specs.TermMoves.{rename, shift}
use Rattle.chw_terms.specs.TermTree.{TermTree}
use Rattle.chw_terms.proofs.Renamed.{rename_ids}
use Rattle.chw_typing.specs.Scopes.{AreTermTypes, under_binder}
use Rattle.chw_typing.specs.Programs.{AreClosed, IsSound, IsTyped, setting_of}
use Rattle.chw_typing.specs.Typing.{HasType}
use Rattle.chw_typing.proofs.Lists.{found_before_map}
use Rattle.chw_meaning.specs.Values.{Thunk, Thunks, thunk_and, closed_type}
use Rattle.acts.specs.Levels.{Levels, ThunksAct}
use Rattle.acts.specs.Acts.{acts_from}
use Rattle.rewriting.specs.Origins.{with_origins}
use Rattle.acts.specs.Terms.{TiedBy, Kinded, OriginsAct, OriginsTyped, setting_with}
use Rattle.acts.proofs.Closing.{closed_stays, closed_shift}
use Rattle.acts.proofs.Forms.{TermsAct}
use Rattle.acts.proofs.Globals.{up_to_acts, globals_from, renamed_acts}
use Rattle.acts.proofs.Levels.{IsLevels, from_turns, at_levels}

-- one more variable on both sides, and one on the first alone
pub tied_more : {p : Program} {r : Levels} (t : TypeTree) (vars : List TypeTree) (δ : TypeTrees) (x' x : Thunk) (γ' γ : Thunks) → ThunksAct p r (closed_type t δ) x' x → TiedBy p r vars (λ x. x) (λ x. x) δ γ' γ → TiedBy p r (t ∷ vars) (λ x. x) (λ x. x) δ (thunk_and x' γ') (thunk_and x γ)
tied_more {p} {r} t vars δ x' x γ' γ acts h zero u e =
    let is : t ≡ u = cc in
    record { first = x'; second = x; has_first = refl; has_second = refl; acts = subst (λ u. ThunksAct p r (closed_type u δ) x' x) is acts }
tied_more t vars δ x' x γ' γ acts h (suc y) u e = let k = h y u e in record { first = k.first; second = k.second; has_first = k.has_first; has_second = k.has_second; acts = k.acts }

pub tied_spare : {p : Program} {r : Levels} (vars : List TypeTree) (ρ : Renaming) (δ : TypeTrees) (y : Thunk) (γ' γ : Thunks) → TiedBy p r vars ρ (λ x. x) δ γ' γ → TiedBy p r vars (λ x. suc (ρ x)) (λ x. x) δ (thunk_and y γ') γ
tied_spare vars ρ δ y γ' γ h x u e = let k = h x u e in record { first = k.first; second = k.second; has_first = k.has_first; has_second = k.has_second; acts = k.acts }

-- one more type variable
pub tied_type : {p : Program} {r : Levels} (c : TypeTree) (vars : List TypeTree) (ρ' ρ : Renaming) (δ : TypeTrees) (γ' γ : Thunks) → TiedBy p r vars ρ' ρ δ γ' γ → TiedBy p r (under_binder vars) ρ' ρ (type_and c δ) γ' γ
tied_type {p} {r} c vars ρ' ρ δ γ' γ h x u e =
    let q = found_before_map (λ t. shift_type t 0 1) vars x u e in
    let k = h x q.0 q.1 in
    let same = sym (closed_shift q.0 c δ) ∙ ap (λ u. closed_type u (type_and c δ)) q.2 in
    record { first = k.first; second = k.second; has_first = k.has_first; has_second = k.has_second; acts = subst (λ t. ThunksAct p r t k.first k.second) same k.acts }

-- a shift past one variable, and past several
pub past_one : (e : TermTree) → shift e 0 1 ≡ rename e suc
past_one e = ap (rename e) (same_function (raised 0 1) suc here)
  where
    here : (x : ℕ) → raised 0 1 x ≡ suc x
    here x = omega arith

module _ (p : Program) (sound : IsSound (setting_of p)) (typed : IsTyped p) (types : List TypeTree) (o : ℕ → TermTree) (are_closed : AreClosed (setting_of p) types) (have : OriginsTyped p types o) where
  -- the terms for the made definitions act as themselves
  pub origins_act : OriginsAct p types o o
  origins_act m u i n δ γ' γ known names =
      subst (λ t. TermsAct p (acts_from p n) t (o m) γ' δ (o m) γ δ) (sym (closed_stays p δ (are_closed m u i).has))
      (up_to_acts p sound (have m u i) (are_closed m u i) (acts_from p n) (from_turns p n) (globals_from p sound typed n) γ' γ δ δ)

  -- a term in an environment with other variables on the first side
  pub moved_acts : {kinds : List Kind} {vars : List TypeTree} {e : TermTree} {t : TypeTree} (ρ : Renaming) → AreTermTypes (setting_with p types) kinds vars → HasType (setting_with p types) kinds vars e t → (r : Levels) → IsLevels p r → (δ : TypeTrees) (γ' γ : Thunks) → Kinded p kinds δ → TiedBy p r vars ρ (λ x. x) δ γ' γ → TermsAct p r (closed_type t δ) (with_origins o (rename e ρ)) γ' δ (with_origins o e) γ δ
  moved_acts {kinds} {vars} {e} {t} ρ g d r l δ γ' γ known =
      at_levels l (λ q. TiedBy p q vars ρ (λ x. x) δ γ' γ → TermsAct p q (closed_type t δ) (with_origins o (rename e ρ)) γ' δ (with_origins o e) γ δ)
      (λ n names. subst (λ a. TermsAct p (acts_from p n) (closed_type t δ) (with_origins o (rename e ρ)) γ' δ (with_origins o a) γ δ) (rename_ids e) (renamed_acts p sound typed types o o ρ (λ x. x) are_closed g d origins_act n δ γ' γ known names))

  -- a term in environments of the same variables
  pub same_term_acts : {kinds : List Kind} {vars : List TypeTree} {e : TermTree} {t : TypeTree} → AreTermTypes (setting_with p types) kinds vars → HasType (setting_with p types) kinds vars e t → (r : Levels) → IsLevels p r → (δ : TypeTrees) (γ' γ : Thunks) → Kinded p kinds δ → TiedBy p r vars (λ x. x) (λ x. x) δ γ' γ → TermsAct p r (closed_type t δ) (with_origins o e) γ' δ (with_origins o e) γ δ
  same_term_acts {e = e} {t = t} g d r l δ γ' γ known names = subst (λ a. TermsAct p r (closed_type t δ) (with_origins o a) γ' δ (with_origins o e) γ δ) (rename_ids e) (moved_acts (λ x. x) g d r l δ γ' γ known names)
