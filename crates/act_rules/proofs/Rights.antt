-- Right sides that are renamed act as what has what they have.
use Rattle.std.proofs.Common.{◌≡◌, ◌+◌, ℕ, suc, List, length, Some, sym, ap, ◌∙◌}
use Rattle.chw_types.specs.declared.kind.Kind.{Kind}
use Rattle.chw_types.specs.TypeTree.{TypeTree, TypeTrees}
use Rattle.chw_types.specs.TypeMoves.{Renaming}
use Rattle.chw_types.specs.SameTypes.{SameTypes}
use Rattle.chw_types.proofs.SameLaws.{same_turned}
use Rattle.chw_terms.specs.declared.program.Program.{Program}
use Rattle.chw_terms.specs.TermMoves.{rename}
use Rattle.chw_terms.specs.TermTree.{TermTree, letrec, Group, size_of}
use Rattle.chw_typing.specs.Scopes.{HasKind, AreTermTypes, with_more}
use Rattle.chw_typing.specs.Programs.{AreClosed, IsSound, IsTyped, setting_of}
use Rattle.chw_typing.specs.Typing.{HasType}
use Rattle.chw_typing.proofs.Kinded.{type_kinded}
use Rattle.chw_meaning.specs.Values.{History, Value, Thunk, member, Thunks, thunk_at, closed_type, in_group, body_at}
use Rattle.chw_meaning.specs.Eval.{e_letrec, f_member}
use Rattle.acts.specs.Levels.{Levels, Second, RunsAct, term_runs, term_has, thunk_has}
use Rattle.acts.specs.Acts.{acts_from}
use Rattle.acts.specs.Terms.{TiedBy, Kinded, OriginsTyped, setting_with}
use Rattle.rewriting.specs.Origins.{with_origins, with_origins_group}
use Rattle.acts.proofs.Closing.{closed_same}
use Rattle.acts.proofs.Globals.{sound_with, renamed_acts}
use Rattle.acts.proofs.Levels.{IsLevels, from_turns, cost, runs_more}
use Rattle.acts.proofs.SameActs.{same_acts}
use Rattle.act_rules.proofs.RuleMoves.{moved_acts, origins_act}
use Rattle.act_rules.proofs.CasePlaces.{more_past, outside_at}

-- what a right side has, the binding has
pub member_has : (p : Program) (g : Group) (i : ℕ) (e : TermTree) (γ : Thunks) (δ : TypeTrees) → body_at g i ≡ Some e → (h : History) (v : Value) → term_has p e (in_group g γ δ) δ h v → thunk_has p (member g i γ δ) h v
member_has p g i e γ δ is h v d = (suc d.0, f_member is d.1)

-- a letrec runs as its body
pub let_runs : {p : Program} {r : Levels} → IsLevels p r → (o : ℕ → TermTree) (t : TypeTree) (g : Group) (e : TermTree) (γ : Thunks) (δ : TypeTrees) (second : Second) → RunsAct r t (term_runs p (with_origins o e) (in_group (with_origins_group o g) γ δ) δ) second → RunsAct r t (term_runs p (with_origins o (letrec g e)) γ δ) second
unfolding with_origins
let_runs l o t g e γ δ second acts h' h m v al (e_letrec {n = j} d) = cost l j t v (second h) (acts h' h j v al d)

-- the variables outside of a group of the second side
pub outer_tied : {p : Program} {r : Levels} (ts vs : List TypeTree) (ρ' ρ : Renaming) (g : Group) (δ : TypeTrees) (inner γ : Thunks) → size_of g ≡ length ts → ((y : ℕ) → ρ' (y + length ts) ≡ ρ y) → TiedBy p r (with_more ts vs) ρ' (λ x. x) δ inner (in_group g γ δ) → TiedBy p r vs ρ (λ x. x) δ inner γ
outer_tied ts vs ρ' ρ g δ inner γ size moves names y t i =
    let k = names (y + length ts) t (more_past ts vs y ∙ i) in
    record {
      first = k.first;
      second = k.second;
      has_first = ap (thunk_at inner) (sym (moves y)) ∙ k.has_first;
      has_second = sym (outside_at g γ δ y) ∙ ap (λ m. thunk_at (in_group g γ δ) (y + m)) size ∙ k.has_second;
      acts = k.acts;
    }

module _ (p : Program) (sound : IsSound (setting_of p)) (typed : IsTyped p) (types : List TypeTree) (o : ℕ → TermTree) (are_closed : AreClosed (setting_of p) types) (have : OriginsTyped p types o) where
  pub right_acts : {kinds : List Kind} {vars : List TypeTree} {e : TermTree} {t u : TypeTree} {k : Kind} → AreTermTypes (setting_with p types) kinds vars → HasType (setting_with p types) kinds vars e u → HasKind (setting_of p) kinds t k → SameTypes t u → (n : ℕ) (ρ : Renaming) (δ : TypeTrees) (γ' γ : Thunks) → Kinded p kinds δ → TiedBy p (acts_from p n) vars ρ (λ x. x) δ γ' γ → (th : Thunk) → ((h : History) (v : Value) → term_has p (with_origins o e) γ δ h v → thunk_has p th h v) → RunsAct (acts_from p n) (closed_type t δ) (term_runs p (with_origins o (rename e ρ)) γ' δ) (thunk_has p th)
  right_acts {e = e} {t = t} g d kt same n ρ δ γ' γ known names th has =
      let full = sound_with p types sound are_closed in
      let l = from_turns p n in
      let alike = closed_same p sound δ known (type_kinded d full g).has kt (same_turned same) in
      runs_more l (closed_type t δ) (term_runs p (with_origins o (rename e ρ)) γ' δ) (term_has p (with_origins o e) γ δ) (thunk_has p th) has
      (same_acts sound l alike (term_runs p (with_origins o (rename e ρ)) γ' δ) (term_has p (with_origins o e) γ δ)
      (moved_acts p sound typed types o are_closed have ρ g d (acts_from p n) l δ γ' γ known names))

  -- renamed on both sides
  pub renamed_right : {kinds : List Kind} {vars : List TypeTree} {e : TermTree} {t u : TypeTree} {k : Kind} → AreTermTypes (setting_with p types) kinds vars → HasType (setting_with p types) kinds vars e u → HasKind (setting_of p) kinds t k → SameTypes t u → (n : ℕ) (ρ' ρ : Renaming) (δ : TypeTrees) (γ' γ : Thunks) → Kinded p kinds δ → TiedBy p (acts_from p n) vars ρ' ρ δ γ' γ → (second : Second) → ((h : History) (v : Value) → term_has p (with_origins o (rename e ρ)) γ δ h v → second h v) → RunsAct (acts_from p n) (closed_type t δ) (term_runs p (with_origins o (rename e ρ')) γ' δ) second
  renamed_right {e = e} {t = t} g d kt same n ρ' ρ δ γ' γ known names second has =
      let full = sound_with p types sound are_closed in
      let l = from_turns p n in
      let alike = closed_same p sound δ known (type_kinded d full g).has kt (same_turned same) in
      runs_more l (closed_type t δ) (term_runs p (with_origins o (rename e ρ')) γ' δ) (term_has p (with_origins o (rename e ρ)) γ δ) second has
      (same_acts sound l alike (term_runs p (with_origins o (rename e ρ')) γ' δ) (term_has p (with_origins o (rename e ρ)) γ δ)
      (renamed_acts p sound typed types o o ρ' ρ are_closed g d (origins_act p sound typed types o are_closed have) n δ γ' γ known names))
