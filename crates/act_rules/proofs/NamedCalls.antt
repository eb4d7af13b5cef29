-- A term with a name of its own.
use Rattle.std.proofs.Common.{ℕ, List, refl}
use Rattle.chw_types.specs.declared.kind.Kind.{Kind}
use Rattle.chw_types.specs.TypeTree.{TypeTree, TypeTrees}
use Rattle.chw_types.specs.TypeMoves.{raised}
use Rattle.chw_terms.specs.declared.program.Program.{Program}
use Rattle.chw_terms.specs.TermMoves.{shift}
use Rattle.chw_terms.specs.TermTree.{TermTree, var, letrec, Group, no_bindings, bind}
use Rattle.chw_typing.specs.Scopes.{AreTermTypes}
use Rattle.chw_typing.specs.Programs.{AreClosed, IsSound, IsTyped, setting_of}
use Rattle.chw_typing.specs.Typing.{HasType}
use Rattle.chw_meaning.specs.Values.{member, Thunks, closed_type, in_group}
use Rattle.acts.specs.Levels.{term_has}
use Rattle.acts.specs.Acts.{acts_from}
use Rattle.acts.specs.Terms.{TiedBy, Kinded, ActsUnder, OriginsTyped, setting_with}
use Rattle.rewriting.specs.Origins.{with_origins}
use Rattle.acts.proofs.Forms.{TermsAct}
use Rattle.acts.proofs.Levels.{from_turns}
use Rattle.act_rules.proofs.Lets.{tied_past, in_let_acts}
use Rattle.act_rules.proofs.RuleMoves.{moved_acts}
use Rattle.act_rules.proofs.CaseMoves.{var_runs, bound_runs}

-- the binding of a term to a name, after the made definitions
abbrev pub name_of : (ℕ → TermTree) → TypeTree → TermTree → Group
name_of o u x = bind u (with_origins o (shift x 0 1)) no_bindings

module _ (p : Program) (sound : IsSound (setting_of p)) (typed : IsTyped p) (types : List TypeTree) (o : ℕ → TermTree) (are_closed : AreClosed (setting_of p) types) (have : OriginsTyped p types o) where
  -- variables outside of the name
  pub past_name : (vars : List TypeTree) (u : TypeTree) (x : TermTree) (n : ℕ) (δ : TypeTrees) (γ' γ : Thunks) → TiedBy p (acts_from p n) vars (λ x. x) (λ x. x) δ γ' γ → TiedBy p (acts_from p n) vars (raised 0 1) (λ x. x) δ (in_group (name_of o u x) γ' δ) γ
  past_name vars u x n δ γ' γ names = tied_past vars (name_of o u x) 1 δ δ γ' γ refl names

  -- the name acts as the term that it is for
  pub name_acts : {kinds : List Kind} {vars : List TypeTree} {t : TypeTree} (u : TypeTree) (x : TermTree) → AreTermTypes (setting_with p types) kinds vars → HasType (setting_with p types) kinds vars x t → (n : ℕ) (δ : TypeTrees) (γ' γ : Thunks) → Kinded p kinds δ → TiedBy p (acts_from p n) vars (λ x. x) (λ x. x) δ γ' γ → TermsAct p (acts_from p n) (closed_type t δ) (var 0) (in_group (name_of o u x) γ' δ) δ (with_origins o x) γ δ
  name_acts {vars = vars} {t = t} u x g d n δ γ' γ known names =
      let l = from_turns p n in
      let Γ = in_group (name_of o u x) γ' δ in
      let second = term_has p (with_origins o x) γ δ in
      let moved = moved_acts p sound typed types o are_closed have (raised 0 1) g d (acts_from p n) l δ Γ γ known (past_name vars u x n δ γ' γ names) in
      var_runs l (closed_type t δ) 0 (member (name_of o u x) 0 γ' δ) Γ δ second refl (bound_runs l u (closed_type t δ) (with_origins o (shift x 0 1)) γ' δ second moved)

  pub named_result : {kinds : List Kind} {vars : List TypeTree} {t : TypeTree} {e : TermTree} (u : TypeTree) → AreTermTypes (setting_with p types) kinds vars → HasType (setting_with p types) kinds vars e t → ActsUnder p kinds vars (with_origins o (letrec (bind u (shift e 0 1) no_bindings) (var 0))) (with_origins o e) t
  unfolding with_origins
  named_result {t = t} {e = e} u g d n δ γ' γ known names =
      in_let_acts p sound typed types o are_closed have t (bind u (shift e 0 1) no_bindings) (var 0) e n δ γ' γ (name_acts u e g d n δ γ' γ known names)
