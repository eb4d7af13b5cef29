-- A typed term with terms put for its variables acts as the term whose variables have their thunks.
use Rattle.std.specs.Prelude.{slice_get}
use Rattle.std.proofs.Common.{◌≡◌, ◌⊎◌, inl, inr, ℕ, suc, List, Some, refl, sym, ap, ◌∙◌, subst}
use Rattle.chw_types.specs.declared.kind.Kind.{Kind}
use Rattle.chw_types.specs.TypeTree.{TypeTree, ty_var, TypeTrees, type_and}
use Rattle.chw_types.specs.TypeMoves.{Renaming, sub as sub_type}
use Rattle.chw_terms.specs.declared.program.Program.{Program}
use Rattle.chw_terms.specs.TermMoves.{rename, Substitution, sub}
use Rattle.chw_terms.specs.TermTree.{TermTree, var}
use Rattle.chw_terms.specs.TypesMoved.{rename_types}
use Rattle.chw_terms.proofs.Renamed.{rename_rename, types_types, types_after_rename, types_ids}
use Rattle.chw_typing.specs.Scopes.{AreTermTypes}
use Rattle.chw_typing.specs.Programs.{AreClosed, IsSound, IsTyped, setting_of}
use Rattle.chw_typing.specs.Typing.{HasType}
use Rattle.chw_typing.proofs.Kinded.{typed_at, type_kinded}
use Rattle.chw_meaning.specs.Values.{History, Value, Thunk, Thunks, thunk_and, thunk_at, closed_type}
use Rattle.chw_meaning.specs.Eval.{e_var}
use Rattle.acts.specs.Levels.{Levels, later, term_runs, term_has, thunk_has}
use Rattle.acts.specs.Acts.{acts_from}
use Rattle.rewriting.specs.Origins.{with_origins}
use Rattle.acts.specs.Terms.{LooksAlike, TiedBy, Kinded, setting_with, OriginsTyped, StandsFor, ArePut}
use Rattle.acts.proofs.Closing.{closed_same}
use Rattle.acts.proofs.Filled.{filled, filled_put, filled_retyped, filled_renamed, variables_by, Carries, itself_keeps}
use Rattle.acts.proofs.Forms.{TermsAct}
use Rattle.acts.proofs.Globals.{Any, variables_act, globals_from, sound_with, made_typed, evaluated_at}
use Rattle.acts.proofs.HeadsAct.{heads_act}
use Rattle.acts.proofs.Levels.{IsLevels, from_turns, at_levels, runs_more}
use Rattle.acts.proofs.Names.{Variables, Lasts}
use Rattle.acts.proofs.SameActs.{Same, same_acts}
use Rattle.acts.proofs.Tied.{tied_later}
use Rattle.acts.proofs.Typed.{GlobalsAct, typed_acts}

module _ (p : Program) (sound : IsSound (setting_of p)) (typed : IsTyped p) (types : List TypeTree) (o : ℕ → TermTree) (closed : AreClosed (setting_of p) types) (has_types : OriginsTyped p types o) where
  -- the same under type binders: the type variables of the term are renamed on the first side
  record Stands (r : Levels) (t : TypeTree) (e' e : TermTree) (δ' δ : TypeTrees) (γ' γ : Thunks) : Type 0 where
    pub kinds : List Kind
    pub vars : List TypeTree
    pub body : TermTree
    pub type : TypeTree
    pub first : Renaming
    pub second : Renaming
    pub type_variables : Renaming
    pub type_env : TypeTrees
    pub is_first : e' ≡ rename_types (rename body first) type_variables
    pub variable : ℕ
    pub is_second : e ≡ var variable
    pub in_scope : AreTermTypes (setting_with p types) kinds vars
    pub has_type : HasType (setting_with p types) kinds vars body type
    pub same : Same p (closed_type type type_env) t
    pub known : Kinded p kinds type_env
    pub carries : Carries kinds (λ x. ty_var (type_variables x)) δ' type_env
    pub thunk : Thunk
    pub held : thunk_at γ variable ≡ Some thunk
    pub env : Thunks
    pub names : TiedBy p r vars first second type_env γ' env
    pub has : (h : History) (v : Value) → term_has p (with_origins o (rename body second)) env type_env h v → thunk_has p thunk h v

  stands_later : (r : Levels) → IsLevels p r → (i : ℕ) (t : TypeTree) (e' e : TermTree) (δ' δ : TypeTrees) (γ' γ : Thunks) → Stands r t e' e δ' δ γ' γ → Stands (later i r) t e' e δ' δ γ' γ
  stands_later r l i t e' e δ' δ γ' γ s =
      record {
        kinds = s.kinds;
        vars = s.vars;
        body = s.body;
        type = s.type;
        first = s.first;
        second = s.second;
        type_variables = s.type_variables;
        type_env = s.type_env;
        is_first = s.is_first;
        variable = s.variable;
        is_second = s.is_second;
        in_scope = s.in_scope;
        has_type = s.has_type;
        same = s.same;
        known = s.known;
        carries = s.carries;
        thunk = s.thunk;
        held = s.held;
        env = s.env;
        names = tied_later l i s.vars s.first s.second s.type_env γ' s.env s.names;
        has = s.has;
      }

  stands_under : (r : Levels) (t : TypeTree) (e' e : TermTree) (δ' δ : TypeTrees) (γ' γ : Thunks) (x' x : Thunk) → Stands r t e' e δ' δ γ' γ → Stands r t (rename e' suc) (rename e suc) δ' δ (thunk_and x' γ') (thunk_and x γ)
  unfolding rename
  stands_under r t e' e δ' δ γ' γ x' x s =
      record {
        kinds = s.kinds;
        vars = s.vars;
        body = s.body;
        type = s.type;
        first = λ y. suc (s.first y);
        second = s.second;
        type_variables = s.type_variables;
        type_env = s.type_env;
        is_first = ap (λ e. rename e suc) s.is_first ∙ sym (types_after_rename (rename s.body s.first) suc s.type_variables) ∙ ap (λ e. rename_types e s.type_variables) (rename_rename s.body s.first suc);
        variable = suc s.variable;
        is_second = ap (λ e. rename e suc) s.is_second;
        in_scope = s.in_scope;
        has_type = s.has_type;
        same = s.same;
        known = s.known;
        carries = s.carries;
        thunk = s.thunk;
        held = s.held;
        env = s.env;
        names = deeper;
        has = s.has;
      }
    where
      deeper : TiedBy p r s.vars (λ y. suc (s.first y)) s.second s.type_env (thunk_and x' γ') s.env
      deeper y u i = let k = s.names y u i in record { first = k.first; second = k.second; has_first = k.has_first; has_second = k.has_second; acts = k.acts }

  stands_under_type : (r : Levels) (t : TypeTree) (e' e : TermTree) (δ' δ : TypeTrees) (γ' γ : Thunks) (c : TypeTree) → Stands r t e' e δ' δ γ' γ → Stands r t (rename_types e' suc) (rename_types e suc) (type_and c δ') (type_and c δ) γ' γ
  unfolding rename_types sub_type
  stands_under_type r t e' e δ' δ γ' γ c s =
      record {
        kinds = s.kinds;
        vars = s.vars;
        body = s.body;
        type = s.type;
        first = s.first;
        second = s.second;
        type_variables = λ y. suc (s.type_variables y);
        type_env = s.type_env;
        is_first = ap (λ e. rename_types e suc) s.is_first ∙ types_types (rename s.body s.first) s.type_variables suc;
        variable = s.variable;
        is_second = ap (λ e. rename_types e suc) s.is_second;
        in_scope = s.in_scope;
        has_type = s.has_type;
        same = s.same;
        known = s.known;
        carries = λ y k i. s.carries y k i;
        thunk = s.thunk;
        held = s.held;
        env = s.env;
        names = s.names;
        has = s.has;
      }

  stands_lasts : Lasts p Stands
  stands_lasts = record { later_too = stands_later; under_variable = stands_under; under_type_variable = stands_under_type }

  -- what stands for a variable acts as the variable
  stands_acts : (r : Levels) → IsLevels p r → (t : TypeTree) (e' e : TermTree) (δ' δ : TypeTrees) (γ' γ : Thunks) → Stands r t e' e δ' δ γ' γ → TermsAct p r t (with_origins o e') γ' δ' (with_origins o e) γ δ
  unfolding with_origins
  stands_acts r l t e' e δ' δ γ' γ s =
      let globals = at_levels l (λ q. GlobalsAct p q) (globals_from p sound typed) in
      let u = closed_type s.type s.type_env in
      let moved = with_origins o (rename_types (rename s.body s.first) s.type_variables) in
      let own = with_origins o (rename s.body s.second) in
      let acts = variables_act p types (sound_with p types sound closed) o o (λ t. t) (λ t. t) itself_keeps itself_keeps Any (λ c δ' δ h. tt) (made_typed p sound typed types o closed has_types) s.has_type s.in_scope r l s.first s.second (λ x. ty_var (s.type_variables x)) ty_var s.type_env δ' s.type_env γ' s.env s.known s.carries (evaluated_at p s.kinds s.type_env s.known) tt s.names globals in
      let first = subst (λ a. TermsAct p r u a γ' δ' (filled o (λ t. t) s.body (variables_by s.second) ty_var) s.env s.type_env) (filled_retyped o s.body s.first s.type_variables) acts in
      let both : TermsAct p r u moved γ' δ' own s.env s.type_env = subst (λ a. TermsAct p r u moved γ' δ' a s.env s.type_env) (filled_renamed o s.body s.second) first in
      let at = same_acts sound l s.same (term_runs p moved γ' δ') (term_has p own s.env s.type_env) both in
      let result = runs_more l t (term_runs p moved γ' δ') (term_has p own s.env s.type_env) (term_has p (var s.variable) γ δ) (λ h v q. let f = s.has h v q in (suc f.0, e_var s.held f.1)) at in
      subst (λ e'. TermsAct p r t (with_origins o e') γ' δ' (with_origins o e) γ δ) (sym s.is_first)
      (subst (λ e. TermsAct p r t moved γ' δ' (with_origins o e) γ δ) (sym s.is_second) result)

  -- terms put for the variables
  pub put_terms_act : {kinds : List Kind} {vars : List TypeTree} {e : TermTree} {t : TypeTree} (σ : Substitution) (ρ : Renaming) → AreTermTypes (setting_with p types) kinds vars → HasType (setting_with p types) kinds vars e t → (n : ℕ) (δ : TypeTrees) (γ' γ : Thunks) → Kinded p kinds δ → ArePut p types o kinds (acts_from p n) vars σ ρ δ γ' γ → TermsAct p (acts_from p n) (closed_type t δ) (with_origins o (sub e σ)) γ' δ (with_origins o (rename e ρ)) γ δ
  put_terms_act {kinds} {vars} {e} {t} σ ρ g d n δ γ' γ known put =
      let full = sound_with p types sound closed in
      let acts = typed_acts p types full o o (λ t. t) (λ t. t) itself_keeps itself_keeps Any (λ c δ' δ h. tt) (made_typed p sound typed types o closed has_types) (heads_act p sound) Stands stands_lasts stands_acts d g (acts_from p n) (from_turns p n) σ (variables_by ρ) ty_var ty_var δ δ δ γ' γ
      (record { known = known; first = evaluated_at p kinds δ known; second = evaluated_at p kinds δ known; types = tt; names = λ x u i. name x u i (put x u i); globals = globals_from p sound typed n }) in
      subst (λ a. TermsAct p (acts_from p n) (closed_type t δ) a γ' δ (with_origins o (rename e ρ)) γ δ) (filled_put o e σ)
      (subst (λ a. TermsAct p (acts_from p n) (closed_type t δ) (filled o (λ t. t) e σ ty_var) γ' δ a γ δ) (filled_renamed o e ρ) acts)
    where
      name : (x : ℕ) (u : TypeTree) → slice_get vars x ≡ Some u → ((y : ℕ) × (σ x ≡ var y) × LooksAlike p (acts_from p n) (closed_type u δ) y (ρ x) γ' γ) ⊎ StandsFor p types o kinds (acts_from p n) u (σ x) (ρ x) δ γ' γ → Variables p (acts_from p n) (closed_type u δ) (σ x) (var (ρ x)) γ' γ ⊎ Stands (acts_from p n) (closed_type u δ) (σ x) (var (ρ x)) δ δ γ' γ
      name x u i (inl q) = inl (record { first = q.0; second = ρ x; is_first = q.1; is_second = refl; look = q.2 })
      name x u i (inr s) =
          let kind = typed_at (setting_with p types) kinds vars x u g i in
          inr (record {
            kinds = kinds;
            vars = s.vars;
            body = s.body;
            type = s.type;
            first = s.first;
            second = s.second;
            type_variables = λ y. y;
            type_env = δ;
            is_first = s.is ∙ sym (types_ids (rename s.body s.first));
            variable = ρ x;
            is_second = refl;
            in_scope = s.in_scope;
            has_type = s.typed;
            same = closed_same p sound δ known (type_kinded s.typed (sound_with p types sound closed) s.in_scope).has kind.has s.same;
            known = known;
            carries = evaluated_at p kinds δ known;
            thunk = s.thunk;
            held = s.held;
            env = s.env;
            names = s.names;
            has = s.has;
          })
