-- What stands for the variables of two environments stays so under binders, and with fewer turns.
use Rattle.std.specs.Prelude.{slice_get}
use Rattle.std.proofs.Common.{◌≡◌, ◌⊎◌, inl, inr, ℕ, suc, zero, List, [], ◌∷◌, ◌++◌, length, map, reverse, Some, refl, sym, ap, ◌∙◌, subst}
use Rattle.chw_types.specs.TypeTree.{TypeTree, TypeTrees, type_and}
use Rattle.chw_types.specs.TypeMoves.{Renaming, shift}
use Rattle.chw_terms.specs.declared.program.Program.{Program}
use Rattle.chw_terms.specs.TermMoves.{rename, Substitution, up, up_by, under_type}
use Rattle.chw_terms.specs.TermTree.{TermTree, var, Group, no_bindings, bind, size_of}
use Rattle.chw_terms.specs.TypesMoved.{rename_types}
use Rattle.chw_typing.specs.Scopes.{under_binder, with_more}
use Rattle.chw_typing.proofs.Lists.{found_before_map, turned_onto}
use Rattle.chw_meaning.specs.Values.{Thunk, member, Thunks, none, thunk_and, closed_type, joined, members, in_group}
use Rattle.chw_meaning.specs.Eval.{plus}
use Rattle.acts.specs.Levels.{Levels, later, thunk_runs, thunk_has, ThunksAct}
use Rattle.acts.specs.Acts.{AllAct}
use Rattle.acts.specs.Terms.{LooksAlike, TiedBy}
use Rattle.acts.proofs.Closing.{closed_shift}
use Rattle.acts.proofs.Levels.{IsLevels, runs_later}
use Rattle.acts.proofs.Tied.{plus_suc, plus_zero}

-- both terms are variables, and these look alike
pub record Variables (p : Program) (r : Levels) (t : TypeTree) (e' e : TermTree) (γ' γ : Thunks) : Type 0 where
  pub first : ℕ
  pub second : ℕ
  pub is_first : e' ≡ var first
  pub is_second : e ≡ var second
  pub look : LooksAlike p r t first second γ' γ

-- another relation of terms in two environments
abbrev pub Relation : Type 1
Relation = Levels → TypeTree → TermTree → TermTree → TypeTrees → TypeTrees → Thunks → Thunks → Type 0

-- it stays with fewer turns, and under one more variable or type variable
pub record Lasts (p : Program) (related : Relation) : Type 1 where
  pub later_too : (r : Levels) → IsLevels p r → (i : ℕ) (t : TypeTree) (e' e : TermTree) (δ' δ : TypeTrees) (γ' γ : Thunks) → related r t e' e δ' δ γ' γ → related (later i r) t e' e δ' δ γ' γ
  pub under_variable : (r : Levels) (t : TypeTree) (e' e : TermTree) (δ' δ : TypeTrees) (γ' γ : Thunks) (x' x : Thunk) → related r t e' e δ' δ γ' γ → related r t (rename e' suc) (rename e suc) δ' δ (thunk_and x' γ') (thunk_and x γ)
  pub under_type_variable : (r : Levels) (t : TypeTree) (e' e : TermTree) (δ' δ : TypeTrees) (γ' γ : Thunks) (c : TypeTree) → related r t e' e δ' δ γ' γ → related r t (rename_types e' suc) (rename_types e suc) (type_and c δ') (type_and c δ) γ' γ

-- for each variable of these types both sides put a variable, and these look alike; or they put terms that are so related
abbrev pub Named : Program → Relation → Levels → List TypeTree → Substitution → Substitution → TypeTrees → TypeTrees → TypeTrees → Thunks → Thunks → Type 0
Named p related r vars σ' σ δ0 δ' δ γ' γ =
    (x : ℕ) (t : TypeTree) → slice_get vars x ≡ Some t → Variables p r (closed_type t δ0) (σ' x) (σ x) γ' γ ⊎ related r (closed_type t δ0) (σ' x) (σ x) δ' δ γ' γ

-- variables that are renamed on both sides
pub named_by : (p : Program) (related : Relation) (r : Levels) (vars : List TypeTree) (ρ' ρ : Renaming) (δ0 δ' δ : TypeTrees) (γ' γ : Thunks) → TiedBy p r vars ρ' ρ δ0 γ' γ → Named p related r vars (λ x. var (ρ' x)) (λ x. var (ρ x)) δ0 δ' δ γ' γ
named_by p related r vars ρ' ρ δ0 δ' δ γ' γ h x t e = inl (record { first = ρ' x; second = ρ x; is_first = refl; is_second = refl; look = h x t e })

pub look_later : {p : Program} {r : Levels} → IsLevels p r → (i : ℕ) (t : TypeTree) (x' x : ℕ) (γ' γ : Thunks) → LooksAlike p r t x' x γ' γ → LooksAlike p (later i r) t x' x γ' γ
look_later {p} l i t x' x γ' γ k = record { first = k.first; second = k.second; has_first = k.has_first; has_second = k.has_second; acts = runs_later l i t (thunk_runs p k.first) (thunk_has p k.second) k.acts }

module _ (p : Program) (related : Relation) (lasts : Lasts p related) where
  pub named_later : (r : Levels) → IsLevels p r → (i : ℕ) (vars : List TypeTree) (σ' σ : Substitution) (δ0 δ' δ : TypeTrees) (γ' γ : Thunks) → Named p related r vars σ' σ δ0 δ' δ γ' γ → Named p related (later i r) vars σ' σ δ0 δ' δ γ' γ
  named_later r l i vars σ' σ δ0 δ' δ γ' γ h x t e = moved (h x t e)
    where
      u : TypeTree
      u = closed_type t δ0

      moved : Variables p r u (σ' x) (σ x) γ' γ ⊎ related r u (σ' x) (σ x) δ' δ γ' γ → Variables p (later i r) u (σ' x) (σ x) γ' γ ⊎ related (later i r) u (σ' x) (σ x) δ' δ γ' γ
      moved (inl v) = inl (record { first = v.first; second = v.second; is_first = v.is_first; is_second = v.is_second; look = look_later l i u v.first v.second γ' γ v.look })
      moved (inr k) = inr (lasts.later_too r l i u (σ' x) (σ x) δ' δ γ' γ k)

  deeper : (r : Levels) (u : TypeTree) (e' e : TermTree) (δ' δ : TypeTrees) (γ' γ : Thunks) (x' x : Thunk) → Variables p r u e' e γ' γ ⊎ related r u e' e δ' δ γ' γ → Variables p r u (rename e' suc) (rename e suc) (thunk_and x' γ') (thunk_and x γ) ⊎ related r u (rename e' suc) (rename e suc) δ' δ (thunk_and x' γ') (thunk_and x γ)
  unfolding rename
  deeper r u e' e δ' δ γ' γ x' x (inl v) =
      inl (record { first = suc v.first; second = suc v.second; is_first = ap (λ e. rename e suc) v.is_first; is_second = ap (λ e. rename e suc) v.is_second; look = record { first = v.look.first; second = v.look.second; has_first = v.look.has_first; has_second = v.look.has_second; acts = v.look.acts } })
  deeper r u e' e δ' δ γ' γ x' x (inr k) = inr (lasts.under_variable r u e' e δ' δ γ' γ x' x k)

  -- one more variable
  pub named_and : (r : Levels) (t : TypeTree) (vars : List TypeTree) (σ' σ : Substitution) (δ0 δ' δ : TypeTrees) (x' x : Thunk) (γ' γ : Thunks) → ThunksAct p r (closed_type t δ0) x' x → Named p related r vars σ' σ δ0 δ' δ γ' γ → Named p related r (t ∷ vars) (up σ') (up σ) δ0 δ' δ (thunk_and x' γ') (thunk_and x γ)
  unfolding up
  named_and r t vars σ' σ δ0 δ' δ x' x γ' γ acts h zero u e =
      let is : t ≡ u = cc in
      inl (record { first = zero; second = zero; is_first = refl; is_second = refl; look = record { first = x'; second = x; has_first = refl; has_second = refl; acts = subst (λ u. ThunksAct p r (closed_type u δ0) x' x) is acts } })
  named_and r t vars σ' σ δ0 δ' δ x' x γ' γ acts h (suc y) u e = deeper r (closed_type u δ0) (σ' y) (σ y) δ' δ γ' γ x' x (h y u e)

  typed_deeper : (r : Levels) (u : TypeTree) (e' e : TermTree) (δ' δ : TypeTrees) (γ' γ : Thunks) (c : TypeTree) → Variables p r u e' e γ' γ ⊎ related r u e' e δ' δ γ' γ → Variables p r u (rename_types e' suc) (rename_types e suc) γ' γ ⊎ related r u (rename_types e' suc) (rename_types e suc) (type_and c δ') (type_and c δ) γ' γ
  unfolding rename_types
  typed_deeper r u e' e δ' δ γ' γ c (inl v) =
      inl (record { first = v.first; second = v.second; is_first = ap (λ e. rename_types e suc) v.is_first; is_second = ap (λ e. rename_types e suc) v.is_second; look = v.look })
  typed_deeper r u e' e δ' δ γ' γ c (inr k) = inr (lasts.under_type_variable r u e' e δ' δ γ' γ c k)

  -- one more type variable
  pub named_type : (r : Levels) (c : TypeTree) (vars : List TypeTree) (σ' σ : Substitution) (δ0 δ' δ : TypeTrees) (γ' γ : Thunks) → Named p related r vars σ' σ δ0 δ' δ γ' γ → Named p related r (under_binder vars) (under_type σ') (under_type σ) (type_and c δ0) (type_and c δ') (type_and c δ) γ' γ
  named_type r c vars σ' σ δ0 δ' δ γ' γ h x u e =
      let q = found_before_map (λ t. shift t 0 1) vars x u e in
      let same = sym (closed_shift q.0 c δ0) ∙ ap (λ u. closed_type u (type_and c δ0)) q.2 in
      subst (λ t. Variables p r t (rename_types (σ' x) suc) (rename_types (σ x) suc) γ' γ ⊎ related r t (rename_types (σ' x) suc) (rename_types (σ x) suc) (type_and c δ') (type_and c δ) γ' γ) same
      (typed_deeper r (closed_type q.0 δ0) (σ' x) (σ x) δ' δ γ' γ c (h x q.0 q.1))

  -- several more variables, the innermost first
  pub named_joined : (r : Levels) (us vars : List TypeTree) (σ' σ : Substitution) (δ0 δ' δ : TypeTrees) (xs' xs γ' γ : Thunks) → AllAct p r (map (λ t. closed_type t δ0) us) xs' xs → Named p related r vars σ' σ δ0 δ' δ γ' γ → Named p related r (us ++ vars) (up_by (length us) σ') (up_by (length us) σ) δ0 δ' δ (joined xs' γ') (joined xs γ)
  unfolding up_by
  named_joined r [] vars σ' σ δ0 δ' δ none none γ' γ a h = h
  named_joined r (u ∷ us) vars σ' σ δ0 δ' δ (thunk_and x' xs') (thunk_and x xs) γ' γ a h =
      named_and r u (us ++ vars) (up_by (length us) σ') (up_by (length us) σ) δ0 δ' δ x' x (joined xs' γ') (joined xs γ) a.0 (named_joined r us vars σ' σ δ0 δ' δ xs' xs γ' γ a.1 h)
  named_joined r [] vars σ' σ δ0 δ' δ none (thunk_and x xs) γ' γ a h = absurd a
  named_joined r [] vars σ' σ δ0 δ' δ (thunk_and x' xs') xs γ' γ a h = absurd a
  named_joined r (u ∷ us) vars σ' σ δ0 δ' δ none xs γ' γ a h = absurd a
  named_joined r (u ∷ us) vars σ' σ δ0 δ' δ (thunk_and x' xs') none γ' γ a h = absurd a

  up_by_up : (n : ℕ) (σ : Substitution) → up_by n (up σ) ≡ up (up_by n σ)
  unfolding up_by
  up_by_up zero σ = refl
  up_by_up (suc n) σ = ap up (up_by_up n σ)

  -- members of two groups, from this number on
  abbrev FromActs : Levels → List TypeTree → TypeTrees → Group → Thunks → TypeTrees → Group → Thunks → TypeTrees → ℕ → Type 0
  FromActs r us δ0 all' γ' δ' all γ δ k =
      (i : ℕ) (t : TypeTree) → slice_get us i ≡ Some t → ThunksAct p r (closed_type t δ0) (member all' (plus i k) γ' δ') (member all (plus i k) γ δ)

  named_members : (r : Levels) (δ0 : TypeTrees) (all' all : Group) (γ' γ : Thunks) (δ' δ : TypeTrees) (us : List TypeTree) (g' g : Group) → size_of g' ≡ length us → size_of g ≡ length us → (k : ℕ) (vars : List TypeTree) (σ' σ : Substitution) (before' before : Thunks) → FromActs r us δ0 all' γ' δ' all γ δ k → Named p related r vars σ' σ δ0 δ' δ before' before → Named p related r (reverse us ++ vars) (up_by (length us) σ') (up_by (length us) σ) δ0 δ' δ (members all' g' k γ' δ' before') (members all g k γ δ before)
  unfolding up_by
  named_members r δ0 all' all γ' γ δ' δ [] no_bindings no_bindings a b k vars σ' σ before' before acts h = h
  named_members r δ0 all' all γ' γ δ' δ [] no_bindings (bind t e g) a b k vars σ' σ before' before acts h = cc
  named_members r δ0 all' all γ' γ δ' δ [] (bind t e g) g2 a b k vars σ' σ before' before acts h = cc
  named_members r δ0 all' all γ' γ δ' δ (u ∷ us) no_bindings g a b k vars σ' σ before' before acts h = cc
  named_members r δ0 all' all γ' γ δ' δ (u ∷ us) (bind t e g) no_bindings a b k vars σ' σ before' before acts h = cc
  named_members r δ0 all' all γ' γ δ' δ (u ∷ us) (bind t' e' g') (bind t e g) a b k vars σ' σ before' before acts h =
      let x' = member all' k γ' δ' in
      let x = member all k γ δ in
      let inner = named_and r u vars σ' σ δ0 δ' δ x' x before' before (acts zero u refl) h in
      let rest : FromActs r us δ0 all' γ' δ' all γ δ (suc k) = λ i t q. subst (λ j. ThunksAct p r (closed_type t δ0) (member all' j γ' δ') (member all j γ δ)) (sym (plus_suc i k)) (acts (suc i) t q) in
      let all_of = named_members r δ0 all' all γ' γ δ' δ us g' g (cc) (cc) (suc k) (u ∷ vars) (up σ') (up σ) (thunk_and x' before') (thunk_and x before) rest inner in
      subst (λ vs. Named p related r vs (up (up_by (length us) σ')) (up (up_by (length us) σ)) δ0 δ' δ (members all' g' (suc k) γ' δ' (thunk_and x' before')) (members all g (suc k) γ δ (thunk_and x before))) (sym (turned_onto u us vars))
      (subst (λ π. Named p related r (reverse us ++ u ∷ vars) π (up (up_by (length us) σ)) δ0 δ' δ (members all' g' (suc k) γ' δ' (thunk_and x' before')) (members all g (suc k) γ δ (thunk_and x before))) (up_by_up (length us) σ')
      (subst (λ π. Named p related r (reverse us ++ u ∷ vars) (up_by (length us) (up σ')) π δ0 δ' δ (members all' g' (suc k) γ' δ' (thunk_and x' before')) (members all g (suc k) γ δ (thunk_and x before))) (up_by_up (length us) σ) all_of))

  -- the variables of a recursive group
  pub named_group : (r : Levels) (δ0 : TypeTrees) (g' g : Group) (γ' γ : Thunks) (δ' δ : TypeTrees) (us vars : List TypeTree) (σ' σ : Substitution) → size_of g' ≡ length us → size_of g ≡ length us → ((i : ℕ) (t : TypeTree) → slice_get us i ≡ Some t → ThunksAct p r (closed_type t δ0) (member g' i γ' δ') (member g i γ δ)) → Named p related r vars σ' σ δ0 δ' δ γ' γ → Named p related r (with_more us vars) (up_by (length us) σ') (up_by (length us) σ) δ0 δ' δ (in_group g' γ' δ') (in_group g γ δ)
  named_group r δ0 g' g γ' γ δ' δ us vars σ' σ a b acts h =
      named_members r δ0 g' g γ' γ δ' δ us g' g a b zero vars σ' σ γ' γ (λ i t q. subst (λ j. ThunksAct p r (closed_type t δ0) (member g' j γ' δ') (member g j γ δ)) (sym (plus_zero i)) (acts i t q)) h
