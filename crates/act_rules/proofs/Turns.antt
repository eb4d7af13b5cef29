-- Environments of which the bindings act so where they do with a turn fewer.
use Rattle.std.specs.Prelude.{slice_get}
use Rattle.std.proofs.Common.{◌≡◌, ◌⊎◌, inl, inr, ℕ, suc, zero, List, Some, subst}
use Rattle.chw_types.specs.TypeTree.{TypeTree, TypeTrees}
use Rattle.chw_types.specs.TypeMoves.{Renaming}
use Rattle.chw_terms.specs.declared.program.Program.{Program}
use Rattle.chw_terms.specs.TermTree.{TermTree, Group}
use Rattle.chw_meaning.specs.Values.{Thunk, member, Thunks, thunk_at, closed_type, in_group, body_at}
use Rattle.chw_meaning.specs.Eval.{Evals, f_member}
use Rattle.chw_meaning.proofs.Once.{same_some}
use Rattle.acts.specs.Levels.{Second, RunsAct, term_runs, thunk_runs, thunk_has}
use Rattle.acts.specs.Acts.{acts_from}
use Rattle.acts.specs.Terms.{LooksAlike, TiedBy}
use Rattle.acts.proofs.Levels.{at_end, from_turns, more}
use Rattle.acts.proofs.Tied.{tied_later}

-- a binding whose right side acts so acts so with a turn more
member_next : (p : Program) (n : ℕ) (t : TypeTree) (g : Group) (i : ℕ) (e : TermTree) (γ : Thunks) (δ : TypeTrees) (second : Second) → body_at g i ≡ Some e → RunsAct (acts_from p n) t (term_runs p e (in_group g γ δ) δ) second → RunsAct (acts_from p (suc n)) t (thunk_runs p (member g i γ δ)) second
unfolding acts_from
member_next p n t g i e γ δ second is acts h' h m v al (f_member {n = j} found d) =
    more (from_turns p n) j t v (second h) (second h) (λ w s. s) (acts h' h j v al (subst (λ e2. Evals p j e2 (in_group g γ δ) δ h' v) (same_some found is) d))

falls_once : (p : Program) (n : ℕ) (vars : List TypeTree) (ρ' ρ : Renaming) (δ : TypeTrees) (γ' γ : Thunks) → TiedBy p (acts_from p (suc n)) vars ρ' ρ δ γ' γ → TiedBy p (acts_from p n) vars ρ' ρ δ γ' γ
unfolding acts_from
falls_once p n vars ρ' ρ δ γ' γ names = tied_later (from_turns p (suc n)) (suc zero) vars ρ' ρ δ γ' γ names

module _ (p : Program) (vars : List TypeTree) (δ : TypeTrees) (γ' γ : Thunks) (all : List TypeTree) (ρ' ρ : Renaming) (g' : Group) (inner : Thunks) where
  -- the variables outside of both groups act so
  abbrev pub Outside : ℕ → Type 0
  Outside n = TiedBy p (acts_from p n) vars (λ x. x) (λ x. x) δ γ' γ

  -- all variables act so
  abbrev pub Inside : ℕ → Type 0
  Inside n = TiedBy p (acts_from p n) all ρ' ρ δ (in_group g' γ' δ) inner

  -- a variable from outside
  abbrev pub OuterLooks : ℕ → TypeTree → Type 0
  OuterLooks x t = (n : ℕ) → Outside n → LooksAlike p (acts_from p n) (closed_type t δ) (ρ' x) (ρ x) (in_group g' γ' δ) inner

  -- on the first side a binding, whose right side acts as the thunk of the second side
  pub record MemberLooks (x : ℕ) (t : TypeTree) : Type 0 where
    pub place : ℕ
    pub right : TermTree
    pub second : Thunk
    pub has_first : thunk_at (in_group g' γ' δ) (ρ' x) ≡ Some (member g' place γ' δ)
    pub has_right : body_at g' place ≡ Some right
    pub has_second : thunk_at inner (ρ x) ≡ Some second
    pub acts : (n : ℕ) → Outside n → Inside n → RunsAct (acts_from p n) (closed_type t δ) (term_runs p right (in_group g' γ' δ) δ) (thunk_has p second)

  abbrev pub AllLook : Type 0
  AllLook = (x : ℕ) (t : TypeTree) → slice_get all x ≡ Some t → OuterLooks x t ⊎ MemberLooks x t

  pub by_turns : AllLook → (n : ℕ) → Outside n → Inside n
  by_turns looks zero outside x t i = at (looks x t i)
    where
      at : OuterLooks x t ⊎ MemberLooks x t → LooksAlike p (acts_from p zero) (closed_type t δ) (ρ' x) (ρ x) (in_group g' γ' δ) inner
      at (inl look) = look zero outside
      at (inr k) = record { first = member g' k.place γ' δ; second = k.second; has_first = k.has_first; has_second = k.has_second; acts = λ h' h m v al d. at_end p m (closed_type t δ) v (thunk_has p k.second h) }
  by_turns looks (suc n) outside x t i = at (by_turns looks n (falls_once p n vars (λ x. x) (λ x. x) δ γ' γ outside)) (looks x t i)
    where
      at : Inside n → OuterLooks x t ⊎ MemberLooks x t → LooksAlike p (acts_from p (suc n)) (closed_type t δ) (ρ' x) (ρ x) (in_group g' γ' δ) inner
      at inside (inl look) = look (suc n) outside
      at inside (inr k) =
          record { first = member g' k.place γ' δ; second = k.second; has_first = k.has_first; has_second = k.has_second; acts = member_next p n (closed_type t δ) g' k.place k.right γ' δ (thunk_has p k.second) k.has_right (k.acts n (falls_once p n vars (λ x. x) (λ x. x) δ γ' γ outside) inside) }
