-- A term acts as another of its type: in all environments that act so, for any number of turns.
use Rattle.std.specs.Prelude.{◌≡◌, ◌⊎◌, ℕ, List, [], ◌∷◌, map, length, Some, slice_get}
use Rattle.chw_types.specs.declared.kind.Kind.{Kind}
use Rattle.chw_types.specs.TypeTree.{TypeTree, TypeTrees, no_types, type_and}
use Rattle.chw_types.specs.TypeMoves.{Renaming}
use Rattle.chw_types.specs.SameTypes.{SameTypes}
use Rattle.chw_terms.specs.declared.program.Program.{Program}
use Rattle.chw_terms.specs.TermTree.{TermTree, var}
use Rattle.chw_terms.specs.Evaluated.{evaluated}
use Rattle.chw_terms.specs.TermMoves.{rename, Substitution}
use Rattle.chw_typing.specs.Scopes.{Setting, HasKind, AreTermTypes}
use Rattle.chw_typing.specs.Programs.{setting_of}
use Rattle.chw_typing.specs.Typing.{HasType, HasTypeUpTo}
use Rattle.chw_meaning.specs.Values.{History, Value, Thunk, Thunks, thunk_at, closed_type}
use Rattle.rewriting.specs.Origins.{with_origins}
use Rattle.acts.specs.Levels.{Levels, RunsAct, term_runs, term_has, thunk_has, ThunksAct}
use Rattle.acts.specs.Acts.{acts_from}

-- both variables have a thunk, and these act so at the type
pub record LooksAlike
    (p : Program) (r : Levels) (t : TypeTree) (x' x : ℕ) (γ' γ : Thunks) : Type 0
  where
    pub first : Thunk
    pub second : Thunk
    pub has_first : thunk_at γ' x' ≡ Some first
    pub has_second : thunk_at γ x ≡ Some second
    pub acts : ThunksAct p r t first second

-- the variables of these types, as each side renames them, have thunks that act so
abbrev pub TiedBy :
    Program → Levels → List TypeTree → Renaming → Renaming → TypeTrees → Thunks → Thunks → Type 0
TiedBy p r vars ρ' ρ δ γ' γ =
    (x : ℕ) (t : TypeTree) → slice_get vars x ≡ Some t
    → LooksAlike p r (closed_type t δ) (ρ' x) (ρ x) γ' γ

-- for each of these kinds a closed type of it, with its naturals evaluated; further types may
-- follow
abbrev pub Kinded : Program → List Kind → TypeTrees → Type 0
Kinded p [] δ = Unit {0}
Kinded p (k ∷ kinds) no_types = ⊥
Kinded p (k ∷ kinds) (type_and c δ) =
    HasKind (setting_of p) [] c k × (evaluated c ≡ c) × Kinded p kinds δ

-- with type variables of these kinds and variables of these types in scope, the first term acts as
-- the second at the type
abbrev pub ActsUnder :
    Program → List Kind → List TypeTree → TermTree → TermTree → TypeTree → Type 0
ActsUnder p kinds vars e' e t =
    (n : ℕ) (δ : TypeTrees) (γ' γ : Thunks)
    → Kinded p kinds δ
    → TiedBy p (acts_from p n) vars (λ x. x) (λ x. x) δ γ' γ
    → RunsAct (acts_from p n) (closed_type t δ) (term_runs p e' γ' δ) (term_has p e γ δ)

-- of closed terms; so in every environment
abbrev pub ActsAs : Program → TypeTree → TermTree → TermTree → Type 0
ActsAs p t e' e = ActsUnder p [] [] e' e t

-- a chain of closed terms, each of which acts as the next
pub data Chain (p : Program) (t : TypeTree) : TermTree → TermTree → Type 0 where
  chain_end : {e : TermTree} → Chain p t e e
  chain_and : {c b a : TermTree} → ActsAs p t c b → Chain p t b a → Chain p t c a

-- the environment with a type argument besides
abbrev pub with_argument : TypeTree → TypeTrees → TypeTrees
with_argument a δ = type_and (evaluated (closed_type a δ)) δ

-- what the terms of a program are typed over where there are made definitions of these types
abbrev pub setting_with : Program → List TypeTree → Setting
setting_with p types =
    record {
      datas = p.datas;
      domains = length p.domains;
      defs = map (λ d. d.ty) p.defs;
      made = types;
    }

-- the terms for the made definitions of these types act as others, each at its type
abbrev pub OriginsAct : Program → List TypeTree → (ℕ → TermTree) → (ℕ → TermTree) → Type 0
OriginsAct p types o' o =
    (m : ℕ) (u : TypeTree) → slice_get types m ≡ Some u → ActsAs p u (o' m) (o m)

-- they have these types, up to naturals
abbrev pub OriginsTyped : Program → List TypeTree → (ℕ → TermTree) → Type 0
OriginsTyped p types o =
    (m : ℕ) (u : TypeTree) → slice_get types m ≡ Some u
    → HasTypeUpTo (setting_of p) [] [] (o m) u

-- a term that is put for a variable is typed, up to the variable's type, and renamed; and what it
-- has on the second side, in an environment that acts so, the variable's thunk there has
pub record StandsFor
    (p : Program) (types : List TypeTree) (o : ℕ → TermTree) (kinds : List Kind) (r : Levels)
    (t : TypeTree) (e' : TermTree) (x : ℕ) (δ : TypeTrees) (γ' γ : Thunks) : Type 0
  where
    pub vars : List TypeTree
    pub body : TermTree
    pub type : TypeTree
    pub first : Renaming
    pub second : Renaming
    pub is : e' ≡ rename body first
    pub in_scope : AreTermTypes (setting_with p types) kinds vars
    pub typed : HasType (setting_with p types) kinds vars body type
    pub same : SameTypes type t
    pub thunk : Thunk
    pub held : thunk_at γ x ≡ Some thunk
    pub env : Thunks
    pub names : TiedBy p r vars first second δ γ' env
    pub has : (h : History) (v : Value)
        → term_has p (with_origins o (rename body second)) env δ h v → thunk_has p thunk h v

-- for each variable of these types a variable is put, and both look alike; or a term stands for it
abbrev pub ArePut :
    Program → List TypeTree → (ℕ → TermTree) → List Kind → Levels → List TypeTree
    → Substitution → Renaming → TypeTrees → Thunks → Thunks → Type 0
ArePut p types o kinds r vars σ ρ δ γ' γ =
    (x : ℕ) (t : TypeTree) → slice_get vars x ≡ Some t
    → ((y : ℕ) × (σ x ≡ var y) × LooksAlike p r (closed_type t δ) y (ρ x) γ' γ)
    ⊎ StandsFor p types o kinds r t (σ x) (ρ x) δ γ' γ
