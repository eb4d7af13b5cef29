-- Cycles of bindings that block a letrec.
use Rattle.std.specs.Prelude.{◌≡◌, ◌↔◌, ◌⊎◌, ℕ, ◌-◌, ◌<◌, true, Bool, IsTrue, List, [], ◌∷◌}
use Rattle.std.specs.Prelude.{Some, Option, MatchOption, Contains, Vec, length, slice_index}
use Rattle.std.specs.List.{slice_get, AllByRecursion}
use Rattle.std.specs.declared.alloc.Global.{Global}
use Rattle.chw_types.specs.declared.declarations.Data.{Data}
use Rattle.chw_types.specs.TypeTree.{TypeTree}
use Rattle.chw_terms.specs.declared.scene.Mode.{Mode}
use Rattle.chw_terms.specs.declared.scene.Mode.TheVariants.{V, K}
use Rattle.chw_terms.specs.declared.term.Binding.{Binding}
use Rattle.chw_terms.specs.Occurs.{occurs}
use Rattle.chw_terms.specs.TermTree.{TermTree, letrec, Group}
use Rattle.chw_typing.specs.Groups.{binding_at}
use Rattle.rewriting.specs.Named.{IsNamed}
use Rattle.normal_forms.specs.Blocked.{LeadsThrough}
use Rattle.normal_forms.specs.Values.{BindingRefers}

-- bindings of this type count on a cycle: each where values are built and in constants, else those
-- of types that aren't named
abbrev pub Counts : List Data → Mode → TypeTree → Type 0
Counts datas mode t = ((mode ≡ V) ⊎ (mode ≡ K)) ⊎ (IsNamed datas mode t → ⊥)

-- so the binding of this number
abbrev pub CountsAt : List Data → Mode → Group → ℕ → Type 0
CountsAt datas mode g i =
    (b : TypeTree × TermTree) × (binding_at g i ≡ Some b) × Counts datas mode b.0

-- each of these bindings refers to the next one, and the last to the first
abbrev pub LeadsRound : Group → List ℕ → Type 0
LeadsRound g [] = ⊥
LeadsRound g (i ∷ more) = LeadsThrough (BindingRefers g) i more i

-- a cycle of bindings that count
pub record IsCycleOf (datas : List Data) (mode : Mode) (g : Group) (cycle : List ℕ) : Type 0 where
  pub leads : LeadsRound g cycle
  pub counted : AllByRecursion (CountsAt datas mode g) cycle

-- the term is a letrec with such a cycle
pub record HasCycle (datas : List Data) (mode : Mode) (e : TermTree) (cycle : List ℕ) : Type 0
  where
    pub group : Group
    pub body : TermTree
    pub is : e ≡ letrec group body
    pub round : IsCycleOf datas mode group cycle

-- no number comes twice
abbrev pub AreDistinct : List ℕ → Type 0
AreDistinct xs =
    (i j : ℕ) → i < length xs → j < length xs → slice_index xs i ≡ slice_index xs j → i ≡ j

-- the answer is a cycle of a letrec's bindings with each of them once, or nothing where there is no
-- cycle
abbrev pub FindsRound
    : List Data → Mode → Group → Option (Vec ℕ Global) → Type 0
FindsRound datas mode g answer =
    MatchOption answer ((cycle : List ℕ) → IsCycleOf datas mode g cycle → ⊥)
    (λ found. IsCycleOf datas mode g found.items × AreDistinct found.items)

-- the same of a term
abbrev pub FindsCycle : List Data → Mode → TermTree → Option (Vec ℕ Global) → Type 0
FindsCycle datas mode e answer =
    MatchOption answer ((cycle : List ℕ) → HasCycle datas mode e cycle → ⊥)
    (λ found. HasCycle datas mode e found.items × AreDistinct found.items)

-- two lists have as many items, and what is in one place of both is related
abbrev pub AreRelated : {A B : Type 0} → (A → B → Type 0) → List A → List B → Type 0
AreRelated R [] [] = Unit {0}
AreRelated R (x ∷ xs) (y ∷ ys) = R x y × AreRelated R xs ys
AreRelated R _ _ = ⊥

-- for each binding whether it counts
abbrev pub AreCounted : List Data → Mode → List Binding → List Bool → Type 0
AreCounted datas mode bs flags =
    AreRelated (λ (b : Binding) (flag : Bool). IsTrue flag ↔ Counts datas mode b.ty) bs flags

-- of n bindings the one of this number counts, and has this variable
abbrev pub IsCounted : ℕ → List Bool → ℕ → ℕ → Type 0
IsCounted n flags x to = (to < n) × (slice_get flags to ≡ Some true) × (n - 1 - to ≡ x)

-- the binding with this variable is put to the others, if it counts
abbrev pub AddsCounted : ℕ → List Bool → ℕ → List ℕ → List ℕ → Type 0
AddsCounted n flags x old new =
    (to : ℕ) → Contains new to ↔ (Contains old to ⊎ IsCounted n flags x to)

-- these bindings of n are those that count, with these variables
abbrev pub AreOfVariables : ℕ → List Bool → List ℕ → List ℕ → Type 0
AreOfVariables n flags xs list =
    (to : ℕ) → Contains list to ↔
    ((to < n) × (slice_get flags to ≡ Some true) × Contains xs (n - 1 - to))

-- these are those that count, of which the variables occur in the term
abbrev pub AreNamedBy : ℕ → List Bool → TermTree → List ℕ → Type 0
AreNamedBy n flags e list =
    (to : ℕ) → Contains list to ↔
    ((to < n) × (slice_get flags to ≡ Some true) × (occurs e (n - 1 - to) ≡ true))

-- so for each binding by its right side
abbrev pub AreReferences : ℕ → List Bool → List Binding → List (List ℕ) → Type 0
AreReferences n flags bs lists =
    AreRelated (λ (b : Binding) (list : List ℕ). AreNamedBy n flags b.body list) bs lists
