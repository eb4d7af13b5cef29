-- The first of some items that passes a limit.
use Rattle.std.specs.Prelude.{◌≡◌, ℕ, ◌<◌, List, Some, Option, MatchOption}
use Rattle.std.specs.List.{slice_get}
use Rattle.chw_layout.specs.declared.outcome.NoLayout.{NoLayout}

-- which items pass which limits
abbrev pub Passing : Type 0 → Type 1
Passing A = A → NoLayout → Type 0

-- none of the first n items passes one
abbrev pub NonePasses : (A : Type 0) → Passing A → List A → ℕ → Type 0
NonePasses A P xs n =
    (j : ℕ) (x : A) (k : NoLayout) → j < n → slice_get xs j ≡ Some x → P x k → ⊥

-- the first item that passes one passes this one
pub record IsFirstOf (A : Type 0) (P : Passing A) (xs : List A) (l : NoLayout) : Type 0 where
  pub number : ℕ
  pub item : A
  pub is : slice_get xs number ≡ Some item
  pub passes : P item l
  pub first : NonePasses A P xs number

-- the answer is what the first item passes that passes one, or nothing where none does
abbrev pub FindsFirstOf : (A : Type 0) → Passing A → List A → Option NoLayout → Type 0
FindsFirstOf A P xs answer =
    MatchOption answer
    ((j : ℕ) (x : A) (k : NoLayout) → slice_get xs j ≡ Some x → P x k → ⊥)
    (IsFirstOf A P xs)

-- the answer is what one item passes, or nothing where it passes none
abbrev pub FindsOf : (A : Type 0) → Passing A → A → Option NoLayout → Type 0
FindsOf A P x answer = MatchOption answer ((l : NoLayout) → P x l → ⊥) (P x)
