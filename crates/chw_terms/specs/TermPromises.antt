-- What is promised of raising variables, of putting terms for them, and of where they occur.
use Rattle.std.specs.Prelude.{◌≡◌, ℕ, ◌+◌, ◌<◌, ◌≤◌, true, false}
use Rattle.chw_types.specs.TypeMoves.{Renaming, raised, Substitution as TypeSubstitution}
use Rattle.chw_terms.specs.TermTree.{TermTree, var}
use Rattle.chw_terms.specs.TypesMoved.{rename_types, sub_types}
use Rattle.chw_terms.specs.TermMoves.{rename, Substitution, sub, shift, put}
use Rattle.chw_terms.specs.Occurs.{occurs}

abbrev pub RenameAfterRename : Type 0
RenameAfterRename = (e : TermTree) (ρ π : Renaming) → rename (rename e ρ) π ≡ rename e (λ x. π (ρ x))

abbrev pub SubAfterRename : Type 0
SubAfterRename = (e : TermTree) (ρ : Renaming) (σ : Substitution) → sub (rename e ρ) σ ≡ sub e (λ x. σ (ρ x))

abbrev pub RenameAfterSub : Type 0
RenameAfterSub = (e : TermTree) (σ : Substitution) (ρ : Renaming) → rename (sub e σ) ρ ≡ sub e (λ x. rename (σ x) ρ)

abbrev pub SubAfterSub : Type 0
SubAfterSub = (e : TermTree) (σ τ : Substitution) → sub (sub e σ) τ ≡ sub e (λ x. sub (σ x) τ)

-- each variable by itself
abbrev pub RenameByNone : Type 0
RenameByNone = (e : TermTree) → rename e (λ x. x) ≡ e

abbrev pub SubByNone : Type 0
SubByNone = (e : TermTree) → sub e var ≡ e

abbrev pub RenameIsSub : Type 0
RenameIsSub = (e : TermTree) (ρ : Renaming) → rename e ρ ≡ sub e (λ x. var (ρ x))

-- two shifts at one place, or the second within what the first made room for
abbrev pub ShiftAgain : Type 0
ShiftAgain = (e : TermTree) (c d m n : ℕ) → d ≤ m → shift (shift e c m) (d + c) n ≡ shift e c (m + n)

-- two shifts at different places, in either order
abbrev pub ShiftAfterShift : Type 0
ShiftAfterShift = (e : TermTree) (c d m n : ℕ) → shift (shift e c m) (d + m + c) n ≡ shift (shift e (d + c) n) c m

-- a shift at or above the variable that is put for
abbrev pub ShiftAfterPut : Type 0
ShiftAfterPut =
    (e a : TermTree) (c d by : ℕ) → shift (put e c a) (d + c) by ≡ put (shift e (d + 1 + c) by) c (shift a d by)

-- a shift at or below the variable that is put for
abbrev pub ShiftBelowPut : Type 0
ShiftBelowPut = (e a : TermTree) (c d by : ℕ) → shift (put e (d + c) a) c by ≡ put (shift e c by) (d + by + c) a

-- what is put for a variable that a shift made room for doesn't matter: the term is as before
abbrev pub PutAfterShift : Type 0
PutAfterShift = (e a : TermTree) (c : ℕ) → put (shift e c 1) c a ≡ e

-- the order of two puttings, the second at or above the first
abbrev pub PutAfterPut : Type 0
PutAfterPut = (e a b : TermTree) (c d : ℕ) → put (put e c a) (d + c) b ≡ put (put e (d + 1 + c) b) c (put a d b)

-- only what is put for the variables that occur matters
abbrev pub SubWhereOccurs : Type 0
SubWhereOccurs = (e : TermTree) (σ τ : Substitution) → ((x : ℕ) → occurs e x ≡ true → σ x ≡ τ x) → sub e σ ≡ sub e τ

-- any term may be put for a variable that doesn't occur
abbrev pub PutWhereAbsent : Type 0
PutWhereAbsent = (e a b : TermTree) (c : ℕ) → occurs e c ≡ false → put e c a ≡ put e c b

-- a term in which a variable doesn't occur is what a shift made room in
abbrev pub ShiftWhereAbsent : Type 0
ShiftWhereAbsent = (e a : TermTree) (c : ℕ) → occurs e c ≡ false → shift (put e c a) c 1 ≡ e

-- a shift takes each variable along
abbrev pub OccursAfterShift : Type 0
OccursAfterShift = (e : TermTree) (c by x : ℕ) → occurs (shift e c by) (raised c by x) ≡ occurs e x

-- and the variables that it makes room for don't occur
abbrev pub AbsentAfterShift : Type 0
AbsentAfterShift = (e : TermTree) (c by x : ℕ) → c ≤ x → x < c + by → occurs (shift e c by) x ≡ false

-- the types of a term hold no variable
abbrev pub OccursAfterTypesRenamed : Type 0
OccursAfterTypesRenamed = (e : TermTree) (π : Renaming) (x : ℕ) → occurs (rename_types e π) x ≡ occurs e x

abbrev pub OccursAfterTypesPut : Type 0
OccursAfterTypesPut = (e : TermTree) (τ : TypeSubstitution) (x : ℕ) → occurs (sub_types e τ) x ≡ occurs e x
