-- What is promised of raising the type variables of a term, of putting types for them, and of both beside variables.
use Rattle.std.specs.Prelude.{◌≡◌, ℕ, ◌+◌}
use Rattle.chw_types.specs.TypeTree.{TypeTree, ty_var}
use Rattle.chw_types.specs.TypeMoves.{Renaming, rename as rename_type, shift as shift_type, Substitution as TypeSubstitution, sub as sub_type, put as put_type}
use Rattle.chw_terms.specs.TermTree.{TermTree}
use Rattle.chw_terms.specs.TypesMoved.{rename_types, sub_types, shift_types, put_types}
use Rattle.chw_terms.specs.TermMoves.{rename, Substitution, sub, shift, put}
use Rattle.chw_terms.specs.Evaluated.{evaluated, evaluated_in, put_type_in}

abbrev pub TypesRenameAfterRename : Type 0
TypesRenameAfterRename = (e : TermTree) (ρ π : Renaming) → rename_types (rename_types e ρ) π ≡ rename_types e (λ x. π (ρ x))

abbrev pub TypesSubAfterRename : Type 0
TypesSubAfterRename = (e : TermTree) (ρ : Renaming) (σ : TypeSubstitution) → sub_types (rename_types e ρ) σ ≡ sub_types e (λ x. σ (ρ x))

abbrev pub TypesRenameAfterSub : Type 0
TypesRenameAfterSub = (e : TermTree) (σ : TypeSubstitution) (ρ : Renaming) → rename_types (sub_types e σ) ρ ≡ sub_types e (λ x. rename_type (σ x) ρ)

abbrev pub TypesSubAfterSub : Type 0
TypesSubAfterSub = (e : TermTree) (σ τ : TypeSubstitution) → sub_types (sub_types e σ) τ ≡ sub_types e (λ x. sub_type (σ x) τ)

-- each type variable by itself
abbrev pub TypesRenameByNone : Type 0
TypesRenameByNone = (e : TermTree) → rename_types e (λ x. x) ≡ e

abbrev pub TypesSubByNone : Type 0
TypesSubByNone = (e : TermTree) → sub_types e ty_var ≡ e

abbrev pub TypesRenameIsSub : Type 0
TypesRenameIsSub = (e : TermTree) (ρ : Renaming) → rename_types e ρ ≡ sub_types e (λ x. ty_var (ρ x))

-- variables and type variables are renamed in any order
abbrev pub TypesRenameThroughRename : Type 0
TypesRenameThroughRename = (e : TermTree) (ρ π : Renaming) → rename_types (rename e ρ) π ≡ rename (rename_types e π) ρ

-- a renaming of type variables goes into what is put
abbrev pub TypesRenameThroughSub : Type 0
TypesRenameThroughSub = (e : TermTree) (σ : Substitution) (π : Renaming) → rename_types (sub e σ) π ≡ sub (rename_types e π) (λ x. rename_types (σ x) π)

-- types are put and variables renamed in any order
abbrev pub TypesSubThroughRename : Type 0
TypesSubThroughRename = (e : TermTree) (ρ : Renaming) (τ : TypeSubstitution) → sub_types (rename e ρ) τ ≡ rename (sub_types e τ) ρ

-- a putting of types goes into the terms that are put
abbrev pub TypesSubThroughSub : Type 0
TypesSubThroughSub = (e : TermTree) (σ : Substitution) (τ : TypeSubstitution) → sub_types (sub e σ) τ ≡ sub (sub_types e τ) (λ x. sub_types (σ x) τ)

-- a type put after shifting terms, and after putting terms
abbrev pub PutTypesAfterShift : Type 0
PutTypesAfterShift = (e : TermTree) (a : TypeTree) (c d by : ℕ) → put_types (shift e c by) d a ≡ shift (put_types e d a) c by

abbrev pub PutTypesAfterPut : Type 0
PutTypesAfterPut = (e b : TermTree) (a : TypeTree) (c d : ℕ) → put_types (put e c b) d a ≡ put (put_types e d a) c (put_types b d a)

-- a shift of type variables at or above the one that is put for
abbrev pub ShiftTypesAfterPutTypes : Type 0
ShiftTypesAfterPutTypes =
    (e : TermTree) (a : TypeTree) (c d by : ℕ) → shift_types (put_types e c a) (d + c) by ≡ put_types (shift_types e (d + 1 + c) by) c (shift_type a d by)

-- what is put for a type variable that a shift made room for doesn't matter
abbrev pub PutTypesAfterShiftTypes : Type 0
PutTypesAfterShiftTypes = (e : TermTree) (a : TypeTree) (c : ℕ) → put_types (shift_types e c 1) c a ≡ e

-- the order of two puttings of types, the second at or above the first
abbrev pub PutTypesAfterPutTypes : Type 0
PutTypesAfterPutTypes =
    (e : TermTree) (a b : TypeTree) (c d : ℕ) → put_types (put_types e c a) (d + c) b ≡ put_types (put_types e (d + 1 + c) b) c (put_type a d b)

-- closed naturals are evaluated once
abbrev pub EvaluatedOnce : Type 0
EvaluatedOnce = (e : TermTree) → evaluated_in (evaluated_in e) ≡ evaluated_in e

-- evaluating goes through renaming, and into the terms that are put
abbrev pub EvaluatedThroughRename : Type 0
EvaluatedThroughRename = (e : TermTree) (ρ : Renaming) → evaluated_in (rename e ρ) ≡ rename (evaluated_in e) ρ

abbrev pub EvaluatedThroughTypesRename : Type 0
EvaluatedThroughTypesRename = (e : TermTree) (π : Renaming) → evaluated_in (rename_types e π) ≡ rename_types (evaluated_in e) π

abbrev pub EvaluatedThroughSub : Type 0
EvaluatedThroughSub = (e : TermTree) (σ : Substitution) → evaluated_in (sub e σ) ≡ sub (evaluated_in e) (λ x. evaluated_in (σ x))

-- types may be evaluated before they are put, and the term before they are put into it
abbrev pub EvaluatedThroughTypesSub : Type 0
EvaluatedThroughTypesSub = (e : TermTree) (τ : TypeSubstitution) → evaluated_in (sub_types (evaluated_in e) (λ x. evaluated (τ x))) ≡ evaluated_in (sub_types e τ)

-- the type argument of a type lambda is put after shifting terms, and after putting terms
abbrev pub PutTypeInAfterShift : Type 0
PutTypeInAfterShift = (e : TermTree) (a : TypeTree) (c by : ℕ) → put_type_in (shift e c by) a ≡ shift (put_type_in e a) c by

abbrev pub PutTypeInAfterPut : Type 0
PutTypeInAfterPut = (e b : TermTree) (a : TypeTree) (c : ℕ) → put_type_in (put e c b) a ≡ put (put_type_in e a) c (put_type_in b a)
