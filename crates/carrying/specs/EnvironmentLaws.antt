-- Which thunks the variables of an environment have.
use Rattle.std.specs.Prelude.{◌≡◌, ◌<◌, ℕ, suc, zero, ◌+◌, List, length, Some, slice_get}
use Rattle.chw_types.specs.TypeTree.{TypeTrees}
use Rattle.chw_terms.specs.TermTree.{Group, size_of}
use Rattle.chw_meaning.specs.Values.{Thunk, member, field, Thunks, thunk_at, count_of, joined}
use Rattle.chw_meaning.specs.Values.{in_group, fields_from}
use Rattle.carrying.specs.TermLaws.{onto}

-- inside a group its members, the last one first, and then those outside it
abbrev pub GroupVariables : Type 0
GroupVariables =
    (g : Group) (γ : Thunks) (δ : TypeTrees) (i j : ℕ)
    → i + suc j ≡ size_of g → thunk_at (in_group g γ δ) i ≡ Some (member g j γ δ)

abbrev pub OutsideGroup : Type 0
OutsideGroup =
    (g : Group) (γ : Thunks) (δ : TypeTrees) (x : ℕ)
    → thunk_at (in_group g γ δ) (size_of g + x) ≡ thunk_at γ x

-- inside a function on thunks these, the last one first, and then those outside it
abbrev pub ParameterVariables : Type 0
ParameterVariables =
    (xs : List Thunk) (γ : Thunks) (i j : ℕ) (x : Thunk)
    → slice_get xs j ≡ Some x → i + suc j ≡ length xs → thunk_at (onto xs γ) i ≡ Some x

abbrev pub OutsideFunction : Type 0
OutsideFunction =
    (xs : List Thunk) (γ : Thunks) (x : ℕ) → thunk_at (onto xs γ) (length xs + x) ≡ thunk_at γ x

-- inside an alternative what its pattern binds, and then those outside it
abbrev pub BoundVariables : Type 0
BoundVariables =
    (ths γ : Thunks) (x : ℕ) → x < count_of ths → thunk_at (joined ths γ) x ≡ thunk_at ths x

abbrev pub OutsideAlternative : Type 0
OutsideAlternative =
    (ths γ : Thunks) (x : ℕ) → thunk_at (joined ths γ) (count_of ths + x) ≡ thunk_at γ x

-- the fields of a thunk, the last one first
abbrev pub FieldVariables : Type 0
FieldVariables =
    (n i : ℕ) (th : Thunk) (γ : Thunks)
    → i < n → thunk_at (fields_from zero n th γ) i ≡ Some (field i th)

abbrev pub OutsideFields : Type 0
OutsideFields =
    (n : ℕ) (th : Thunk) (γ : Thunks) (x : ℕ)
    → thunk_at (fields_from zero n th γ) (n + x) ≡ thunk_at γ x
