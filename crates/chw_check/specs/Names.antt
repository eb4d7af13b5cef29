-- The names of declarations.
use Rattle.std.specs.Prelude.{◌≡◌, ℕ, List, IsSomeAnd}
use Rattle.std.specs.List.{slice_get}
use Rattle.chw_terms.specs.Constructors.{con_at}
use Rattle.chw_terms.specs.declared.program.Def.{Def}
use Rattle.chw_types.specs.declared.declarations.Data.{Data}

-- the data type of this number has the name
abbrev pub IsDataName : List Data → ℕ → List ℕ → Type 0
IsDataName datas d name = IsSomeAnd (slice_get datas d) (λ it. name ≡ it.name)

-- so has the definition
abbrev pub IsDefName : List Def → ℕ → List ℕ → Type 0
IsDefName defs d name = IsSomeAnd (slice_get defs d) (λ it. name ≡ it.name)

-- and the constructor
abbrev pub IsConName : List Data → ℕ → List ℕ → Type 0
IsConName datas c name = IsSomeAnd (con_at datas c) (λ con. name ≡ con.decl.name)
