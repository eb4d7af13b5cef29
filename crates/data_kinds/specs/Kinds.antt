-- Data types and their kinds.
use Rattle.std.specs.Prelude.{◌≡◌, ℕ, List, map, slice_set, Option, Some, None}
use Rattle.std.specs.List.{slice_get}
use Rattle.chw_types.specs.declared.kind.Kind.{Kind}
use Rattle.chw_types.specs.declared.kind.Kind.TheVariants.{Val, Cir}
use Rattle.chw_types.specs.declared.declarations.Data.{Data}
use Rattle.chw_terms.specs.Tidy.{HasCircuit, HasItsKind}

-- each data type is a circuit where a field is, and else values
abbrev pub HaveTheirKinds : List Data → ℕ → Type 0
HaveTheirKinds datas domains = (d : ℕ) (it : Data) → slice_get datas d ≡ Some it → HasItsKind datas domains it

-- the kind that the fields of a data type give it, where there is one
abbrev pub IsKindOfFields : List Data → ℕ → Option Data → Kind → Type 0
IsKindOfFields datas domains None k = Unit {0}
IsKindOfFields datas domains (Some it) k = (HasCircuit datas domains it → k ≡ Cir) × ((HasCircuit datas domains it → ⊥) → k ≡ Val)

-- the data type, with this kind in place of its own
abbrev pub of_kind : Kind → Data → Data
of_kind k it = record it { kind = k }

-- data types that differ in nothing but their kinds
abbrev pub SameButKinds : List Data → List Data → Type 0
SameButKinds datas datas' = map (of_kind Val) datas' ≡ map (of_kind Val) datas

-- the data type of this number got the kind that its fields give it
pub record SetsKind (datas : List Data) (domains at : ℕ) (datas' : List Data) : Type 0 where
  pub it : Data
  pub is_it : slice_get datas at ≡ Some it
  pub kind : Kind
  pub of_fields : IsKindOfFields datas domains (Some it) kind
  pub written : datas' ≡ slice_set datas at (of_kind kind it)
