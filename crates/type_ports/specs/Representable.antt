-- Which types have values that are bits.
use Rattle.std.specs.Prelude.{◌≡◌, ℕ, List, [], ◌∷◌, length, Some}
use Rattle.std.specs.List.{slice_get}
use Rattle.chw_types.specs.declared.kind.Scalar.{Scalar}
use Rattle.chw_types.specs.declared.declarations.Data.{Data}
use Rattle.chw_types.specs.TypeTree.{TypeTree, scalar, vector, data_of, TypeTrees}
use Rattle.chw_types.specs.TypeMoves.{Substitution, sub}
use Rattle.chw_types.specs.Arguments.{list_of, arguments, all_fields}

mutual
  -- a scalar, a vector of what is representable, or a data type all of whose fields are, with the arguments put in
  pub data Representable (datas : List Data) : TypeTree → Type 0 where
    representable_scalar : {s : Scalar} {w : TypeTree} → Representable datas (scalar s w)
    representable_vector : {n t : TypeTree} → Representable datas t → Representable datas (vector n t)
    representable_data : {d : ℕ} {it : Data} {ts : TypeTrees} → slice_get datas d ≡ Some it → length (list_of ts) ≡ length it.params → AllRepresentable datas (all_fields it.cons) (arguments ts) → Representable datas (data_of d ts)

  -- each of these types, with this put in
  pub data AllRepresentable (datas : List Data) : List TypeTree → Substitution → Type 0 where
    none_to_represent : {σ : Substitution} → AllRepresentable datas [] σ
    represent_and : {f : TypeTree} {fs : List TypeTree} {σ : Substitution} → Representable datas (sub f σ) → AllRepresentable datas fs σ → AllRepresentable datas (f ∷ fs) σ
