-- Names at arguments.
use Rattle.std.proofs.Common.{◌≡◌, ℕ, List, [], ◌∷◌, length, refl, arith}
use Rattle.chw_types.specs.declared.kind.Scalar.{Scalar}
use Rattle.chw_types.specs.TypeTree.{TypeTree, data_of}
use Rattle.chw_types.specs.TypeView.{trees_of}
use Rattle.chw_base.specs.declared.index.DomId.{DomId}
use Rattle.chw_resolve.specs.Types.{at_arguments}
use Rattle.chw_resolve.specs.declared.types.TypeName.TheVariants as type_name

pub not_one : (none : ℕ) (sort : Scalar) (ts : List TypeTree) → (length ts ≡ 1 → ⊥) → data_of none (trees_of ts) ≡ at_arguments none (type_name.Scalar sort) (trees_of ts)
not_one none sort [] h = refl
not_one none sort (t ∷ []) h = absurd (h (omega arith))
not_one none sort (t ∷ u ∷ ts) h = refl

pub no_vector : (none : ℕ) (ts : List TypeTree) → (length ts ≡ 2 → ⊥) → data_of none (trees_of ts) ≡ at_arguments none type_name.Vector (trees_of ts)
no_vector none [] h = refl
no_vector none (t ∷ []) h = refl
no_vector none (t ∷ u ∷ []) h = absurd (h (omega arith))
no_vector none (t ∷ u ∷ v ∷ ts) h = refl

pub no_signal : (none : ℕ) (ts : List TypeTree) → (length ts ≡ 2 → ⊥) → data_of none (trees_of ts) ≡ at_arguments none type_name.Signal (trees_of ts)
no_signal none [] h = refl
no_signal none (t ∷ []) h = refl
no_signal none (t ∷ u ∷ []) h = absurd (h (omega arith))
no_signal none (t ∷ u ∷ v ∷ ts) h = refl

pub no_domain : (none : ℕ) (d : DomId) (ts : List TypeTree) → (length ts ≡ 0 → ⊥) → data_of none (trees_of ts) ≡ at_arguments none (type_name.Domain d) (trees_of ts)
no_domain none d [] h = absurd (h refl)
no_domain none d (t ∷ ts) h = refl
