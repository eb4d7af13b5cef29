-- A variable that stands in a sum or product, in the scope of a putting.
use Rattle.std.proofs.Common.{◌≡◌, ℕ, ◌⊎◌, inl, inr, List, ◌∷◌, ◌++◌, length}
use Rattle.std.specs.Prelude.{Some}
use Rattle.std.specs.List.{slice_get}
use Rattle.chw_types.specs.declared.kind.Kind.{Kind}
use Rattle.chw_types.specs.declared.kind.Kind.TheVariants.{Nat}
use Rattle.chw_types.specs.declared.declarations.Data.{Data}
use Rattle.chw_types.specs.TypeTree.{TypeTree}
use Rattle.chw_types.specs.Kinds.{KindOf}
use Rattle.type_laws.specs.Standing.{InSums}
use Rattle.type_laws.proofs.KindsExact.{slot_at}
use Rattle.type_laws.proofs.OneKind.{sums_kind}

pub sum_slot : {datas : List Data} {domains : ℕ} {scope : List Kind} {t u : TypeTree} {i k : Kind} → KindOf datas domains scope t i → KindOf datas domains scope u k → (x : ℕ) → InSums t x ⊎ InSums u x → slice_get scope x ≡ Some Nat
sum_slot d e x (inl s) = sums_kind d x s
sum_slot d e x (inr s) = sums_kind e x s

-- where the variable that is put for stands in a sum or product, it has the kind of naturals
pub slot_is_nat : {datas : List Data} {domains : ℕ} (inner outer : List Kind) {t u : TypeTree} {i k : Kind} (j : Kind) → KindOf datas domains (inner ++ j ∷ outer) t i → KindOf datas domains (inner ++ j ∷ outer) u k → InSums t (length inner) ⊎ InSums u (length inner) → j ≡ Nat
slot_is_nat inner outer j d e s =
    let at = slot_at inner outer j in
    let nat = sum_slot d e (length inner) s in
    cc
