-- What holds of each of a list holds of the one at a place.
use Rattle.std.proofs.Common.{◌≡◌, ℕ, zero, suc, ◌<◌, List, [], ◌∷◌, length, get_or, sym, subst, arith}
use Rattle.std.specs.List.{AllByRecursion}

pub holds_at : {A : Type 0} (P : A → Type 0) (xs : List A) (i : ℕ) (x d : A) → i < length xs → x ≡ get_or xs i d → AllByRecursion P xs → P x
holds_at P [] i x d lt is all = absurd (omega arith)
holds_at P (y ∷ xs) zero x d lt is all = subst P (sym is) all.0
holds_at P (y ∷ xs) (suc i) x d lt is all = holds_at P xs i x d (omega arith) is all.1
