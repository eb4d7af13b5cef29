-- Searches for a field that is a circuit.
use Rattle.std.proofs.Common.{◌≡◌, ℕ, ◌<◌, Bool, List, length, get_or, Result, Ok, Err, IfOk, OnErr, MatchBool, sym, subst}
use Rattle.chw_types.specs.declared.kind.Kind.{Kind}
use Rattle.chw_types.specs.declared.kind.Kind.TheVariants.{Nat, Dom, Val, Cir}
use Rattle.chw_types.specs.declared.kinding.KindFault.{KindFault}
use Rattle.chw_types.specs.TypeTree.{TypeTree}
use Rattle.chw_types.specs.declared.declarations.Data.{Data}
use Rattle.chw_types.specs.Kinds.{KindOf, HasNoKind}
use Rattle.chw_types.proofs.KindsFound.{one_kind}
use Rattle.data_kinds.specs.Circuits.{is_cir}

-- what the answer on the kind of a type tells, since a type has one kind
pub circuit_told : (datas : List Data) (domains : ℕ) (scope : List Kind) (t : TypeTree) (r : Result Kind KindFault) (b : Bool) → b ≡ is_cir r
    → IfOk r (KindOf datas domains scope t) → OnErr r (HasNoKind datas domains scope t) → MatchBool b (KindOf datas domains scope t Cir) (KindOf datas domains scope t Cir → ⊥)
circuit_told datas domains scope t r b e h n = subst (λ (b : Bool). MatchBool b (KindOf datas domains scope t Cir) (KindOf datas domains scope t Cir → ⊥)) (sym e) (by_kind r h n)
  where
    by_kind : (r : Result Kind KindFault) → IfOk r (KindOf datas domains scope t) → OnErr r (HasNoKind datas domains scope t)
        → MatchBool (is_cir r) (KindOf datas domains scope t Cir) (KindOf datas domains scope t Cir → ⊥)
    by_kind (Ok Cir) h n = h
    by_kind (Ok Val) h n = λ c. let same : Val ≡ Cir = one_kind h c in absurd (cc)
    by_kind (Ok Nat) h n = λ c. let same : Nat ≡ Cir = one_kind h c in absurd (cc)
    by_kind (Ok Dom) h n = λ c. let same : Dom ≡ Cir = one_kind h c in absurd (cc)
    by_kind (Err f) h n = n Cir

-- a search that found none of some items before this one
abbrev pub NoneBefore : {X : Type 0} → (X → Type 0) → List X → ℕ → Type 0
NoneBefore {X} P xs i = (k : ℕ) (x : X) → k < i → k < length xs → get_or xs k x ≡ x → P x → ⊥
