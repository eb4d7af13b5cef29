-- A walk over items, each of which keeps all or has a first case that leaves something out.
use Rattle.std.proofs.Common.{◌≡◌, ℕ, suc, zero, ◌+◌, ◌<◌, ◌≤◌, sym, ap, ◌∙◌, subst, List, [], ◌∷◌, length, drop, get_or, arith}
use Rattle.std.proofs.lemmas.List.{drop_all}
use Rattle.chw_check.specs.declared.cases.lacks.Lacks.{Lacks}

-- what it is that all items keep all, and what is first in them
pub record Walk (X : Type 0) : Type 1 where
  pub Keeps : X → Type 0
  pub First : X → Lacks → Type 0
  pub AllKeep : List X → Type 0
  pub FirstOf : List X → Lacks → Type 0
  pub none : AllKeep []
  pub more : (x : X) (xs : List X) → Keeps x → AllKeep xs → AllKeep (x ∷ xs)
  pub here : (x : X) (xs : List X) (l : Lacks) → First x l → FirstOf (x ∷ xs) l
  pub later : (x : X) (xs : List X) (l : Lacks) → Keeps x → FirstOf xs l → FirstOf (x ∷ xs) l

-- what is told of the rest is told of all
pub record Told {X : Type 0} (w : Walk X) (xs rest : List X) : Type 0 where
  pub kept : w.AllKeep rest → w.AllKeep xs
  pub first : (l : Lacks) → w.FirstOf rest l → w.FirstOf xs l

pub next_dropped : {X : Type 0} (xs : List X) (i : ℕ) (x d : X) → i < length xs → x ≡ get_or xs i d → drop i xs ≡ x ∷ drop (i + 1) xs
next_dropped [] i x d l is = absurd (omega arith)
next_dropped (y ∷ xs) zero x d l is = λ k. sym is k ∷ xs
next_dropped (y ∷ xs) (suc i) x d l is = let e : suc (i + 1) ≡ suc i + 1 = omega arith in next_dropped xs i x d (omega arith) is ∙ ap (λ n. x ∷ drop n (y ∷ xs)) e

-- at the beginning
pub told_all : {X : Type 0} (w : Walk X) (xs : List X) → Told w xs xs
told_all w xs = record { kept = λ k. k; first = λ l f. f }

-- past an item that keeps all
pub told_next : {X : Type 0} (w : Walk X) (xs : List X) (i : ℕ) (x d : X) → i < length xs → x ≡ get_or xs i d → Told w xs (drop i xs) → w.Keeps x → Told w xs (drop (i + 1) xs)
told_next w xs i x d l is told keeps =
    let at = subst (Told w xs) (next_dropped xs i x d l is) told in
    record { kept = λ k. at.kept (w.more x (drop (i + 1) xs) keeps k); first = λ m f. at.first m (w.later x (drop (i + 1) xs) m keeps f) }

-- at an item that has a case that leaves something out
pub told_here : {X : Type 0} (w : Walk X) (xs : List X) (i : ℕ) (x d : X) (l : Lacks) → i < length xs → x ≡ get_or xs i d → Told w xs (drop i xs) → w.First x l → w.FirstOf xs l
told_here w xs i x d l less is told first =
    let at = subst (Told w xs) (next_dropped xs i x d less is) told in
    at.first l (w.here x (drop (i + 1) xs) l first)

-- past all items
pub told_end : {X : Type 0} (w : Walk X) (xs : List X) (i : ℕ) → length xs ≤ i → Told w xs (drop i xs) → w.AllKeep xs
told_end w xs i l told = (subst (Told w xs) (drop_all i xs l) told).kept w.none
