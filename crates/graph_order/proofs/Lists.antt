-- Elements of lists after a write or a push, and references by their places.
use Rattle.std.proofs.Common.{◌≡◌, ◌≢◌, ℕ, ◌-◌, ◌<◌, ◌⊎◌, inl, inr, List, [], ◌∷◌, ◌++◌, length, get_or, set, take, refl, sym, ◌∙◌, ap, arith, Option, Some, None, option_and_then, slice_get, get_or-set_same, get_or-set_other}
use Rattle.std.proofs.lemmas.Bool.{cases_eq, cases_lt}
use Rattle.std.proofs.lemmas.List.{get_or_append_left, get_or_push, get_or_past, length_push, take_at}
use Rattle.std.proofs.lemmas.Option.{get_or_from_slice_get, slice_get-get_or, slice_get_within}
use Rattle.graph_order.specs.References.{Refers, reference_at, reference_count}
use Rattle.graph_order.specs.Searches.{visit_at}
use Rattle.graph_order.specs.declared.search.Visit.{Visit}
use Rattle.graph_order.specs.declared.search.Visit.TheVariants.{Ahead}

-- an element after a write: the one that was written, or another
pub write_split : {X : Type 0} (xs : List X) (p : ℕ) (y : X) (q : ℕ) (d : X) → p < length xs
    → ((q ≡ p) × (get_or (set xs p y) q d ≡ y)) ⊎ ((q ≢ p) × (get_or (set xs p y) q d ≡ get_or xs q d))
write_split xs p y q d l = elim (cases_eq q p) [
  | inl e ↦ inl (e, ap (λ k. get_or (set xs p y) k d) e ∙ get_or-set_same xs p y d l)
  | inr n ↦ inr (n, get_or-set_other xs p q y d n)
]

-- an element after a push: one of those before, or the new one
pub push_split : (xs : List ℕ) (y k : ℕ) → k < length (xs ++ y ∷ [])
    → ((k < length xs) × (get_or (xs ++ y ∷ []) k 0 ≡ get_or xs k 0)) ⊎ ((k ≡ length xs) × (get_or (xs ++ y ∷ []) k 0 ≡ y))
push_split xs y k l = elim (cases_lt k (length xs)) [
  | inl h ↦ inl (h, get_or_append_left xs (y ∷ []) 0 k h)
  | inr h ↦ let e : k ≡ length xs = omega (arith, length_push xs y) in inr (e, get_or_push xs y 0 k (sym e))
]

pub visit_split : (visits : List Visit) (p : ℕ) (v : Visit) (q : ℕ) → p < length visits
    → ((q ≡ p) × (visit_at (set visits p v) q ≡ v)) ⊎ ((q ≢ p) × (visit_at (set visits p v) q ≡ visit_at visits q))
visit_split visits p v q l = write_split visits p v q Ahead l

-- what is not ahead is a place of the list
pub visit_within : (visits : List Visit) (p : ℕ) (v : Visit) → visit_at visits p ≡ v → (v ≡ Ahead → ⊥) → p < length visits
visit_within visits p v e n = elim (cases_lt p (length visits)) [
  | inl h ↦ h
  | inr h ↦ absurd (n (sym e ∙ get_or_past visits p Ahead h))
]

-- a number that is not 0 stands in the list
pub some_within : (xs : List ℕ) (p : ℕ) → 0 < get_or xs p 0 → p < length xs
some_within xs p h = elim (cases_lt p (length xs)) [
  | inl l ↦ l
  | inr l ↦ let e : get_or xs p 0 ≡ 0 = get_or_past xs p 0 l in absurd (omega arith)
]

-- a list without its last element
pub rest_of_push : (xs front : List ℕ) (y n : ℕ) → xs ≡ front ++ y ∷ [] → n ≡ length xs → take (n - 1) xs ≡ front
rest_of_push xs front y n e m =
    let at : length front ≡ n - 1 = omega (arith, length_push front y, ap length e) in
    ap (λ zs. take (n - 1) zs) e ∙ take_at front (y ∷ []) (n - 1) at

-- a number that a node names is referred to, if it is a node
pub refers_by : (graph : List (List ℕ)) (p k to : ℕ) → reference_at graph p k ≡ Some to → to < length graph → Refers graph p to
refers_by graph p k to a l = go (slice_get graph p) refl a where
  go : (o : Option (List ℕ)) → slice_get graph p ≡ o → option_and_then (λ names. slice_get names k) o ≡ Some to → Refers graph p to
  go None h e = absurd (cc)
  go (Some names) h e = record {
    names = names;
    are_names = h;
    is_named = (k, slice_get_within names k to e, get_or_from_slice_get names k to to e);
    is_node = l;
  }

-- what is referred to is named at some place
pub named_at : (graph : List (List ℕ)) (p to : ℕ) → Refers graph p to
    → (k : ℕ) × (k < reference_count graph p) × (reference_at graph p k ≡ Some to)
named_at graph p to r =
    let k = r.is_named.0 in
    let l : k < length r.names = r.is_named.1 in
    let all : get_or graph p [] ≡ r.names = get_or_from_slice_get graph p r.names [] r.are_names in (
      k,
      omega (arith, ap length all),
      ap (λ o. option_and_then (λ names. slice_get names k) o) r.are_names ∙ slice_get-get_or r.names k to l ∙ ap Some r.is_named.2,
    )
