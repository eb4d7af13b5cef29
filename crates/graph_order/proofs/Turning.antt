-- A cycle that is turned is one.
use Rattle.std.proofs.Common.{◌≡◌, ℕ, ◌+◌, ◌-◌, ◌<◌, ◌≤◌, ◌⊎◌, inl, inr, List, ◌++◌, length, take, drop, get_or, refl, sym, ◌∙◌, arith, length-append, length-drop}
use Rattle.std.proofs.lemmas.Bool.{cases_lt}
use Rattle.std.proofs.lemmas.List.{get_or_append_left, get_or-append_right, get_or-drop, get_or-take, length-take-le}
use Rattle.graph_order.specs.Orders.{IsCycle}
use Rattle.graph_order.specs.References.{Refers}

abbrev turn_of : ℕ → List ℕ → List ℕ
turn_of m xs = drop m xs ++ take m xs

length-turn_of : (m : ℕ) (xs : List ℕ) → m ≤ length xs → length (turn_of m xs) ≡ length xs
length-turn_of m xs h = omega (arith, length-append (drop m xs) (take m xs), length-drop m xs, length-take-le m xs h)

-- an element after the turn, and before it
turned_at : (m : ℕ) (xs : List ℕ) (i : ℕ) → m ≤ length xs → i < length xs
    → (j : ℕ) × (j < length xs) × (get_or (turn_of m xs) i 0 ≡ get_or xs j 0) × ((i + m ≡ j) ⊎ (i + m ≡ j + length xs))
turned_at m xs i h l = elim (cases_lt i (length xs - m)) [
  | inl a ↦ (
    m + i,
    omega arith,
    let lt : i < length (drop m xs) = omega (arith, length-drop m xs) in
        get_or_append_left (drop m xs) (take m xs) 0 i lt ∙ get_or-drop m xs i 0,
    inl (omega arith),
  )
  | inr b ↦ (
    i - (length xs - m),
    omega arith,
    get_or-append_right (drop m xs) (take m xs) (length xs - m) i 0 (length-drop m xs) b ∙ get_or-take m xs (i - (length xs - m)) 0 (omega arith),
    inr (omega arith),
  )
]

refers_at : (graph : List (List ℕ)) (a b a' b' : ℕ) → a ≡ a' → b ≡ b' → Refers graph a' b' → Refers graph a b
refers_at graph a b a' b' e f r = rw (e, f) r

module _ (graph : List (List ℕ)) (m : ℕ) (xs : List ℕ) (below : m < length xs) (c : IsCycle graph xs) where
  -- each node after the turn refers to the one at the next place, or that of the first after the last
  turned_refers : (i j : ℕ) → i < length xs → ((j ≡ i + 1) × (j < length xs)) ⊎ ((i + 1 ≡ length xs) × (j ≡ 0))
      → Refers graph (get_or (turn_of m xs) i 0) (get_or (turn_of m xs) j 0)
  turned_refers i j l h =
      let to : j < length xs = elim h [ inl x ↦ x.1 | inr x ↦ omega (arith, x.1) ] in
      let a = turned_at m xs i (omega arith) l in
      let b = turned_at m xs j (omega arith) to in
      refers_at graph _ _ (get_or xs a.0 0) (get_or xs b.0 0) a.2 b.2
      (elim (cases_lt (a.0 + 1) (length xs)) [
        | inl k ↦ let e : b.0 ≡ a.0 + 1 = omega (arith, a.3, b.3, h) in rw e (c.next a.0 k)
        | inr k ↦ let e : b.0 ≡ 0 = omega (arith, a.1, a.3, b.3, h) in rw e (c.closes a.0 (omega (arith, a.1)))
      ])

  turned_once : (i j : ℕ) → i < length xs → j < length xs → get_or (turn_of m xs) i 0 ≡ get_or (turn_of m xs) j 0 → i ≡ j
  turned_once i j k l e =
      let a = turned_at m xs i (omega arith) k in
      let b = turned_at m xs j (omega arith) l in
      let same : a.0 ≡ b.0 = c.once a.0 b.0 a.1 b.1 (sym (a.2) ∙ e ∙ b.2) in
      omega (arith, a.3, b.3)

  pub turned_cycle : IsCycle graph (drop m xs ++ take m xs)
  turned_cycle = let same : length (turn_of m xs) ≡ length xs = length-turn_of m xs (omega arith) in record {
    some = omega arith;
    once = λ i j k l. turned_once i j (omega arith) (omega arith);
    next = λ i l. turned_refers i (i + 1) (omega arith) (inl (refl, omega arith));
    closes = λ i l. turned_refers i 0 (omega arith) (inr (omega arith, refl));
  }
