-- A cycle of wires, turned round.
use Rattle.std.proofs.Common.{◌≡◌, ℕ, ◌+◌, ◌-◌, ◌<◌, ◌≤◌, ◌⊎◌, inl, inr, List, ◌++◌, length, take, drop, reverse, get_or, ◌∙◌, ap, arith, length-append, length-drop, refl}
use Rattle.std.specs.Prelude.{◌^◌, map}
use Rattle.std.proofs.lemmas.Bool.{cases_eq, cases_lt}
use Rattle.std.proofs.lemmas.List.{get_or_append_left, get_or-append_right, get_or-drop, get_or-map, get_or-reverse, get_or-take, length-map, length-reverse, length-take-le}
use Rattle.graph_order.specs.Orders.{IsCycle as IsRound, LeastFirst as LeastFirstOf}
use Rattle.netlist.specs.Feeds.{Feeds}
use Rattle.netlist.specs.Orders.{IsCycle, LeastFirst}
use Rattle.netlist.specs.Sound.{DrivesFrom}
use Rattle.netlist.specs.Waits.{waits}
use Rattle.netlist.specs.declared.net.Cell.{Cell}
use Rattle.netlist.proofs.Waiting.{feeds_by}

abbrev round : List ℕ → List ℕ
round xs = reverse (drop 1 xs ++ take 1 xs)

first_last : (xs : List ℕ) → 0 < length xs → length (drop 1 xs ++ take 1 xs) ≡ length xs
first_last xs h = omega (arith, length-append (drop 1 xs) (take 1 xs), length-drop 1 xs, length-take-le 1 xs h)

length-round : (xs : List ℕ) → 0 < length xs → length (round xs) ≡ length xs
length-round xs h = length-reverse (drop 1 xs ++ take 1 xs) ∙ first_last xs h

-- an element after the turn, and before it
round_at : (xs : List ℕ) (i : ℕ) → i < length xs
    → (j : ℕ) × (j < length xs) × (get_or (round xs) i 0 ≡ get_or xs j 0) × (((i ≡ 0) × (j ≡ 0)) ⊎ ((0 < i) × (i + j ≡ length xs)))
round_at xs i l =
    let ys : List ℕ = drop 1 xs ++ take 1 xs in
    let n : length ys ≡ length xs = first_last xs (omega arith) in
    let k : ℕ = length ys - 1 - i in
    let back : get_or (round xs) i 0 ≡ get_or ys k 0 = get_or-reverse ys i 0 (omega arith) in
    let m : length (drop 1 xs) ≡ length xs - 1 = length-drop 1 xs in
    elim (cases_eq i 0) [
      | inl e ↦ (
        0,
        omega arith,
        back ∙ get_or-append_right (drop 1 xs) (take 1 xs) (length xs - 1) k 0 m (omega arith)
            ∙ ap (λ q. get_or (take 1 xs) q 0) (omega arith) ∙ get_or-take 1 xs 0 0 (omega arith),
        inl (e, refl),
      )
      | inr e ↦ (
        1 + k,
        omega arith,
        back ∙ get_or_append_left (drop 1 xs) (take 1 xs) 0 k (omega arith) ∙ get_or-drop 1 xs k 0,
        inr (omega arith, omega arith),
      )
    ]

Feeds_at : (cells : List Cell) (v w v' w' : ℕ) → v ≡ v' → w ≡ w' → Feeds cells v' w' → Feeds cells v w
Feeds_at cells v w v' w' e f h = rw (e, f) h

module _ (inputs : ℕ) (cells : List Cell) (d : DrivesFrom inputs cells) (few : length cells < 2 ^ 32) (xs : List ℕ)
    (c : IsRound (waits inputs cells) xs) where
  -- the wire of a cell
  abbrev wire : ℕ → ℕ
  wire p = inputs + p

  abbrev wires : List ℕ
  wires = map wire (round xs)

  count : length wires ≡ length xs
  count = length-map (round xs) wire ∙ length-round xs c.some

  wire_at : (i j : ℕ) → i < length xs → get_or (round xs) i 0 ≡ get_or xs j 0 → get_or wires i 0 ≡ wire (get_or xs j 0)
  wire_at i j l e = get_or-map wire (round xs) i 0 0 (omega (arith, length-round xs c.some)) ∙ ap wire e

  -- each wire feeds the one at the next place, or that of the first after the last
  round_feeds : (i j : ℕ) → i < length xs → ((j ≡ i + 1) × (j < length xs)) ⊎ ((i + 1 ≡ length xs) × (j ≡ 0))
      → Feeds cells (get_or wires i 0) (get_or wires j 0)
  round_feeds i j l h =
      let to : j < length xs = elim h [ inl x ↦ x.1 | inr x ↦ omega (arith, x.1) ] in
      let a = round_at xs i l in
      let b = round_at xs j to in
      Feeds_at cells _ _ (wire (get_or xs a.0 0)) (wire (get_or xs b.0 0)) (wire_at i a.0 l a.2) (wire_at j b.0 to b.2)
      (feeds_by inputs cells d few (get_or xs b.0 0) (get_or xs a.0 0)
      (elim (cases_lt (b.0 + 1) (length xs)) [
        | inl k ↦ let e : a.0 ≡ b.0 + 1 = omega (arith, a.1, a.3, b.3, h) in rw e (c.next b.0 k)
        | inr k ↦ let e : a.0 ≡ 0 = omega (arith, a.1, b.1, a.3, b.3, h) in rw e (c.closes b.0 (omega (arith, b.1)))
      ]))

  round_once : (i j : ℕ) → i < length xs → j < length xs → get_or wires i 0 ≡ get_or wires j 0 → i ≡ j
  round_once i j k l e =
      let a = round_at xs i k in
      let b = round_at xs j l in
      let same : get_or xs a.0 0 ≡ get_or xs b.0 0 = omega (arith, wire_at i a.0 k a.2, wire_at j b.0 l b.2, e) in
      let at : a.0 ≡ b.0 = c.once a.0 b.0 a.1 b.1 same in
      omega (arith, a.1, b.1, a.3, b.3)

  -- it is a loop
  pub round_cycle : IsCycle cells (map (λ p. inputs + p) (reverse (drop 1 xs ++ take 1 xs)))
  round_cycle = record {
    some = omega (arith, c.some, count);
    once = λ i j k l. round_once i j (omega (arith, count)) (omega (arith, count));
    feeds = λ i l. round_feeds i (i + 1) (omega (arith, count)) (inl (refl, omega (arith, count)));
    closes = λ i l. round_feeds i 0 (omega (arith, count)) (inr (omega (arith, count), refl));
  }

  -- its first wire is the least, if that of the cycle was
  pub round_least : LeastFirstOf xs → LeastFirst (map (λ p. inputs + p) (reverse (drop 1 xs ++ take 1 xs)))
  round_least h i l =
      let within : i < length xs = omega (arith, count) in
      let a = round_at xs i within in
      let b = round_at xs 0 c.some in
      let e : b.0 ≡ 0 = omega (arith, b.3) in
      let least : get_or xs 0 0 ≤ get_or xs a.0 0 = h a.0 a.1 in
      let first : get_or wires 0 0 ≡ wire (get_or xs 0 0) = wire_at 0 b.0 c.some b.2 ∙ ap (λ k. wire (get_or xs k 0)) e in
      omega (arith, least, first, wire_at i a.0 within a.2)
