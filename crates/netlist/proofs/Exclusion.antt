-- Where there is an order, there is no loop.
use Rattle.std.proofs.Common.{◌≡◌, ℕ, zero, suc, ◌+◌, ◌-◌, ◌<◌, ◌≤◌, List, length, get_or, ◌∙◌, ap, subst, arith, Some, add-one}
use Rattle.netlist.specs.Feeds.{Feeds, awaited_at, target_at}
use Rattle.netlist.specs.Orders.{IsCycle, OrdersCells}
use Rattle.netlist.specs.declared.net.Cell.{Cell}
use Rattle.netlist.proofs.Lists.{target_within}

module _ (cells : List Cell) (places wires : List ℕ) (once : (p q w : ℕ) → target_at cells p ≡ Some w → target_at cells q ≡ Some w → p ≡ q)
    (o : OrdersCells cells places) (c : IsCycle cells wires) where
  -- the cell that drives the wire stands at this place of the order
  StandsAt : ℕ → ℕ → Type 0
  StandsAt w i = (i < length places) × (target_at cells (get_or places i 0) ≡ Some w)

  stands_once : (w i j : ℕ) → StandsAt w i → StandsAt w j → i ≡ j
  unfolding StandsAt
  stands_once w i j h k = o.once i j h.0 k.0 (once _ _ w h.1 k.1)

  -- what a wire is fed by stands before it
  fed_after : (v w i j : ℕ) → Feeds cells v w → StandsAt v i → StandsAt w j → i < j
  unfolding StandsAt
  fed_after v w i j f h k =
      let same : f.0 ≡ get_or places j 0 = once f.0 (get_or places j 0) w f.2 k.1 in
      let waits : awaited_at cells (get_or places j 0) f.1 ≡ Some v = subst (λ (p : ℕ). awaited_at cells p f.1 ≡ Some v) same f.3 in
      let b = o.after j f.1 v (get_or places i 0) k.0 waits h.1 in
      let lt : b.0 < j = b.1 in
      let bound : j < length places = k.0 in
      let e : b.0 ≡ i = o.once b.0 i (omega arith) h.0 b.2 in
      omega arith

  -- the cell of a wire that is fed stands in the order
  fed_stands : (v w : ℕ) → Feeds cells v w → (i : ℕ) × StandsAt w i
  unfolding StandsAt
  fed_stands v w f =
      let a = o.all f.0 (target_within cells f.0 w f.2) in
      (a.0, (a.1, ap (λ p. target_at cells p) a.2 ∙ f.2))

  -- along the cycle the cells stand ever later
  climbs : (n i : ℕ) → n < length wires → StandsAt (get_or wires 0 0) i → (j : ℕ) × (i + n ≤ j) × StandsAt (get_or wires n 0) j
  climbs zero i l h = (i, omega arith, h)
  climbs (suc n) i l h =
      let b = climbs n i (omega arith) h in
      let f : Feeds cells (get_or wires n 0) (get_or wires (suc n) 0) =
      let g = c.feeds n (omega arith) in rw add-one at g in
      let s = fed_stands (get_or wires n 0) (get_or wires (suc n) 0) f in
      let later : b.0 < s.0 = fed_after (get_or wires n 0) (get_or wires (suc n) 0) b.0 s.0 f b.2 s.1 in
      (s.0, omega (arith, b.1), s.1)

  pub no_cycle : ⊥
  no_cycle =
      let some = c.some in
      let f = c.closes (length wires - 1) (omega arith) in
      let s = fed_stands (get_or wires (length wires - 1) 0) (get_or wires 0 0) f in
      let b = climbs (length wires - 1) s.0 (omega arith) s.1 in
      let back : b.0 < s.0 = fed_after (get_or wires (length wires - 1) 0) (get_or wires 0 0) b.0 s.0 f b.2 s.1 in
      omega (arith, b.1)
