-- Where there is an order, references lead nowhere back. Along a cycle they do.
use Rattle.std.proofs.Common.{◌≡◌, ℕ, zero, suc, ◌+◌, ◌-◌, ◌<◌, inl, inr, List, length, get_or, ◌∙◌, sym, subst, arith}
use Rattle.std.proofs.lemmas.Bool.{cases_lt}
use Rattle.std.proofs.lemmas.Option.{slice_get_within}
use Rattle.graph_order.specs.Orders.{IsCycle, IsOrder, Places}
use Rattle.graph_order.specs.References.{HasNoCycle, Leads, Refers, step, step_and}

module _ (graph : List (List ℕ)) (nodes : List ℕ) (o : IsOrder graph nodes) where
  -- where a number stands in the order, if it is a node
  spot : (n : ℕ) → (i : ℕ) × (n < length graph → (i < length nodes) × (get_or nodes i 0 ≡ n))
  spot n = elim (cases_lt n (length graph)) [
    | inl l ↦ let a = o.all n l in (a.0, λ h. (a.1, a.2))
    | inr h ↦ (0, λ l. absurd (omega arith))
  ]

  earlier : (a b : ℕ) → Refers graph a b → (spot b).0 < (spot a).0
  earlier a b r =
      let at = (spot a).1 (slice_get_within graph a r.names r.are_names) in
      let to = (spot b).1 r.is_node in
      let r' : Refers graph (get_or nodes (spot a).0 0) b = subst (λ (n : ℕ). Refers graph n b) (sym (at.1)) r in
      let before = o.after (spot a).0 b at.0 r' in
      let lt : before.0 < (spot a).0 = before.1 in
      let bound : (spot a).0 < length nodes = at.0 in
      let same : before.0 ≡ (spot b).0 = o.once before.0 (spot b).0 (omega arith) to.0 (before.2 ∙ sym (to.1)) in
      omega arith

  pub places : Places graph
  places = record {
    place = λ n. (spot n).0;
    within = λ n l. omega (arith, ((spot n).1 l).0, o.size);
    earlier = earlier;
  }

module _ (graph : List (List ℕ)) (p : Places graph) where
  descends : (a b : ℕ) → Leads (Refers graph) a b → p.place b < p.place a
  descends a b (step r) = p.earlier a b r
  descends a c (step_and {b = b} r more) = omega (arith, p.earlier a b r, descends b c more)

  pub excludes : HasNoCycle (Refers graph)
  excludes a l = omega (arith, descends a a l)

module _ (graph : List (List ℕ)) (nodes : List ℕ) (c : IsCycle graph nodes) where
  -- from the node so far before the last one back to the first
  returns_from : (n : ℕ) → n < length nodes → Leads (Refers graph) (get_or nodes (length nodes - 1 - n) 0) (get_or nodes 0 0)
  returns_from zero l = step (c.closes (length nodes - 1 - 0) (omega arith))
  returns_from (suc n) l =
      let at : ℕ = length nodes - 1 - suc n in
      let is : at + 1 ≡ length nodes - 1 - n = omega arith in
      let r : Refers graph (get_or nodes at 0) (get_or nodes (length nodes - 1 - n) 0) =
      subst (λ (m : ℕ). Refers graph (get_or nodes at 0) (get_or nodes m 0)) is (c.next at (omega arith)) in
      step_and r (returns_from n (omega arith))

  pub leads_back : HasNoCycle (Refers graph) → ⊥
  leads_back none =
      let first : length nodes - 1 - (length nodes - 1) ≡ 0 = omega (arith, c.some) in
      none (get_or nodes 0 0)
      (subst (λ (m : ℕ). Leads (Refers graph) (get_or nodes m 0) (get_or nodes 0 0)) first (returns_from (length nodes - 1) (omega (arith, c.some))))
