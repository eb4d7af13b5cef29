-- Cycles of steps lead back.
use Rattle.std.proofs.Common.{◌≡◌, ℕ, zero, suc, ◌+◌, ◌-◌, List, length, get_or, arith}
use Rattle.graph_order.specs.References.{Leads, HasNoCycle, step, step_and}
use Rattle.data_kinds.specs.Cycles.{IsCycleOf}

module _ (Step : ℕ → ℕ → Type 0) (nodes : List ℕ) (c : IsCycleOf Step nodes) where
  -- from a node, before which so many come to the last one, back to the first
  back_from : (more i : ℕ) → i + 1 + more ≡ length nodes → Leads Step (get_or nodes i 0) (get_or nodes 0 0)
  back_from zero i e = step (c.closes i (omega (arith, e)))
  back_from (suc more) i e = step_and (c.next i (omega (arith, e))) (back_from more (i + 1) (omega (arith, e)))

  pub leads_back : HasNoCycle Step → ⊥
  leads_back none = none (get_or nodes 0 0) (back_from (length nodes - 1) 0 (omega (arith, c.some)))
