-- Clock domains that are listed in their order.
use Rattle.std.specs.Prelude.{ℕ, suc, ◌<◌, ◌≤◌, List, [], ◌∷◌}
use Rattle.chw_base.specs.declared.index.DomId.{DomId}

-- these domains are listed in order, each once: from the number `from` on, and below `count`
abbrev pub AreOrderedFrom : ℕ → ℕ → List DomId → Type 0
AreOrderedFrom from count [] = Unit {0}
AreOrderedFrom from count (d ∷ ds) =
    (from ≤ d.number) × (d.number < count) × AreOrderedFrom (suc d.number) count ds

-- these domains are among the first `count`, in order, each once
abbrev pub AreOrdered : ℕ → List DomId → Type 0
AreOrdered count ds = AreOrderedFrom 0 count ds
