-- One more thing that is found, and how much is left to find.
use Rattle.std.specs.Prelude.{◌≡◌, ℕ, suc, ◌+◌, ◌==◌, Bool, true, false, List, [], ◌∷◌}
use Rattle.std.specs.Prelude.{if◌then◌else◌}
use Rattle.netlist.specs.declared.net.Flat.{Flat}
use Rattle.share_laws.specs.Same.{IsKnown, Same}
use Rattle.wire_classes.specs.Closed.{label_of, mark_of}
use Rattle.wire_classes.specs.declared.steps.Step.{Step}
use Rattle.wire_classes.specs.declared.steps.Step.TheVariants.{Merge, Mark}

-- equal wires whose labels differ, or an unmarked wire of which bits are known
abbrev pub IsStep : Flat → List ℕ → List Bool → Step → Type 0
IsStep flat of known (Merge v w) =
    Same flat v w × (label_of of v ≡ label_of of w → ⊥)
IsStep flat of known (Mark w) =
    ((bits : List Bool) × IsKnown flat w bits) × (mark_of known w ≡ false)

-- the second label in place of the first
abbrev pub relabelled : (from to label : ℕ) → ℕ
relabelled from to label = if label == from then to else label

-- the sum of labels
abbrev pub total : List ℕ → ℕ
total [] = 0
total (n ∷ ns) = n + total ns

-- how many wires aren't marked
abbrev pub unmarked : List Bool → ℕ
unmarked [] = 0
unmarked (true ∷ marks) = unmarked marks
unmarked (false ∷ marks) = suc (unmarked marks)

-- each step makes this less
abbrev pub left_of : List ℕ → List Bool → ℕ
left_of of known = total of + unmarked known
