-- How many turns tasks take, where no made definition uses itself.
use Rattle.std.specs.Prelude.{ℕ, zero, suc, ◌+◌, List, [], ◌∷◌, length}
use Rattle.chw_terms.specs.declared.scene.Made.{Made}
use Rattle.net_built.specs.Modules.{made_in}
use Rattle.net_build.specs.declared.order.Task.{Task}
use Rattle.net_build.specs.declared.order.Task.TheVariants.{Visit, Place}

-- the made definitions in the body of this one; none where it isn't there
abbrev pub used_by : List Made → ℕ → List ℕ
used_by [] m = []
used_by (it ∷ state) zero = made_in it.body
used_by (it ∷ state) (suc m) = used_by state m

-- what a function gives for these numbers, together
abbrev pub total : (ℕ → ℕ) → List ℕ → ℕ
total f [] = 0
total f (m ∷ ms) = f m + total f ms

-- how many turns a visit takes at most: its own, that of its place, and those of what it uses, so
-- many uses deep
abbrev pub visit_turns : List Made → (depth : ℕ) → ℕ → ℕ
visit_turns state zero m = 1
visit_turns state (suc depth) m = 2 + total (λ n. visit_turns state depth n) (used_by state m)

-- and how many tasks take; uses go no deeper than there are made definitions
abbrev pub turns : List Made → List Task → ℕ
turns state [] = 0
turns state (Visit m ∷ tasks) = visit_turns state (length state) m + turns state tasks
turns state (Place m ∷ tasks) = 1 + turns state tasks
