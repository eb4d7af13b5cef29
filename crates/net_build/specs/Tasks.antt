-- What is still to be done for the order of the modules.
use Rattle.std.specs.Prelude.{◌≡◌, ℕ, ◌<◌, List, [], ◌∷◌, ◌++◌, map, reverse, length, Some}
use Rattle.std.specs.Prelude.{slice_get}
use Rattle.std.specs.List.{AllByRecursion}
use Rattle.chw_types.specs.declared.declarations.Data.{Data}
use Rattle.chw_terms.specs.declared.scene.Made.{Made}
use Rattle.net_built.specs.Modules.{made_in, Visited}
use Rattle.net_build.specs.Marks.{AreBelow}
use Rattle.net_build.specs.declared.order.Task.{Task}
use Rattle.net_build.specs.declared.order.Task.TheVariants.{Visit, Place}

-- the tasks of a list from its end, which is done next
abbrev pub in_turn : List Task → List Task
in_turn tasks = reverse tasks

-- visits of these made definitions
abbrev pub visits : List ℕ → List Task
visits ms = map (λ m. Visit m) ms

-- doing these tasks leads from one order to another
abbrev pub Leads : List Data → List Made → List Task → List ℕ → List ℕ → Type 0
Leads datas state [] order end = order ≡ end
Leads datas state (Visit m ∷ tasks) order end =
    (mid : List ℕ) × Visited datas state order m mid × Leads datas state tasks mid end
Leads datas state (Place m ∷ tasks) order end = Leads datas state tasks (order ++ m ∷ []) end

-- where some tasks lead from an order, the tasks before led from the order before
abbrev pub Continues : List Data → List Made → (before : List Task) → (first : List ℕ)
    → (after : List Task) → (later : List ℕ) → Type 0
Continues datas state before first after later =
    (end : List ℕ) → Leads datas state after later end → Leads datas state before first end

-- the made definition of a task
abbrev pub number_of : Task → ℕ
number_of (Visit m) = m
number_of (Place m) = m

-- of so many made definitions each task has one
abbrev pub TasksAreBelow : ℕ → List Task → Type 0
TasksAreBelow count tasks = AllByRecursion (λ t. number_of t < count) tasks

-- these are the made definitions that one uses, which are there
pub record AreUsesOf (state : List Made) (m : ℕ) (uses : List ℕ) : Type 0 where
  pub it : Made
  pub is : slice_get state m ≡ Some it
  pub are : uses ≡ made_in it.body
  pub below : AreBelow (length state) uses

-- the tasks before were put behind visits of what the made definition uses, and its place
pub record Opens (state : List Made) (m : ℕ) (before after : List Task) : Type 0 where
  pub uses : List ℕ
  pub of : AreUsesOf state m uses
  pub are : after ≡ visits uses ++ Place m ∷ before
