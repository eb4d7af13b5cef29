-- What a search for an order knows.
use Rattle.std.specs.Prelude.{◌≡◌, ℕ, ◌+◌, ◌-◌, ◌<◌, ◌≤◌, List, [], ◌∷◌, ◌++◌, length, Some, slice_index, slice_index_or, sum, sum_by}
use Rattle.graph_order.specs.References.{Refers, reference_at, reference_count}
use Rattle.graph_order.specs.declared.search.Found.{Found}
use Rattle.graph_order.specs.declared.search.Found.TheVariants.{Met, Next, Closing}
use Rattle.graph_order.specs.declared.search.Search.{Search}
use Rattle.graph_order.specs.declared.search.Visit.{Visit}
use Rattle.graph_order.specs.declared.search.Visit.TheVariants.{Ahead, Open, Done}

-- how far the search has come with this node
abbrev pub visit_at : List Visit → ℕ → Visit
visit_at visits node = slice_index_or visits node Ahead

-- whether a node is done, as a number
abbrev pub done_count : Visit → ℕ
done_count Ahead = 0
done_count (Open d) = 0
done_count Done = 1

-- What the search knows: the nodes that are done stand in the order, each once and after what it refers to. Those that are open stand
-- on the path, each referring to the next. What a node has no longer to look at is done.
pub record IsSearch (graph : List (List ℕ)) (visits : List Visit) (left : List ℕ) (path order : List ℕ) : Type 0 where
  pub visits_size : length visits ≡ length graph
  pub left_size : length left ≡ length graph
  pub fits : (p : ℕ) → slice_index left p ≤ reference_count graph p
  pub count : length order ≡ sum_by done_count visits
  pub done : (i : ℕ) → i < length order → visit_at visits (slice_index order i) ≡ Done
  pub placed : (p : ℕ) → visit_at visits p ≡ Done → (i : ℕ) × (i < length order) × (slice_index order i ≡ p)
  pub once : (i j : ℕ) → i < length order → j < length order → slice_index order i ≡ slice_index order j → i ≡ j
  pub after : (j to : ℕ) → j < length order → Refers graph (slice_index order j) to → (i : ℕ) × (i < j) × (slice_index order i ≡ to)
  pub opened : (d : ℕ) → d < length path → visit_at visits (slice_index path d) ≡ Open d
  pub on_path : (p d : ℕ) → visit_at visits p ≡ Open d → (d < length path) × (slice_index path d ≡ p)
  pub met : (p k to : ℕ) → k + slice_index left p < reference_count graph p → reference_at graph p k ≡ Some to
      → to < length graph → visit_at visits to ≡ Done
  pub refers : (d : ℕ) → d + 1 < length path → Refers graph (slice_index path d) (slice_index path (d + 1))

-- the search knows this
abbrev pub Knows : List (List ℕ) → Search → Type 0
Knows graph s = IsSearch graph s.visits.items s.left.items s.path.items s.order.items

-- how often a node is still to be begun and to be done
abbrev pub visit_work : Visit → ℕ
visit_work Ahead = 2
visit_work (Open d) = 1
visit_work Done = 0

-- what is left to do: references to look at, and nodes to begin and to be done
abbrev pub work_of : List Visit → List ℕ → ℕ
work_of visits left = sum left + sum_by visit_work visits

-- what was done is done, and what was begun is begun
pub record Stayed (visits visits' : List Visit) : Type 0 where
  pub done : (p : ℕ) → visit_at visits p ≡ Done → visit_at visits' p ≡ Done
  pub begun : (p : ℕ) → visit_at visits' p ≡ Ahead → visit_at visits p ≡ Ahead

-- the search went on: there is less to do, and what was done or begun stays so
pub record WentOn (visits : List Visit) (left : List ℕ) (visits' : List Visit) (left' : List ℕ) : Type 0 where
  pub less : work_of visits' left' < work_of visits left
  pub stayed : Stayed visits visits'

abbrev pub Goes : Search → Search → Type 0
Goes before after = WentOn before.visits.items before.left.items after.visits.items after.left.items

-- the last node of the path
abbrev pub EndsIn : List ℕ → ℕ → Type 0
EndsIn path node = (front : List ℕ) × (path ≡ front ++ node ∷ [])

-- a node that may be put on the path: it is ahead, and the last node of the path refers to it
pub record MayBegin (graph : List (List ℕ)) (visits : List Visit) (path : List ℕ) (node : ℕ) : Type 0 where
  pub within : node < length visits
  pub ahead : visit_at visits node ≡ Ahead
  pub refers : (d : ℕ) → d + 1 ≡ length path → Refers graph (slice_index path d) node

-- the first of the references that a node has to look at, of which there are so many, is done or no node
abbrev pub IsMet : List (List ℕ) → List Visit → ℕ → ℕ → Type 0
IsMet graph visits node left = (to : ℕ) → reference_at graph node (reference_count graph node - left) ≡ Some to → to < length visits
    → visit_at visits to ≡ Done

-- what was found there: that it is met, the node to begin next, or a node on the path
abbrev pub IsFound : List (List ℕ) → List Visit → ℕ → ℕ → Found → Type 0
IsFound graph visits node left Met = IsMet graph visits node left
IsFound graph visits node left (Next to) =
    (reference_at graph node (reference_count graph node - left) ≡ Some to) × (to < length visits) × (visit_at visits to ≡ Ahead)
IsFound graph visits node left (Closing d) =
    (to : ℕ) × (reference_at graph node (reference_count graph node - left) ≡ Some to) × (visit_at visits to ≡ Open d)
