-- The search for the bindings that the body of a letrec reaches.
use Rattle.std.specs.Prelude.{◌≡◌, ℕ, ◌-◌, ◌<◌, true, length, Some}
use Rattle.std.specs.List.{AllByRecursion, slice_get}
use Rattle.chw_terms.specs.Occurs.{occurs}
use Rattle.chw_terms.specs.TermTree.{TermTree, Group, size_of}
use Rattle.chw_typing.specs.Groups.{Reached}
use Rattle.letrec_runs.specs.declared.reaching.Search.{Search}

-- the binding of a variable is reached, if it is one of the group
abbrev pub ReachesVariable : Group → TermTree → ℕ → Type 0
ReachesVariable g e v = v < size_of g → Reached g e (size_of g - 1 - v)

-- so of each variable that occurs in a term
abbrev pub ReachesAll : Group → TermTree → TermTree → Type 0
ReachesAll g e x = (v : ℕ) → occurs x v ≡ true → ReachesVariable g e v

-- what is marked is reached, and what waits to be looked at is
pub record IsSearch (g : Group) (e : TermTree) (s : Search) : Type 0 where
  pub size : length s.marks.items ≡ size_of g
  pub marks : (i : ℕ) → slice_get s.marks.items i ≡ Some true → Reached g e i
  pub waiting : AllByRecursion (Reached g e) s.waiting.items

-- the search stays one, where the bindings of these variables are reached
abbrev pub KeepsSearch : (Group → TermTree → Type 0) → Search → Search → Type 0
KeepsSearch Reaches s s' =
    (g : Group) (e : TermTree) → Reaches g e → IsSearch g e s → IsSearch g e s'
