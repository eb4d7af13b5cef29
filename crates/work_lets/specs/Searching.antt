-- How far a search for reached bindings has come.
use Rattle.std.specs.Prelude.{◌≡◌, ℕ, suc, ◌+◌, ◌-◌, ◌<◌, ◌⊎◌, Bool, true, false}
use Rattle.std.specs.Prelude.{List, [], ◌∷◌, length, Contains, Some}
use Rattle.std.specs.List.{slice_get}
use Rattle.chw_terms.specs.declared.term.Binding.{Binding}
use Rattle.chw_terms.specs.Occurs.{occurs}
use Rattle.work_lets.specs.declared.reached.Search.{Search}

-- the binding of this place is marked
abbrev pub IsMarked : List Bool → ℕ → Type 0
IsMarked marks i = slice_get marks i ≡ Some true

-- how many aren't
abbrev pub unmarked : List Bool → ℕ
unmarked [] = 0
unmarked (true ∷ marks) = unmarked marks
unmarked (false ∷ marks) = suc (unmarked marks)

-- what a test of variables under n binders tells of a variable, as it is called outside of them
abbrev pub beyond : (ℕ → Bool) → ℕ → ℕ → Bool
beyond test n v = test (v + n)

-- the variable of the binding of this place passes a test; the last binding has the variable 0
pub record NamesBinding (test : ℕ → Bool) (count i : ℕ) : Type 0 where
  pub within : i < count
  pub named : test (count - 1 - i) ≡ true

-- the bindings of which the variables pass a test were marked, and those of them that weren't
-- before wait
pub record Noted (s : Search) (test : ℕ → Bool) (s' : Search) : Type 0 where
  pub count : length s'.marks.items ≡ length s.marks.items
  pub kept : (i : ℕ) → IsMarked s.marks.items i → IsMarked s'.marks.items i
  pub all : (i : ℕ) → NamesBinding test (length s.marks.items) i → IsMarked s'.marks.items i
  pub new : (i : ℕ) → IsMarked s'.marks.items i
      → IsMarked s.marks.items i
      ⊎ (NamesBinding test (length s.marks.items) i × Contains s'.waiting.items i)
  pub wait : (i : ℕ) → Contains s.waiting.items i → Contains s'.waiting.items i
  pub marked : (i : ℕ) → Contains s'.waiting.items i
      → Contains s.waiting.items i ⊎ IsMarked s'.marks.items i
  pub left : unmarked s'.marks.items + length s'.waiting.items
      ≡ unmarked s.marks.items + length s.waiting.items

-- the same of the variables that occur in the right side at a place
abbrev pub NotedSide : List Binding → ℕ → Search → Search → Type 0
NotedSide bindings place s s' =
    (b : Binding) → slice_get bindings place ≡ Some b → Noted s (occurs b.body) s'
