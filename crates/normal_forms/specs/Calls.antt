-- Where made definitions stand in a term: they are called, or lifted.
use Rattle.std.specs.Prelude.{◌≡◌, ℕ, List, [], ◌∷◌, ◌++◌, length, replicate, Some}
use Rattle.std.specs.List.{slice_get}
use Rattle.chw_types.specs.TypeTree.{TypeTree}
use Rattle.chw_terms.specs.TermTree.{TermTree, var, made}
use Rattle.chw_typing.specs.Paths.{part_at}
use Rattle.rewriting.specs.Origins.{MadeOf, Origins}
use Rattle.rewriting.specs.Spots.{asked_for}
use Rattle.rewriting.specs.Shapes.{fmap_of}
use Rattle.normal_forms.specs.Values.{on_names}

-- at this path of the term stands a made definition that is called: the head of a call with all its
-- arguments, which are variables, or the function that `fmap` lifts on a variable
pub data IsCalled (o : Origins) (e : TermTree) (m : ℕ) : List ℕ → Type 0 where
  as_head : (path xs : List ℕ) {it : MadeOf}
      → slice_get o.made m ≡ Some it → length xs ≡ asked_for it.ty
      → part_at e path ≡ Some (on_names (made m) [] xs)
      → IsCalled o e m (path ++ replicate (length xs) 0)
  as_function : (path : List ℕ) (d a b : TypeTree) (x : ℕ)
      → part_at e path ≡ Some (fmap_of d a b (made m) (var x))
      → IsCalled o e m (path ++ 0 ∷ 1 ∷ [])

-- wherever a made definition stands in the term, it is called
abbrev pub HoldsOnlyCalls : Origins → TermTree → Type 0
HoldsOnlyCalls o e =
    (path : List ℕ) (m : ℕ) → part_at e path ≡ Some (made m) → IsCalled o e m path
