-- Bindings that change where they stand.
use Rattle.std.specs.Prelude.{◌≡◌, List, [], ◌∷◌, ◌++◌}
use Rattle.chw_terms.specs.declared.term.Binding.{Binding}
use Rattle.chw_terms.specs.TermTree.{TermTree}

-- the right side of the last binding and a term have changed places
pub record IsSwappedLast (bs : List Binding) (e : TermTree) (bs' : List Binding) (e' : TermTree)
    : Type 0
  where
    pub front : List Binding
    pub last : Binding
    pub old : bs ≡ front ++ last ∷ []
    pub new : bs' ≡ front ++ record last { body = e } ∷ []
    pub taken : e' ≡ last.body
