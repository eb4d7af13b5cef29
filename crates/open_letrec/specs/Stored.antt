-- How a letrec that is taken apart is stored.
use Rattle.std.specs.Prelude.{◌≡◌, List, map, reverse, length}
use Rattle.chw_terms.specs.declared.term.Binding.{Binding}
use Rattle.chw_terms.specs.TermMoves.{rename}
use Rattle.chw_terms.specs.TermTree.{TermTree}
use Rattle.moved_in_place.specs.Moves.{renamed_binding}
use Rattle.open_letrec.specs.declared.opened.OpenLetrec.TheInside.{Inside}
use Rattle.open_letrec.specs.declared.places.Places.{Places}
use Rattle.open_letrec.specs.Opened.{Opened}
use Rattle.open_letrec.specs.Places.{Agrees, number_of, index_of}

-- right sides as they are stored
abbrev pub stored : Places → List Binding → List Binding
stored p bs = map (renamed_binding (number_of p)) bs

-- stored right sides in indices
abbrev pub shown : Places → List Binding → List Binding
shown p bs = map (renamed_binding (index_of p)) bs

-- these settled bindings, these others with the last one first, and this body are stored for a
-- letrec
pub record AreStored
    (p : Places) (first rest : List Binding) (e : TermTree) (o : Opened) : Type 0
  where
    pub agrees : Agrees p
    pub settled : first ≡ stored p o.settled
    pub left : rest ≡ stored p (reverse o.left)
    pub body : e ≡ rename o.body (number_of p)

-- what contracts see
abbrev pub view_of : Inside → Opened
view_of o =
    record {
      settled = shown o.places o.settled.items;
      left = reverse (shown o.places o.waiting.items);
      body = rename o.body (index_of o.places);
    }

-- all is stored for what contracts see, and each binding has its place
pub record IsSound (o : Inside) : Type 0 where
  pub stored : AreStored o.places o.settled.items o.waiting.items o.body (view_of o)
  pub settled : length o.places.settled.items ≡ length o.settled.items
  pub waiting : length o.places.waiting.items ≡ length o.waiting.items
