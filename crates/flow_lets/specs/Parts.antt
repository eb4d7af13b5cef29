-- A group around its first right side that is a letrec.
use Rattle.std.specs.Prelude.{◌≡◌}
use Rattle.chw_types.specs.TypeTree.{TypeTree}
use Rattle.chw_terms.specs.TermTree.{TermTree, letrec, Group, bind}
use Rattle.chw_typing.specs.Groups.{joined}
use Rattle.rewriting.specs.Shapes.{NoLetIn}

-- the bindings before it, its type, the letrec, and the bindings behind it
pub record IsParted
    (g front : Group) (t : TypeTree) (cs : Group) (x : TermTree) (back : Group) : Type 0
  where
    pub whole : g ≡ joined front (bind t (letrec cs x) back)
    pub first : NoLetIn front
