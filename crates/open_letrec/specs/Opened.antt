-- A letrec that is taken apart, as contracts see it, and what calls make of it.
use Rattle.std.specs.Prelude.{◌≡◌, List, [], ◌∷◌, ◌++◌, map, take, drop, length, refl}
use Rattle.std.specs.Coded.{Coded, code_by, coded×, coded_list}
use Rattle.chw_types.specs.TypeTree.{TypeTree}
use Rattle.chw_types.specs.TypeCode.{coded_tree as coded_type}
use Rattle.chw_types.specs.TypeMoves.{Renaming, raised}
use Rattle.chw_terms.specs.declared.term.Binding.{Binding}
use Rattle.chw_terms.specs.TermCode.{coded_tree as coded_term}
use Rattle.chw_terms.specs.TermMoves.{rename, exchanged}
use Rattle.chw_terms.specs.TermTree.{TermTree, letrec}
use Rattle.chw_terms.specs.TermView.{group_of}
use Rattle.moved_in_place.specs.Moves.{renamed_binding}

-- the bindings that are settled, those that are left, of which the first one is current, and the
-- body; variables are indices, as in the whole letrec
pub record Opened : Type 0 where
  pub settled : List Binding
  pub left : List Binding
  pub body : TermTree

-- how the logic stores it
abbrev pub coded_binding : Coded Binding
coded_binding =
    code_by (TypeTree × TermTree) (coded× coded_type coded_term) (λ b. (b.ty, b.body))
    (λ p. record { ty = p.0; body = p.1 }) (λ _. refl)

abbrev pub coded_opened : Coded Opened
coded_opened =
    code_by ((List Binding × List Binding) × TermTree)
    (coded× (coded× (coded_list coded_binding) (coded_list coded_binding)) coded_term)
    (λ o. ((o.settled, o.left), o.body))
    (λ p. record { settled = p.0.0; left = p.0.1; body = p.1 }) (λ _. refl)

-- the whole letrec
abbrev pub whole : Opened → TermTree
whole o = letrec (group_of (o.settled ++ o.left)) o.body

-- bindings with another right side of the first one
abbrev pub put_first : TermTree → List Binding → List Binding
put_first e [] = []
put_first e (b ∷ bs) = record b { body = e } ∷ bs

-- with another right side of the current binding
abbrev pub with_side : Opened → TermTree → Opened
with_side o e = record o { left = put_first e o.left }

-- it is that of the current binding
abbrev pub IsCurrent : Opened → TermTree → Type 0
IsCurrent o e = with_side o e ≡ o

-- the current binding is settled, and the next one is current
abbrev pub settled_one : Opened → Opened
settled_one o = record o { settled = o.settled ++ take 1 o.left; left = drop 1 o.left }

-- the letrec of `cs` in x, which is the current right side, has joined, and the first of `cs` is
-- current: in `cs` and x, they change places with the bindings from the current one on, and
-- elsewhere they get room before these
abbrev pub joined_one : Opened → List Binding → TermTree → Opened
joined_one o cs x =
    let room : Renaming = raised (length o.left) (length cs) in
    let swap : Renaming = exchanged (length cs) (length o.left) in
    record {
      settled = map (renamed_binding room) o.settled;
      left =
          map (renamed_binding swap) cs
          ++ put_first (rename x swap) (map (renamed_binding room) o.left);
      body = rename o.body room;
    }
