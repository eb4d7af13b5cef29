-- A letrec that another one has joined.
use Rattle.std.specs.Prelude.{◌≡◌, ℕ, suc, ◌<◌, List, ◌∷◌, length, take, get_or}
use Rattle.chw_terms.specs.declared.rule.Rule.TheVariants.{Flat}
use Rattle.chw_terms.specs.declared.term.Binding.{Binding}
use Rattle.chw_terms.specs.TermMoves.{shift}
use Rattle.chw_terms.specs.TermTree.{TermTree, letrec, Group, size_of}
use Rattle.chw_terms.specs.TermView.{group_of}
use Rattle.chw_typing.specs.Groups.{joined}
use Rattle.rewriting.specs.Instances.{HasInstance}
use Rattle.rewriting.specs.Lets.{OfLets, side_joined}
use Rattle.rewriting.specs.Origins.{Origins}
use Rattle.rewriting.specs.Shapes.{IsLet, NoLetIn, shift_group}
use Rattle.rewriting.specs.Spots.{Spot}

-- what the rule that joins letrecs makes of the term, at whatever place, is this
abbrev pub IsJoined : TermTree → TermTree → Type 0
IsJoined e e' = (o : Origins) (at : Spot) (new : TermTree) → HasInstance o at Flat e new → e' ≡ new

-- the same of a letrec without arguments
abbrev pub IsJoinedAlone : TermTree → TermTree → Type 0
IsJoinedAlone e e' = (o : Origins) (at : Spot) (new : TermTree) → OfLets o at Flat e new → e' ≡ new

-- the right side of this number is a letrec
abbrev pub HasLetAt : List Binding → ℕ → Type 0
HasLetAt bs i = (i < length bs) × ((b : Binding) → b ≡ get_or bs i b → IsLet b.body)

-- no right side before this number is a letrec, and the one of this number is, if there is one
pub record IsFirstLet (bs : List Binding) (i : ℕ) : Type 0 where
  pub first : NoLetIn (group_of (take i bs))
  pub there : i < length bs → HasLetAt bs i

-- the body of the first letrec is another one, which joined: what came is the second letrec
pub record IsWithBody (g : Group) (e : TermTree) (g' : Group) (e' : TermTree) : Type 0 where
  pub inner : Group
  pub is : e ≡ letrec inner e'
  pub group : g' ≡ joined (shift_group g 0 (size_of inner)) inner

-- a letrec that is a right side joined between those before it and those behind it
pub record IsWithSide
    (front : List Binding) (side : Binding) (back : List Binding) (e : TermTree)
    (bs' : List Binding) (e' : TermTree) : Type 0
  where
    pub inner : Group
    pub within : TermTree
    pub is : side.body ≡ letrec inner within
    pub group : group_of bs' ≡ side_joined (group_of front) side.ty inner within (group_of back)
    pub body : e' ≡ shift e (suc (size_of (group_of back))) (size_of inner)

-- the right side of this number joined
pub record IsWithSideAt
    (bs : List Binding) (i : ℕ) (e : TermTree) (bs' : List Binding) (e' : TermTree) : Type 0
  where
    pub side : Binding
    pub back : List Binding
    pub whole : group_of bs ≡ joined (group_of (take i bs)) (group_of (side ∷ back))
    pub joins : IsWithSide (take i bs) side back e bs' e'
