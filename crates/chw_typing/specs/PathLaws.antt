-- What is promised of children and parts of terms.
use Rattle.std.specs.Prelude.{◌≡◌, ◌≢◌, ◌⊎◌, ℕ, List, ◌++◌, length, set, Some}
use Rattle.std.specs.Prelude.{option_and_then}
use Rattle.std.specs.List.{slice_get}
use Rattle.chw_terms.specs.declared.term.Arg.{Arg}
use Rattle.chw_terms.specs.declared.term.Arg.TheVariants.{OfTerm}
use Rattle.chw_terms.specs.TermTree.{TermTree}
use Rattle.chw_terms.specs.TermView.{applied}
use Rattle.chw_typing.specs.Paths.{child, with_child, part_at, with_part}
use Rattle.chw_typing.specs.Paths.{IsEarlier, AreApart, argument_path}

-- what is put in the place of a child is the child there
abbrev pub ChildOfWithChild : Type 0
ChildOfWithChild =
    (e c x : TermTree) (i : ℕ) → child e i ≡ Some c → child (with_child e i x) i ≡ Some x

-- a child in its own place changes nothing
abbrev pub WithSameChild : Type 0
WithSameChild = (e c : TermTree) (i : ℕ) → child e i ≡ Some c → with_child e i c ≡ e

-- of two children that are put in one place the last one stays
abbrev pub WithChildTwice : Type 0
WithChildTwice =
    (e x y : TermTree) (i : ℕ) → with_child (with_child e i x) i y ≡ with_child e i y

-- a child stays where another one changes
abbrev pub ChildApart : Type 0
ChildApart =
    (e x : TermTree) (i j : ℕ) → i ≢ j → child (with_child e i x) j ≡ child e j

-- what is put at a path is the part there
abbrev pub PartOfWithPart : Type 0
PartOfWithPart =
    (e x y : TermTree) (path : List ℕ)
    → part_at e path ≡ Some x → part_at (with_part e path y) path ≡ Some y

-- a part in its own place changes nothing
abbrev pub WithSamePart : Type 0
WithSamePart =
    (e x : TermTree) (path : List ℕ) → part_at e path ≡ Some x → with_part e path x ≡ e

-- of two parts that are put at one path the last one stays
abbrev pub WithPartTwice : Type 0
WithPartTwice =
    (e x y : TermTree) (path : List ℕ)
    → with_part (with_part e path x) path y ≡ with_part e path y

-- the part behind a path and another is, behind the other, the part of the part
abbrev pub PartBehind : Type 0
PartBehind =
    (e : TermTree) (p q : List ℕ)
    → part_at e (p ++ q) ≡ option_and_then (λ x. part_at x q) (part_at e p)

-- and to change it is to change the part of the part
abbrev pub WithPartBehind : Type 0
WithPartBehind =
    (e x y : TermTree) (p q : List ℕ)
    → part_at e p ≡ Some x → with_part e (p ++ q) y ≡ with_part e p (with_part x q y)

-- a part stays where one apart from it changes
abbrev pub PartsApart : Type 0
PartsApart =
    (e x : TermTree) (p q : List ℕ) → AreApart p q → part_at (with_part e p x) q ≡ part_at e q

-- no place is earlier than itself
abbrev pub NeverEarlier : Type 0
NeverEarlier = (p : List ℕ) → IsEarlier p p → ⊥

-- what is earlier than an earlier place is earlier
abbrev pub EarlierThrough : Type 0
EarlierThrough = (p q r : List ℕ) → IsEarlier p q → IsEarlier q r → IsEarlier p r

-- of two places one is earlier
abbrev pub OneIsEarlier : Type 0
OneIsEarlier = (p q : List ℕ) → (p ≡ q) ⊎ (IsEarlier p q ⊎ IsEarlier q p)

-- an argument of an application is the part at its path
abbrev pub SpineArgument : Type 0
SpineArgument =
    (e a : TermTree) (args : List Arg) (i : ℕ)
    → slice_get args i ≡ Some (OfTerm a)
    → part_at (applied e args) (argument_path i (length args)) ≡ Some a

-- and to change the part there is to change the argument
abbrev pub WithSpineArgument : Type 0
WithSpineArgument =
    (e a x : TermTree) (args : List Arg) (i : ℕ)
    → slice_get args i ≡ Some (OfTerm a)
    → with_part (applied e args) (argument_path i (length args)) x
    ≡ applied e (set args i (OfTerm x))
