-- What is promised of a letrec that is taken apart.
use Rattle.std.specs.Prelude.{◌≡◌, ◌<◌, List, [], ◌∷◌, ◌++◌, map, length, Some}
use Rattle.chw_types.specs.TypeTree.{TypeTree}
use Rattle.chw_terms.specs.declared.rule.Rule.TheVariants.{Flat}
use Rattle.chw_terms.specs.declared.term.Binding.{Binding}
use Rattle.chw_terms.specs.TermTree.{TermTree, letrec}
use Rattle.chw_terms.specs.TermView.{group_of}
use Rattle.chw_typing.specs.Paths.{with_part}
use Rattle.chw_typing.specs.PartSpines.{spine_at}
use Rattle.rewriting.specs.Lets.{OfLets}
use Rattle.rewriting.specs.Origins.{Origins}
use Rattle.rewriting.specs.Shapes.{IsOfHead, NoLetIn}
use Rattle.rewriting.specs.Spots.{Spot}
use Rattle.open_letrec.specs.Opened.{Opened, whole, with_side, settled_one, joined_one}

-- where a binding is settled, the letrec stays
abbrev pub SettledIsSame : Type 0
SettledIsSame = (o : Opened) → whole (settled_one o) ≡ whole o

-- the last one of the right sides that are put stays, and joining doesn't see which one stood there
abbrev pub SideIsLast : Type 0
SideIsLast =
    (o : Opened) (e x : TermTree) (cs : List Binding)
    → (with_side (with_side o e) x ≡ with_side o x)
    × (joined_one (with_side o e) cs x ≡ joined_one o cs x)

-- the current right side stands in the letrec behind those that are settled, and another one is put
-- there
abbrev pub SideIsPart : Type 0
SideIsPart =
    (o : Opened) (b : Binding) (back : List Binding) (x : TermTree) → o.left ≡ b ∷ back
    → (spine_at (whole o) (length o.settled ∷ []) ≡ Some b.body)
    × (whole (with_side o x) ≡ with_part (whole o) (length o.settled ∷ []) x)

-- where the current right side is a letrec, and none before it is one, what comes of joining it is
-- what the rule that joins letrecs makes
abbrev pub JoinedIsFlat : Type 0
JoinedIsFlat =
    (origins : Origins) (at : Spot) (o : Opened) (cs : List Binding) (x : TermTree)
    → (IsOfHead at.mode → ⊥) → NoLetIn (group_of o.settled) → 0 < length o.left
    → OfLets origins at Flat
    (whole (with_side o (letrec (group_of cs) x))) (whole (joined_one o cs x))

-- the types of bindings, the first one first
abbrev pub types_of : List Binding → List TypeTree
types_of bs = map (λ (b : Binding). b.ty) bs

-- right sides that are put change no types, and the types of bindings that join come before those
-- of the bindings that are left
abbrev pub TypesStay : Type 0
TypesStay =
    (o : Opened) (e : TermTree) (cs : List Binding) (x : TermTree)
    → (types_of (with_side o e).left ≡ types_of o.left)
    × (types_of (joined_one o cs x).settled ≡ types_of o.settled)
    × (types_of (joined_one o cs x).left ≡ types_of cs ++ types_of o.left)
